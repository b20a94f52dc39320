use Rattle.std.proofs.Common.{◌∙◌, sym, ap, arith, Some}
use Rattle.hv_model.proofs.ConfigLemmas.{printed_on, printed_off, read_back_at}
use Rattle.hv_model.proofs.configs.print_config.Goals as goal
use Rattle.hv_model.proofs.configs.print_config.Goals.{then-is_on+in_ok-add_name, else-is_on}

pub loop-i-preserved : goal.loop-i-preserved
loop-i-preserved c =
    elim c.if-is_on.branch [
      | then-is_on+in_ok-add_name w ↦
          rw (w.text-is, w.is_first-is)
          (printed_on c.args.model.now.names c.args.config.now.on c.loop-i.i w.as_bytes.result.now
          c.loop-i.text w.add_name.new.text c.loop-i.is_first c.loop-i.invariant
          (omega (arith, c.options-i-end.ensures.count, c.loop-i-test.true)) c.requires
          (c.is_on.ensures ∙ ap Some w.if-is_on.true)
          (w.name.ensures ∙ ap Some (sym w.as_bytes.ensures.value)) w.in_ok-add_name.ensures)
      | else-is_on w ↦
          rw (w.text-is, w.is_first-is)
          (printed_off c.args.model.now.names c.args.config.now.on c.loop-i.i c.loop-i.text
          c.loop-i.is_first c.loop-i.invariant
          (omega (arith, c.options-i-end.ensures.count, c.loop-i-test.true)) c.requires
          (c.is_on.ensures ∙ ap Some w.if-is_on.false))
    ]

pub returns-clause-read_back : goal.returns-clause-read_back
returns-clause-read_back c =
    read_back_at c.args.model.now.names c.args.config.now.on c.loop-i.i c.loop-i.text
    c.loop-i.invariant.0 (omega (arith, c.options-i-end.ensures.count, c.loop-i-test.false))
    c.options-i-end.ensures.names c.options-i-end.ensures.distinct c.requires
