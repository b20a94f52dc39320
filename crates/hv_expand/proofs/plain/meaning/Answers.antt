use Rattle.std.proofs.Common.{◌∙◌, sym, ap}
use Rattle.std.proofs.lemmas.Bool.{true≢false}
use Rattle.hv_toks.specs.Macro.{macro_of}
use Rattle.hv_expand.proofs.PlainRuns.{is_named, is_unnamed, meaning_step}
use Rattle.hv_expand.proofs.plain.meaning.Goals as goal
use Rattle.hv_expand.proofs.plain.meaning.Goals.{then-is_text, else-is_text}

pub loop-entry-preserved : goal.loop-entry-preserved
loop-entry-preserved c =
    meaning_step c.args.entries.now c.loop-entry.entry-index c.entry-item.result
    (macro_of c.loop-entry.latest.now) (macro_of c.if-is_text.latest.now) c.args.name.now
    c.loop-entry-test.true c.entry-item.is
    (elim c.if-is_text.branch [
      | then-is_text w ↦ is_named c.entry-item.result.name c.args.name.now
          (macro_of c.entry-item.result.meaning) (macro_of c.loop-entry.latest.now)
          (c.is_text.ensures.0 w.if-is_text.true)
          ∙ sym (ap (λ x. macro_of x.now) w.latest-is)
      | else-is_text w ↦ is_unnamed c.entry-item.result.name c.args.name.now
          (macro_of c.entry-item.result.meaning) (macro_of c.loop-entry.latest.now)
          (λ is. true≢false (sym (c.is_text.ensures.1 is) ∙ w.if-is_text.false))
          ∙ sym (ap (λ x. macro_of x.now) w.latest-is)
    ])
    ∙ c.loop-entry.invariant
