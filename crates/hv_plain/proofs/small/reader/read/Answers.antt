use Rattle.std.proofs.Common.{length, ap, sym, ◌∙◌, arith, rules, tests}
use Rattle.std.specs.List.{slice_split}
use Rattle.std.proofs.lemmas.Iterator.Consumers.{YieldsList-turn, YieldsList-end}
use Rattle.std.proofs.lemmas.Iterator.Splits.{YieldsList-from_slice_split}
use Rattle.std.proofs.lemmas.List.{length_push}
use Rattle.hv_plain.specs.Bytes.{is_gap}
use Rattle.hv_plain.specs.working.SmallReader.{wanted_of, reading_of}
use Rattle.hv_plain.proofs.SmallRun.{run_from-refuses, run_from-goes, run_from-ends, length-known_after, next-within}
use Rattle.hv_plain.proofs.small.reader.read.Goals as goal

pub returns-in-None-next : goal.returns-in-None-next
returns-in-None-next c =
    let t =
    YieldsList-turn (YieldsList-from_slice_split _ is_gap c.args.text.now (search rules)
    (search rules) (search rules) (λ x b q k. search (rules, tests))) c.loop-token.yielded _
    c.loop-token.yielded_by _ _ c.in-Some.token c.in-Some.is c.next.ensures.steps in
    run_from-refuses c.args.model.now.names c.args.config.now.on (wanted_of c.loop-token.due)
    c.loop-token.known.items c.loop-token.output (slice_split is_gap c.args.text.now)
    (length c.loop-token.yielded) c.in-Some.token.now c.as_slice.result.now c.as_slice.ensures.value
    t c.in-None-next.ensures
    ∙ c.loop-token.invariant.same_answer

pub perform-requires : goal.perform-requires
perform-requires c =
    next-within c.args.model.now.names c.as_slice.result.now (wanted_of c.loop-token.due)
    c.in-Some.token.now (reading_of c.in-Some-next.step) (length c.loop-token.known.items)
    c.in-Some-next.ensures c.loop-token.invariant.each_option

pub loop-token-preserved : goal.loop-token-preserved
loop-token-preserved c =
    let t =
    YieldsList-turn (YieldsList-from_slice_split _ is_gap c.args.text.now (search rules)
    (search rules) (search rules) (λ x b q k. search (rules, tests))) c.loop-token.yielded _
    c.loop-token.yielded_by _ _ c.in-Some.token c.in-Some.is c.next.ensures.steps in
    record {
      each_option = ap length c.perform.ensures.known
          ∙ length-known_after c.args.config.now.on c.in-Some-next.step.action
          c.loop-token.known.items ∙ c.loop-token.invariant.each_option;
      same_answer =
          run_from-goes c.args.model.now.names c.args.config.now.on (wanted_of c.loop-token.due)
          c.loop-token.known.items c.loop-token.output (slice_split is_gap c.args.text.now)
          (length c.loop-token.yielded) c.in-Some.token.now c.as_slice.result.now
          (reading_of c.in-Some-next.step) c.perform.new.known.items c.perform.new.output _
          c.as_slice.ensures.value t c.in-Some-next.ensures c.perform.ensures.known
          c.in_ok-perform-in-Some-next.ensures.output
          (length_push c.loop-token.yielded c.in-Some.token)
          ∙ c.loop-token.invariant.same_answer;
    }

pub returns-then-is_done : goal.returns-then-is_done
returns-then-is_done c =
    let t =
    YieldsList-end (YieldsList-from_slice_split _ is_gap c.args.text.now (search rules)
    (search rules) (search rules) (λ x b q k. search (rules, tests))) c.loop-token.yielded _
    c.loop-token.yielded_by _ _ c.in-None.is c.next.ensures.steps in
    let done = c.if-is_done.true in
    sym (run_from-ends c.args.model.now.names c.args.config.now.on (wanted_of c.loop-token.due)
    c.loop-token.known.items c.loop-token.output (slice_split is_gap c.args.text.now)
    (length c.loop-token.yielded) _ (omega (arith, t.1)) (sym done ∙ c.is_done.ensures))
    ∙ c.loop-token.invariant.same_answer

pub returns : goal.returns
returns c =
    let t =
    YieldsList-end (YieldsList-from_slice_split _ is_gap c.args.text.now (search rules)
    (search rules) (search rules) (λ x b q k. search (rules, tests))) c.loop-token.yielded _
    c.loop-token.yielded_by _ _ c.in-None.is c.next.ensures.steps in
    let done = c.if-is_done.false in
    sym (run_from-ends c.args.model.now.names c.args.config.now.on (wanted_of c.loop-token.due)
    c.loop-token.known.items c.loop-token.output (slice_split is_gap c.args.text.now)
    (length c.loop-token.yielded) _ (omega (arith, t.1)) (sym done ∙ c.is_done.ensures))
    ∙ c.loop-token.invariant.same_answer
