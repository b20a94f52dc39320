use Rattle.std.proofs.Common.{List, sym, subst}
use Rattle.hv_toks.specs.declared.parted.Failing.{Failing}
use Rattle.hv_texts.proofs.Refusing.{all_refused}
use Rattle.hv_texts.specs.Readings.{Ends, HasTruth}
use Rattle.hv_texts.specs.declared.came.Truths.{Truths}
use Rattle.hv_texts.proofs.name.refused_line.Goals as goal

pub returns-clause-ends : goal.returns-clause-ends
returns-clause-ends c = λ read reads.
    let truths : Truths = record { holds = c.falsity-never.result; fails = c.falsity-never.result } in
    subst (λ (fs : List Failing). Ends c.add.new.store c.args.cond c.falsity-never.result fs
    (HasTruth c.add.new.store truths) read) (sym c.in_ok-into_failing.ensures)
    (all_refused c.in_ok-add.ensures.keeps c.args.place.now c.args.why c.args.cond
    c.falsity-never.result c.new-refusals.result c.add.new.self
    (HasTruth c.add.new.store truths) read reads c.requires c.falsity-never.ensures.node
    c.falsity-never.ensures.meaning c.new-refusals.ensures c.in_ok-add.ensures.entries
    c.in_ok-add.ensures.refused c.in_ok-add.ensures.counted)
