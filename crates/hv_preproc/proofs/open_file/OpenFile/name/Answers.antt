use Rattle.std.proofs.Common.{refl, sym, subst}
use Rattle.hv_cond.specs.Laws.{Keeps-trans}
use Rattle.hv_macros.specs.Table.{meaning_in}
use Rattle.hv_plainpp.specs.Groups.{name_truth}
use Rattle.hv_preproc.proofs.Asking.{Rises-until, asked_part, name_comes, nothing_asked, reached_until, truths_come, truths_nowhere}
use Rattle.hv_preproc.proofs.Came.{came_reads}
use Rattle.hv_preproc.proofs.Faulting.{ok_from_both}
use Rattle.hv_preproc.proofs.Kept.{IsUnit-kept}
use Rattle.hv_preproc.specs.working.Keys.{reached}
use Rattle.hv_preproc.specs.working.Parts.{AreTruths}
use Rattle.hv_texts.specs.Readings.{HasTruth}
use Rattle.hv_texts.specs.declared.came.Truths.{Truths}
use Rattle.hv_preproc.proofs.open_file.OpenFile.name.Goals as goal

pub returns-then-is_false-clause-unit : goal.returns-then-is_false-clause-unit
returns-then-is_false-clause-unit c =
    IsUnit-kept c.live_in.ensures.keeps c.args.unit.now c.requires.unit

pub returns-then-is_false-clause-read : goal.returns-then-is_false-clause-read
returns-then-is_false-clause-read c = λ at low high is rises sound.
    nothing_asked c.args.store.now c.live_in.new.store c.args.unit.now c.args.cond
    c.in_ok-cond.cond _ at low high c.args.line.now rises c.live_in.ensures.keeps sound
    c.in_ok-cond.ensures.meaning (c.if-is_false.ensures.falsity.0 refl)

pub returns-then-is_false-clause-truths : goal.returns-then-is_false-clause-truths
returns-then-is_false-clause-truths c = λ at is.
    truths_nowhere c.args.store.now c.live_in.new.store c.args.unit.now.live c.args.cond
    c.in_ok-cond.cond _ c.live_in.ensures.keeps c.requires.unit.live c.in_ok-cond.ensures.node
    c.in_ok-cond.ensures.meaning (c.if-is_false.ensures.falsity.0 refl)

pub name_truth-requires-clause-table : goal.name_truth-requires-clause-table
name_truth-requires-clause-table c =
    (IsUnit-kept c.live_in.ensures.keeps c.args.unit.now c.requires.unit).table

pub take_in-requires-clause-failing : goal.take_in-requires-clause-failing
take_in-requires-clause-failing c =
    c.in_ok-came.ensures.ends.divides.nodes.1

pub take_in-requires-clause-unit : goal.take_in-requires-clause-unit
take_in-requires-clause-unit c =
    IsUnit-kept (Keeps-trans c.live_in.ensures.keeps c.name_truth.ensures.keeps) c.args.unit.now
    c.requires.unit

pub returns-clause-read : goal.returns-clause-read
returns-clause-read c =
    ok_from_both c.take_in.result _ _ _ c.take_in.ensures.taken c.take_in.ensures.unit
    (λ truths taken unit at low high is rises sound.
    came_reads c.args.store.now c.live_in.new.store c.name_truth.new.store c.take_in.new.store
    c.args.unit.now c.take_in.new.unit (reached at low) (reached at high) c.args.cond
    c.in_ok-cond.cond c.in_ok-came.came.good _ c.in_ok-came.came.given c.in_ok-came.came.failing
    (HasTruth c.name_truth.new.store c.in_ok-came.came.value)
    (λ macros. name_truth macros c.args.hash.now c.args.line.now)
    c.live_in.ensures.keeps c.name_truth.ensures.keeps c.take_in.ensures.keeps sound
    (reached_until at low high (Rises-until low high c.args.line.now rises))
    c.in_ok-cond.ensures.node
    (asked_part c.args.store.now c.live_in.new.store c.args.unit.now.live c.args.cond
    c.in_ok-cond.cond (λ macros. name_truth macros c.args.hash.now c.args.line.now)
    c.in_ok-cond.ensures.meaning)
    (name_comes c.live_in.new.store c.name_truth.new.store c.args.unit.now.table
    c.in_ok-cond.cond c.in_ok-came.came.good c.in_ok-came.came.given c.in_ok-came.came.failing
    c.in_ok-came.came.value (reached at low) (reached at high) c.args.hash.now c.args.line.now
    c.in_ok-came.ensures.met c.in_ok-came.ensures.ends)
    taken unit)

pub returns-clause-truths : goal.returns-clause-truths
returns-clause-truths c =
    ok_from_both c.take_in.result _ _ _ c.take_in.ensures.taken c.take_in.ensures.value
    (λ made taken value at is.
    subst (λ (truths : Truths). AreTruths c.args.store.now c.take_in.new.store
    c.take_in.new.unit.live c.args.cond truths (λ values. name_truth
    (meaning_in c.args.store.now c.args.unit.now.table values) c.args.hash.now c.args.line.now))
    (sym value)
    (truths_come c.args.store.now c.live_in.new.store c.name_truth.new.store c.take_in.new.store
    c.args.unit.now c.take_in.new.unit c.args.cond c.in_ok-cond.cond c.in_ok-came.came.good
    c.in_ok-came.came.given c.in_ok-came.came.failing c.in_ok-came.came.value
    (λ macros. name_truth macros c.args.hash.now c.args.line.now)
    c.live_in.ensures.keeps c.name_truth.ensures.keeps c.take_in.ensures.keeps c.requires.unit
    c.requires.cond c.in_ok-cond.ensures.node c.in_ok-cond.ensures.meaning
    c.in_ok-came.ensures.ends c.in_ok-came.ensures.within
    taken))
