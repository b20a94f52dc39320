use Rattle.std.proofs.Common.{subst, sym}
use Rattle.std.specs.Prelude.{All, List}
use Rattle.hv_cond.specs.Diagram.{IsNode}
use Rattle.hv_cstream.specs.Streams.{IsConverted, IsRefused}
use Rattle.hv_given.specs.Laws.{AreRefusals-kept}
use Rattle.hv_given.specs.declared.given.Given.{Given}
use Rattle.hv_preproc.proofs.Sorting.{each_node, parts_sorted, parts_starts}
use Rattle.hv_preproc.specs.working.Wholes.{CountsBoth, RefusesBoth}
use Rattle.hv_toks.specs.Division.{Sorts}
use Rattle.hv_toks.specs.declared.parted.Failing.{Failing}
use Rattle.hv_preproc.proofs.stream.convert.Goals as goal

pub convert_all-requires-clause-given : goal.convert_all-requires-clause-given
convert_all-requires-clause-given c =
    subst (λ (gs : List Given). All (λ (g : Given). IsNode c.args.store.now g.cond) gs)
    (sym c.as_slice.ensures) (each_node c.args.store.now c.args.unit.given c.requires.given)

pub all_failing-requires-clause-refusals : goal.all_failing-requires-clause-refusals
all_failing-requires-clause-refusals c =
    AreRefusals-kept c.convert_all.ensures.keeps c.args.unit.refusals c.requires.refusals

pub returns-clause-sorted : goal.returns-clause-sorted
returns-clause-sorted c = λ valid there so_far node upto.
    parts_sorted c.args.store.now c.convert_all.new.store c.all_failing.new.store valid c.args.unit
    there so_far c.args.reserved c.in_ok-good.field-0 c.in_ok-all_failing.field-0
    c.convert_all.ensures.keeps c.all_failing.ensures.keeps node upto
    (subst (λ (gs : List Given). Sorts c.convert_all.new.store c.args.unit.live
    (IsConverted c.args.reserved c.convert_all.new.store gs)
    (IsRefused c.args.reserved c.convert_all.new.store gs) c.in_ok-good.field-0)
    c.as_slice.ensures c.in_ok-good.ensures.sorted)
    c.in_ok-good.ensures.conditions
    (AreRefusals-kept c.convert_all.ensures.keeps c.args.unit.refusals c.requires.refusals)
    c.in_ok-all_failing.ensures.entries
    (subst (λ (fs : List Failing). CountsBoth c.convert_all.new.store c.all_failing.new.store
    c.args.unit.refusals fs c.in_ok-all_failing.field-0) c.as_slice-2.ensures
    c.in_ok-all_failing.ensures.counted)
    (λ values place why is. (subst (λ (fs : List Failing).
    RefusesBoth c.convert_all.new.store c.all_failing.new.store c.args.unit.refusals fs
    c.in_ok-all_failing.field-0) c.as_slice-2.ensures c.in_ok-all_failing.ensures.refused values
    place why).0 is)

pub returns-clause-starts : goal.returns-clause-starts
returns-clause-starts c = λ valid there so_far node upto.
    parts_starts c.args.store.now c.convert_all.new.store c.all_failing.new.store valid c.args.unit
    there so_far c.args.reserved c.in_ok-good.field-0 c.in_ok-all_failing.field-0
    c.convert_all.ensures.keeps c.all_failing.ensures.keeps node upto
    (subst (λ (gs : List Given). Sorts c.convert_all.new.store c.args.unit.live
    (IsConverted c.args.reserved c.convert_all.new.store gs)
    (IsRefused c.args.reserved c.convert_all.new.store gs) c.in_ok-good.field-0)
    c.as_slice.ensures c.in_ok-good.ensures.sorted)
    c.in_ok-good.ensures.conditions
