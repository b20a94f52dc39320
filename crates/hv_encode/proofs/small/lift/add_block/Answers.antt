use Rattle.std.proofs.Common.{refl}
use Rattle.std.proofs.lemmas.Result.{on_ok_weaker}
use Rattle.hv_encode.proofs.LiftingLemmas.{added_none, added_nothing, added_one}
use Rattle.hv_encode.specs.working.Presence.{groups_of}
use Rattle.hv_encode.proofs.small.lift.add_block.Goals as goal

pub returns-then-is_empty-clause-added : goal.returns-then-is_empty-clause-added
returns-then-is_empty-clause-added c = λ model is distinct.
    added_nothing model (groups_of c.args.open_groups.now) c.args.run.now c.args.blocks.now
    c.args.blocks.now (c.is_empty.ensures.0 c.if-is_empty.true) refl

pub returns-then-not-branch-clause-added : goal.returns-then-not-branch-clause-added
returns-then-not-branch-clause-added c =
    added_none c.args.store.now c.args.valid c.cond_within-cond.result c.args.open_groups.now
    c.args.run.now c.args.blocks.now c.args.blocks.now
    c.in_ok-is_met.field-0 c.if-not-branch.true c.requires.open c.cond_within-cond.ensures
    c.in_ok-is_met.ensures.met refl

pub returns-clause-added : goal.returns-clause-added
returns-clause-added c =
    on_ok_weaker c.add.result
    (λ pushed. added_one c.args.store.now c.args.valid c.cond_within-cond.result
    c.args.open_groups.now c.as_slice.result.now c.args.run.now c.args.blocks.now
    c.add.new.self c.in_ok-is_met.field-0 c.in_ok-test.test c.in_ok-bytes.bytes
    c.if-not-branch.false c.requires.open c.cond_within-cond.ensures
    c.in_ok-is_met.ensures.met c.as_slice.ensures c.in_ok-test.ensures c.in_ok-bytes.ensures pushed)
    c.add.ensures.ok
