use Rattle.hv_encode.proofs.GroupsLemmas.{innermost_option, outer_open}
use Rattle.hv_encode.proofs.small.group.turn_group.Goals as goal

pub open_group-requires-clause-open : goal.open_group-requires-clause-open
open_group-requires-clause-open c =
    outer_open c.args.store.now c.in-Some.innermost c.pop.new.self
    (rw c.in-Some.ensures.some at c.requires.open)

pub open_group-requires-clause-option : goal.open_group-requires-clause-option
open_group-requires-clause-option c =
    innermost_option c.args.store.now c.in-Some.innermost c.pop.new.self
    (rw c.in-Some.ensures.some at c.requires.open)
