use Rattle.hv_encode.proofs.GroupsLemmas.{one_more, too_many}
use Rattle.std.proofs.Common.{arith}
use Rattle.hv_encode.proofs.small.group.open_first.Goals as goal

pub returns-then-len-ge-MOST_GROUPS-clause-nested : goal.returns-then-len-ge-MOST_GROUPS-clause-nested
returns-then-len-ge-MOST_GROUPS-clause-nested c =
    λ name rest. too_many c.args.open_groups.now name rest (omega (arith, c.len.ensures))

pub returns-clause-nested : goal.returns-clause-nested
returns-clause-nested c = λ name rest.
    one_more c.args.open_groups.now c.open_group.new.open_groups name rest
    (omega (arith, c.len.ensures)) c.in_ok-open_group.ensures.elses
