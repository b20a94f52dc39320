use Rattle.hv_rescan.proofs.ArgumentLists.{none_front, some_front, takes_fewer, takes_left}
use Rattle.std.proofs.Common.{arith}
use Rattle.hv_rescan.specs.working.Drafts.{nothing}
use Rattle.hv_rescan.proofs.scan.take.Goals as goal

pub returns-in-Some-clause-fewer : goal.returns-in-Some-clause-fewer
returns-in-Some-clause-fewer c =
    let n = some_front nothing c.in_ok-own.own c.in-Some.token _ _ c.in-Some.is (c.in_ok-own.ensures nothing) in
    omega (arith, n)

pub returns-clause-left : goal.returns-clause-left
returns-clause-left c =
    let t = takes_left nothing c.in_ok-taken.taken _ _ (c.in_ok-taken.ensures nothing) in
    let z = (none_front nothing c.in_ok-own.own _ _ c.in_default.is (c.in_ok-own.ensures nothing)).1 in
    omega (arith, t, z)

pub returns-clause-fewer : goal.returns-clause-fewer
returns-clause-fewer c =
    let n = none_front nothing c.in_ok-own.own _ _ c.in_default.is (c.in_ok-own.ensures nothing) in
    takes_fewer nothing c.in_ok-taken.taken _ _ _ _ 0 (c.in_ok-taken.ensures nothing) n.0 n.1
