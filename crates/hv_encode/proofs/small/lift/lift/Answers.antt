use Rattle.std.proofs.Common.{sym}
use Rattle.hv_encode.proofs.LiftingLemmas.{lifted_next}
use Rattle.hv_encode.proofs.small.lift.lift.Goals as goal

pub returns-then-not-branch-clause-nested : goal.returns-then-not-branch-clause-nested
returns-then-not-branch-clause-nested c =
    let next =
    lifted_next c.args.diagram.now c.loop-line.diagram c.take_line.new.store c.args.lines.now
    c.loop-line.line-index _ c.loop-line.lifting
    c.take_line.new.self c.in_ok-take_line.field-0 c.requires.valid
    c.options-options.ensures.distinct c.loop-line.invariant c.loop-line-test.true
    c.in_ok-take_line.ensures.keeps c.in_ok-take_line.ensures.goes in
    sym (rw c.if-not-branch.true at next)

pub loop-line-preserved : goal.loop-line-preserved
loop-line-preserved c =
    let next =
    lifted_next c.args.diagram.now c.loop-line.diagram c.take_line.new.store c.args.lines.now
    c.loop-line.line-index _ c.loop-line.lifting
    c.take_line.new.self c.in_ok-take_line.field-0 c.requires.valid
    c.options-options.ensures.distinct c.loop-line.invariant c.loop-line-test.true
    c.in_ok-take_line.ensures.keeps c.in_ok-take_line.ensures.goes in
    rw c.if-not-branch.false at next
