use Rattle.std.proofs.Common.{cond, Option, Some, sym, subst, ap, ◌∙◌, arith}
use Rattle.hv_cond.specs.declared.conditions.Cond.{Cond}
use Rattle.hv_cond.specs.working.Meetings.{IsMeeting}
use Rattle.hv_cond.specs.working.Nodes.{newest_first}
use Rattle.hv_cond.specs.working.Results.{is_same_pair}
use Rattle.hv_cond.proofs.Branches.{level-branch}
use Rattle.hv_cond.proofs.Meeting.{apart_halves, apart_kept, together_high, together_low, told_by_answer}
use Rattle.hv_cond.proofs.meetings.+meet.Goals as goal

pub returns-in-Some-clause-met : goal.returns-in-Some-clause-met
returns-in-Some-clause-met t c =
    let s = c.args.nodes.now in
    told_by_answer s.variables (newest_first s) c.requires.reduced.ordered c.args.a c.args.b c.in-Some.both
    (c.in-Some.ensures.answer (newest_first s) c.requires.first c.requires.second) c.ne.result c.ne.ensures

pub returns-in-Some-find-clause-met : goal.returns-in-Some-find-clause-met
returns-in-Some-find-clause-met t c =
    let s = c.args.nodes.now in
    told_by_answer s.variables (newest_first s) c.requires.reduced.ordered c.args.a c.args.b c.in-Some-find.both
    (c.requires.answers.each c.args.a c.args.b c.in-Some-find.both (sym c.in-Some-find.ensures)) c.ne-in-Some-find.result c.ne-in-Some-find.ensures

pub halves-requires-clause-in_range : goal.halves-requires-clause-in_range
halves-requires-clause-in_range t c =
    let s = c.args.nodes.now in
    let below = level-branch s.variables (newest_first s) c.requires.reduced.ordered c.args.a c.requires.first c.in_default.ensures.branches.0 in
    omega arith

pub halves-requires-2-clause-in_range : goal.halves-requires-2-clause-in_range
halves-requires-2-clause-in_range t c =
    let s = c.args.nodes.now in
    let below = level-branch s.variables (newest_first s) c.requires.reduced.ordered c.args.a c.requires.first c.in_default.ensures.branches.0 in
    omega arith

pub returns-then-branch-clause-met : goal.returns-then-branch-clause-met
returns-then-branch-clause-met t c =
    let s = c.args.nodes.now in
    let below = level-branch s.variables (newest_first s) c.requires.reduced.ordered c.args.a c.requires.first c.in_default.ensures.branches.0 in
    together_low s.variables (newest_first s) c.requires.reduced.ordered c.args.a c.args.b c.min-variable.result _ _ _ _
    c.requires.first c.requires.second (omega arith) c.halves.ensures c.halves-2.ensures
    (subst (IsMeeting s.variables (newest_first s) _ _) c.if-branch.true c.in_ok-meet.ensures.met)

pub returns-then-branch-2-clause-met : goal.returns-then-branch-2-clause-met
returns-then-branch-2-clause-met t c =
    let s = c.args.nodes.now in
    let below = level-branch s.variables (newest_first s) c.requires.reduced.ordered c.args.a c.requires.first c.in_default.ensures.branches.0 in
    together_high s.variables (newest_first s) c.requires.reduced.ordered c.args.a c.args.b c.min-variable.result _ _ _ _
    c.requires.first c.requires.second (omega arith) c.halves.ensures c.halves-2.ensures
    (subst (IsMeeting s.variables (newest_first s) _ _) c.if-branch-2.true c.in_ok-meet-2.ensures.met)

pub returns-clause-answers : goal.returns-clause-answers
returns-clause-answers t c =
    let s = c.args.nodes.now in
    let low = subst (IsMeeting s.variables (newest_first s) _ _) c.if-branch.false c.in_ok-meet.ensures.met in
    let high = subst (IsMeeting s.variables (newest_first s) _ _) c.if-branch-2.false c.in_ok-meet-2.ensures.met in
    apart_kept s.variables (newest_first s) c.meet-2.new.conjunctions c.record.new.self c.args.a c.args.b c.requires.first c.requires.second
    (apart_halves s.variables (newest_first s) c.args.a c.args.b c.min-variable.result _ _ _ _ c.halves.ensures c.halves-2.ensures low high)
    (λ x y. c.record.ensures x y ∙ ap (λ (o : Option Cond). cond (is_same_pair c.args.a c.args.b x y) (Some (record { index = 0 })) o) (c.in_ok-make_room.ensures.same x y))
    c.in_ok-meet-2.ensures.answers

pub returns-clause-met : goal.returns-clause-met
returns-clause-met t c =
    let s = c.args.nodes.now in
    let low = subst (IsMeeting s.variables (newest_first s) _ _) c.if-branch.false c.in_ok-meet.ensures.met in
    let high = subst (IsMeeting s.variables (newest_first s) _ _) c.if-branch-2.false c.in_ok-meet-2.ensures.met in
    apart_halves s.variables (newest_first s) c.args.a c.args.b c.min-variable.result _ _ _ _ c.halves.ensures c.halves-2.ensures low high
