use Rattle.std.proofs.Common.{cond, Option, Some, ap, ◌∙◌}
use Rattle.hv_cond.specs.declared.conditions.Cond.{Cond}
use Rattle.hv_cond.specs.working.Complements.{same_cond}
use Rattle.hv_cond.proofs.Complementing.{GrowsBy-enter, complement_made}
use Rattle.hv_cond.proofs.complements.enter.Goals as goal

pub returns-clause-answer : goal.returns-clause-answer
returns-clause-answer c =
    complement_made c.in_ok-answer.ensures.extends c.args.a c.in_ok-answer.answer c.requires.node c.in_ok-answer.ensures.node (λ v. c.in_ok-answer.ensures.meaning v ∙ c.requires.meaning v)

pub returns-clause-grows : goal.returns-clause-grows
returns-clause-grows c =
    let answer = complement_made c.in_ok-answer.ensures.extends c.args.a c.in_ok-answer.answer c.requires.node c.in_ok-answer.ensures.node (λ v. c.in_ok-answer.ensures.meaning v ∙ c.requires.meaning v) in
    GrowsBy-enter c.args.nodes.now c.branch-nodes.new.self c.args.complements.now c.record-2.new.self c.args.a c.in_ok-answer.answer c.in_ok-answer.ensures.reduced c.in_ok-answer.ensures.extends c.in_ok-answer.ensures.grows c.requires.answers c.requires.node answer c.requires.unknown
    (λ x. c.record-2.ensures.answer x
    ∙ ap (λ (o : Option Cond). cond (same_cond c.in_ok-answer.answer x) (Some c.args.a) o) (c.record.ensures.answer x ∙ ap (λ (o : Option Cond). cond (same_cond c.args.a x) (Some c.in_ok-answer.answer) o) (c.in_ok-make_room.ensures.same x))) c.requires.is_branch
