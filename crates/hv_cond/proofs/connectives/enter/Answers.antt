use Rattle.std.proofs.Common.{cond, Option, Some, ap, ◌∙◌}
use Rattle.hv_cond.specs.working.Results.{is_same_pair}
use Rattle.hv_cond.specs.declared.conditions.Cond.{Cond}
use Rattle.hv_cond.proofs.Combining.{Grows-enter, answer_made}
use Rattle.hv_cond.proofs.connectives.enter.Goals as goal

pub returns-clause-answer : goal.returns-clause-answer
returns-clause-answer c =
    answer_made c.in_ok-answer.ensures.extends c.args.connective c.args.a c.args.b c.in_ok-answer.answer c.requires.first c.requires.second c.in_ok-answer.ensures.node
    (λ v. c.in_ok-answer.ensures.meaning v ∙ c.requires.meaning v)

pub returns-clause-grows : goal.returns-clause-grows
returns-clause-grows c =
    let answer = answer_made c.in_ok-answer.ensures.extends c.args.connective c.args.a c.args.b c.in_ok-answer.answer c.requires.first c.requires.second c.in_ok-answer.ensures.node
    (λ v. c.in_ok-answer.ensures.meaning v ∙ c.requires.meaning v) in
    Grows-enter c.args.connective c.args.nodes.now c.branch-nodes.new.self c.args.results.now c.record.new.self c.args.a c.args.b c.in_ok-answer.answer c.in_ok-answer.ensures.reduced c.in_ok-answer.ensures.extends c.in_ok-answer.ensures.grows c.requires.answers answer c.requires.unknown
    (λ x y. c.record.ensures x y ∙ ap (λ (o : Option Cond). cond (is_same_pair c.args.a c.args.b x y) (Some c.in_ok-answer.answer) o) (c.in_ok-make_room.ensures.same x y)) c.requires.first_branch c.requires.second_branch
