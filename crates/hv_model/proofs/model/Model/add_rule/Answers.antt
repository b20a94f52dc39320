use Rattle.hv_model.specs.Lines.{no_rule}
use Rattle.hv_model.specs.Token.{tokens}
use Rattle.hv_model.proofs.ReadModel.{OnOk-map, IfErr-map}
use Rattle.hv_model.proofs.model.Model.add_rule.Goals as goal

pub returns-in-Ok-Some-clause-added : goal.returns-in-Ok-Some-clause-added
returns-in-Ok-Some-clause-added c =
    let said = rw c.in-Ok-Some.field-0-is at c.in-Ok-Some.ensures.rule in
    OnOk-map c.add_code.result _ _
    (λ added line more o e h. added line (tokens c.args.text.now) more o e
    (rw (← c.self.view_is) said) h) c.add_code.ensures.added

pub returns-in-Ok-Some-clause-refused : goal.returns-in-Ok-Some-clause-refused
returns-in-Ok-Some-clause-refused c =
    let said = rw c.in-Ok-Some.field-0-is at c.in-Ok-Some.ensures.rule in
    IfErr-map c.add_code.result _ _
    (λ refusal refused line more e. refused line (tokens c.args.text.now) more e
    (rw (← c.self.view_is) said)) c.add_code.ensures.refused

pub returns-in-Ok-None-clause-refused : goal.returns-in-Ok-None-clause-refused
returns-in-Ok-None-clause-refused c =
    let none = rw c.in-Ok-None.field-0-is at c.in-Ok-None.ensures.none in
    rw (← c.self.view_is, c.bad.ensures) (λ line more e. no_rule e none)
