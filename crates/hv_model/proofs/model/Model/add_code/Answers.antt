use Rattle.std.proofs.Common.{◌∙◌, sym, ap}
use Rattle.std.specs.List.{list_all}
use Rattle.hv_model.specs.Lines.{unknown}
use Rattle.hv_model.specs.working.Steps.{fits}
use Rattle.hv_model.proofs.ReadModel.{rule_added}
use Rattle.hv_model.proofs.model.Model.add_code.Goals as goal
use Rattle.hv_model.proofs.model.Model.add_code.Goals.{in-Ok, in-Err}

pub returns-then-not-fits-clause-refused : goal.returns-then-not-fits-clause-refused
returns-then-not-fits-clause-refused c =
    let about = rw (← c.self.view_is) at c.requires in
    rw (← c.self.view_is, c.bad.ensures)
    (λ line ts more e r. unknown e r
    (sym about ∙ (ap (λ n. list_all (fits n) c.args.code) (sym c.len.ensures.count)
    ∙ (sym c.fits.ensures ∙ c.if-not-fits.true))))

pub returns-clause-added : goal.returns-clause-added
returns-clause-added c =
    let about = rw (← c.self.view_is) at c.requires in
    elim c.match-push.branch [
      | in-Ok w ↦
          rw (w.result-is, ← c.self.view_is)
          (λ line ts more o e r h. rule_added c.self.inside.names c.self.inside.rules.items
          c.push.new.self.items c.args.code c.args.number line ts more o w.in-Ok.ensures.items
          (sym about ∙ (ap (λ n. list_all (fits n) c.args.code) (sym c.len.ensures.count)
          ∙ (sym c.fits.ensures ∙ c.if-not-fits.false))) e r h)
      | in-Err w ↦ rw w.result-is tt
    ]
