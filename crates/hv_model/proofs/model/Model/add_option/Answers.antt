use Rattle.std.proofs.Common.{◌∙◌, sym, arith}
use Rattle.hv_model.specs.Lines.{repeated, too_many}
use Rattle.hv_model.proofs.ReadModel.{AllFit-more, no_shorter, option_added}
use Rattle.hv_model.proofs.model.Model.add_option.Goals as goal
use Rattle.hv_model.proofs.model.Model.add_option.Goals.{in-Ok, in-Err}

pub returns-then-contains-clause-refused : goal.returns-then-contains-clause-refused
returns-then-contains-clause-refused c =
    rw (← c.self.view_is, c.bad.ensures)
    (λ line more e. repeated e (sym c.contains.ensures ∙ c.if-contains.true))

pub returns-then-len-eq-MOST_OPTIONS-clause-refused : goal.returns-then-len-eq-MOST_OPTIONS-clause-refused
returns-then-len-eq-MOST_OPTIONS-clause-refused c =
    rw (← c.self.view_is, c.bad-then-len-eq-MOST_OPTIONS.ensures)
    (λ line more e. too_many e (sym c.contains.ensures ∙ c.if-contains.false)
    (sym c.len.ensures.count ∙ c.if-len-eq-MOST_OPTIONS.true))

pub invariant_of-self : goal.invariant_of-self
invariant_of-self c =
    AllFit-more _ _ c.self.inside.rules.items
    (no_shorter c.push.result c.self.inside.names c.push.new.self c.args.name.now
    c.push.ensures.added c.push.ensures.unchanged) c.self.invariant

pub returns-clause-added : goal.returns-clause-added
returns-clause-added c =
    elim c.match-push.branch [
      | in-Ok w ↦ rw (w.result-is, ← c.self.view_is)
          (λ line more o e h. option_added c.self.inside.names c.push.new.self _ c.args.number
          c.args.name.now line more o w.in-Ok.ensures.added
          (sym c.contains.ensures ∙ c.if-contains.false)
          (omega (arith, c.len.ensures.count, c.len.ensures.limit, c.if-len-eq-MOST_OPTIONS.false)) e h)
      | in-Err w ↦ rw w.result-is tt
    ]
