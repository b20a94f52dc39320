use Rattle.std.proofs.Common.{sym, ap, ◌∙◌, subst}
use Rattle.hv_cond.specs.declared.conditions.Cond.{Cond}
use Rattle.hv_cond.specs.Diagram.{Diagram, IsNode, SameMeaning, holds}
use Rattle.std.proofs.lemmas.Bool.{eqb-true, eq-eqb}
use Rattle.hv_cond.proofs.Branches.{Cond-same}
use Rattle.hv_cond.proofs.Sound.{one_node}
use Rattle.hv_cond.proofs.stores.Store.same.Goals as goal

pub returns-clause-meaning : goal.returns-clause-meaning
returns-clause-meaning c =
    let s = c.self.inside in
    let i = c.self.invariant in
    let first = subst (λ (d : Diagram). IsNode d c.args.a) (sym c.self.view_is) c.requires.first in
    let second = subst (λ (d : Diagram). IsNode d c.args.b) (sym c.self.view_is) c.requires.second in (
      λ t v len. ap (λ (x : Cond). holds c.args.self.now x v) (Cond-same c.args.a c.args.b (eqb-true c.args.a.index c.args.b.index (sym c.eq.ensures ∙ t))),
      λ same.
          let one = one_node s.order s.nodes i.ordered i.reduced c.args.a c.args.b first second (subst (λ (d : Diagram). SameMeaning d c.args.a c.args.b) (sym c.self.view_is) same) in
          c.eq.ensures ∙ eq-eqb c.args.a.index c.args.b.index (ap (λ (x : Cond). x.index) one),
    )
