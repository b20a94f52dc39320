use Rattle.std.proofs.Common.{◌≡◌, false, sym, ap, ◌∙◌, subst}
use Rattle.hv_cond.specs.declared.conditions.Cond.{Cond}
use Rattle.hv_cond.specs.declared.conditions.Node.TheVariants.{Falsity}
use Rattle.hv_cond.specs.Diagram.{Diagram, IsNever, IsNode, holds, node}
use Rattle.std.proofs.lemmas.Bool.{eqb-true, eq-eqb}
use Rattle.hv_cond.proofs.Branches.{Cond-same}
use Rattle.hv_cond.proofs.Sound.{falsity_is, falsity_only, falsity_seen, never_is_falsity}
use Rattle.hv_cond.proofs.stores.Store.is_false.Goals as goal

pub returns-clause-meaning : goal.returns-clause-meaning
returns-clause-meaning c =
    let s = c.self.inside in
    let i = c.self.invariant in
    let is_node = subst (λ (d : Diagram). IsNode d c.args.c) (sym c.self.view_is) c.requires in (
      λ t v len.
          let zero : c.args.c ≡ record { index = 0 } = Cond-same _ _ (eqb-true c.args.c.index 0 (sym c.eq.ensures ∙ t)) in
          ap (λ (x : Cond). holds c.args.self.now x v) zero
          ∙ subst (λ (d : Diagram). holds d (record { index = 0 }) v ≡ false) c.self.view_is (falsity_seen s.order s.nodes i.ordered i.reduced v),
      λ never.
          let zero = never_is_falsity s.order s.nodes i.ordered i.reduced c.args.c is_node (subst (λ (d : Diagram). IsNever d c.args.c) (sym c.self.view_is) never) in
          c.eq.ensures ∙ eq-eqb c.args.c.index 0 (ap (λ (x : Cond). x.index) zero),
    )

pub returns-clause-falsity : goal.returns-clause-falsity
returns-clause-falsity c =
    let s = c.self.inside in
    let i = c.self.invariant in
    let is_node = subst (λ (d : Diagram). IsNode d c.args.c) (sym c.self.view_is) c.requires in (
      λ t.
          let zero : c.args.c ≡ record { index = 0 } = Cond-same _ _ (eqb-true c.args.c.index 0 (sym c.eq.ensures ∙ t)) in
          ap (λ (x : Cond). node c.args.self.now x) zero
          ∙ subst (λ (d : Diagram). node d (record { index = 0 }) ≡ Falsity) c.self.view_is (falsity_is s.order s.nodes),
      λ is.
          let zero = falsity_only s.order s.nodes i.ordered i.reduced c.args.c is_node (subst (λ (d : Diagram). node d c.args.c ≡ Falsity) (sym c.self.view_is) is) in
          c.eq.ensures ∙ eq-eqb c.args.c.index 0 (ap (λ (x : Cond). x.index) zero),
    )
