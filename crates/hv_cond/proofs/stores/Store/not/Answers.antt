use Rattle.std.proofs.Common.{◌≡◌, ◌+◌, ◌≤◌, not, Bool, List, IfOk, sym, subst}
use Rattle.hv_cond.specs.declared.connectives.Connective.TheVariants.{And, Or}
use Rattle.hv_cond.specs.Diagram.{Diagram, IsNode, Keeps, holds, nodes, size}
use Rattle.hv_cond.specs.working.Nodes.{newest_first}
use Rattle.hv_cond.specs.working.Orders.{seen}
use Rattle.hv_cond.proofs.Combining.{Extends-answers}
use Rattle.hv_cond.proofs.Seen.{IsNode-in}
use Rattle.hv_cond.proofs.Sound.{AreComplements-fewer, IsNode-complement, Keeps-from, bound_by_branches, meaning_of_complement, order_of_new}
use Rattle.hv_cond.proofs.stores.Store.not.Goals as goal

pub complement-requires-clause-node : goal.complement-requires-clause-node
complement-requires-clause-node c =
    let s = c.self.inside in
    IsNode-in s.order s.nodes c.args.a (subst (λ (d : Diagram). IsNode d c.args.a) (sym c.self.view_is) c.requires)

pub complement-requires-clause-answers : goal.complement-requires-clause-answers
complement-requires-clause-answers c =
    let s = c.self.inside in
    AreComplements-fewer (newest_first s.nodes) s.complements c.trim.new.self c.trim.ensures c.self.invariant.complements_right

pub invariant_of-self : goal.invariant_of-self
invariant_of-self c =
    let e = c.complement.ensures.grows.extends in
    let s = c.self.inside in
    let i = c.self.invariant in
    record {
      ordered = order_of_new s.order e i.ordered;
      reduced = c.complement.ensures.grows.reduced;
      conjunctions_right = Extends-answers e And s.conjunctions i.conjunctions_right;
      disjunctions_right = Extends-answers e Or s.disjunctions i.disjunctions_right;
      complements_right = c.complement.ensures.grows.answers;
    }

pub returns-clause-keeps : goal.returns-clause-keeps
returns-clause-keeps c =
    let s = c.self.inside in
    subst (λ (d : Diagram). Keeps d (seen s.order c.complement.new.nodes)) c.self.view_is
    (Keeps-from s.order c.complement.ensures.grows.extends)

pub returns-clause-bound : goal.returns-clause-bound
returns-clause-bound c =
    let s = c.self.inside in
    let first = subst (λ (d : Diagram). IsNode d c.args.a) (sym c.self.view_is) c.requires in
    subst (λ (d : Diagram). size (seen s.order c.complement.new.nodes) ≤ size d + nodes d c.args.a) c.self.view_is
    (bound_by_branches s.order s.nodes c.complement.new.nodes c.trim.new.self c.complement.new.complements c.args.a c.self.invariant.reduced first c.complement.ensures.grows)

pub returns-clause-node : goal.returns-clause-node
returns-clause-node c =
    IsNode-complement c.self.inside.order c.complement.new.nodes c.args.a c.complement.result c.complement.ensures.answer

pub returns-clause-meaning : goal.returns-clause-meaning
returns-clause-meaning c =
    let s = c.self.inside in
    let i = c.self.invariant in
    let g = c.complement.ensures.grows in
    let first = subst (λ (d : Diagram). IsNode d c.args.a) (sym c.self.view_is) c.requires in
    subst (λ (d : Diagram). IfOk c.complement.result (λ r. (v : List Bool) → holds (seen s.order c.complement.new.nodes) r v ≡ not (holds d c.args.a v))) c.self.view_is
    (meaning_of_complement s.order s.nodes c.complement.new.nodes c.args.a c.complement.result i.ordered i.reduced g.reduced g.extends first c.complement.ensures.answer)
