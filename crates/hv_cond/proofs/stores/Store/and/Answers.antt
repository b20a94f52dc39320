use Rattle.std.proofs.Common.{◌≡◌, ◌+◌, ◌*◌, ◌≤◌, ◌&&◌, Bool, List, IfOk, sym, subst}
use Rattle.hv_cond.specs.declared.connectives.Connective.TheVariants.{And, Or}
use Rattle.hv_cond.specs.Diagram.{Diagram, IsNode, Keeps, holds, nodes, size}
use Rattle.hv_cond.specs.working.Nodes.{newest_first}
use Rattle.hv_cond.specs.working.Orders.{seen}
use Rattle.hv_cond.proofs.Combining.{Extends-answers}
use Rattle.hv_cond.proofs.Complementing.{Extends-complements}
use Rattle.hv_cond.proofs.Seen.{IsNode-in}
use Rattle.hv_cond.proofs.Sound.{AreAnswers-fewer, IsNode-result, Keeps-from, bound_by_pairs, meaning_of_answer, order_of_new}
use Rattle.hv_cond.proofs.stores.Store.and.Goals as goal

pub combine-requires-clause-first : goal.combine-requires-clause-first
combine-requires-clause-first c =
    let s = c.self.inside in
    IsNode-in s.order s.nodes c.args.a (subst (λ (d : Diagram). IsNode d c.args.a) (sym c.self.view_is) c.requires.first)

pub combine-requires-clause-second : goal.combine-requires-clause-second
combine-requires-clause-second c =
    let s = c.self.inside in
    IsNode-in s.order s.nodes c.args.b (subst (λ (d : Diagram). IsNode d c.args.b) (sym c.self.view_is) c.requires.second)

pub combine-requires-clause-answers : goal.combine-requires-clause-answers
combine-requires-clause-answers c =
    let s = c.self.inside in
    AreAnswers-fewer And (newest_first s.nodes) s.conjunctions c.trim.new.self c.trim.ensures c.self.invariant.conjunctions_right

pub invariant_of-self : goal.invariant_of-self
invariant_of-self c =
    let e = c.combine.ensures.grows.extends in
    let s = c.self.inside in
    let i = c.self.invariant in
    record {
      ordered = order_of_new s.order e i.ordered;
      reduced = c.combine.ensures.grows.reduced;
      conjunctions_right = c.combine.ensures.grows.answers;
      disjunctions_right = Extends-answers e Or s.disjunctions i.disjunctions_right;
      complements_right = Extends-complements e s.complements i.complements_right;
    }

pub returns-clause-keeps : goal.returns-clause-keeps
returns-clause-keeps c =
    let s = c.self.inside in
    subst (λ (d : Diagram). Keeps d (seen s.order c.combine.new.nodes)) c.self.view_is
    (Keeps-from s.order c.combine.ensures.grows.extends)

pub returns-clause-bound : goal.returns-clause-bound
returns-clause-bound c =
    let s = c.self.inside in
    let first = subst (λ (d : Diagram). IsNode d c.args.a) (sym c.self.view_is) c.requires.first in
    let second = subst (λ (d : Diagram). IsNode d c.args.b) (sym c.self.view_is) c.requires.second in
    subst (λ (d : Diagram). size (seen s.order c.combine.new.nodes) ≤ size d + (nodes d c.args.a + 1) * (nodes d c.args.b + 1)) c.self.view_is
    (bound_by_pairs And s.order s.nodes c.combine.new.nodes c.trim.new.self c.combine.new.results c.args.a c.args.b c.self.invariant.reduced first second c.combine.ensures.grows)

pub returns-clause-node : goal.returns-clause-node
returns-clause-node c =
    IsNode-result And c.self.inside.order c.combine.new.nodes c.args.a c.args.b c.combine.result c.combine.ensures.answer

pub returns-clause-meaning : goal.returns-clause-meaning
returns-clause-meaning c =
    let s = c.self.inside in
    let i = c.self.invariant in
    let g = c.combine.ensures.grows in
    let first = subst (λ (d : Diagram). IsNode d c.args.a) (sym c.self.view_is) c.requires.first in
    let second = subst (λ (d : Diagram). IsNode d c.args.b) (sym c.self.view_is) c.requires.second in
    subst (λ (d : Diagram). IfOk c.combine.result (λ r. (v : List Bool) → holds (seen s.order c.combine.new.nodes) r v ≡ (holds d c.args.a v && holds d c.args.b v))) c.self.view_is
    (meaning_of_answer And s.order s.nodes c.combine.new.nodes c.args.a c.args.b c.combine.result i.ordered i.reduced g.reduced g.extends first second c.combine.ensures.answer)
