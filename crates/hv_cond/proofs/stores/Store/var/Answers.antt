use Rattle.std.proofs.Common.{◌≡◌, ◌<◌, ◌+◌, ◌≤◌, ap, subst, arith}
use Rattle.hv_cond.specs.declared.connectives.Connective.TheVariants.{And, Or}
use Rattle.hv_cond.specs.Diagram.{Diagram, Keeps, size}
use Rattle.hv_cond.specs.working.Orders.{seen}
use Rattle.hv_cond.proofs.Combining.{Extends-answers}
use Rattle.hv_cond.proofs.Complementing.{Extends-complements}
use Rattle.hv_cond.proofs.Seen.{size-seen}
use Rattle.hv_cond.proofs.Sound.{IsNode-var, Keeps-from, meaning_of_var, order_of_new, var_may_branch}
use Rattle.hv_cond.proofs.stores.Store.var.Goals as goal

pub position-requires : goal.position-requires
position-requires c =
    let e : c.self.inside.nodes.variables ≡ c.args.self.now.variables = ap (λ (d : Diagram). d.variables) c.self.view_is in
    let r = c.requires in
    let all = c.self.invariant.ordered.all_positions in
    omega arith

pub branch-self-requires-clause-may_branch : goal.branch-self-requires-clause-may_branch
branch-self-requires-clause-may_branch c =
    let e : c.self.inside.nodes.variables ≡ c.args.self.now.variables = ap (λ (d : Diagram). d.variables) c.self.view_is in
    let r = c.requires in
    let i = c.self.invariant.ordered in
    let below : c.args.i < c.self.inside.nodes.variables = omega arith in
    let within = i.position c.args.i below in
    let is = c.position.ensures in
    var_may_branch c.self.inside.nodes c.position.result (omega arith)

pub invariant_of-self : goal.invariant_of-self
invariant_of-self c =
    let e = c.branch-self.ensures.extends in
    let s = c.self.inside in
    let i = c.self.invariant in
    record {
      ordered = order_of_new s.order e i.ordered;
      reduced = c.branch-self.ensures.reduced;
      conjunctions_right = Extends-answers e And s.conjunctions i.conjunctions_right;
      disjunctions_right = Extends-answers e Or s.disjunctions i.disjunctions_right;
      complements_right = Extends-complements e s.complements i.complements_right;
    }

pub returns-clause-keeps : goal.returns-clause-keeps
returns-clause-keeps c =
    let s = c.self.inside in
    subst (λ (d : Diagram). Keeps d (seen s.order c.branch-self.new.self)) c.self.view_is
    (Keeps-from s.order c.branch-self.ensures.extends)

pub returns-clause-bound : goal.returns-clause-bound
returns-clause-bound c =
    let s = c.self.inside in
    let old = size-seen s.order s.nodes in
    let new = size-seen s.order c.branch-self.new.self in
    let grows = c.branch-self.ensures.grows in
    subst (λ (d : Diagram). size (seen s.order c.branch-self.new.self) ≤ size d + 1) c.self.view_is (omega arith)

pub returns-clause-node : goal.returns-clause-node
returns-clause-node c = IsNode-var c.self.inside.order c.branch-self.new.self c.branch-self.result c.branch-self.ensures.node

pub returns-clause-meaning : goal.returns-clause-meaning
returns-clause-meaning c =
    let s = c.self.inside in
    let i = c.self.invariant in
    let e : s.nodes.variables ≡ c.args.self.now.variables = ap (λ (d : Diagram). d.variables) c.self.view_is in
    let r = c.requires in
    meaning_of_var s.order s.nodes c.branch-self.new.self c.args.i c.position.result c.branch-self.result i.ordered c.branch-self.ensures.reduced c.branch-self.ensures.extends (omega arith) c.position.ensures
    c.branch-self.ensures.node c.branch-self.ensures.meaning
