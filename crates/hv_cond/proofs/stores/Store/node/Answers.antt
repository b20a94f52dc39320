use Rattle.std.proofs.Common.{◌∙◌, ap, get_or, sym, subst, arith}
use Rattle.hv_cond.specs.declared.conditions.Node.{Node}
use Rattle.hv_cond.specs.declared.conditions.Node.TheVariants.{Truth, Falsity, Branch}
use Rattle.hv_cond.specs.Diagram.{Describes, Diagram, IsChoice, IsNode, node}
use Rattle.hv_cond.specs.working.Orders.{seen}
use Rattle.hv_cond.proofs.Seen.{IsNode-in}
use Rattle.hv_cond.proofs.Sound.{branch_in_range, described_told, node_told}
use Rattle.hv_cond.proofs.stores.Store.node.Goals as goal

pub node-requires-clause-node : goal.node-requires-clause-node
node-requires-clause-node c =
    let s = c.self.inside in
    IsNode-in s.order s.nodes c.args.c (subst (λ (d : Diagram). IsNode d c.args.c) (sym c.self.view_is) c.requires)

pub variable-requires : goal.variable-requires
variable-requires c =
    let s = c.self.inside in
    let i = c.self.invariant in
    let l = IsNode-in s.order s.nodes c.args.c (subst (λ (d : Diagram). IsNode d c.args.c) (sym c.self.view_is) c.requires) in
    let below = branch_in_range s.nodes i.reduced c.args.c l c.in-Branch.var c.in-Branch.low c.in-Branch.high (sym c.node.ensures ∙ c.in-Branch.is) in
    let all = i.ordered.all in
    omega arith

pub returns-in-Branch-clause-node : goal.returns-in-Branch-clause-node
returns-in-Branch-clause-node c =
    let s = c.self.inside in
    let x : Node = Branch c.in-Branch.var c.in-Branch.low c.in-Branch.high in
    ap (λ k. Branch k c.in-Branch.low c.in-Branch.high) c.variable.ensures
    ∙ node_told s.order s.nodes c.args.c x (sym c.in-Branch.is ∙ c.node.ensures)
    ∙ ap (λ (d : Diagram). node d c.args.c) c.self.view_is

pub returns-in-Branch-clause-described : goal.returns-in-Branch-clause-described
returns-in-Branch-clause-described c =
    let s = c.self.inside in
    let i = c.self.invariant in
    let l = subst (λ (d : Diagram). IsNode d c.args.c) (sym c.self.view_is) c.requires in
    let x : Node = Branch c.in-Branch.var c.in-Branch.low c.in-Branch.high in
    let says : IsChoice (seen s.order s.nodes) c.args.c (get_or s.order.variables.items c.in-Branch.var 0) c.in-Branch.low c.in-Branch.high =
    described_told s.order s.nodes i.ordered i.reduced c.args.c l x (sym c.in-Branch.is ∙ c.node.ensures) in
    subst (λ (d : Diagram). IsChoice d c.args.c c.variable.result c.in-Branch.low c.in-Branch.high) c.self.view_is
    (subst (λ k. IsChoice (seen s.order s.nodes) c.args.c k c.in-Branch.low c.in-Branch.high) (sym c.variable.ensures) says)

pub returns-in-Truth : goal.returns-in-Truth
returns-in-Truth c =
    let s = c.self.inside in
    let i = c.self.invariant in
    let l = subst (λ (d : Diagram). IsNode d c.args.c) (sym c.self.view_is) c.requires in
    let is = sym c.in-Truth.is ∙ c.node.ensures in
    record {
      node = node_told s.order s.nodes c.args.c Truth is ∙ ap (λ (d : Diagram). node d c.args.c) c.self.view_is;
      described = subst (λ (d : Diagram). Describes d c.args.c Truth) c.self.view_is
          (described_told s.order s.nodes i.ordered i.reduced c.args.c l Truth is);
    }

pub returns-in-Falsity : goal.returns-in-Falsity
returns-in-Falsity c =
    let s = c.self.inside in
    let i = c.self.invariant in
    let l = subst (λ (d : Diagram). IsNode d c.args.c) (sym c.self.view_is) c.requires in
    let is = sym c.in-Falsity.is ∙ c.node.ensures in
    record {
      node = node_told s.order s.nodes c.args.c Falsity is ∙ ap (λ (d : Diagram). node d c.args.c) c.self.view_is;
      described = subst (λ (d : Diagram). Describes d c.args.c Falsity) c.self.view_is
          (described_told s.order s.nodes i.ordered i.reduced c.args.c l Falsity is);
    }
