use Rattle.std.proofs.Common.{◌∙◌, ap, sym, subst}
use Rattle.hv_cond.specs.Diagram.{Diagram, IsNode, holds}
use Rattle.hv_cond.proofs.Seen.{IsNode-in, holds-seen}
use Rattle.hv_cond.proofs.stores.Store.eval.Goals as goal

pub eval-requires-clause-node : goal.eval-requires-clause-node
eval-requires-clause-node c =
    let s = c.self.inside in
    IsNode-in s.order s.nodes c.args.c (subst (λ (d : Diagram). IsNode d c.args.c) (sym c.self.view_is) c.requires.node)

pub returns : goal.returns
returns c =
    let s = c.self.inside in
    let i = c.self.invariant in
    let l = IsNode-in s.order s.nodes c.args.c (subst (λ (d : Diagram). IsNode d c.args.c) (sym c.self.view_is) c.requires.node) in
    c.eval.ensures ∙ sym (holds-seen s.order s.nodes i.ordered i.reduced c.args.c l c.args.values.now)
    ∙ ap (λ (d : Diagram). holds d c.args.c c.args.values.now) c.self.view_is
