use Rattle.std.proofs.Common.{true, false, sym, ◌∙◌}
use Rattle.hv_cond.specs.working.Nodes.{newest_first}
use Rattle.hv_cond.specs.working.Paths.{IsHopeless}
use Rattle.hv_cond.proofs.Branches.{holds_in-terminal}
use Rattle.hv_cond.proofs.Searching.{Agrees-trans, branch_found, hopeless_by_halves, hopeless-mark}
use Rattle.hv_cond.proofs.paths.+searching.Goals as goal

pub search-returns-in_default-clause-found : goal.search-returns-in_default-clause-found
search-returns-in_default-clause-found t c =
    λ h. holds_in-terminal (newest_first c.args.nodes.now) c.args.c _ c.in_default.ensures.terminal ∙ sym c.eq.ensures ∙ h

pub search-returns-in_default-clause-none : goal.search-returns-in_default-clause-none
search-returns-in_default-clause-none t c =
    λ h others agrees. holds_in-terminal (newest_first c.args.nodes.now) c.args.c _ c.in_default.ensures.terminal ∙ sym c.eq.ensures ∙ h

pub search-returns-then-search_half-clause-found : goal.search-returns-then-search_half-clause-found
search-returns-then-search_half-clause-found t c =
    λ h.
    branch_found c.args.order.now c.args.nodes.now.variables (newest_first c.args.nodes.now) c.args.c c.in-Some.decision c.requires.order c.in-Some.ensures.branch
    c.search_half.new.values false (c.search_half.ensures.value c.if-search_half.true) (c.search_half.ensures.found c.if-search_half.true)

pub search-returns-then-search_half-2-clause-found : goal.search-returns-then-search_half-2-clause-found
search-returns-then-search_half-2-clause-found t c =
    λ h.
    branch_found c.args.order.now c.args.nodes.now.variables (newest_first c.args.nodes.now) c.args.c c.in-Some.decision c.requires.order c.in-Some.ensures.branch
    c.search_half-2.new.values true (c.search_half-2.ensures.value c.if-search_half-2.true) (c.search_half-2.ensures.found c.if-search_half-2.true)

pub search-returns-clause-none : goal.search-returns-clause-none
search-returns-clause-none t c =
    λ h.
    hopeless_by_halves c.args.order.now c.args.nodes.now.variables (newest_first c.args.nodes.now) c.args.c c.in-Some.decision c.requires.order c.in-Some.ensures.branch
    c.args.fixed c.args.values.now c.search_half.new.values c.search_half.ensures.leaves.fixed_ones
    (c.search_half.ensures.none c.if-search_half.false) (c.search_half-2.ensures.none c.if-search_half-2.false)

pub search-returns-clause-hopeless : goal.search-returns-clause-hopeless
search-returns-clause-hopeless t c =
    let none : IsHopeless c.args.order.now.variables.items (newest_first c.args.nodes.now) c.args.fixed c.args.values.now c.args.c =
    hopeless_by_halves c.args.order.now c.args.nodes.now.variables (newest_first c.args.nodes.now) c.args.c c.in-Some.decision c.requires.order c.in-Some.ensures.branch
    c.args.fixed c.args.values.now c.search_half.new.values c.search_half.ensures.leaves.fixed_ones
    (c.search_half.ensures.none c.if-search_half.false) (c.search_half-2.ensures.none c.if-search_half-2.false) in
    hopeless-mark c.args.order.now.variables.items (newest_first c.args.nodes.now) c.args.fixed c.search_half-2.new.values c.search_half-2.new.hopeless c.args.c
    c.search_half-2.ensures.hopeless
    (λ others agrees.
    none others (Agrees-trans c.args.fixed others c.search_half-2.new.values c.args.values.now agrees
    (Agrees-trans c.args.fixed c.search_half-2.new.values c.search_half.new.values c.args.values.now c.search_half-2.ensures.leaves.fixed_ones c.search_half.ensures.leaves.fixed_ones)))
