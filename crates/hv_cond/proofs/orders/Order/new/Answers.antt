use Rattle.std.proofs.Common.{◌≡◌, ℕ, List, get_or, length, ap, sym, subst, ◌∙◌, arith}
use Rattle.hv_cond.specs.Order.{order_from}
use Rattle.hv_cond.proofs.OrderLemmas.{IsOrder-made, IsPart, length-order_from, order_from-part}
use Rattle.hv_cond.proofs.orders.Order.new.Goals as goal

pub invert-requires-clause-all : goal.invert-requires-clause-all
invert-requires-clause-all c =
    ap length c.deref.ensures.value ∙ ap length c.in_ok-variables.ensures.order ∙ length-order_from c.args.vars c.args.first.now

pub invert-requires-clause-below : goal.invert-requires-clause-below
invert-requires-clause-below c =
    let is : c.deref.result.now ≡ order_from c.args.vars c.args.first.now = c.deref.ensures.value ∙ c.in_ok-variables.ensures.order in
    let part : IsPart c.args.vars c.deref.result.now = subst (IsPart c.args.vars) (sym is) (order_from-part c.args.vars c.args.first.now) in
    let len : length c.deref.result.now ≡ c.args.vars = ap length is ∙ length-order_from c.args.vars c.args.first.now in
    λ k l. part.below k 0 (omega arith)

pub invert-requires-clause-distinct : goal.invert-requires-clause-distinct
invert-requires-clause-distinct c =
    let is : c.deref.result.now ≡ order_from c.args.vars c.args.first.now = c.deref.ensures.value ∙ c.in_ok-variables.ensures.order in
    (subst (IsPart c.args.vars) (sym is) (order_from-part c.args.vars c.args.first.now)).distinct

pub returns-clause-order : goal.returns-clause-order
returns-clause-order c =
    IsOrder-made c.args.vars c.args.first.now _ c.in_ok-variables.ensures.order c.in_ok-positions.ensures.all
    (λ k l. ap (λ (xs : List ℕ). get_or c.in_ok-positions.positions.items (get_or xs k 0) 0) (sym c.deref.ensures.value) ∙ c.in_ok-positions.ensures.inverse k l)
