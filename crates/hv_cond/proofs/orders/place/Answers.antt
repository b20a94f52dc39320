use Rattle.std.proofs.Common.{◌≡◌, List, ℕ, false, true, get_or, set, length, sym, subst, arith, rules}
use Rattle.hv_cond.specs.working.Orders.{IsPlacing}
use Rattle.hv_cond.proofs.OrderLemmas.{IsPlacing-push}
use Rattle.hv_cond.proofs.orders.place.Goals as goal

pub returns-in_ok-push-clause-placing : goal.returns-in_ok-push-clause-placing
returns-in_ok-push-clause-placing c =
    let placed = c.args.placed.now.items in
    let free : get_or placed c.args.variable false ≡ false = search rules in
    subst (λ (xs : List ℕ). IsPlacing (length placed) xs (set placed c.args.variable true)) (sym c.in_ok-push.ensures.items)
    (IsPlacing-push (length placed) c.args.variables.now.items placed c.args.variable c.requires (omega arith) free)
