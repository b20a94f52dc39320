use Rattle.std.proofs.Common.{◌≡◌, ◌∙◌, ℕ, [], Result, Ok, Err, IfOk}
use Rattle.std.specs.List.{range_with_len}
use Rattle.std.specs.declared.alloc.AllocError.{AllocError}
use Rattle.hv_cond.specs.Diagram.{Diagram}
use Rattle.hv_cond.specs.Order.{order_from}
use Rattle.hv_cond.proofs.OrderLemmas.{order_from-none}
use Rattle.hv_cond.proofs.stores.Store.new.Goals as goal

by_number : (vars : ℕ) (r : Result Diagram AllocError) → IfOk r (λ d. d.order ≡ order_from vars []) → IfOk r (λ d. d.order ≡ range_with_len 0 vars)
by_number vars (Ok d) e = e ∙ order_from-none vars
by_number vars (Err x) e = tt

pub returns-clause-order : goal.returns-clause-order
returns-clause-order c = by_number c.args.vars c.ordered.result c.ordered.ensures.order
