-- The condition of each outcome is a node where those of all are.
use Rattle.std.proofs.Common.{ℕ, ◌≡◌, ◌<◌, List, [], ◌∷◌, length, get_or, zero, suc, sym, subst, arith}
use Rattle.hv_cond.specs.Diagram.{AllNodes, Diagram, IsNode}
use Rattle.hv_expand.specs.Outcomes.{conditions}
use Rattle.hv_expand.specs.declared.outcome.Outcome.{Outcome}

node_at : (d : Diagram) (xs : List Outcome) (k : ℕ) (o : Outcome)
    → AllNodes d (conditions xs) → k < length xs → IsNode d (get_or xs k o).cond
node_at d [] k o nodes within = absurd (omega arith)
node_at d (x ∷ xs) zero o nodes within = nodes.0
node_at d (x ∷ xs) (suc k) o nodes within = node_at d xs k o nodes.1 (omega arith)

pub node_of : (d : Diagram) (xs : List Outcome) (k : ℕ) (o : Outcome)
    → AllNodes d (conditions xs) → k < length xs → o ≡ get_or xs k o → IsNode d o.cond
node_of d xs k o nodes within is =
    subst (λ (x : Outcome). IsNode d x.cond) (sym is) (node_at d xs k o nodes within)
