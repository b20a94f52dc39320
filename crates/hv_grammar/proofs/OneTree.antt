-- Tokens have one tree: the machine is a function of them, and reads what they derive.
use Rattle.std.proofs.Common.{◌≡◌, Bool, false, List, [], ◌∷◌, map, refl, sym, ap, ◌∙◌, arith, Option, Some, None}
use Rattle.hv_ctree.specs.tree.Expressions.{Expr}
use Rattle.hv_grammar.specs.Symbols.{Token, Marked}
use Rattle.hv_grammar.specs.Expressions.{Reads}
use Rattle.hv_grammar.specs.machine.Frames.{State}
use Rattle.hv_grammar.specs.machine.Steps.{Taken, want, after_end, step, finished}
use Rattle.hv_grammar.specs.machine.Moves.{taken, taken_to_count, Moves, stays, takes}
use Rattle.hv_grammar.proofs.Arriving.{want_nothing}
use Rattle.hv_grammar.proofs.Completeness.{read_expression}

-- the machine has read the tokens up to the others, and may end with the tree
pub record Completes (ts us : List Marked) (a : Expr) : Type 0 where
  pub there : State
  pub moves : Moves (want []) false ts there false us
  pub ends : finished there ≡ Some a

-- what the grammar derives, the machine reads, with this tree
pub complete : {ts us : List Marked} {a : Expr} → Reads 0 0 ts us a → Completes ts us a
complete r = let h = read_expression r (want []) false [] want_nothing (omega arith) refl in
    record {
      there = _;
      moves = h.moves;
      ends =
          ap after_end (h.ended 0 (omega arith) (omega arith));
    }

-- where some tokens lead
abbrev run : State → List Token → Option State
run m [] = Some m
run m (t ∷ ts) = elim (step m t) [
  | None ↦ None
  | Some k ↦ run k.state ts
]

run_step : (m : State) (t : Token) (ts : List Token) (k : Taken) → step m t ≡ Some k
    → run m (t ∷ ts) ≡ run k.state ts
run_step m t ts k e = ap (λ o. next o) e where
  next : Option Taken → Option State
  next None = None
  next (Some k) = run k.state ts

ran : {m n : State} {x y : Bool} {ts us : List Marked} → Moves m x ts n y us
    → run m (map (λ t. t.token) ts) ≡ run n (map (λ t. t.token) us)
ran stays = refl
ran (takes {m = m} {t = t} {ts = ts} (taken b z e) g) =
    run_step m t.token (map (λ u. u.token) ts) _ e ∙ ran g
ran (takes {m = m} {t = t} {ts = ts} (taken_to_count r z e) g) =
    run_step m t.token (map (λ u. u.token) ts) _ e ∙ ran g

same_some : {A : Type 0} {a b : A} → Some a ≡ Some b → a ≡ b
same_some e = cc

pub one_tree : (ts us : List Marked) (a b : Expr) → map (λ t. t.token) ts ≡ map (λ t. t.token) us
    → Reads 0 0 ts [] a → Reads 0 0 us [] b → a ≡ b
one_tree ts us a b e r s = let g = complete r in let h = complete s in
    let same : g.there ≡ h.there =
    same_some (sym (ran g.moves) ∙ (ap (run (want [])) e ∙ ran h.moves)) in
    same_some (sym g.ends ∙ (ap finished same ∙ h.ends))
