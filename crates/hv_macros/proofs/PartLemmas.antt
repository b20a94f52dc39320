-- What the meanings of parts say of each part and of their conditions.
use Rattle.std.proofs.Common.{zero, suc, get_or, ◌≡◌, ◌≢◌, ℕ, Bool, true, false, cond, List, [], ◌∷◌, ◌++◌, refl, sym, ◌∙◌, ap, ◌+◌, ◌<◌, ◌≤◌, length, arith, zero-add, if◌then◌else◌}
use Rattle.std.proofs.lemmas.List.Elements.{All-cons, All-nil}
use Rattle.std.proofs.lemmas.List.Sums.{sum_by-cons}
use Rattle.std.specs.List.{All}
use Rattle.hv_cond.specs.Diagram.{AllNodes, Diagram, IsNode, Keeps, holds}
use Rattle.hv_cond.specs.declared.conditions.Cond.{Cond}
use Rattle.hv_cond.specs.Parts.{IsPartition, NoneFalse, count_satisfied}
use Rattle.hv_macros.specs.Alternatives.{conditions, meanings}
use Rattle.hv_toks.specs.Macro.{Macro, macro_of}
use Rattle.hv_macros.specs.declared.alternatives.Alternative.{Alternative}

-- an assignment has as many meanings as conditions that it satisfies
counted : (d : Diagram) (v : List Bool) (xs : List Alternative)
    → count_satisfied d (conditions xs) v ≡ length (meanings d v xs)
counted d v [] = refl
counted d v (x ∷ xs) =
    sum_by-cons (λ (c : Cond). cond (holds d c v) 1 0) x.cond (conditions xs)
    ∙ (ap (λ (n : ℕ). cond (holds d x.cond v) 1 0 + n) (counted d v xs)
    ∙ one (holds d x.cond v) (macro_of x.meaning) (meanings d v xs))
  where
    one : (b : Bool) (m : Macro) (ms : List Macro)
        → cond b 1 0 + length ms ≡ length ((if b then m ∷ [] else []) ++ ms)
    one true m ms = omega arith
    one false m ms = zero-add (length ms)

pub partition_parts : (old new : Diagram) (c : Cond) (means : List Bool → Macro)
    (parts : List Alternative) → Keeps old new → IsNode old c
    → AllNodes new (conditions parts) → NoneFalse new (conditions parts)
    → ((v : List Bool) → meanings new v parts ≡ (if holds old c v then means v ∷ [] else []))
    → IsPartition new c (conditions parts)
partition_parts old new c means parts keeps node nodes none h =
    record {
      nodes = nodes;
      none_false = none;
      one = λ v. counted new v parts
          ∙ (ap (λ (ms : List Macro). length ms) (h v)
          ∙ (one (holds old c v) (means v)
          ∙ ap (λ (b : Bool). cond b 1 0) (sym (keeps.meaning c node v))));
    }
  where
    one : (b : Bool) (m : Macro) → length (if b then m ∷ [] else []) ≡ cond b 1 0
    one true m = refl
    one false m = refl

-- each of these is this macro
abbrev AreAll : Macro → List Macro → Type 0
AreAll m [] = Unit {0}
AreAll m (x ∷ xs) = (x ≡ m) × AreAll m xs

own : (d : Diagram) (v : List Bool) (m : Macro) (xs : List Alternative) → AreAll m (meanings d v xs)
    → All (λ (a : Alternative). holds d a.cond v ≡ true → macro_of a.meaning ≡ m) xs
own d v m [] few = All-nil (λ (a : Alternative). holds d a.cond v ≡ true → macro_of a.meaning ≡ m)
own d v m (x ∷ xs) few =
    All-cons (λ (a : Alternative). holds d a.cond v ≡ true → macro_of a.meaning ≡ m) x xs
    (λ is. first (holds d x.cond v) (macro_of x.meaning) (meanings d v xs) is few)
    (own d v m xs (later (holds d x.cond v) (macro_of x.meaning) (meanings d v xs) few))
  where
    first : (b : Bool) (y : Macro) (ms : List Macro) → b ≡ true
        → AreAll m ((if b then y ∷ [] else []) ++ ms) → y ≡ m
    first true y ms is few = few.0
    first false y ms is few = cc

    later : (b : Bool) (y : Macro) (ms : List Macro) → AreAll m ((if b then y ∷ [] else []) ++ ms)
        → AreAll m ms
    later true y ms few = few.1
    later false y ms few = few

pub own_meanings : (old new : Diagram) (c : Cond) (means : List Bool → Macro) (parts : List Alternative)
    → ((v : List Bool) → meanings new v parts ≡ (if holds old c v then means v ∷ [] else []))
    → All (λ (part : Alternative). (v : List Bool) → holds new part.cond v ≡ true
    → macro_of part.meaning ≡ means v) parts
own_meanings old new c means parts h =
    λ k a lt v is. own new v (means v) parts
    (only (holds old c v) (means v) (meanings new v parts) (h v)) k a lt is
  where
    only : (b : Bool) (m : Macro) (ms : List Macro) → ms ≡ (if b then m ∷ [] else []) → AreAll m ms
    only true m ms e = rw e (refl, tt)
    only false m ms e = rw e tt
