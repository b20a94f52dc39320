-- How many pairs have no answer yet.
use Rattle.std.proofs.Common.{◌≡◌, ◌+◌, ◌*◌, ◌≤◌, ℕ, Bool, true, false, cond, List, [], ◌∷◌, length, Option, None, refl, ap, ◌∙◌, ⊎_elim, arith}
use Rattle.std.specs.Option.{is_some}
use Rattle.hv_cond.specs.declared.conditions.Cond.{Cond}
use Rattle.hv_cond.specs.working.Nodes.{Among}
use Rattle.hv_cond.specs.working.Connectives.{open_among, open_pairs}

-- the second has an answer where the first has one
abbrev pub Fills : (Cond → Option Cond) → (Cond → Option Cond) → Type 0
Fills f g = (y : Cond) → is_some (f y) ≡ true → is_some (g y) ≡ true

step : (p q : Bool) (m n : ℕ) → (p ≡ true → q ≡ true) → m ≤ n → cond q 0 1 + m ≤ cond p 0 1 + n
step true true m n h l = omega arith
step true false m n h l = absurd (let e : false ≡ true = h refl in cc)
step false true m n h l = omega arith
step false false m n h l = omega arith

pub open_among-fills : (f g : Cond → Option Cond) → Fills f g → (ys : List Cond) → open_among g ys ≤ open_among f ys
open_among-fills f g h [] = omega arith
open_among-fills f g h (y ∷ ys) = step (is_some (f y)) (is_some (g y)) (open_among g ys) (open_among f ys) (h y) (open_among-fills f g h ys)

here : (p q : Bool) (m n : ℕ) → p ≡ false → q ≡ true → m ≤ n → cond q 0 1 + m + 1 ≤ cond p 0 1 + n
here true q m n was now l = absurd (let e : true ≡ false = was in cc)
here false true m n was now l = omega arith
here false false m n was now l = absurd (let e : false ≡ true = now in cc)

there : (p q : Bool) (m n : ℕ) → (p ≡ true → q ≡ true) → m + 1 ≤ n → cond q 0 1 + m + 1 ≤ cond p 0 1 + n
there p q m n h l = let s = step p q m (n) h (omega arith) in let t = step p q (m + 1) n h l in omega arith

-- a new answer leaves one less open
pub open_among-answered : (f g : Cond → Option Cond) → Fills f g → (b : Cond) → f b ≡ None → is_some (g b) ≡ true → (ys : List Cond) → Among ys b → open_among g ys + 1 ≤ open_among f ys
open_among-answered f g h b was now [] among = absurd among
open_among-answered f g h b was now (y ∷ ys) among =
    ⊎_elim (λ (e : y ≡ b). here (is_some (f y)) (is_some (g y)) (open_among g ys) (open_among f ys) (ap (λ (x : Cond). is_some (f x)) e ∙ ap is_some was) (ap (λ (x : Cond). is_some (g x)) e ∙ now) (open_among-fills f g h ys))
    (λ (rest : Among ys b). there (is_some (f y)) (is_some (g y)) (open_among g ys) (open_among f ys) (h y) (open_among-answered f g h b was now ys rest)) among

pub open_pairs-fills : (f g : Cond → Cond → Option Cond) → ((x : Cond) → Fills (f x) (g x)) → (xs ys : List Cond) → open_pairs g xs ys ≤ open_pairs f xs ys
open_pairs-fills f g h [] ys = omega arith
open_pairs-fills f g h (x ∷ xs) ys = let row = open_among-fills (f x) (g x) (h x) ys in let rest = open_pairs-fills f g h xs ys in omega arith

pub open_pairs-answered : (f g : Cond → Cond → Option Cond) → ((x : Cond) → Fills (f x) (g x)) → (a b : Cond) → f a b ≡ None → is_some (g a b) ≡ true → (xs ys : List Cond) → Among xs a → Among ys b → open_pairs g xs ys + 1 ≤ open_pairs f xs ys
open_pairs-answered f g h a b was now [] ys first second = absurd first
open_pairs-answered f g h a b was now (x ∷ xs) ys first second =
    ⊎_elim (λ (e : x ≡ a).
    let row = open_among-answered (f x) (g x) (h x) b (ap (λ (z : Cond). f z b) e ∙ was) (ap (λ (z : Cond). is_some (g z b)) e ∙ now) ys second in
    let rest = open_pairs-fills f g h xs ys in omega arith)
    (λ (more : Among xs a). let row = open_among-fills (f x) (g x) (h x) ys in let rest = open_pairs-answered f g h a b was now xs ys more second in omega arith) first

-- at most all pairs are open
one : (p : Bool) → cond p 0 1 ≤ 1
one true = omega arith
one false = omega arith

pub open_among-le : (f : Cond → Option Cond) (ys : List Cond) → open_among f ys ≤ length ys
open_among-le f [] = omega arith
open_among-le f (y ∷ ys) = let rest = open_among-le f ys in let first = one (is_some (f y)) in omega arith

pub open_pairs-le : (f : Cond → Cond → Option Cond) (xs ys : List Cond) → open_pairs f xs ys ≤ length xs * length ys
open_pairs-le f [] ys = omega arith
open_pairs-le f (x ∷ xs) ys = let row = open_among-le (f x) ys in let rest = open_pairs-le f xs ys in omega arith
