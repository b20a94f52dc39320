-- The values of one configuration, from a variable on.
use Rattle.std.proofs.Common.{◌≡◌, ◌&&◌, ◌+◌, ◌-◌, ◌≤◌, ℕ, zero, suc, ◌<◌, Some, add-one, Bool, true, false, List, [], ◌∷◌, length, drop, refl, ◌∙◌, ap, arith}
use Rattle.std.specs.Prelude.{slice_get}
use Rattle.std.proofs.lemmas.Option.{get_or_from_slice_get}
use Rattle.hv_cond.specs.Diagram.{value_of}
use Rattle.hv_variant.specs.working.Agreement.{agree, same}

-- two configurations agree from a variable on where they agree in it and after it
pub agree-step : (on values : List Bool) (i : ℕ) → i < length on → length values ≡ length on
    → agree (drop i on) (drop i values)
    ≡ same (value_of on i) (value_of values i) && agree (drop (suc i) on) (drop (suc i) values)
agree-step [] values i within all = absurd (omega (arith, within))
agree-step (a ∷ on) [] i within all = absurd (omega (arith, all))
agree-step (a ∷ on) (b ∷ values) zero within all = refl
agree-step (a ∷ on) (b ∷ values) (suc i) within all =
    agree-step on values i (omega (arith, within)) (omega (arith, all))

-- from the end on any two agree
pub agree-end : (on values : List Bool) → length values ≡ length on
    → agree (drop (length on) on) (drop (length on) values) ≡ true
agree-end [] [] all = refl
agree-end [] (b ∷ values) all = absurd (omega (arith, all))
agree-end (a ∷ on) [] all = absurd (omega (arith, all))
agree-end (a ∷ on) (b ∷ values) all = agree-end on values (omega (arith, all))

same-refl : (a : Bool) → same a a ≡ true
same-refl true = refl
same-refl false = refl

same-one : (a b : Bool) → same a b ≡ true → a ≡ b
same-one true true e = refl
same-one true false e = cc
same-one false true e = cc
same-one false false e = refl

-- a configuration agrees with itself
pub agree-refl : (on : List Bool) → agree on on ≡ true
agree-refl [] = refl
agree-refl (true ∷ on) = agree-refl on
agree-refl (false ∷ on) = agree-refl on

-- and with no other one
pub agree-one : (on values : List Bool) → agree on values ≡ true → on ≡ values
agree-one [] [] e = refl
agree-one [] (b ∷ values) e = cc
agree-one (a ∷ on) [] e = cc
agree-one (true ∷ on) (true ∷ values) e = ap (λ (bs : List Bool). true ∷ bs) (agree-one on values e)
agree-one (true ∷ on) (false ∷ values) e = cc
agree-one (false ∷ on) (true ∷ values) e = cc
agree-one (false ∷ on) (false ∷ values) e = ap (λ (bs : List Bool). false ∷ bs) (agree-one on values e)

-- the literal of a variable joined to those after it
pub literal_joins : (on values : List Bool) (i : ℕ) (b x y : Bool) → i < length on
    → length values ≡ length on → slice_get on i ≡ Some b → x ≡ same b (value_of values i)
    → y ≡ agree (drop (i + 1) on) (drop (i + 1) values)
    → x && y ≡ agree (drop i on) (drop i values)
literal_joins on values i b x y within all is e f =
    rw (e, f, add-one i, agree-step on values i within all, value_is on i b is) refl
  where
    value_is : (on : List Bool) (i : ℕ) (b : Bool) → slice_get on i ≡ Some b → value_of on i ≡ b
    value_is on i b is = get_or_from_slice_get on i b false is

-- the literal of the variable before one joined to those from that one on
pub literal_before : (on values : List Bool) (next : ℕ) (b x y : Bool) → 0 < next
    → next ≤ length on → length values ≡ length on → slice_get on (next - 1) ≡ Some b
    → x ≡ same b (value_of values (next - 1)) → y ≡ agree (drop next on) (drop next values)
    → x && y ≡ agree (drop (next - 1) on) (drop (next - 1) values)
literal_before on values next b x y some within all is e f =
    literal_joins on values (next - 1) b x y (omega (arith, some, within)) all is e
    (f ∙ ap (λ (k : ℕ). agree (drop k on) (drop k values)) (back next some))
  where
    back : (next : ℕ) → 0 < next → next ≡ next - 1 + 1
    back next some = omega (arith, some)
