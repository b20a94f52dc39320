-- How many are open, in a frame and around it.
use Rattle.std.proofs.Common.{◌≡◌, ℕ, zero, suc, ◌+◌, ◌-◌, ◌<◌, true, false, cond, List, [], ◌∷◌, length, get_or, take, reverse, arith, refl, sym, ap, ◌∙◌}
use Rattle.std.proofs.Math.Seq.{take-suc}
use Rattle.std.proofs.lemmas.List.{take_all, length-reverse, reverse-append, reverse-reverse}
use Rattle.hv_grammar.specs.Expressions.{braced}
use Rattle.hv_cparse.specs.declared.frame.Frame.{Frame}
use Rattle.hv_cparse.specs.declared.frame.Frame.TheVariants.{Listing, Group, Length, Parameters}
use Rattle.hv_cparse.specs.working.Tables.{many, weigh, around, depth, is_type, types, types_around}

pub many_sum : (n d : ℕ) → d + n ≡ many n d
many_sum zero d = omega arith
many_sum (suc n) d = let e = many_sum n d in omega arith

braced_less : (d : ℕ) → braced d - 1 ≡ d
braced_less zero = refl
braced_less (suc d) = omega arith

many_less : (n d : ℕ) → suc (many n d) - 1 - n ≡ d
many_less n d = let e = many_sum n d in omega arith

-- what a frame adds is taken off again
pub around_weigh : (f : Frame) (d : ℕ) → around f (weigh f d) ≡ d
around_weigh (Listing b) d = braced_less d
around_weigh (Group m n) d = many_less n d
around_weigh (Length m n) d = many_less n d
around_weigh (Parameters m n) d = many_less n d
around_weigh _ d = omega arith

types_less : (f : Frame) (n : ℕ) → types_around f (cond (is_type f) (suc n) n) ≡ n
types_less f n =
    elim (is_type f) as (λ b. cond b (cond b (suc n) n - 1) (cond b (suc n) n) ≡ n) [
      | true ↦ omega arith
      | false ↦ refl
    ]

-- what is left once the innermost frame is taken off
pub popped : (f : Frame) (old new : List Frame) (d : ℕ) → old ≡ f ∷ new → d ≡ depth old
    → around f d ≡ depth new
popped f old new d e h =
    ap (around f) (h ∙ ap depth e) ∙ around_weigh f (depth new)

pub popped_types : (f : Frame) (old new : List Frame) (n : ℕ) → old ≡ f ∷ new → n ≡ types old
    → types_around f n ≡ types new
popped_types f old new n e h =
    ap (types_around f) (h ∙ ap types e) ∙ types_less f (types new)

------ copies

pub copied : (xs : List Frame) (i : ℕ) (d : Frame) → i < length xs
    → get_or xs i d ∷ reverse (take i xs) ≡ reverse (take (i + 1) xs)
copied xs i d h =
    let one : i + 1 ≡ suc i = omega arith in
    sym (ap (λ (n : ℕ). reverse (take n xs)) one ∙ (ap reverse (take-suc xs i d h)
    ∙ reverse-append (take i xs) (get_or xs i d ∷ [])))

pub copied_all : (xs : List Frame) → reverse (take (length xs) (reverse xs)) ≡ xs
copied_all xs =
    ap reverse (take_all (length xs) (reverse xs) (omega (arith, length-reverse xs)))
    ∙ reverse-reverse xs
