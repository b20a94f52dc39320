-- Lists in general: what std's lemmas leave out.
use Rattle.std.proofs.Common.{◌≡◌, ℕ, zero, suc, ◌+◌, ◌-◌, ◌<◌, ◌≤◌, Bool, true, false, not, cond, List, [], ◌∷◌, ◌++◌, map, reverse, length, take, drop, get_or, replicate, refl, ◌∙◌, ap, arith, length-drop, inl, inr, Option, Some, None}
use Rattle.std.specs.Option.{IfSome}
use Rattle.std.specs.List.{find, list_all, list_any, position, position_or_len, slice_split, onto_first, Contains}
use Rattle.std.specs.Prelude.{unwrap_or, nat_lt}
use Rattle.std.proofs.lemmas.Bool.{cases_lt}
use Rattle.std.proofs.lemmas.Bool.Decides.{nat_tests}
use Rattle.std.proofs.lemmas.List.{reverse-append, take_all}
use Rattle.std.proofs.lemmas.List.Folds.{list_all-append, list_any-append}
use Rattle.std.proofs.lemmas.List.Splits.{slice_split_first, length-slice_split}
use Rattle.std.proofs.lemmas.Option.{none-some}
use Rattle.hv_base.proofs.Booleans.{and_true, and_comm, or_false, or_comm}

------ cons and reverse

pub heads : {X : Type 0} (x y : X) (xs ys : List X) → x ∷ xs ≡ y ∷ ys → (x ≡ y) × (xs ≡ ys)
heads x y xs ys e = ((cc), (cc))

pub reverse-cons : {X : Type 0} (x : X) (xs : List X) → reverse (x ∷ xs) ≡ reverse xs ++ x ∷ []
reverse-cons x xs = reverse-append (x ∷ []) xs

------ map

pub length-map : {X Y : Type 0} (f : X → Y) (xs : List X) → length (map f xs) ≡ length xs
length-map f [] = refl
length-map f (x ∷ xs) = rw (length-map f xs) refl

------ list_any and list_all

pub list_any-map : {X Y : Type 0} (p : Y → Bool) (f : X → Y) (xs : List X)
    → list_any p (map f xs) ≡ list_any (λ x. p (f x)) xs
list_any-map p f [] = refl
list_any-map p f (x ∷ xs) = rw (list_any-map p f xs) refl

pub list_all-map : {X Y : Type 0} (p : Y → Bool) (f : X → Y) (xs : List X)
    → list_all p (map f xs) ≡ list_all (λ x. p (f x)) xs
list_all-map p f [] = refl
list_all-map p f (x ∷ xs) = rw (list_all-map p f xs) refl

pub list_any-reverse : {X : Type 0} (p : X → Bool) (xs : List X)
    → list_any p (reverse xs) ≡ list_any p xs
list_any-reverse p [] = refl
list_any-reverse p (x ∷ xs) =
    ap (list_any p) (reverse-cons x xs)
    ∙ list_any-append p (reverse xs) (x ∷ [])
    ∙ rw (list_any-reverse p xs, or_false) (or_comm (list_any p xs) (p x))

pub list_all-reverse : {X : Type 0} (p : X → Bool) (xs : List X)
    → list_all p (reverse xs) ≡ list_all p xs
list_all-reverse p [] = refl
list_all-reverse p (x ∷ xs) =
    ap (list_all p) (reverse-cons x xs)
    ∙ list_all-append p (reverse xs) (x ∷ [])
    ∙ rw (list_all-reverse p xs, and_true) (and_comm (list_all p xs) (p x))

------ find

pub find-passes : {X : Type 0} (p : X → Bool) (xs : List X) → IfSome (find p xs) (λ x. p x ≡ true)
find-passes p [] = tt
find-passes p (x ∷ xs) =
    elim (p x) as (λ b. p x ≡ b → IfSome (cond b (Some x) (find p xs)) (λ y. p y ≡ true)) [
      | true ↦ λ e. e
      | false ↦ λ e. find-passes p xs
    ] refl

------ position

pub position_or_len-map : {X Y : Type 0} (p : Y → Bool) (f : X → Y) (xs : List X)
    → position_or_len p (map f xs) ≡ position_or_len (λ x. p (f x)) xs
position_or_len-map p f [] = refl
position_or_len-map p f (x ∷ xs) = rw (position_or_len-map p f xs) refl

pub position-map : {X Y : Type 0} (p : Y → Bool) (f : X → Y) (xs : List X)
    → position p (map f xs) ≡ position (λ x. p (f x)) xs
position-map p f xs = rw (position_or_len-map p f xs, length-map f xs) refl

pub position_or_len-le : {X : Type 0} (p : X → Bool) (xs : List X)
    → position_or_len p xs ≤ length xs
position_or_len-le p [] = omega arith
position_or_len-le p (x ∷ xs) =
    elim (p x) as (λ b. cond (not b) (1 + position_or_len p xs) 0 ≤ length (x ∷ xs)) [
      | true ↦ omega arith
      | false ↦ omega (arith, position_or_len-le p xs)
    ]

after_miss : (b : Bool) (m n : ℕ) → m < n → cond (not b) (1 + m) 0 < suc n
after_miss true m n h = omega arith
after_miss false m n h = omega arith

pub position_or_len-lt : {X : Type 0} (p : X → Bool) (xs : List X) (k : ℕ) (d : X) → k < length xs
    → p (get_or xs k d) ≡ true → position_or_len p xs < length xs
position_or_len-lt p [] k d h e = absurd (omega arith)
position_or_len-lt p (x ∷ xs) zero d h e = let here : p x ≡ true = e in rw here (omega arith)
position_or_len-lt p (x ∷ xs) (suc k) d h e =
    after_miss (p x) _ _ (position_or_len-lt p xs k d (omega arith) e)

pub position-exists : {X : Type 0} (p : X → Bool) (xs : List X) (k : ℕ) (d : X) → k < length xs
    → p (get_or xs k d) ≡ true → (i : ℕ) × (position p xs ≡ Some i)
position-exists p xs k d h e =
    let lt : position_or_len p xs < length xs = position_or_len-lt p xs k d h e in
    (position_or_len p xs, grind (arith, nat_tests))

pub unwrap_or-position : {X : Type 0} (p : X → Bool) (xs : List X)
    → unwrap_or (position p xs) (length xs) ≡ position_or_len p xs
unwrap_or-position p xs =
    let le = position_or_len-le p xs in
    elim (cases_lt (position_or_len p xs) (length xs)) [
      | inl h ↦ let e : nat_lt (position_or_len p xs) (length xs) ≡ true = grind (arith, nat_tests)
          in rw e refl
      | inr h ↦ let e : nat_lt (position_or_len p xs) (length xs) ≡ false = grind (arith, nat_tests)
          in rw e (omega (arith, le))
    ]

------ slice_split: a list that is cut where a test passes

pub slice_split_front : (p : ℕ → Bool) (xs : List ℕ) → position_or_len p xs < length xs
    → slice_split p xs ≡ take (position_or_len p xs) xs ∷
    slice_split p (drop (position_or_len p xs + 1) xs)
slice_split_front p xs found = slice_split_first p xs 0 found

pub slice_split_whole : (p : ℕ → Bool) (xs : List ℕ) → length xs ≤ position_or_len p xs
    → slice_split p xs ≡ xs ∷ []
slice_split_whole p [] e = refl
slice_split_whole p (x ∷ xs) e =
    elim (p x) as (λ b. length (x ∷ xs) ≤ cond (not b) (1 + position_or_len p xs) 0
    → cond b ([] ∷ slice_split p xs) (onto_first x (slice_split p xs)) ≡ (x ∷ xs) ∷ []) [
      | true ↦ λ h. absurd (omega arith)
      | false ↦ λ h. let whole = slice_split_whole p xs (omega arith) in rw whole refl
    ] e

pub slice_split-some : (p : ℕ → Bool) (xs : List ℕ) → 0 < length (slice_split p xs)
slice_split-some p xs = omega (arith, length-slice_split p xs)

------ take and drop

pub take-rest : {X : Type 0} (n : ℕ) (xs : List X) → take (length xs - n) (drop n xs) ≡ drop n xs
take-rest n xs = take_all (length xs - n) (drop n xs) (omega (arith, length-drop n xs))

pub drop-past : {X : Type 0} (n : ℕ) (xs : List X) → length xs ≤ n → drop n xs ≡ []
drop-past zero [] h = refl
drop-past (suc n) [] h = refl
drop-past zero (x ∷ xs) h = absurd (omega arith)
drop-past (suc n) (x ∷ xs) h = drop-past n xs (omega arith)

------ elements

pub get_or-replicate_default : {X : Type 0} (n i : ℕ) (x : X) → get_or (replicate n x) i x ≡ x
get_or-replicate_default zero i x = refl
get_or-replicate_default (suc n) zero x = refl
get_or-replicate_default (suc n) (suc i) x = get_or-replicate_default n i x

pub Contains-single : {X : Type 0} (x y : X) → Contains (x ∷ []) y → x ≡ y
Contains-single x y (zero, h, e) = e
Contains-single x y (suc k, h, e) = absurd (omega arith)

pub cond_value : {X : Type 0} (b : Bool) (o : Option X) (x : X) → cond b o None ≡ Some x
    → (b ≡ true) × (o ≡ Some x)
cond_value true o x e = (refl, e)
cond_value false o x e = absurd (none-some x e)
