-- Names that differ, and sets of them.
use Rattle.std.proofs.Common.{◌≡◌, ◌<◌, ◌∙◌, ℕ, suc, Bool, true, false, cond, ◌||◌, ◌&&◌, not, List, [], ◌∷◌, ◌++◌, Bor, refl, sym, ap, length, take, drop, get_or, drop-cons}
use Rattle.std.specs.HashSet.{HashSet, contains_by}
use Rattle.std.specs.List.{list_any}
use Rattle.std.specs.Str.{bytes_eq}
use Rattle.std.proofs.lemmas.List.{take-append-drop}
use Rattle.std.proofs.lemmas.List.Folds.{list_any-append}
use Rattle.std.proofs.lemmas.Slice.Eq.{bytes_eq-Decides}
use Rattle.hv_base.proofs.Booleans.{and_false, or_first, or_second, same_truth}
use Rattle.hv_base.specs.Ascii.{is_among}
use Rattle.hv_model.specs.Name.{are_distinct}

pub bytes_eq-comm : (xs ys : List ℕ) → bytes_eq xs ys ≡ bytes_eq ys xs
bytes_eq-comm xs ys =
    same_truth _ _ (λ h. (bytes_eq-Decides ys xs).1 (sym ((bytes_eq-Decides xs ys).0 h)))
    (λ h. (bytes_eq-Decides xs ys).1 (sym ((bytes_eq-Decides ys xs).0 h)))

is_among-has : (x name : List ℕ) (done rest : List (List ℕ)) → bytes_eq x name ≡ true
    → list_any (bytes_eq x) (done ++ name ∷ rest) ≡ true
is_among-has x name done rest e =
    list_any-append (bytes_eq x) done (name ∷ rest)
    ∙ or_second _ _ (or_first _ (list_any (bytes_eq x) rest) e)

-- a name that stands before itself
pub are_distinct-repeated : (name : List ℕ) (done rest : List (List ℕ))
    → is_among name done ≡ true → are_distinct (done ++ name ∷ rest) ≡ false
are_distinct-repeated name [] rest h = cc
are_distinct-repeated name (x ∷ done) rest h =
    elim (bytes_eq name x) as (λ b. bytes_eq name x ≡ b
    → (b || is_among name done) ≡ true → are_distinct (x ∷ done ++ name ∷ rest) ≡ false) [
      | true ↦ λ e f.
          ap (λ b. not b && are_distinct (done ++ name ∷ rest))
          (is_among-has x name done rest (bytes_eq-comm x name ∙ e))
      | false ↦ λ e f.
          ap (λ b. not (list_any (bytes_eq x) (done ++ name ∷ rest)) && b)
          (are_distinct-repeated name done rest f) ∙ and_false _
    ] refl h

-- a name that stands before this index too
pub are_distinct-seen : (names : List (List ℕ)) (i : ℕ) (name : List ℕ) → i < length names
    → name ≡ get_or names i name → is_among name (take i names) ≡ true
    → are_distinct names ≡ false
are_distinct-seen names i name h e found =
    let rest = drop-cons names i name h ∙ ap (λ x. x ∷ drop (suc i) names) (sym e) in
    let split = sym (take-append-drop i names) ∙ ap (λ ys. take i names ++ ys) rest in
    ap are_distinct split ∙ are_distinct-repeated name (take i names) (drop (suc i) names) found

------ sets

-- whether a set has the name
abbrev pub has : {S : Type 0} → HashSet (Bor (List ℕ)) S → List ℕ → Bool
has set name = contains_by (λ key. bytes_eq name key.now) set

added : (a b : Bool) → cond a true b ≡ (b || (a || false))
added true true = refl
added true false = refl
added false true = refl
added false false = refl

-- a set with one more name
pub has-insert : {S : Type 0} (set new : HashSet (Bor (List ℕ)) S) (key : Bor (List ℕ))
    (names : List (List ℕ)) → ((name : List ℕ) → has set name ≡ is_among name names)
    → ((q : Bor (List ℕ)) → has new q.now ≡ cond (bytes_eq key.now q.now) true (has set q.now))
    → (name : List ℕ) → has new name ≡ is_among name (names ++ key.now ∷ [])
has-insert set new key names members updates name =
    updates (record { ref_ptr = (0, 0); now = name })
    ∙ ap (λ b. cond (bytes_eq key.now name) true b) (members name)
    ∙ ap (λ b. cond b true (is_among name names)) (bytes_eq-comm key.now name)
    ∙ added (bytes_eq name key.now) (is_among name names)
    ∙ sym (list_any-append (bytes_eq name) names (key.now ∷ []))
