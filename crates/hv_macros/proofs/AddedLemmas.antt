-- Adding an alternative to a list of them.
use Rattle.std.proofs.Common.{◌≡◌, ◌≢◌, ℕ, Bool, true, false, List, [], ◌∷◌, ◌++◌, refl, sym, ◌∙◌, ap, ◌+◌, ◌<◌, length, take, get_or, arith, subst, if◌then◌else◌}
use Rattle.std.proofs.lemmas.List.{take_more, append_assoc, append-nil, get_or-take, get_or_default, length-take}
use Rattle.std.proofs.lemmas.List.Elements.{All-push, All-take, All-get_or}
use Rattle.std.proofs.lemmas.List.Quantifiers.{all_pairs_push}
use Rattle.std.specs.List.{All, AllPairs}
use Rattle.std.specs.Prelude.{Result, Ok, Err, OnOk, IfOk}
use Rattle.hv_cond.specs.Diagram.{AllNodes, Diagram, IsNode, IsNever, Keeps, holds}
use Rattle.hv_cond.specs.declared.conditions.Cond.{Cond}
use Rattle.hv_cond.specs.Laws.{AllNodes-append, NoneFalse-append}
use Rattle.hv_cond.specs.Parts.{NoneFalse}
use Rattle.hv_macros.specs.Alternatives.{MeansOther, NoneMeans, conditions, meaning_or, meanings}
use Rattle.hv_macros.specs.Laws.{meaning_or-append, meanings-append, node_at}
use Rattle.hv_macros.specs.working.Added.{IsAdded}
use Rattle.hv_toks.specs.Macro.{Macro, macro_of}
use Rattle.hv_macros.specs.declared.alternatives.Alternative.{Alternative}
use Rattle.std.proofs.lemmas.List.{map-append}

conditions-push : (xs : List Alternative) (a : Alternative)
    → conditions (xs ++ a ∷ []) ≡ conditions xs ++ a.cond ∷ []
conditions-push xs a = map-append (λ (x : Alternative). x.cond) xs (a ∷ [])

nodes-push : (d : Diagram) (xs : List Alternative) (a : Alternative) → AllNodes d (conditions xs)
    → IsNode d a.cond → AllNodes d (conditions (xs ++ a ∷ []))
nodes-push d xs a nodes node =
    rw (conditions-push xs a) (AllNodes-append d (conditions xs) (a.cond ∷ []) nodes (node, tt))

none_false-push : (d : Diagram) (xs : List Alternative) (a : Alternative) → NoneFalse d (conditions xs)
    → (IsNever d a.cond → ⊥) → NoneFalse d (conditions (xs ++ a ∷ []))
none_false-push d xs a none some =
    rw (conditions-push xs a) (NoneFalse-append d (conditions xs) (a.cond ∷ []) none (some, tt))

distinct-push : (xs : List Alternative) (a : Alternative) → NoneMeans (macro_of a.meaning) xs
    → AllPairs MeansOther xs → AllPairs MeansOther (xs ++ a ∷ [])
distinct-push xs a none distinct = all_pairs_push MeansOther xs a distinct none

-- one more at the end
added : (d : Diagram) (old new : List Alternative) (a : Alternative) (macro : Macro)
    → new ≡ old ++ a ∷ [] → macro_of a.meaning ≡ macro
    → IsNode d a.cond → (IsNever d a.cond → ⊥) → IsAdded d old new a.cond macro
added d old new a macro e g node some =
    record {
      nodes = λ p. rw e (nodes-push d old a p node);
      none_false = λ p. rw e (none_false-push d old a p some);
      distinct =
          λ none distinct. rw e (distinct-push old a
          (subst (λ (m : Macro). NoneMeans m old) (sym g) none) distinct);
      only = λ other differ none. rw e
          (All-push (λ (x : Alternative). macro_of x.meaning ≢ other) old a none
          (λ same. differ (sym g ∙ same)));
      meaning = λ v m. ap (λ xs. meaning_or d v xs m) e
          ∙ (meaning_or-append d v old (a ∷ []) m
          ∙ ap (λ (x : Macro). meaning_or d v old (if holds d a.cond v then x else m)) g);
      meanings = λ v. ap (meanings d v) e
          ∙ (meanings-append d v old (a ∷ [])
          ∙ ap (λ xs. meanings d v old ++ xs)
          (append-nil _ ∙ ap (λ (x : Macro). if holds d a.cond v then x ∷ [] else []) g));
    }

-- nothing is added under a condition that never holds
pub skipped : (d : Diagram) (old : List Alternative) (cond : Cond) (macro : Macro)
    → ((v : List Bool) → holds d cond v ≡ false) → IsAdded d old old cond macro
skipped d old cond macro never =
    record {
      nodes = λ p. p;
      none_false = λ p. p;
      distinct = λ none distinct. distinct;
      only = λ other differ none. none;
      meaning = λ v m. sym (ap (λ (b : Bool). meaning_or d v old (if b then macro else m)) (never v));
      meanings =
          λ v. sym (ap (λ (b : Bool). meanings d v old ++ (if b then macro ∷ [] else [])) (never v)
          ∙ append-nil _);
    }

pub added_if : {T E : Type 0} (result : Result T E) (d : Diagram) (old new : List Alternative)
    (a : Alternative) (macro : Macro) → OnOk result (new ≡ old ++ a ∷ []) → macro_of a.meaning ≡ macro
    → IsNode d a.cond → (IsNever d a.cond → ⊥) → IfOk result (λ _. IsAdded d old new a.cond macro)
added_if (Ok x) d old new a macro e f node some = added d old new a macro e f node some
added_if (Err x) d old new a macro e f node some = tt

------ one alternative more

pub meaning_or-more : (d : Diagram) (v : List Bool) (xs : List Alternative) (k : ℕ) (a : Alternative)
    (m : Macro) → k < length xs → a ≡ get_or xs k a
    → meaning_or d v (take (k + 1) xs) m
    ≡ meaning_or d v (take k xs) (if holds d a.cond v then macro_of a.meaning else m)
meaning_or-more d v xs k a m lt is =
    ap (λ ys. meaning_or d v ys m) (take_more xs k a lt)
    ∙ (meaning_or-append d v (take k xs) (get_or xs k a ∷ []) m
    ∙ sym (ap (λ (x : Alternative). meaning_or d v (take k xs)
    (if holds d x.cond v then macro_of x.meaning else m)) is))

-- none of the earlier ones has the meaning of a later one
pub none-before : (xs : List Alternative) (k : ℕ) (a : Alternative) → AllPairs MeansOther xs
    → k < length xs → a ≡ get_or xs k a → NoneMeans (macro_of a.meaning) (take k xs)
none-before xs k a distinct lt is = λ i d within.
    let before : i < k = omega (arith, within, length-take k xs, lt) in
    let here = get_or-take k xs i d before in
    let there : get_or xs k d ≡ a = get_or_default xs k d a lt ∙ sym is in
    λ same. distinct i k d before lt
    (ap (λ (x : Alternative). macro_of x.meaning) (sym here)
    ∙ (same ∙ ap (λ (x : Alternative). macro_of x.meaning) (sym there)))

-- where none of the first k + 1 means something, none of the first k does
pub none-fewer : (p : Macro) (xs : List Alternative) (k : ℕ) → k < length xs
    → NoneMeans p (take (k + 1) xs) → NoneMeans p (take k xs)
none-fewer p xs k lt none = λ i d within.
    let before : i < k = omega (arith, within, length-take k xs, lt) in
    let small : i < k + 1 = omega arith in
    let inside : i < length (take (k + 1) xs) = omega (arith, length-take (k + 1) xs, lt, before) in
    λ same. none i d inside (ap (λ (x : Alternative). macro_of x.meaning)
    (get_or-take (k + 1) xs i d small ∙ sym (get_or-take k xs i d before)) ∙ same)

-- nor does the last of them
pub none-last : (p : Macro) (xs : List Alternative) (k : ℕ) (a : Alternative) → k < length xs
    → a ≡ get_or xs k a → NoneMeans p (take (k + 1) xs) → macro_of a.meaning ≢ p
none-last p xs k a lt is none = λ same.
    let small : k < k + 1 = omega arith in
    let inside : k < length (take (k + 1) xs) = omega (arith, length-take (k + 1) xs, lt) in
    none k a inside (ap (λ (x : Alternative). macro_of x.meaning)
    (get_or-take (k + 1) xs k a small ∙ sym is) ∙ same)

-- where none of the first k means something, and the next one neither
pub none-more : (p : Macro) (xs : List Alternative) (k : ℕ) (a : Alternative) → k < length xs
    → a ≡ get_or xs k a → NoneMeans p (take k xs) → macro_of a.meaning ≢ p
    → NoneMeans p (take (k + 1) xs)
none-more p xs k a lt is none differ =
    rw (take_more xs k a lt) (All-push (λ (x : Alternative). macro_of x.meaning ≢ p) (take k xs)
    (get_or xs k a) none (λ same. differ (ap (λ (x : Alternative). macro_of x.meaning) is ∙ same)))

-- the condition of an alternative that a loop is at
pub node-of : (d : Diagram) (xs : List Alternative) (k : ℕ) (a : Alternative)
    → AllNodes d (conditions xs) → k < length xs → a ≡ get_or xs k a → IsNode d a.cond
node-of d xs k a nodes lt is =
    subst (λ (x : Alternative). IsNode d x.cond) (sym is) (node_at d xs k a nodes lt)
