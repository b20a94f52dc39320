-- The variables of options, and what is known of them while a program is read.
use Rattle.std.proofs.Common.{◌≡◌, ◌≢◌, ℕ, suc, zero, ◌<◌, ◌==◌, Bool, true, false, cond, not, List, [], ◌∷◌, ◌++◌, length, get_or, take, drop, set, replicate, codes, refl, sym, ap, subst, ◌∙◌, arith, Option, None, Some, ◌⊎◌, inl, inr}
use Rattle.std.specs.List.{position, Contains, slice_get}
use Rattle.std.specs.Str.{bytes_eq}
use Rattle.std.proofs.lemmas.Slice.Eq.{bytes_eq-Decides}
use Rattle.std.proofs.lemmas.List.{take-append-drop, get_or-set_same, get_or-set_other, get_or-map, length-map}
use Rattle.std.proofs.lemmas.List.Quantifiers.{position-Some}
use Rattle.std.proofs.lemmas.List.Elements.{Contains-append_left, Contains-append_right, Contains-append_cases}
use Rattle.std.proofs.lemmas.Option.{none-some, slice_get-get_or}
use Rattle.std.proofs.lemmas.Bool.Decides.{eqb_tells}
use Rattle.hv_base.proofs.Lists.{position-exists, cond_value, get_or-replicate_default, Contains-single}
use Rattle.hv_plain.specs.Run.{start, variable_of, variables_of}
use Rattle.hv_plain.specs.working.SmallReader.{option_number, at_option, known_value, unknown}

-- a variable that has a number is that option's
pub option_number-Some : (names : List (List ℕ)) (v : List ℕ) (i : ℕ)
    → option_number names v ≡ Some i → (i < length names) × (v ≡ variable_of (get_or names i []))
option_number-Some names v i e =
    let p =
    cond_value (bytes_eq (take 7 v) (codes "hv_opt_")) (position (bytes_eq (drop 7 v)) names) i
    e in
    let q = position-Some (bytes_eq (drop 7 v)) names i [] p.1 in
    let begins : take 7 v ≡ codes "hv_opt_" = (bytes_eq-Decides _ _).0 p.0 in
    let rest : drop 7 v ≡ get_or names i [] = (bytes_eq-Decides _ _).0 q.1 in (
      q.0,
      sym (take-append-drop 7 v) ∙ ap (λ (x : List ℕ). x ++ drop 7 v) begins
          ∙ ap (λ (x : List ℕ). codes "hv_opt_" ++ x) rest,
    )

-- two variables with one number are the same
pub option_number-same : (names : List (List ℕ)) (v w : List ℕ) (i : ℕ)
    → option_number names v ≡ Some i → option_number names w ≡ Some i → v ≡ w
option_number-same names v w i e f = (option_number-Some names v i e).1
    ∙ sym ((option_number-Some names w i f).1)

get_or-variables : (names : List (List ℕ)) (i : ℕ) (d : List ℕ) → i < length names
    → get_or (variables_of names) i d ≡ variable_of (get_or names i [])
get_or-variables names i d h = get_or-map variable_of names i [] d h

length-variables : (names : List (List ℕ)) → length (variables_of names) ≡ length names
length-variables names = length-map names variable_of

-- exactly the variables of the model's options have numbers
pub option_number-given : (names : List (List ℕ)) (v : List ℕ) → Contains (variables_of names) v
    → (i : ℕ) × (option_number names v ≡ Some i)
option_number-given names v g =
    let inside : g.0 < length names = omega (arith, g.1, length-variables names) in
    let name : List ℕ = get_or names g.0 [] in
    let same : variable_of name ≡ v = sym (get_or-variables names g.0 v inside) ∙ g.2 in
    let found : (i : ℕ) × (option_number names (variable_of name) ≡ Some i) =
    position-exists (bytes_eq name) names g.0 [] inside
    ((bytes_eq-Decides (get_or names g.0 []) (get_or names g.0 [])).1 refl) in
    let HasNumber : List ℕ → Type 0 = λ x. (i : ℕ) × (option_number names x ≡ Some i) in
    subst HasNumber same found

pub given-option_number : (names : List (List ℕ)) (v : List ℕ) (i : ℕ)
    → option_number names v ≡ Some i → Contains (variables_of names) v
given-option_number names v i e =
    let p = option_number-Some names v i e in
    (i, omega (arith, p.0, length-variables names), get_or-variables names i v p.0 ∙ sym p.1)

start-first : (names : List (List ℕ)) (values : List Bool) (name : List ℕ) (i : ℕ)
    → i < length names → length values ≡ length names → bytes_eq name (get_or names i []) ≡ true
    → ((k : ℕ) → k < i → bytes_eq name (get_or names k []) ≡ false)
    → start names values (variable_of name) ≡ cond (get_or values i false) 1 0
start-first [] values name i h l e f = absurd (omega arith)
start-first (option ∷ names) [] name i h l e f = absurd (omega arith)
start-first (option ∷ names) (value ∷ values) name zero h l e f = rw e refl
start-first (option ∷ names) (value ∷ values) name (suc i) h l e f =
    rw (f zero (omega arith)) (start-first names values name i (omega arith) (omega arith) e
    (λ k m. f (suc k) (omega arith)))

-- a variable's value at the start is its option's
pub start-option : (names : List (List ℕ)) (values : List Bool) (v : List ℕ) (i : ℕ)
    → option_number names v ≡ Some i → length values ≡ length names
    → start names values v ≡ cond (get_or values i false) 1 0
start-option names values v i e l =
    let p = option_number-Some names v i e in
    let name : List ℕ = get_or names i [] in
    let IsNumbered : List ℕ → Type 0 = λ x. option_number names x ≡ Some i in
    let at_name : option_number names (variable_of name) ≡ Some i = subst IsNumbered p.1 e in
    let q = position-Some (bytes_eq name) names i [] at_name in
    ap (start names values) p.1 ∙ start-first names values name i q.0 l q.1 q.2

-- whether a variable is true at the start
abbrev pub is_true : List (List ℕ) → List Bool → List ℕ → Bool
is_true names values v = not (start names values v == 0)

-- exactly the declared variables are known, with their values at the start
pub record Agrees (names : List (List ℕ)) (values : List Bool) (variables : List (List ℕ))
    (known : List (Option Bool)) : Type 0 where
  pub complete : (v : List ℕ) → Contains variables v
      → known_value names known v ≡ Some (is_true names values v)
  pub sound : (v : List ℕ) (value : Bool) → known_value names known v ≡ Some value
      → Contains variables v

at_option-unknown : (n : ℕ) (o : Option ℕ) → at_option (replicate n None) o ≡ None
at_option-unknown n None = refl
at_option-unknown n (Some i) = get_or-replicate_default n i None

pub Agrees-start : (names : List (List ℕ)) (values : List Bool)
    → Agrees names values [] (unknown names)
Agrees-start names values = record {
  complete = λ v h. absurd (omega (arith, h.1));
  sound =
      λ v value e. absurd (none-some value
      (sym (at_option-unknown (length names) (option_number names v)) ∙ e));
}

one_is_true : (b : Bool) → not (cond b 1 0 == 0) ≡ b
one_is_true true = refl
one_is_true false = refl

is_true-option : (names : List (List ℕ)) (values : List Bool) (v : List ℕ) (i : ℕ)
    → option_number names v ≡ Some i → length values ≡ length names
    → slice_get values i ≡ Some (is_true names values v)
is_true-option names values v i e l =
    let inside : i < length names = (option_number-Some names v i e).0 in
    slice_get-get_or values i false (omega arith)
    ∙ ap Some (sym (one_is_true (get_or values i false))
    ∙ ap (λ (n : ℕ). not (n == 0)) (sym (start-option names values v i e l)))

at_option-set_same : (known : List (Option Bool)) (i : ℕ) (x : Option Bool) (o : Option ℕ)
    → o ≡ Some i → i < length known → at_option (set known i x) o ≡ x
at_option-set_same known i x o e h = rw e (get_or-set_same known i x None h)

at_option-set_other : (known : List (Option Bool)) (i j : ℕ) (x : Option Bool) (o : Option ℕ)
    → o ≡ Some j → j ≢ i → at_option (set known i x) o ≡ at_option known o
at_option-set_other known i j x o e h = rw e (get_or-set_other known i j x None h)

set_keeps : (known : List (Option Bool)) (i : ℕ) (x : Option Bool) (o : Option ℕ) (value : Bool)
    → at_option known o ≡ Some value → (o ≡ Some i → x ≡ Some value) → i < length known
    → at_option (set known i x) o ≡ Some value
set_keeps known i x None value e f h = absurd (none-some value e)
set_keeps known i x (Some j) value e f h = elim (eqb_tells j i) [
  | inl t ↦ at_option-set_same known i x (Some j) (ap Some t.1) h ∙ f (ap Some t.1)
  | inr t ↦ at_option-set_other known i j x (Some j) refl t.1 ∙ e
]

set_gives : (known : List (Option Bool)) (i : ℕ) (x : Option Bool) (o : Option ℕ) (value : Bool)
    → at_option (set known i x) o ≡ Some value → (o ≡ Some i) ⊎ (at_option known o ≡ Some value)
set_gives known i x None value e = absurd (none-some value e)
set_gives known i x (Some j) value e = elim (eqb_tells j i) [
  | inl t ↦ inl (ap Some t.1)
  | inr t ↦ inr (sym (at_option-set_other known i j x (Some j) refl t.1) ∙ e)
]

pub Agrees-declare : (names : List (List ℕ)) (values : List Bool) (variables : List (List ℕ))
    (known : List (Option Bool)) (v : List ℕ) (i : ℕ) → option_number names v ≡ Some i
    → length values ≡ length names → length known ≡ length names
    → Agrees names values variables known
    → Agrees names values (variables ++ v ∷ []) (set known i (slice_get values i))
Agrees-declare names values variables known v i e l m a =
    let inside : i < length names = (option_number-Some names v i e).0 in
    record {
      complete = λ w h. elim (Contains-append_cases variables (v ∷ []) w h) [
        | inl g ↦ set_keeps known i (slice_get values i) (option_number names w)
            (is_true names values w) (a.complete w g)
            (λ number. is_true-option names values w i number l) (omega arith)
        | inr g ↦
            let IsKnown : List ℕ → Type 0 =
            λ x. known_value names (set known i (slice_get values i)) x
            ≡ Some (is_true names values x) in
            subst IsKnown (Contains-single v w g)
            (at_option-set_same known i (slice_get values i) (option_number names v) e (omega arith)
            ∙ is_true-option names values v i e l)
      ];
      sound =
          λ w value h. elim (set_gives known i (slice_get values i) (option_number names w) value
          h) [
            | inl number ↦ Contains-append_right variables (v ∷ []) w
                (0, omega arith, option_number-same names v w i e number)
            | inr before ↦ Contains-append_left variables (v ∷ []) w (a.sound w value before)
          ];
    }

-- a variable that is known has a number
pub known_value-number : (known : List (Option Bool)) (o : Option ℕ) (value : Bool)
    → at_option known o ≡ Some value → (i : ℕ) × (o ≡ Some i)
known_value-number known None value e = absurd (none-some value e)
known_value-number known (Some i) value e = (i, refl)

pub variable-is_no_bang : (names : List (List ℕ)) (v : List ℕ) (i : ℕ)
    → option_number names v ≡ Some i → bytes_eq v (codes "!") ≡ false
variable-is_no_bang names v i e = rw ((option_number-Some names v i e).1) refl
