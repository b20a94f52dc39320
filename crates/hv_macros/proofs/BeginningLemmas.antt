-- The macros that a translation unit begins with, one by one.
use Rattle.std.proofs.Common.{◌≡◌, ◌≢◌, ◌==◌, ℕ, zero, suc, Bool, true, false, ◌&&◌, List, [], ◌∷◌, ◌++◌, refl, sym, subst, ◌∙◌, ap, ◌+◌, ◌<◌, length, take, get_or, arith, if◌then◌else◌}
use Rattle.std.specs.Prelude.{codes}
use Rattle.std.specs.Str.{bytes_eq}
use Rattle.std.proofs.lemmas.List.{take_more, append_assoc, append-nil, length-take, map-append}
use Rattle.hv_cond.specs.Diagram.{Diagram, Keeps, holds, value_of}
use Rattle.hv_cond.specs.declared.conditions.Cond.{Cond}
use Rattle.hv_cond.specs.Laws.{Keeps-refl, Keeps-trans}
use Rattle.hv_macros.specs.Alternatives.{AreAlternatives, MeansOther, NoneMeans, meaning_or}
use Rattle.hv_macros.specs.Laws.{IsTableOf-kept, meaning_in-kept}
use Rattle.hv_toks.specs.Laws.{meaning_after-append}
use Rattle.hv_toks.specs.Macro.{Macro, defined, macro_of, undefined}
use Rattle.hv_base.specs.declared.place.Place.{Place}
use Rattle.hv_model.specs.Beginning.{beginning, option_file, options_from, place_in, predefined}
use Rattle.hv_toks.specs.MacroState.{Entry, entries_of, entry_of, meaning_after, meaning_of, number_macro, number_token}
use Rattle.hv_macros.specs.Table.{HasOneBody, IsTableOf, SetsUnder, kept, meaning_in}
use Rattle.hv_macros.specs.declared.alternatives.Alternative.{Alternative}
use Rattle.hv_macros.specs.declared.tables.MacroTable.{MacroTable}
use Rattle.std.proofs.lemmas.List.Elements.{All-nil}
use Rattle.std.specs.Bool.{Decides}
use Rattle.std.proofs.lemmas.Slice.Eq.{bytes_eq-Decides}
use Rattle.hv_toks.specs.declared.macros.Body.{Body}
use Rattle.hv_toks.specs.declared.macros.Body.TheVariants.{Object}

options-append : (i : ℕ) (xs ys : List (List ℕ)) (values : List Bool)
    → options_from i (xs ++ ys) values ≡ options_from i xs values ++
    options_from (i + length xs) ys values
options-append i [] ys values = ap (λ n. options_from n ys values) (omega arith)
options-append i (x ∷ xs) ys values =
    let first : List (List ℕ × List ℕ × Place) =
    if value_of values i then (x, codes "1", place_in option_file i) ∷ [] else [] in
    let places : (i + 1) + length xs ≡ i + length (x ∷ xs) = omega arith in
    ap (λ es. first ++ es) (options-append (i + 1) xs ys values
    ∙ ap (λ n. options_from (i + 1) xs values ++ options_from n ys values) places)
    ∙ sym (append_assoc first (options_from (i + 1) xs values)
    (options_from (i + length (x ∷ xs)) ys values))

-- the first i options are being defined
pub record IsOpening (old now : Diagram) (before after : MacroTable) (names : List (List ℕ))
    (i : ℕ) : Type 0 where
  pub keeps : Keeps old now
  pub nodes : IsTableOf now after
  pub meaning : (values : List Bool) (other : List ℕ)
      → meaning_in now after values other
      ≡ meaning_after (meaning_in old before values other)
      (entries_of (options_from 0 (take i names) values)) other

pub opening_start : (store : Diagram) (table : MacroTable) (names : List (List ℕ))
    → IsTableOf store table → IsOpening store store table table names 0
opening_start store table names t =
    record { keeps = Keeps-refl store; nodes = t; meaning = λ values other. refl }

-- an entry under a condition that holds, or none
one_entry : (b : Bool) (before : Macro) (name other : List ℕ) (macro : Macro)
    → (if bytes_eq name other && b then macro else before)
    ≡ meaning_after before (if b then record { name = name; macro = macro } ∷ [] else []) other
one_entry true before name other macro = always (bytes_eq name other)
  where
    always : (c : Bool) → (if c && true then macro else before) ≡ (if c then macro else before)
    always true = refl
    always false = refl
one_entry false before name other macro = never (bytes_eq name other)
  where
    never : (c : Bool) → (if c && false then macro else before) ≡ before
    never true = refl
    never false = refl

options-more : (names : List (List ℕ)) (i : ℕ) (name : List ℕ) (values : List Bool) → i < length names
    → name ≡ get_or names i name
    → options_from 0 (take (i + 1) names) values ≡ options_from 0 (take i names) values ++
    (if value_of values i then (name, codes "1", place_in option_file i) ∷ [] else [])
options-more names i name values lt is =
    ap (λ xs. options_from 0 xs values) (take_more names i name lt)
    ∙ (options-append 0 (take i names) (get_or names i name ∷ []) values
    ∙ (ap (λ n. options_from 0 (take i names) values ++ options_from n (get_or names i name ∷ []) values)
    place
    ∙ (ap (λ x. options_from 0 (take i names) values ++ options_from i (x ∷ []) values) (sym is)
    ∙ ap (λ es. options_from 0 (take i names) values ++ es) (append-nil _))))
  where
    place : 0 + length (take i names) ≡ i
    place = omega (arith, length-take {A = List ℕ})

entries_if : (b : Bool) (d : List ℕ × List ℕ × Place)
    → entries_of (if b then d ∷ [] else []) ≡ (if b then entry_of d ∷ [] else [])
entries_if true d = refl
entries_if false d = refl

entries-more : (names : List (List ℕ)) (i : ℕ) (name : List ℕ) (values : List Bool) → i < length names
    → name ≡ get_or names i name
    → entries_of (options_from 0 (take (i + 1) names) values)
    ≡ entries_of (options_from 0 (take i names) values) ++
    (if value_of values i then record
    { name = name; macro = number_macro (codes "1") (place_in option_file i) } ∷ [] else [])
entries-more names i name values lt is =
    ap entries_of (options-more names i name values lt is)
    ∙ (map-append entry_of (options_from 0 (take i names) values) _
    ∙ ap (λ es. entries_of (options_from 0 (take i names) values) ++ es)
    (entries_if (value_of values i) (name, codes "1", place_in option_file i)))

pub opening_nodes : {old mid now : Diagram} {before table : MacroTable} {names : List (List ℕ)} {i : ℕ}
    → IsOpening old mid before table names i → Keeps mid now → IsTableOf now table
opening_nodes {table = table} o k = IsTableOf-kept k table o.nodes

pub opening_step : (old mid var now : Diagram) (before table after : MacroTable) (names : List (List ℕ))
    (i : ℕ) (name : List ℕ) (on : Cond) → IsOpening old mid before table names i → i < length names
    → name ≡ get_or names i name
    → Keeps mid var → Keeps var now → IsTableOf now after
    → ((values : List Bool) → holds var on values ≡ value_of values i)
    → SetsUnder var now table after name on (number_macro (codes "1") (place_in option_file i))
    → IsOpening old now before after names (i + 1)
opening_step old mid var now before table after names i name on o lt is k1 k2 t h d =
    record {
      keeps = Keeps-trans o.keeps (Keeps-trans k1 k2);
      nodes = t;
      meaning = λ values other.
          d values other
          ∙ (ap (λ (b : Bool). if bytes_eq name other &&
          b then number_macro (codes "1") (place_in option_file i) else meaning_in var table values
          other) (h values)
          ∙ (ap (λ (m : Macro). if bytes_eq name other &&
          value_of values i then number_macro (codes "1") (place_in option_file i) else m)
          (meaning_in-kept k1 table o.nodes values other ∙ o.meaning values other)
          ∙ (one_entry (value_of values i)
          (meaning_after (meaning_in old before values other)
          (entries_of (options_from 0 (take i names) values)) other) name other
          (number_macro (codes "1") (place_in option_file i))
          ∙ (sym (meaning_after-append (meaning_in old before values other)
          (entries_of (options_from 0 (take i names) values)) _ other)
          ∙ sym (ap (λ es. meaning_after (meaning_in old before values other) es other)
          (entries-more names i name values lt is))))));
    }

pub empty_nodes : (d : Diagram) (table : MacroTable) → ((name : List ℕ) → kept table name ≡ [])
    → IsTableOf d table
unfolding IsTableOf
empty_nodes d table e = λ name. subst (AreAlternatives d) (sym (e name)) none
  where
    none : AreAlternatives d []
    none =
        record {
          nodes = tt;
          none_false = tt;
          macros = All-nil (λ (x : Alternative). macro_of x.meaning ≢ undefined);
          distinct = λ i j d lt within. absurd (omega arith);
        }

pub begun : (old mid now : Diagram) (none options all : MacroTable) (names : List (List ℕ))
    → ((name : List ℕ) → kept none name ≡ [])
    → ((values : List Bool) (other : List ℕ)
    → meaning_in mid options values other
    ≡ meaning_after (meaning_in old none values other) (entries_of (options_from 0 names values))
    other)
    → ((values : List Bool) (other : List ℕ)
    → meaning_in now all values other
    ≡ meaning_after (meaning_in mid options values other) (entries_of predefined) other)
    → (values : List Bool) (name : List ℕ)
    → meaning_in now all values name ≡ meaning_of (entries_of (beginning names values)) name
unfolding meaning_in
begun old mid now none options all names e f g = λ values name.
    g values name
    ∙ (ap (λ (m : Macro). meaning_after m (entries_of predefined) name)
    (f values name ∙ ap (λ xs. meaning_after (meaning_or old values xs undefined)
    (entries_of (options_from 0 names values)) name) (e name))
    ∙ (sym (meaning_after-append undefined (entries_of (options_from 0 names values))
    (entries_of predefined) name)
    ∙ ap (λ es. meaning_after undefined es name)
    (sym (map-append entry_of (options_from 0 names values) predefined))))

------ definitions of one place

-- the name that a unit begins with a definition of at this place, and the spelling that stands for it
abbrev name_at : List (List ℕ) → Place → List ℕ
name_at names place =
    if place.file == option_file then get_or names place.offset []
    else (if place.offset == 0 then codes "__STDC__" else
    (if place.offset == 1 then codes "__STDC_HOSTED__" else codes "__STDC_VERSION__"))

abbrev text_at : Place → List ℕ
text_at place =
    if place.file == option_file then codes "1" else
    (if place.offset == 2 then codes "199901L" else codes "1")

-- each of these has the name and the spelling of its place
abbrev AreAtPlaces : List (List ℕ) → List (List ℕ × List ℕ × Place) → Type 0
AreAtPlaces names [] = Unit {0}
AreAtPlaces names (d ∷ ds) = ((d.0 ≡ name_at names d.2) × (d.1 ≡ text_at d.2)) × AreAtPlaces names ds

places-append : (names : List (List ℕ)) (xs ys : List (List ℕ × List ℕ × Place)) → AreAtPlaces names xs
    → AreAtPlaces names ys → AreAtPlaces names (xs ++ ys)
places-append names [] ys p q = q
places-append names (x ∷ xs) ys p q = (p.0, places-append names xs ys p.1 q)

options_at : (names : List (List ℕ)) (i : ℕ) (xs : List (List ℕ)) (values : List Bool)
    → ((j : ℕ) → get_or xs j [] ≡ get_or names (i + j) []) → AreAtPlaces names (options_from i xs values)
options_at names i [] values same = tt
options_at names i (x ∷ xs) values same =
    places-append names (if value_of values i then (x, codes "1", place_in option_file i) ∷ [] else [])
    (options_from (i + 1) xs values) (one (value_of values i))
    (options_at names (i + 1) xs values (λ j. same (suc j) ∙ ap (λ n. get_or names n []) (omega arith)))
  where
    one : (b : Bool) → AreAtPlaces names (if b then (x, codes "1", place_in option_file i) ∷ [] else [])
    one true = ((same 0 ∙ ap (λ n. get_or names n []) (omega arith), refl), tt)
    one false = tt

beginning_at : (names : List (List ℕ)) (values : List Bool) → AreAtPlaces names (beginning names values)
beginning_at names values =
    places-append names (options_from 0 names values) predefined
    (options_at names 0 names values (λ j. ap (λ n. get_or names n []) (omega arith)))
    ((refl, refl), ((refl, refl), ((refl, refl), tt)))

-- a macro is that of its place
abbrev IsAtPlace : List (List ℕ) → List ℕ → Macro → Type 0
IsAtPlace names name m = (place : Place) (body : Body) → m ≡ defined place body
    → (name ≡ name_at names place) × (body ≡ Object (number_token (text_at place) place ∷ []))

after_at : (names : List (List ℕ)) (before : Macro) (ds : List (List ℕ × List ℕ × Place)) (name : List ℕ)
    → IsAtPlace names name before → AreAtPlaces names ds
    → IsAtPlace names name (meaning_after before (entries_of ds) name)
after_at names before [] name h all = h
after_at names before (d ∷ ds) name h all =
    after_at names (if bytes_eq d.0 name then number_macro d.1 d.2 else before) ds name
    (here (bytes_eq d.0 name) (bytes_eq-Decides d.0 name)) all.1
  where
    same_place : (place : Place) (body : Body) → number_macro d.1 d.2 ≡ defined place body → d.2 ≡ place
    same_place place body e = cc

    same_body : (place : Place) (body : Body) → number_macro d.1 d.2 ≡ defined place body
        → Object (number_token d.1 d.2 ∷ []) ≡ body
    same_body place body e = cc

    here : (b : Bool) → Decides b (d.0 ≡ name)
        → IsAtPlace names name (if b then number_macro d.1 d.2 else before)
    here true same place body e = (
      sym (same.0 refl) ∙ (all.0.0 ∙ ap (name_at names) (same_place place body e)),
      sym (same_body place body e) ∙ (ap (λ t. Object (number_token t d.2 ∷ [])) all.0.1
          ∙ ap (λ p. Object (number_token (text_at p) p ∷ [])) (same_place place body e)),
    )
    here false same place body e = h place body e

pub begins_with_one_body : (d : Diagram) (table : MacroTable) (names : List (List ℕ))
    → ((values : List Bool) (name : List ℕ)
    → meaning_in d table values name ≡ meaning_of (entries_of (beginning names values)) name)
    → HasOneBody d table
unfolding HasOneBody
begins_with_one_body d table names begins =
    λ values others one other place body second is again.
    let first = at values one place body (sym (begins values one) ∙ is) in
    let last = at others other place second (sym (begins others other) ∙ again) in
    (first.0 ∙ sym last.0, first.1 ∙ sym last.1)
  where
    nothing : (name : List ℕ) (place : Place) (body : Body) → undefined ≡ defined place body
        → (name ≡ name_at names place) × (body ≡ Object (number_token (text_at place) place ∷ []))
    nothing name place body e = absurd (none place body e)
      where
        none : (place : Place) (body : Body) → undefined ≡ defined place body → ⊥
        none place body e = cc

    at : (values : List Bool) (name : List ℕ)
        → IsAtPlace names name (meaning_of (entries_of (beginning names values)) name)
    at values name =
        after_at names undefined (beginning names values) name (nothing name) (beginning_at names values)
