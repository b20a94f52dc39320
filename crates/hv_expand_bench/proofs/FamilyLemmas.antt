-- A family stays one: at the start, where its store grows, and where a macro is defined.
use Rattle.std.specs.Prelude.{ℕ, ◌≡◌, ◌+◌, ◌<◌, ◌&&◌, ◌++◌, Bool, true, false, List, [], ◌∷◌, if◌then◌else◌, codes}
use Rattle.std.specs.Str.{bytes_eq}
use Rattle.std.proofs.Common.{sym, ap, subst, ◌∙◌, arith}
use Rattle.hv_base.specs.declared.place.Place.{Place}
use Rattle.hv_cond.specs.Diagram.{Diagram, Keeps, holds, value_of}
use Rattle.hv_cond.specs.declared.conditions.Cond.{Cond}
use Rattle.hv_macros.specs.Laws.{HasOneBody-kept, IsTableOf-kept, meaning_in-kept}
use Rattle.hv_macros.specs.Table.{HasOneBody, IsFreeFor, IsTableOf, SetsNothing, SetsUnder, meaning_in}
use Rattle.hv_macros.specs.declared.tables.MacroTable.{MacroTable}
use Rattle.hv_model.specs.Beginning.{beginning, option_file, options_from, place_in, predefined}
use Rattle.hv_toks.specs.Macro.{Macro, defined, undefined}
use Rattle.hv_toks.specs.MacroState.{entries_of, meaning_after, meaning_of, number_macro}
use Rattle.hv_toks.specs.declared.macros.Body.{Body}
use Rattle.hv_expand_bench.specs.Families.{AllBefore, IsFamily}
use Rattle.hv_expand_bench.specs.declared.family.Family.{Family}

------ the macros that a unit begins with have no place in file 0

-- a meaning is no definition in file 0
abbrev IsElsewhere : Macro → Type 0
IsElsewhere m = (place : Place) (body : Body) → m ≡ defined place body → place.file ≡ 0 → ⊥

-- none of these definitions is in file 0
abbrev AreElsewhere : List (List ℕ × List ℕ × Place) → Type 0
AreElsewhere [] = Unit {0}
AreElsewhere (d ∷ ds) = (d.2.file ≡ 0 → ⊥) × AreElsewhere ds

elsewhere-append : (xs ys : List (List ℕ × List ℕ × Place)) → AreElsewhere xs → AreElsewhere ys
    → AreElsewhere (xs ++ ys)
elsewhere-append [] ys p q = q
elsewhere-append (x ∷ xs) ys p q = (p.0, elsewhere-append xs ys p.1 q)

options_elsewhere : (i : ℕ) (names : List (List ℕ)) (values : List Bool)
    → AreElsewhere (options_from i names values)
options_elsewhere i [] values = tt
options_elsewhere i (x ∷ names) values =
    elsewhere-append
    (if value_of values i then (x, codes "1", place_in option_file i) ∷ [] else [])
    (options_from (i + 1) names values) (one (value_of values i))
    (options_elsewhere (i + 1) names values)
  where
    one : (b : Bool)
        → AreElsewhere (if b then (x, codes "1", place_in option_file i) ∷ [] else [])
    one true = ((λ e. omega (arith, e)), tt)
    one false = tt

beginning_elsewhere : (names : List (List ℕ)) (values : List Bool)
    → AreElsewhere (beginning names values)
beginning_elsewhere names values =
    elsewhere-append (options_from 0 names values) predefined (options_elsewhere 0 names values)
    ((λ e. omega (arith, e)), ((λ e. omega (arith, e)), ((λ e. omega (arith, e)), tt)))

after_elsewhere : (before : Macro) (ds : List (List ℕ × List ℕ × Place)) (name : List ℕ)
    → IsElsewhere before → AreElsewhere ds → IsElsewhere (meaning_after before (entries_of ds) name)
after_elsewhere before [] name h all = h
after_elsewhere before (d ∷ ds) name h all =
    after_elsewhere (if bytes_eq d.0 name then number_macro d.1 d.2 else before) ds name
    (here (bytes_eq d.0 name)) all.1
  where
    same_place : (place : Place) (body : Body) → number_macro d.1 d.2 ≡ defined place body
        → d.2 ≡ place
    same_place place body e = cc

    here : (b : Bool) → IsElsewhere (if b then number_macro d.1 d.2 else before)
    here true place body e in_first =
        all.0 (ap (λ (p : Place). p.file) (same_place place body e) ∙ in_first)
    here false place body e in_first = h place body e in_first

undefined_elsewhere : IsElsewhere undefined
undefined_elsewhere place body e in_first = absurd (none e)
  where
    none : undefined ≡ defined place body → ⊥
    none is = cc

pub begins_before : (d : Diagram) (table : MacroTable) (names : List (List ℕ)) (next : ℕ)
    → ((values : List Bool) (name : List ℕ)
    → meaning_in d table values name ≡ meaning_of (entries_of (beginning names values)) name)
    → AllBefore d table next
unfolding AllBefore
begins_before d table names next begins = λ values name place body is in_first.
    absurd (after_elsewhere undefined (beginning names values) name undefined_elsewhere
    (beginning_elsewhere names values) place body (sym (begins values name) ∙ is) in_first)

------ what stays

AllBefore-same : (old new : Diagram) (before after : MacroTable) (next : ℕ)
    → SetsNothing old new before after → AllBefore old before next → AllBefore new after next
unfolding AllBefore
AllBefore-same old new before after next same all = λ values name place body is in_first.
    all values name place body (sym (same values name) ∙ is) in_first

-- where the store grows
pub family_grown : (family : Family) (new : Diagram) → IsFamily family → Keeps family.store new
    → IsFamily (record family { store = new })
family_grown family new f keeps =
    record {
      variables = keeps.variables ∙ f.variables;
      table = IsTableOf-kept keeps family.table f.table;
      one_body = HasOneBody-kept keeps family.table f.table f.one_body;
      before = AllBefore-same family.store new family.table family.table family.next
          (meaning_in-kept keeps family.table f.table) f.before;
    }

------ a definition

-- the next place is free
free_for : (d : Diagram) (table : MacroTable) (place : Place) (name : List ℕ) (body : Body)
    → place.file ≡ 0 → AllBefore d table place.offset → IsFreeFor d table place name body
unfolding AllBefore IsFreeFor
free_for d table place name body in_first all = λ values other second is.
    absurd (omega (arith, all values other place second is in_first))

-- once it is taken, all stand before the one after it
before_set : (old new : Diagram) (before after : MacroTable) (name : List ℕ) (cond : Cond)
    (place : Place) (body : Body)
    → SetsUnder old new before after name cond (defined place body)
    → AllBefore old before place.offset → AllBefore new after (place.offset + 1)
unfolding AllBefore
before_set old new before after name cond place body set all = λ values other found second is
    in_first. cases (bytes_eq name other && holds old cond values) values other found second
    (sym (set values other) ∙ is) in_first
  where
    same_place : (found : Place) (second : Body) → defined place body ≡ defined found second
        → place ≡ found
    same_place found second e = cc

    cases : (c : Bool) (values : List Bool) (other : List ℕ) (found : Place) (second : Body)
        → (if c then defined place body else meaning_in old before values other)
        ≡ defined found second → found.file ≡ 0 → found.offset < place.offset + 1
    cases true values other found second e in_first =
        let there : place.offset ≡ found.offset =
        ap (λ (p : Place). p.offset) (same_place found second e) in
        omega (arith, there)
    cases false values other found second e in_first =
        let earlier : found.offset < place.offset = all values other found second e in_first in
        omega (arith, earlier)

-- what `define` says of definitions of one place
abbrev KeepsOneBody : (grown new : Diagram) (table after : MacroTable) → Place → List ℕ → Body
    → Type 0
KeepsOneBody grown new table after place name body = HasOneBody grown table
    → IsFreeFor grown table place name body → HasOneBody new after

-- a macro is defined at the next place
pub family_defined : (family : Family) (grown new : Diagram) (after : MacroTable)
    (name : List ℕ) (cond : Cond) (place : Place) (body : Body) (next : ℕ)
    → IsFamily family → Keeps family.store grown → Keeps grown new → IsTableOf new after
    → KeepsOneBody grown new family.table after place name body
    → SetsUnder grown new family.table after name cond (defined place body)
    → place.file ≡ 0 → place.offset ≡ family.next → next ≡ place.offset + 1
    → IsFamily (record family { store = new; table = after; next = next })
family_defined family grown new after name cond place body next f first second table one_body set
    in_first here is =
    let g = family_grown family grown f first in
    let before = subst (AllBefore grown family.table) (sym here) g.before in
    record {
      variables = second.variables ∙ g.variables;
      table = table;
      one_body = one_body g.one_body (free_for grown family.table place name body in_first before);
      before = subst (AllBefore new after) (sym is)
          (before_set grown new family.table after name cond place body set before);
    }

-- memory runs out while it is defined
pub family_same : (family : Family) (grown new : Diagram) (after : MacroTable)
    (name : List ℕ) (place : Place) (body : Body)
    → IsFamily family → Keeps family.store grown → Keeps grown new → IsTableOf new after
    → KeepsOneBody grown new family.table after place name body
    → SetsNothing grown new family.table after → place.file ≡ 0 → place.offset ≡ family.next
    → IsFamily (record family { store = new; table = after })
family_same family grown new after name place body f first second table one_body same in_first
    here =
    let g = family_grown family grown f first in
    let before = subst (AllBefore grown family.table) (sym here) g.before in
    record {
      variables = second.variables ∙ g.variables;
      table = table;
      one_body = one_body g.one_body (free_for grown family.table place name body in_first before);
      before = AllBefore-same grown new family.table after family.next same g.before;
    }
