-- Laws of alternatives and tables, for proofs above: what stays where a store grows, and what
-- setting a name does to definitions of one place.
use Rattle.std.specs.Prelude.{◌≡◌, ◌∷◌, ◌++◌, ◌<◌, ◌&&◌, ◌⊎◌, ℕ, Bool, true, false, List, [], length, if◌then◌else◌, refl}
use Rattle.std.specs.Bool.{Decides}
use Rattle.std.specs.Str.{bytes_eq}
use Rattle.std.proofs.Common.{zero, suc, sym, ap, ◌∙◌, arith, get_or, inl, inr}
use Rattle.std.proofs.lemmas.List.{append_assoc}
use Rattle.std.proofs.lemmas.Slice.Eq.{bytes_eq-Decides}
use Rattle.hv_base.specs.declared.place.Place.{Place}
use Rattle.hv_cond.specs.Diagram.{AllNodes, Diagram, IsNode, Keeps, holds}
use Rattle.hv_cond.specs.declared.conditions.Cond.{Cond}
use Rattle.hv_cond.specs.Laws.{AllNodes-kept, NoneFalse-kept}
use Rattle.hv_toks.specs.declared.macros.Body.{Body}
use Rattle.hv_toks.specs.Macro.{Macro, defined, macro_of, undefined}
use Rattle.hv_macros.specs.Alternatives.{AreAlternatives, conditions, meaning_or, meanings}
use Rattle.hv_macros.specs.declared.alternatives.Alternative.{Alternative}
use Rattle.hv_macros.specs.declared.tables.MacroTable.{MacroTable}
use Rattle.hv_macros.specs.Table.{HasOneBody, IsFreeFor, IsNoMacro, IsTableOf, SetsNothing, SetsUnder, kept, meaning_in}

------ alternatives

-- alternatives after others count where none of those holds
pub meaning_or-append : (d : Diagram) (values : List Bool) (xs ys : List Alternative)
    (otherwise : Macro) → meaning_or d values (xs ++ ys) otherwise
    ≡ meaning_or d values xs (meaning_or d values ys otherwise)
meaning_or-append d values [] ys otherwise = refl
meaning_or-append d values (x ∷ xs) ys otherwise =
    ap (λ (m : Macro). if holds d x.cond values then macro_of x.meaning else m)
    (meaning_or-append d values xs ys otherwise)

-- of two lists all meanings are those of each
pub meanings-append : (d : Diagram) (values : List Bool) (xs ys : List Alternative)
    → meanings d values (xs ++ ys) ≡ meanings d values xs ++ meanings d values ys
meanings-append d values [] ys = refl
meanings-append d values (x ∷ xs) ys =
    let first : List Macro = if holds d x.cond values then macro_of x.meaning ∷ [] else [] in
    ap (λ (ms : List Macro). first ++ ms) (meanings-append d values xs ys)
    ∙ sym (append_assoc first (meanings d values xs) (meanings d values ys))

-- a store that grows keeps what alternatives mean
pub meaning_or-kept : {old new : Diagram} → Keeps old new → (xs : List Alternative)
    → AllNodes old (conditions xs) → (values : List Bool) (otherwise : Macro)
    → meaning_or new values xs otherwise ≡ meaning_or old values xs otherwise
meaning_or-kept keeps [] nodes values otherwise = refl
meaning_or-kept {old} {new} keeps (x ∷ xs) nodes values otherwise =
    ap (λ (b : Bool). if b then macro_of x.meaning else meaning_or new values xs otherwise)
    (keeps.meaning x.cond nodes.0 values)
    ∙ ap (λ (m : Macro). if holds old x.cond values then macro_of x.meaning else m)
    (meaning_or-kept keeps xs nodes.1 values otherwise)

-- and all meanings
pub meanings-kept : {old new : Diagram} → Keeps old new → (xs : List Alternative)
    → AllNodes old (conditions xs) → (values : List Bool)
    → meanings new values xs ≡ meanings old values xs
meanings-kept keeps [] nodes values = refl
meanings-kept {old} {new} keeps (x ∷ xs) nodes values =
    ap (λ (b : Bool). (if b then macro_of x.meaning ∷ [] else []) ++ meanings new values xs)
    (keeps.meaning x.cond nodes.0 values)
    ∙ ap (λ (ms : List Macro).
    (if holds old x.cond values then macro_of x.meaning ∷ [] else []) ++ ms)
    (meanings-kept keeps xs nodes.1 values)

-- and that they are alternatives
pub AreAlternatives-kept : {old new : Diagram} → Keeps old new → (xs : List Alternative)
    → AreAlternatives old xs → AreAlternatives new xs
AreAlternatives-kept keeps xs a =
    record {
      nodes = AllNodes-kept keeps (conditions xs) a.nodes;
      none_false = NoneFalse-kept keeps (conditions xs) a.nodes a.none_false;
      macros = a.macros;
      distinct = a.distinct;
    }

-- the condition of an alternative, by its index
pub node_at : (d : Diagram) (xs : List Alternative) (k : ℕ) (a : Alternative)
    → AllNodes d (conditions xs) → k < length xs → IsNode d (get_or xs k a).cond
node_at d [] k a nodes within = absurd (omega arith)
node_at d (x ∷ xs) zero a nodes within = nodes.0
node_at d (x ∷ xs) (suc k) a nodes within = node_at d xs k a nodes.1 (omega arith)

------ tables

-- a store that grows keeps a table a table
pub IsTableOf-kept : {old new : Diagram} → Keeps old new → (table : MacroTable)
    → IsTableOf old table → IsTableOf new table
unfolding IsTableOf
IsTableOf-kept keeps table t = λ name. AreAlternatives-kept keeps (kept table name) (t name)

-- a table that keeps the same of each name means the same
pub meaning_in-same : {old new : Diagram} → Keeps old new → (before after : MacroTable)
    → IsTableOf old before → ((name : List ℕ) → kept after name ≡ kept before name)
    → SetsNothing old new before after
unfolding IsTableOf meaning_in
meaning_in-same {old} {new} keeps before after t same = λ values name.
    ap (λ xs. meaning_or new values xs undefined) (same name)
    ∙ meaning_or-kept keeps (kept before name) (t name).nodes values undefined

-- a store that grows keeps what a table means
pub meaning_in-kept : {old new : Diagram} → Keeps old new → (table : MacroTable)
    → IsTableOf old table → SetsNothing old new table table
meaning_in-kept keeps table t = meaning_in-same keeps table table t (λ name. refl)

-- and which names are no macro
pub IsNoMacro-kept : {old new : Diagram} → Keeps old new → (table : MacroTable) (name : List ℕ)
    → IsTableOf old table → IsNoMacro old table name → IsNoMacro new table name
IsNoMacro-kept keeps table name t none = λ values len.
    meaning_in-kept keeps table t values name ∙ none values (len ∙ keeps.variables)

------ definitions of one place

-- where each name means what it meant, definitions of one place keep one body
pub HasOneBody-same : (old new : Diagram) (before after : MacroTable)
    → SetsNothing old new before after → HasOneBody old before → HasOneBody new after
unfolding HasOneBody
HasOneBody-same old new before after same h =
    λ values others name other place body second first again.
    h values others name other place body second
    (sym (same values name) ∙ first) (sym (same others other) ∙ again)

-- a store that grows keeps one body
pub HasOneBody-kept : {old new : Diagram} → Keeps old new → (table : MacroTable)
    → IsTableOf old table → HasOneBody old table → HasOneBody new table
HasOneBody-kept {old} {new} keeps table t =
    HasOneBody-same old new table table (meaning_in-kept keeps table t)

-- and a place free
pub IsFreeFor-kept : {old new : Diagram} → Keeps old new → (table : MacroTable) (place : Place)
    (name : List ℕ) (body : Body)
    → IsTableOf old table → IsFreeFor old table place name body
    → IsFreeFor new table place name body
unfolding IsFreeFor
IsFreeFor-kept keeps table place name body t free = λ values other second is.
    free values other second (sym (meaning_in-kept keeps table t values other) ∙ is)

-- what a name means once a name is set: for this name what was set, or what it meant
set_cases : (b h : Bool) (name other : List ℕ) (macro old now : Macro)
    → Decides b (name ≡ other) → now ≡ (if b && h then macro else old)
    → ((name ≡ other) × (now ≡ macro)) ⊎ (now ≡ old)
set_cases true true name other macro old now same e = inl (same.0 refl, e)
set_cases true false name other macro old now same e = inr e
set_cases false h name other macro old now same e = inr e

-- the same of a table
set_in : (old new : Diagram) (before after : MacroTable) (name : List ℕ) (cond : Cond)
    (macro : Macro) → SetsUnder old new before after name cond macro
    → (values : List Bool) (other : List ℕ) (m : Macro) → meaning_in new after values other ≡ m
    → ((name ≡ other) × (m ≡ macro)) ⊎ (meaning_in old before values other ≡ m)
set_in old new before after name cond macro set values other m is =
    turned (set_cases (bytes_eq name other) (holds old cond values) name other macro
    (meaning_in old before values other) m (bytes_eq-Decides name other)
    (sym is ∙ set values other))
  where
    turned : ((name ≡ other) × (m ≡ macro)) ⊎ (m ≡ meaning_in old before values other)
        → ((name ≡ other) × (m ≡ macro)) ⊎ (meaning_in old before values other ≡ m)
    turned (inl h) = inl h
    turned (inr h) = inr (sym h)

same_place : (place spot : Place) (body first : Body) → defined spot first ≡ defined place body
    → spot ≡ place
same_place place spot body first e = cc

same_body : (place spot : Place) (body first : Body) → defined spot first ≡ defined place body
    → first ≡ body
same_body place spot body first e = cc

-- a name that is set keeps one body, where nothing else is defined at its place
pub HasOneBody-set : (old new : Diagram) (before after : MacroTable) (name : List ℕ) (cond : Cond)
    (place : Place) (body : Body)
    → SetsUnder old new before after name cond (defined place body)
    → HasOneBody old before → IsFreeFor old before place name body → HasOneBody new after
unfolding HasOneBody IsFreeFor
HasOneBody-set old new before after name cond place body set h free =
    λ values others one other spot first second is again.
    cases values others one other spot first second
    (set_in old new before after name cond (defined place body) set values one
    (defined spot first) is)
    (set_in old new before after name cond (defined place body) set others other
    (defined spot second) again)
  where
    beside : (values : List Bool) (one other : List ℕ) (spot : Place) (first second : Body)
        → name ≡ one → defined spot first ≡ defined place body
        → meaning_in old before values other ≡ defined spot second
        → (one ≡ other) × (first ≡ second)
    beside values one other spot first second n e o =
        let there = free values other second
        (o ∙ ap (λ x. defined x second) (same_place place spot body first e)) in
        (sym n ∙ sym there.0, same_body place spot body first e ∙ sym there.1)

    cases : (values others : List Bool) (one other : List ℕ) (spot : Place) (first second : Body)
        → ((name ≡ one) × (defined spot first ≡ defined place body))
        ⊎ (meaning_in old before values one ≡ defined spot first)
        → ((name ≡ other) × (defined spot second ≡ defined place body))
        ⊎ (meaning_in old before others other ≡ defined spot second)
        → (one ≡ other) × (first ≡ second)
    cases values others one other spot first second (inl a) (inl b) = (
      sym a.0 ∙ b.0,
      same_body place spot body first a.1
          ∙ sym (same_body place spot body second b.1),
    )
    cases values others one other spot first second (inl a) (inr b) =
        beside others one other spot first second a.0 a.1 b
    cases values others one other spot first second (inr a) (inl b) =
        let both = beside values other one spot second first b.0 b.1 a in
        (sym both.0, sym both.1)
    cases values others one other spot first second (inr a) (inr b) =
        h values others one other spot first second a b

-- a removal keeps one body
pub HasOneBody-removed : (old new : Diagram) (before after : MacroTable) (name : List ℕ)
    (cond : Cond) → SetsUnder old new before after name cond undefined
    → HasOneBody old before → HasOneBody new after
unfolding HasOneBody
HasOneBody-removed old new before after name cond set h =
    λ values others one other spot first second is again.
    cases values others one other spot first second
    (set_in old new before after name cond undefined set values one (defined spot first) is)
    (set_in old new before after name cond undefined set others other (defined spot second) again)
  where
    none : (place : Place) (body : Body) → defined place body ≡ undefined → ⊥
    none place body e = cc

    cases : (values others : List Bool) (one other : List ℕ) (spot : Place) (first second : Body)
        → ((name ≡ one) × (defined spot first ≡ undefined))
        ⊎ (meaning_in old before values one ≡ defined spot first)
        → ((name ≡ other) × (defined spot second ≡ undefined))
        ⊎ (meaning_in old before others other ≡ defined spot second)
        → (one ≡ other) × (first ≡ second)
    cases values others one other spot first second (inl a) b = absurd (none spot first a.1)
    cases values others one other spot first second (inr a) (inl b) = absurd (none spot second b.1)
    cases values others one other spot first second (inr a) (inr b) =
        h values others one other spot first second a b
