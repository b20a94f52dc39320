-- Tables of macros, before and after a name is given other alternatives.
use Rattle.std.proofs.Common.{◌≡◌, ◌≢◌, ◌↔◌, ◌==◌, ℕ, Bool, true, false, ◌&&◌, List, [], ◌∷◌, refl, sym, ◌∙◌, ap, subst, if◌then◌else◌, IsTrue, length, arith}
use Rattle.std.specs.Map.{lookup}
use Rattle.std.specs.Prelude.{Option, Some, Result, Ok, Err, OnOk, OnErr, IfOk, unwrap_or}
use Rattle.std.specs.Bool.{Decides}
use Rattle.std.specs.List.{All}
use Rattle.std.specs.Str.{bytes_eq}
use Rattle.std.proofs.lemmas.Bool.{false_from_ne_true}
use Rattle.std.proofs.lemmas.Bool.Decides.{Decides-eqb}
use Rattle.std.proofs.lemmas.List.Elements.{All-head}
use Rattle.std.proofs.lemmas.Slice.Eq.{bytes_eq-Decides}
use Rattle.hv_cond.specs.Diagram.{AllNodes, Diagram, IsNever, IsNode, Keeps, holds}
use Rattle.hv_cond.specs.declared.conditions.Cond.{Cond}
use Rattle.hv_cond.specs.Parts.{IsPartition, NoneFalse}
use Rattle.hv_macros.specs.Alternatives.{AreAlternatives, conditions, meaning_or, meanings}
use Rattle.hv_macros.specs.Laws.{AreAlternatives-kept, HasOneBody-removed, HasOneBody-same, HasOneBody-set, meaning_in-same, meaning_or-kept}
use Rattle.hv_toks.specs.declared.macros.Body.{Body}
use Rattle.hv_toks.specs.Macro.{Macro, defined, macro_of, undefined}
use Rattle.hv_base.specs.declared.place.Place.{Place}
use Rattle.hv_macros.specs.Table.{HasOneBody, IsFreeFor, IsNoMacro, IsTableOf, SetsNothing, SetsUnder, kept, meaning_in}
use Rattle.hv_macros.specs.declared.alternatives.Alternative.{Alternative}
use Rattle.hv_macros.specs.declared.tables.MacroTable.{MacroTable}
use Rattle.indexmap.specs.IndexMap.{insert_entry}
use Rattle.hv_macros.proofs.KeyLemmas.{put_entry}
use Rattle.hv_macros.proofs.PartLemmas.{own_meanings, partition_parts}

pub alternatives_of : (d : Diagram) (table : MacroTable) (name : List ℕ) (xs : List Alternative)
    → IsTableOf d table → xs ≡ kept table name → AreAlternatives d xs
unfolding IsTableOf
alternatives_of d table name xs t e = subst (AreAlternatives d) (sym e) (t name)

pub always : {T E P : Type 0} (result : Result T E) → P → OnErr result P
always (Ok x) p = tt
always (Err x) p = p

------ set

pub set_nodes : {T E : Type 0} (result : Result T E) {old new : Diagram} → Keeps old new
    → (before after : MacroTable) (name : List ℕ) (xs : List Alternative) → IsTableOf old before
    → AreAlternatives new xs
    → OnOk result ((other : List ℕ) → kept after other
    ≡ (if bytes_eq name other then xs else kept before other))
    → OnErr result ((other : List ℕ) → kept after other ≡ kept before other) → IsTableOf new after
unfolding IsTableOf
set_nodes (Ok x) {old} {new} k before after name xs t n put same =
    λ other. subst (AreAlternatives new) (sym (put other)) (either (bytes_eq name other) other)
  where
    either : (b : Bool) (other : List ℕ) → AreAlternatives new (if b then xs else kept before other)
    either true other = n
    either false other = AreAlternatives-kept k (kept before other) (t other)
set_nodes (Err x) {old} {new} k before after name xs t n put same =
    λ other. subst (AreAlternatives new) (sym (same other))
    (AreAlternatives-kept k (kept before other) (t other))

pub unset_meaning : {T E : Type 0} (result : Result T E) {old new : Diagram} → Keeps old new
    → (before after : MacroTable) → IsTableOf old before
    → OnErr result ((other : List ℕ) → kept after other ≡ kept before other)
    → OnErr result (SetsNothing old new before after)
unset_meaning (Ok x) k before after t same = tt
unset_meaning (Err x) k before after t same = meaning_in-same k before after t same

pub set_meaning : {T E : Type 0} (result : Result T E) {old new : Diagram} → Keeps old new
    → (before after : MacroTable) (name : List ℕ) (cond : Cond) (macro : Macro)
    (found xs : List Alternative) → IsTableOf old before
    → found ≡ kept before name
    → ((values : List Bool) → meaning_or new values xs undefined
    ≡ (if holds old cond values then macro else meaning_or old values found undefined))
    → OnOk result ((other : List ℕ) → kept after other
    ≡ (if bytes_eq name other then xs else kept before other))
    → OnOk result (SetsUnder old new before after name cond macro)
unfolding IsTableOf meaning_in
set_meaning (Err x) k before after name cond macro found xs t e m put = tt
set_meaning (Ok x) {old} {new} k before after name cond macro found xs t e m put = λ values other.
    ap (λ ys. meaning_or new values ys undefined) (put other)
    ∙ either (bytes_eq name other) values other (bytes_eq-Decides name other)
  where
    same : (values : List Bool) (other : List ℕ) → name ≡ other
        → meaning_or new values xs undefined
        ≡ (if holds old cond values then macro else meaning_or old values (kept before other) undefined)
    same values other is = m values
        ∙ ap (λ ys. if holds old cond values then macro else meaning_or old values ys undefined)
        (e ∙ ap (kept before) is)

    either : (b : Bool) (values : List Bool) (other : List ℕ) → Decides b (name ≡ other)
        → meaning_or new values (if b then xs else kept before other) undefined
        ≡ (if b && holds old cond values then macro else meaning_or old values (kept before other)
        undefined)
    either true values other d = same values other (d.0 refl)
    either false values other d = meaning_or-kept k (kept before other) (t other).nodes values undefined

------ define and undef: definitions of one place

pub defined_one_body : {T E : Type 0} (result : Result T E) (old new : Diagram)
    (before after : MacroTable) (name : List ℕ) (cond : Cond) (place : Place) (body : Body)
    → OnOk result (SetsUnder old new before after name cond (defined place body))
    → OnErr result (SetsNothing old new before after)
    → HasOneBody old before → IsFreeFor old before place name body → HasOneBody new after
defined_one_body (Ok x) old new before after name cond place body set same h free =
    HasOneBody-set old new before after name cond place body set h free
defined_one_body (Err x) old new before after name cond place body set same h free =
    HasOneBody-same old new before after same h

pub removed_one_body : {T E : Type 0} (result : Result T E) (old new : Diagram)
    (before after : MacroTable) (name : List ℕ) (cond : Cond)
    → OnOk result (SetsUnder old new before after name cond undefined)
    → OnErr result (SetsNothing old new before after)
    → HasOneBody old before → HasOneBody new after
removed_one_body (Ok x) old new before after name cond set same h =
    HasOneBody-removed old new before after name cond set h
removed_one_body (Err x) old new before after name cond set same h =
    HasOneBody-same old new before after same h

------ alternatives

pub meanings_if : {E : Type 0} (result : Result (List Alternative) E) (old new : Diagram)
    (table : MacroTable) (name : List ℕ) (cond : Cond) (xs : List Alternative) → xs ≡ kept table name
    → IfOk result (λ parts. (values : List Bool) → meanings new values parts
    ≡ (if holds old cond values then meaning_or old values xs undefined ∷ [] else []))
    → IfOk result (λ parts. (values : List Bool) → meanings new values parts
    ≡ (if holds old cond values then meaning_in old table values name ∷ [] else []))
unfolding meaning_in
meanings_if (Ok parts) old new table name cond xs e h = λ values. h values
    ∙ ap (λ ys. if holds old cond values then meaning_or old values ys undefined ∷ [] else []) e
meanings_if (Err x) old new table name cond xs e h = tt

pub partition_if : {E : Type 0} (result : Result (List Alternative) E) (old new : Diagram) (cond : Cond)
    (means : List Bool → Macro) → Keeps old new → IsNode old cond
    → IfOk result (λ parts. AllNodes new (conditions parts))
    → IfOk result (λ parts. NoneFalse new (conditions parts))
    → IfOk result (λ parts. (values : List Bool) → meanings new values parts
    ≡ (if holds old cond values then means values ∷ [] else []))
    → IfOk result (λ parts. IsPartition new cond (conditions parts))
partition_if (Ok parts) old new cond means k node nodes none h =
    partition_parts old new cond means parts k node nodes none h
partition_if (Err x) old new cond means k node nodes none h = tt

pub meaning_if : {E : Type 0} (result : Result (List Alternative) E) (old new : Diagram) (cond : Cond)
    (means : List Bool → Macro)
    → IfOk result (λ parts. (values : List Bool) → meanings new values parts
    ≡ (if holds old cond values then means values ∷ [] else []))
    → IfOk result (λ parts. All
    (λ (part : Alternative). (values : List Bool) → holds new part.cond values ≡ true
    → macro_of part.meaning ≡ means values) parts)
meaning_if (Ok parts) old new cond means h = own_meanings old new cond means parts h
meaning_if (Err x) old new cond means h = tt

------ is_no_macro

pub empty_from : (xs : List Alternative) (b : Bool) → b ≡ (length xs == 0) → b ≡ true → xs ≡ []
empty_from [] b e is = refl
empty_from (x ∷ xs) b e is = let none : length (x ∷ xs) ≡ 0 =
    (Decides-eqb (length (x ∷ xs)) 0).0 (sym e ∙ is) in absurd (omega arith)

pub empty_to : (xs : List Alternative) (b : Bool) → b ≡ (length xs == 0) → xs ≡ [] → b ≡ true
empty_to [] b e is = e
empty_to (x ∷ xs) b e is = cc

pub nowhere_from : (d : Diagram) (table : MacroTable) (name : List ℕ) (xs : List Alternative)
    → xs ≡ kept table name → xs ≡ [] → (values : List Bool) → meaning_in d table values name ≡ undefined
unfolding meaning_in
nowhere_from d table name xs e none values = ap (λ ys. meaning_or d values ys undefined) (sym e ∙ none)

none_from : (d : Diagram) (xs : List Alternative) → AreAlternatives d xs
    → ((values : List Bool) → length values ≡ d.variables → meaning_or d values xs undefined ≡ undefined)
    → xs ≡ []
none_from d [] a h = refl
none_from d (x ∷ xs) a h =
    absurd (a.none_false.0 (λ values len. false_from_ne_true (holds d x.cond values)
    (λ is. some (holds d x.cond values) (meaning_or d values xs undefined) is (h values len))))
  where
    some : (b : Bool) (m : Macro) → b ≡ true → (if b then macro_of x.meaning else m) ≡ undefined → ⊥
    some true m is e = All-head (λ (y : Alternative). macro_of y.meaning ≢ undefined) x xs a.macros e
    some false m is e = cc

pub no_macro_exactly : (d : Diagram) (table : MacroTable) (name : List ℕ) (xs : List Alternative)
    → xs ≡ kept table name → IsTableOf d table → (xs ≡ []) ↔ IsNoMacro d table name
unfolding meaning_in
no_macro_exactly d table name xs e t = (
  λ none values len. nowhere_from d table name xs e none values,
  λ h. none_from d xs (alternatives_of d table name xs t e)
      (λ values len. ap (λ ys. meaning_or d values ys undefined) e ∙ h values len),
)

------ put

pub put_kept : {K X : Type 0} (items : K → List ℕ) (es : List (K × List X)) (key : K) (v : List X)
    (name other : List ℕ) → items key ≡ name
    → unwrap_or (lookup (λ k. bytes_eq other (items k))
    (insert_entry (λ x y. bytes_eq (items x) (items y)) es key v)) []
    ≡ (if bytes_eq name other then v else unwrap_or (lookup (λ k. bytes_eq other (items k)) es) [])
put_kept {K} {X} items es key v name other e =
    ap (λ (o : Option (List X)). unwrap_or o []) (put_entry items es key v other)
    ∙ (among (bytes_eq (items key) other)
    ∙ ap (λ ys. if bytes_eq ys other then v else unwrap_or (lookup (λ k. bytes_eq other (items k)) es)
    []) e)
  where
    among : (b : Bool) → unwrap_or (if b then Some v else lookup (λ k. bytes_eq other (items k)) es) []
        ≡ (if b then v else unwrap_or (lookup (λ k. bytes_eq other (items k)) es) [])
    among true = refl
    among false = refl
