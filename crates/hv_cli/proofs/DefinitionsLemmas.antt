-- The definitions of option variables, one after the other.
use Rattle.std.proofs.Common.{◌≡◌, ℕ, zero, suc, ◌+◌, ◌<◌, Bool, false, List, [], ◌∷◌, ◌++◌, length, take, get_or, Some, sym, ◌∙◌, ap, arith, append_assoc, append-nil, add-one}
use Rattle.std.specs.Prelude.{slice_get}
use Rattle.std.proofs.lemmas.Option.{get_or_from_slice_get}
use Rattle.hv_cli.specs.Definitions.{definition_of, definitions_of}

definitions-more : (names : List (List ℕ)) (on : List Bool) (i : ℕ) → i < length names
    → i < length on
    → definitions_of (take (suc i) names) (take (suc i) on)
    ≡ definitions_of (take i names) (take i on) ++ definition_of (get_or names i []) (get_or on i false)
definitions-more [] on i h k = absurd (omega arith)
definitions-more (name ∷ names) [] i h k = absurd (omega arith)
definitions-more (name ∷ names) (v ∷ on) zero h k = append-nil (definition_of name v)
definitions-more (name ∷ names) (v ∷ on) (suc i) h k =
    ap (λ (text : List ℕ). definition_of name v ++ text)
    (definitions-more names on i (omega arith) (omega arith))
    ∙ sym (append_assoc (definition_of name v) (definitions_of (take i names) (take i on))
    (definition_of (get_or names i []) (get_or on i false)))

-- the definitions up to one option, and then its own
pub definitions-add : (names : List (List ℕ)) (on : List Bool) (i : ℕ) (name text now : List ℕ)
    (value : Bool)
    → text ≡ definitions_of (take i names) (take i on) → i < length names
    → length on ≡ length names → slice_get on i ≡ Some value → slice_get names i ≡ Some name
    → now ≡ text ++ definition_of name value
    → now ≡ definitions_of (take (i + 1) names) (take (i + 1) on)
definitions-add names on i name text now value before within same is_value is_name added =
    added
    ∙ ap (λ (front : List ℕ). front ++ definition_of name value) before
    ∙ ap (λ (n : List ℕ). definitions_of (take i names) (take i on) ++ definition_of n value)
    (sym (get_or_from_slice_get names i name [] is_name))
    ∙ ap (λ (v : Bool). definitions_of (take i names) (take i on)
    ++ definition_of (get_or names i []) v)
    (sym (get_or_from_slice_get on i value false is_value))
    ∙ sym (definitions-more names on i within (omega arith))
    ∙ ap (λ (k : ℕ). definitions_of (take k names) (take k on)) (sym (add-one i))
