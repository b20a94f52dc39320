-- By which numbers the entry of a place and a cause is found.
use Rattle.std.specs.Prelude.{◌≡◌, ℕ, List, [], ◌∷◌, Bool, false, Option, Some, None}
use Rattle.hv_base.specs.Why.{number_of}
use Rattle.hv_base.specs.declared.place.Place.{Place}
use Rattle.hv_base.specs.declared.why.Why.{Why}
use Rattle.hv_cond.specs.Diagram.{Diagram, holds}
use Rattle.hv_toks.specs.declared.parted.Failing.{Failing}

-- the numbers that stand for a place and a cause
abbrev pub key_of : Place → Why → List ℕ
key_of place why = number_of why ∷ place.file ∷ place.offset ∷ place.stack

-- each entry stands under the numbers of its place and cause
abbrev pub AreKeyed : {K : Type 0} → (K → List ℕ) → List (K × Failing) → Type 0
AreKeyed numbers [] = Unit {0}
AreKeyed numbers (e ∷ entries) =
    (numbers e.0 ≡ key_of e.1.place e.1.why) × AreKeyed numbers entries

-- whether an entry that may have been found holds
abbrev pub found_holds : Diagram → Option Failing → List Bool → Bool
found_holds diagram None values = false
found_holds diagram (Some f) values = holds diagram f.cond values
