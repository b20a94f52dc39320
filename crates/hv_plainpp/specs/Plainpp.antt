-- Plain preprocessing: what a bundle comes to in one configuration, as tokens of C or the first
-- refusal.
use Rattle.std.specs.Prelude.{ℕ, ◌≡◌, Bool, List, Contains}
use Rattle.hv_base.specs.Bundles.{NamedFiles}
use Rattle.hv_base.specs.declared.place.Place.{Place}
use Rattle.hv_base.specs.declared.token.CTok.{CTok}
use Rattle.hv_ctoks.specs.declared.reserved.ReservedNames.{ReservedNames}
use Rattle.hv_model.specs.Beginning.{beginning}
use Rattle.hv_plain.specs.episode.Expansion.{Event}
use Rattle.hv_toks.specs.MacroState.{Entry, entries_of}
use Rattle.hv_plainpp.specs.CTokens.{Identity, ending_of}
use Rattle.hv_plainpp.specs.Preprocessing.{unit}
use Rattle.hv_plainpp.specs.Reading.{Met, Reading}

-- the translation unit that a reading is: its episodes, and its tokens of C or its first refusal
abbrev pub translated : {A : Type 0} → ReservedNames → Reading A → Reading (List (CTok × Identity))
translated reserved r = record { met = r.met; ending = ending_of reserved r }

-- the translation unit of a bundle that begins with this macro state
abbrev pub preprocessed : NamedFiles → List Entry → ReservedNames
    → Reading (List (CTok × Identity))
preprocessed bundle macros reserved = translated reserved (unit bundle macros)

-- plain preprocessing of a bundle where the options of these names have these values
abbrev pub plainpp : NamedFiles → (names : List (List ℕ)) → (values : List Bool) → ReservedNames
    → Reading (List (CTok × Identity))
plainpp bundle names values reserved =
    preprocessed bundle (entries_of (beginning names values)) reserved

-- an episode at this place is met, and has this expansion face
abbrev pub HasFace : {A : Type 0} → Reading A → Place → List Event → Type 0
HasFace r place face = (m : Met) × Contains r.met m × (m.place ≡ place) × (m.face ≡ face)
