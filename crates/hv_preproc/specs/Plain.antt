-- Plain preprocessing of a bundle by the values of the options, with and without the joining of
-- adjacent string literals.
use Rattle.std.specs.Prelude.{ℕ, Bool, List}
use Rattle.hv_base.specs.Bundles.{NamedFiles}
use Rattle.hv_base.specs.declared.token.CTok.{CTok}
use Rattle.hv_ctoks.specs.declared.reserved.ReservedNames.{ReservedNames}
use Rattle.hv_model.specs.Beginning.{beginning}
use Rattle.hv_plainpp.specs.CTokens.{Identity, c_tokens, given}
use Rattle.hv_plainpp.specs.Plainpp.{plainpp}
use Rattle.hv_plainpp.specs.Preprocessing.{unit}
use Rattle.hv_plainpp.specs.Reading.{Ending, Reading, reaches, refused}
use Rattle.hv_toks.specs.MacroState.{Entry, entries_of}

-- a reading by the values of the options
abbrev pub Plain : Type 0
Plain = List Bool → Reading (List (CTok × Identity))

-- plain preprocessing
abbrev pub plain_of : NamedFiles → (names : List (List ℕ)) → ReservedNames → Plain
plain_of bundle names reserved values = plainpp bundle names values reserved

-- how a translation unit ends, string literals not joined: a refusal of preprocessing comes before
-- those of tokens of C
abbrev pub parts_ending : {A : Type 0} → ReservedNames → Reading A → Ending (List (CTok × Identity))
parts_ending reserved r = elim r.ending [
  | reaches value ↦ c_tokens (λ (i : Identity). i.place) reserved (given r.met)
  | refused why place ↦ refused why place
]

-- the same with string literals not joined
abbrev pub parts_of : NamedFiles → (names : List (List ℕ)) → ReservedNames → Plain
parts_of bundle names reserved values =
    let r : Reading (List Entry) = unit bundle (entries_of (beginning names values)) in
    record { met = r.met; ending = parts_ending reserved r }
