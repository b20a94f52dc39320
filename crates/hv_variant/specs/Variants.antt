-- The variant of one configuration: what plain preprocessing comes to there.
use Rattle.std.specs.Prelude.{◌≡◌, List, map}
use Rattle.hv_base.specs.declared.token.CTok.{CTok}
use Rattle.hv_plainpp.specs.CTokens.{Identity}
use Rattle.hv_plainpp.specs.Reading.{Reading, reaches, refused}
use Rattle.hv_variant.specs.declared.variant.Variant.{Variant}
use Rattle.hv_variant.specs.declared.variant.Variant.TheVariants.{Tokens, Refused}

-- these are the tokens that a reading comes to, without where they come from
abbrev pub HasTokens : Reading (List (CTok × Identity)) → List CTok → Type 0
HasTokens r toks = (left : List (CTok × Identity)) × (r.ending ≡ reaches left)
    × (toks ≡ map (λ (t : CTok × Identity). t.0) left)

-- the variant is what a reading comes to: its tokens, or its refusal
abbrev pub IsVariantOf : Reading (List (CTok × Identity)) → Variant → Type 0
IsVariantOf r (Tokens toks) = HasTokens r toks
IsVariantOf r (Refused place why) = r.ending ≡ refused why place
