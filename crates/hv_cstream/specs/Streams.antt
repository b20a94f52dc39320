-- What a stream of tokens of C is in one configuration, and which preprocessing tokens it comes
-- from (5.1.1.2, phases 6 and 7).
use Rattle.std.specs.Prelude.{◌≡◌, Bool, List, map, filter}
use Rattle.hv_base.specs.declared.place.Place.{Place}
use Rattle.hv_base.specs.declared.place.Start.{Start}
use Rattle.hv_base.specs.declared.token.CTok.{CTok}
use Rattle.hv_base.specs.declared.why.Why.{Why}
use Rattle.hv_cond.specs.Diagram.{Diagram, holds}
use Rattle.hv_ctoks.specs.declared.reserved.ReservedNames.{ReservedNames}
use Rattle.hv_given.specs.Given.{given_in, tokens_of}
use Rattle.hv_given.specs.declared.given.Given.{Given}
use Rattle.hv_plainpp.specs.CTokens.{c_tokens}
use Rattle.hv_plainpp.specs.Reading.{Ending, reaches, refused}
use Rattle.hv_toks.specs.declared.stream.StreamTok.{StreamTok}

-- the tokens of a stream that there are where the options have these values, in order, with where
-- they come from
abbrev pub stream_in : Diagram → List StreamTok → List Bool → List (CTok × Start)
stream_in diagram stream values =
    map (λ (t : StreamTok). (t.tok, t.start))
    (filter (λ (t : StreamTok). holds diagram t.cond values) stream)

-- what the preprocessing tokens that are given become one by one where the options have these
-- values, or the first refusal
abbrev pub converted_in : ReservedNames → Diagram → List Given → List Bool
    → Ending (List (CTok × Start))
converted_in reserved diagram given values =
    c_tokens (λ (s : Start). s.place) reserved (tokens_of (given_in diagram given values))

-- a stream is what they become
abbrev pub IsConverted : ReservedNames → Diagram → List Given → List Bool → List StreamTok → Type 0
IsConverted reserved diagram given values stream =
    converted_in reserved diagram given values ≡ reaches (stream_in diagram stream values)

-- they are refused so
abbrev pub IsRefused : ReservedNames → Diagram → List Given → List Bool → Place → Why → Type 0
IsRefused reserved diagram given values place why =
    converted_in reserved diagram given values ≡ refused why place
