-- What is converted so far.
use Rattle.std.specs.Prelude.{◌≡◌, ◌&&◌, ◌++◌, not, true, Bool, List, [], ◌∷◌, All, if◌then◌else◌}
use Rattle.hv_base.specs.declared.place.Place.{Place}
use Rattle.hv_base.specs.declared.place.Start.{Start}
use Rattle.hv_base.specs.declared.why.Why.{Why}
use Rattle.hv_cond.specs.Diagram.{Diagram, IsNode, holds}
use Rattle.hv_cond.specs.Parts.{count_satisfied}
use Rattle.hv_cond.specs.declared.conditions.Cond.{Cond}
use Rattle.hv_cstream.specs.Streams.{stream_in}
use Rattle.hv_cstream.specs.declared.conversion.Conversion.{Conversion}
use Rattle.hv_given.specs.Given.{with_starts}
use Rattle.hv_given.specs.Refusals.{AreRefusals, CountsMore, IsRefusedAt, RefusesMore}
use Rattle.hv_given.specs.declared.given.Given.{Given}
use Rattle.hv_plainpp.specs.CTokens.{c_tokens}
use Rattle.hv_plainpp.specs.Reading.{reaches, refused}
use Rattle.hv_toks.specs.Division.{conditions}
use Rattle.hv_toks.specs.Spelled.{Spelled, all_spelled}
use Rattle.hv_toks.specs.declared.stream.StreamTok.{StreamTok}

-- the preprocessing tokens that each configuration has been given
abbrev pub Tokens : Type 0
Tokens = List Bool → List (Spelled × Start)

-- where a token comes from
abbrev pub place_of : Start → Place
place_of start = start.place

-- of the configurations of `valid` those that are live have the stream of what they were given, and
-- the others are refused as it says; each is live or refused once
pub record IsConverting (diagram : Diagram) (valid : Cond) (tokens : Tokens)
    (conversion : Conversion) : Type 0 where
  pub valid_node : IsNode diagram valid
  pub live_node : IsNode diagram conversion.live
  pub stream_nodes : All (λ (t : StreamTok). IsNode diagram t.cond) conversion.stream
  pub refusals : AreRefusals diagram conversion.refusals
  pub reached : (values : List Bool) → holds diagram conversion.live values ≡ true
      → c_tokens place_of conversion.reserved (tokens values)
      ≡ reaches (stream_in diagram conversion.stream values)
  pub refuses : (values : List Bool) (place : Place) (why : Why)
      → IsRefusedAt diagram conversion.refusals values place why
      → c_tokens place_of conversion.reserved (tokens values) ≡ refused why place
  pub once : (values : List Bool)
      → count_satisfied diagram (conversion.live ∷ conditions conversion.refusals) values
      ≡ (if holds diagram valid values then 1 else 0)

-- the same, where the configurations of a condition were given more
abbrev pub with_more : Diagram → Tokens → Cond → List (Spelled × Start) → Tokens
with_more diagram tokens cond more values =
    tokens values ++ (if holds diagram cond values then more else [])

-- what an entry gives
abbrev pub entry_tokens : Given → List (Spelled × Start)
entry_tokens given = with_starts given 0 (all_spelled given.tokens)

-- the configurations of a condition are refused at a place for a cause, and are live no more
pub record TakesOut (old new : Diagram) (place : Place) (why : Why) (cond : Cond)
    (before after : Conversion) : Type 0 where
  pub reserved : after.reserved ≡ before.reserved
  pub stream : after.stream ≡ before.stream
  pub live_node : IsNode new after.live
  pub live : (values : List Bool) → holds new after.live values
      ≡ (holds old before.live values && not (holds old cond values))
  pub refusals : AreRefusals new after.refusals
  pub refuses : RefusesMore old new before.refusals after.refusals place why cond
  pub counts : CountsMore old new before.refusals after.refusals cond
