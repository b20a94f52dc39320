-- What one configuration keeps of a stream.
use Rattle.std.specs.Prelude.{Bool, List, map, filter}
use Rattle.hv_base.specs.declared.place.Start.{Start}
use Rattle.hv_base.specs.declared.token.CTok.{CTok}
use Rattle.hv_cond.specs.Diagram.{Diagram, holds}
use Rattle.hv_toks.specs.declared.stream.StreamTok.{StreamTok}

-- a token of one configuration, with where it comes from
pub record KeptTok : Type 0 where
  pub tok : CTok
  pub start : Start

-- a token of a stream, without its condition
abbrev pub unconditional : StreamTok → KeptTok
unconditional token = record { tok = token.tok; start = token.start }

-- the tokens whose condition holds where the options have these values, in order, each with its
-- start
abbrev pub kept : Diagram → List Bool → List StreamTok → List KeptTok
kept diagram values stream =
    map unconditional (filter (λ token. holds diagram token.cond values) stream)

-- the same tokens without their starts
abbrev pub projected : Diagram → List Bool → List StreamTok → List CTok
projected diagram values stream = map (λ token. token.tok) (kept diagram values stream)
