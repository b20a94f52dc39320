-- Of a preprocessing token, what expanding macros (6.10.3) and evaluating conditions (6.10.1) look
-- at.
-- Not in here: where the token stands, and whether it is the first of its line.
use Rattle.std.specs.Prelude.{ℕ, Bool, List, map}
use Rattle.hv_toks.specs.declared.token.PpKind.{PpKind}
use Rattle.hv_toks.specs.declared.token.PpTok.{PpTok}

-- a token without its place
pub record Spelled : Type 0 where
  pub kind : PpKind
  pub text : List ℕ
  pub space : Bool

-- what is left of a token without its place
abbrev pub spelled : PpTok → Spelled
spelled token = record { kind = token.kind; text = token.text; space = token.space }

-- the same of each token of a list
abbrev pub all_spelled : List PpTok → List Spelled
all_spelled tokens = map spelled tokens
