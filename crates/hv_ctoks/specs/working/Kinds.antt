-- Kinds of texts that are one preprocessing token.
use Rattle.std.specs.Prelude.{Bool, true, false, Option, Some, None}
use Rattle.hv_toks.specs.declared.token.PpKind.{PpKind}
use Rattle.hv_toks.specs.declared.token.PpKind.TheVariants.{StringLiteral}

-- whether this is the kind of string literals
abbrev pub is_string_kind : Option PpKind → Bool
is_string_kind None = false
is_string_kind (Some StringLiteral) = true
is_string_kind (Some _) = false
