-- The C tokens that preprocessing tokens become, and of which kind those are that become them.
use Rattle.std.specs.Prelude.{ℕ, ◌&&◌, Bool, true, not, nat_le, nat_lt, List, ℤ, pos, negsuc, is_some}
use Rattle.std.specs.List.{list_all}
use Rattle.hv_base.specs.Keywords.{keyword_of}
use Rattle.hv_base.specs.declared.token.CTok.{CTok}
use Rattle.hv_base.specs.declared.token.CTok.TheVariants.{Keyword, Name, Int, Char, Str, Punct}
use Rattle.hv_toks.specs.Constants.{limit}
use Rattle.hv_toks.specs.Lexical.{is_identifier}
use Rattle.hv_toks.specs.declared.token.PpKind.{PpKind}
use Rattle.hv_toks.specs.declared.token.PpKind.TheVariants.{Identifier, Number, CharConstant, StringLiteral, Punctuator}
use Rattle.hv_ctoks.specs.Conversion.{is_left_out, is_refused}
use Rattle.hv_ctoks.specs.declared.reserved.ReservedNames.{ReservedNames}

-- an identifier that is no keyword, isn't left out and isn't refused
abbrev pub is_name : ReservedNames → List ℕ → Bool
is_name reserved text =
    is_identifier text && not (is_some (keyword_of text)) && not (is_left_out text)
    && not (is_refused reserved text)

-- a value of type `char`, which is signed and has eight bits
abbrev pub is_char : ℤ → Bool
is_char (pos n) = nat_le n 127
is_char (negsuc n) = nat_le n 127

-- a byte
abbrev pub is_byte : ℕ → Bool
is_byte n = nat_lt n 256

-- a C token of the profile: its name is a name, its value is in its type's range
abbrev pub is_token : ReservedNames → CTok → Bool
is_token reserved (Keyword word) = true
is_token reserved (Name text) = is_name reserved text
is_token reserved (Int value kind) = nat_lt value (limit kind)
is_token reserved (Char value) = is_char value
is_token reserved (Str bytes) = list_all is_byte bytes
is_token reserved (Punct sign) = true

-- the kind of the preprocessing token that becomes a C token
abbrev pub kind_of : CTok → PpKind
kind_of (Keyword word) = Identifier
kind_of (Name text) = Identifier
kind_of (Int value kind) = Number
kind_of (Char value) = CharConstant
kind_of (Str bytes) = StringLiteral
kind_of (Punct sign) = Punctuator
