-- What C token a preprocessing token becomes, translation phase 7 (5.1.1.2, 6.4), or why the source
-- is refused there. Where two refusals fit, the one with the smaller number counts.
-- Not in here: where a token stands, and the joining of adjacent string literals.
use Rattle.std.specs.Prelude.{◌≡◌, ℕ, ◌-◌, ◌==◌, ◌&&◌, Bool, false, cond, nat_eq, nat_lt, List, [], ◌∷◌, codes, ℤ, pos, negsuc, Option, Some, None, is_some, Result, Ok, Err}
use Rattle.std.specs.List.{starts_with}
use Rattle.hv_base.specs.Ascii as ascii
use Rattle.hv_base.specs.Ascii.{is_among}
use Rattle.hv_base.specs.Keywords.{keyword_of}
use Rattle.hv_base.specs.Puncts.{punct_of}
use Rattle.hv_base.specs.declared.keyword.Keyword.{Keyword as KeywordOf}
use Rattle.hv_base.specs.declared.punct.Punct.{Punct as PunctOf}
use Rattle.hv_base.specs.declared.token.CTok.{CTok}
use Rattle.hv_base.specs.declared.token.CTok.TheVariants.{Keyword, Name, Int, Char, Str, Punct}
use Rattle.hv_base.specs.declared.token.IntType.{IntType}
use Rattle.hv_base.specs.declared.why.Why.{Why}
use Rattle.hv_base.specs.declared.why.Why.TheVariants.{BadConstant, LeftOut, Syntax, Reserved}
use Rattle.hv_toks.specs.Constants.{char_constant, int_constant, string_literal}
use Rattle.hv_toks.specs.Lexical.{is_string_literal}
use Rattle.hv_toks.specs.declared.token.PpKind.{PpKind}
use Rattle.hv_toks.specs.declared.token.PpKind.TheVariants.{Identifier, Number, CharConstant, StringLiteral, HeaderName, Punctuator, Other}
use Rattle.hv_ctoks.specs.Floating.{is_floating}
use Rattle.hv_ctoks.specs.declared.fault.TokenFault.{TokenFault}
use Rattle.hv_ctoks.specs.declared.fault.TokenFault.TheVariants.{Plain, Memory}
use Rattle.hv_ctoks.specs.declared.reserved.ReservedNames.{ReservedNames}
use Rattle.hv_ctoks.specs.declared.reserved.ReservedNames.TheVariants.{Allowed, Refused}

------ identifiers

-- the keywords of 6.4.1 and the names that the profile leaves out. Not among them: `__STDC__`,
-- `__STDC_HOSTED__` and `__STDC_VERSION__`, which preprocessing always replaces. One that got here
-- would be a name as any other, and the grammar refuses it
abbrev pub left_out : List (List ℕ)
left_out =
    codes "goto" ∷ codes "float" ∷ codes "double" ∷ codes "volatile" ∷ codes "_Complex"
    ∷ codes "_Imaginary"
    ∷ codes "__func__" ∷ codes "asm" ∷ codes "__FILE__" ∷ codes "__LINE__" ∷ codes "__DATE__"
    ∷ codes "__TIME__"
    ∷ codes "_Pragma" ∷ []

-- whether a text is one of them
abbrev pub is_left_out : List ℕ → Bool
is_left_out text = is_among text left_out

-- a name that Hercules keeps for itself
abbrev pub is_reserved : List ℕ → Bool
is_reserved text = starts_with nat_eq text (codes "hv_")

-- whether such a name is refused
abbrev pub is_refused : ReservedNames → List ℕ → Bool
is_refused Allowed text = false
is_refused Refused text = is_reserved text

-- a name, or a refusal
abbrev pub name : ReservedNames → List ℕ → Result CTok Why
name reserved text =
    cond (is_left_out text) (Err LeftOut)
    (cond (is_refused reserved text) (Err Reserved) (Ok (Name text)))

-- the keyword, or else this
abbrev pub keyword_or : Result CTok Why → Option KeywordOf → Result CTok Why
keyword_or otherwise None = otherwise
keyword_or otherwise (Some word) = Ok (Keyword word)

-- an identifier: a keyword or a name (6.4.1, 6.4.2)
abbrev pub identifier : ReservedNames → List ℕ → Result CTok Why
identifier reserved text = keyword_or (name reserved text) (keyword_of text)

------ constants

-- why what is no constant of the profile is refused
abbrev pub no_constant : (left_out : Bool) → Why
no_constant left_out = cond left_out LeftOut BadConstant

-- the integer constant of this value and type; where there is none, a floating constant is left out
abbrev pub number_from : (floating : Bool) → Option (ℕ × IntType) → Result CTok Why
number_from floating None = Err (no_constant floating)
number_from floating (Some (value, kind)) = Ok (Int value kind)

-- a preprocessing number (6.4.4.1, 6.4.4.2)
abbrev pub number : List ℕ → Result CTok Why
number text = number_from (is_floating text) (int_constant text)

-- the value of a byte of type `char`, which is signed
abbrev pub char_value : ℕ → ℤ
char_value byte = cond (nat_lt byte 128) (pos byte) (negsuc (255 - byte))

-- a constant after its `L` passes the test
abbrev pub wide : (List ℕ → Bool) → List ℕ → Bool
wide test [] = false
wide test (byte ∷ bytes) = byte == ascii.wide && test bytes

-- a constant of one character that isn't wide
abbrev pub is_character : List ℕ → Bool
is_character text = is_some (char_constant text)

-- the character constant of this byte; where there is none, a wide one is left out
abbrev pub character_from : (wide : Bool) → Option ℕ → Result CTok Why
character_from wide None = Err (no_constant wide)
character_from wide (Some byte) = Ok (Char (char_value byte))

-- a character constant (6.4.4.4)
abbrev pub character : List ℕ → Result CTok Why
character text = character_from (wide is_character text) (char_constant text)

-- a string literal that isn't wide
abbrev pub is_string : List ℕ → Bool
is_string text = is_some (string_literal text)

-- the string literal of these bytes; where there is none, a wide one is left out
abbrev pub string_from : (wide : Bool) → Option (List ℕ) → Result CTok Why
string_from wide None = Err (no_constant wide)
string_from wide (Some bytes) = Ok (Str bytes)

-- a string literal (6.4.5). The operator `#` may make one whose spelling is none (6.10.3.2)
abbrev pub string : List ℕ → Result CTok Why
string text =
    cond (is_string_literal text) (string_from (wide is_string text) (string_literal text))
    (Err Syntax)

------ punctuators

-- the punctuator, where there is one
abbrev pub punctuator_from : Option PunctOf → Result CTok Why
punctuator_from None = Err Syntax
punctuator_from (Some sign) = Ok (Punct sign)

-- a punctuator (6.4.6). `#` and `##` are some, which the grammar refuses
abbrev pub punctuator : List ℕ → Result CTok Why
punctuator text = punctuator_from (punct_of text)

------ tokens

-- the C token that a preprocessing token of this kind and spelling becomes, or why it is refused
abbrev pub converted : ReservedNames → PpKind → List ℕ → Result CTok Why
converted reserved Identifier text = identifier reserved text
converted reserved Number text = number text
converted reserved CharConstant text = character text
converted reserved StringLiteral text = string text
converted reserved HeaderName text = Err Syntax
converted reserved Punctuator text = punctuator text
converted reserved Other text = Err Syntax

------ answers

-- the refusal is this answer; want of memory says nothing of it
abbrev pub IsFaultOf : Result CTok Why → TokenFault → Type 0
IsFaultOf answer (Plain why) = answer ≡ Err why
IsFaultOf answer Memory = Unit {0}
