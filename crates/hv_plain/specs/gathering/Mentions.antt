-- The headers that a file mentions: those of its `#include` lines, also of lines in skipped groups.
use Rattle.std.specs.Prelude.{ℕ, zero, suc, ◌-◌, Bool, true, false, ◌&&◌, nat_eq, filter, map, List, [], ◌∷◌, take, drop, length, slice_index}
use Rattle.std.specs.List.{list_all, starts_with}
use Rattle.hv_base.specs.Ascii as ascii
use Rattle.hv_toks.specs.declared.prefix.Prefix.{Prefix}
use Rattle.hv_toks.specs.declared.prefix.Prefix.TheVariants.{End, WhiteSpace, Newline, Comment, OpenComment, Token}
use Rattle.hv_toks.specs.declared.prefix.LinePrefix.{LinePrefix}
use Rattle.hv_toks.specs.declared.prefix.LinePrefix.TheVariants.{Start}
use Rattle.hv_toks.specs.declared.token.PpKind.{PpKind}
use Rattle.hv_toks.specs.declared.token.PpKind.TheVariants.{Identifier, Number, CharConstant, StringLiteral, HeaderName, Punctuator, Other}
use Rattle.hv_toks.specs.declared.token.PpTok.{PpTok}
use Rattle.hv_toks.specs.Cutting.{Cutting, tokens, open_comment, prefix, prepend, token, line_after}
use Rattle.hv_toks.specs.Splices.{spliced, offsets}

-- what is cut where a text begins so, when `cut_rest` cuts the rest. Each case is the one of `Cuts`
abbrev pub cut_step : (cut_rest : LinePrefix → Bool → List ℕ → List ℕ → Cutting) → (file : ℕ)
    → LinePrefix → (space : Bool) → (text places : List ℕ) → Prefix → Cutting
cut_step cut_rest file line space text places End = tokens []
cut_step cut_rest file line space text places WhiteSpace =
    cut_rest line true (drop 1 text) (drop 1 places)
cut_step cut_rest file line space text places Newline =
    cut_rest Start false (drop 1 text) (drop 1 places)
cut_step cut_rest file line space text places (Comment n) =
    cut_rest line true (drop n text) (drop n places)
cut_step cut_rest file line space text places OpenComment = open_comment (slice_index places 0)
cut_step cut_rest file line space text places (Token m) =
    prepend (token file line space m.kind (take m.len text) (take m.len places))
    (cut_rest (line_after line (take m.len text)) false (drop m.len text) (drop m.len places))

-- the cutting of a text of at most `n` bytes
unfoldable pub cut_text : (file n : ℕ) → LinePrefix → Bool → (text places : List ℕ) → Cutting
cut_text file zero line space text places = tokens []
cut_text file (suc n) line space text places =
    cut_step (cut_text file n) file line space text places (prefix line text)

-- the cutting of the file of this number: the one that `IsCut` has
abbrev pub cut : (file : ℕ) → (bytes : List ℕ) → Cutting
cut file bytes = cut_text file (length (spliced bytes)) Start false (spliced bytes) (offsets bytes)

-- a header as an `#include` line names it (6.10.2): within quotes, or within `<` and `>`
pub record Header : Type 0 where
  pub quoted : Bool
  pub name : List ℕ

-- the header of a header name, which has a delimiter on both sides (6.4.7)
abbrev pub header_of : List ℕ → Header
header_of text = record {
  quoted = starts_with nat_eq text (ascii.quote ∷ []);
  name = take (length text - 2) (drop 1 text);
}

-- whether a preprocessing token is a header name (6.4.7)
abbrev pub is_header_name : PpKind → Bool
is_header_name Identifier = false
is_header_name Number = false
is_header_name CharConstant = false
is_header_name StringLiteral = false
is_header_name HeaderName = true
is_header_name Punctuator = false
is_header_name Other = false

-- whether a token is the header name of an `#include` line, the only place where one is cut (6.4).
-- A name with a byte that isn't printable mentions nothing
abbrev pub is_mention : PpTok → Bool
is_mention tok = is_header_name tok.kind && list_all ascii.is_printable tok.text

-- the headers that tokens mention, in order
abbrev pub headers_in : List PpTok → List Header
headers_in toks = map (λ tok. header_of tok.text) (filter is_mention toks)

-- the headers that a cutting mentions: none where a comment isn't closed
abbrev pub headers_of : Cutting → List Header
headers_of (tokens toks) = headers_in toks
headers_of (open_comment _) = []

-- the headers that a file mentions, in order. The number of the file plays no part
abbrev pub mentions : List ℕ → List Header
mentions bytes = headers_of (cut 0 bytes)
