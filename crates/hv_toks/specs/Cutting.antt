-- How a source file is cut into preprocessing tokens, translation phase 3 (5.1.1.2, 6.4): from the
-- left, white space and comments, or else the longest token.
use Rattle.std.specs.Prelude.{ℕ, zero, suc, ◌+◌, ◌-◌, ◌≡◌, Bool, true, false, cond, ◌&&◌, ◌||◌, ◌==◌, nat_lt, nat_eq, List, [], ◌∷◌, codes, take, drop, length, slice_index, Option, Some, None}
use Rattle.std.specs.List.{list_any, starts_with}
use Rattle.std.specs.Str.{bytes_eq}
use Rattle.hv_base.specs.Ascii as ascii
use Rattle.hv_base.specs.Ascii.{is_line_space}
use Rattle.hv_toks.specs.declared.prefix.Prefix.{Prefix}
use Rattle.hv_toks.specs.declared.prefix.Prefix.TheVariants.{End, WhiteSpace, Newline, Comment, OpenComment, Token}
use Rattle.hv_toks.specs.declared.prefix.LinePrefix.{LinePrefix}
use Rattle.hv_toks.specs.declared.prefix.LinePrefix.TheVariants.{Start, Hash, Include, Rest}
use Rattle.hv_toks.specs.declared.prefix.Match.{Match}
use Rattle.hv_toks.specs.declared.token.PpKind.{PpKind}
use Rattle.hv_toks.specs.declared.token.PpKind.TheVariants.{Identifier, Number, CharConstant, StringLiteral, HeaderName, Punctuator, Other}
use Rattle.hv_toks.specs.declared.token.PpTok.{PpTok}
use Rattle.hv_toks.specs.Lexical.{longest, is_identifier, is_number, is_char_constant, is_string_literal, is_header_name, is_punctuator}
use Rattle.hv_toks.specs.Splices.{spliced, offsets}

-- whether a line ends here: a newline, before which a carriage return may stand
abbrev pub ends_line : List ℕ → Bool
ends_line text = starts_with nat_eq text (ascii.newline ∷ []) || starts_with nat_eq text
    (ascii.carriage_return ∷ ascii.newline ∷ [])

-- how many bytes there are to the end of the line
abbrev pub line_len : List ℕ → ℕ
line_len [] = 0
line_len (byte ∷ bytes) = cond (ends_line (byte ∷ bytes)) 0 (1 + line_len bytes)

-- how many bytes there are up to and with the first `*/`; 0 where there is none
abbrev pub closing_len : List ℕ → ℕ
closing_len [] = 0
closing_len (byte ∷ bytes) =
    cond (starts_with nat_eq (byte ∷ bytes) (codes "*/")) 2
    (elim (closing_len bytes) [ zero ↦ 0 | suc n ↦ suc (suc n) ])

-- a comment that begins with `/*` (6.4.9)
abbrev pub block_comment : List ℕ → Prefix
block_comment text = elim (closing_len (drop 2 text))
    [ zero ↦ OpenComment | suc n ↦ Comment (2 + suc n) ]

-- a token of this kind with this many bytes
abbrev pub found : PpKind → ℕ → Match
found kind len = record { kind = kind; len = len }

-- the longer one, or the first of two that are equally long
abbrev pub longer : Match → Match → Match
longer a b = cond (nat_lt a.len b.len) b a

-- the longest token, whatever stands before it; its length is 0 where there is none
abbrev pub longest_token : List ℕ → Match
longest_token text =
    longer (found Identifier (longest is_identifier text))
    (longer (found Number (longest is_number text))
    (longer (found CharConstant (longest is_char_constant text))
    (longer (found StringLiteral (longest is_string_literal text))
    (found Punctuator (longest is_punctuator text)))))

-- a quote that is not closed on its line goes with all the line, and another byte by itself
abbrev pub other : List ℕ → Match
other [] = found Other 0
other (byte ∷ bytes) = found Other (cond (byte == ascii.apostrophe || byte == ascii.quote)
    (1 + line_len bytes) 1)

-- whether `#` and `include` stand before
abbrev pub is_include : LinePrefix → Bool
is_include Start = false
is_include Hash = false
is_include Include = true
is_include Rest = false

-- the token that a text begins with. After `#` and `include`, what could be a header name is one
-- (6.4)
abbrev pub token_at : LinePrefix → List ℕ → Match
token_at line text =
    cond (is_include line && nat_lt 0 (longest is_header_name text))
    (found HeaderName (longest is_header_name text))
    (cond (nat_lt 0 (longest_token text).len) (longest_token text) (other text))

-- what a text begins with
abbrev pub prefix : LinePrefix → List ℕ → Prefix
prefix line [] = End
prefix line (byte ∷ bytes) =
    cond (byte == ascii.newline) Newline
    (cond (is_line_space byte) WhiteSpace
    (cond (starts_with nat_eq (byte ∷ bytes) (codes "//")) (Comment (line_len (byte ∷ bytes)))
    (cond (starts_with nat_eq (byte ∷ bytes) (codes "/*")) (block_comment (byte ∷ bytes))
    (Token (token_at line (byte ∷ bytes))))))

-- the kind of what a text of this length begins with, where that is all of it and a token
abbrev pub whole_kind : ℕ → Prefix → Option PpKind
whole_kind len End = None
whole_kind len WhiteSpace = None
whole_kind len Newline = None
whole_kind len (Comment n) = None
whole_kind len OpenComment = None
whole_kind len (Token m) = cond (m.len == len) (Some m.kind) None

-- the kind of a text that is one preprocessing token, as the result of `##` must be (6.10.3.3);
-- none where it is more or less than one. No header name: `##` makes none. Only here a text has
-- newlines, which no token has
abbrev pub whole_token : List ℕ → Option PpKind
whole_token text = cond (list_any (λ byte. byte == ascii.newline) text) None
    (whole_kind (length text) (prefix Rest text))

-- what stands on the line after a token of this spelling
abbrev pub line_after : LinePrefix → List ℕ → LinePrefix
line_after Start token = cond (bytes_eq token (codes "#")) Hash Rest
line_after Hash token = cond (bytes_eq token (codes "include")) Include Rest
line_after Include token = Rest
line_after Rest token = Rest

-- whether no token stands before
abbrev pub is_start : LinePrefix → Bool
is_start Start = true
is_start Hash = false
is_start Include = false
is_start Rest = false

-- the token of a file whose spelling this is, and whose bytes have these offsets
abbrev pub token : ℕ → LinePrefix → Bool → PpKind → List ℕ → List ℕ → PpTok
token file line space kind text places = record {
  kind = kind;
  span = record {
    file = file;
    start = slice_index places 0;
    end = slice_index places
        (length places - 1) + 1;
  };
  text = text;
  space = space;
  first = is_start line;
}

-- what cutting gives: the tokens, or the offset of a comment that is not closed
pub data Cutting : Type 0 where
  tokens : List PpTok → Cutting
  open_comment : ℕ → Cutting

-- the same, with one more token before the others
abbrev pub prepend : PpTok → Cutting → Cutting
prepend tok (tokens toks) = tokens (tok ∷ toks)
prepend tok (open_comment offset) = open_comment offset

-- the cutting of what is left of a file after the splicing of lines, where `places` are the offsets
-- of its bytes, `line` is what stands on the line before it, and `space` says whether white space
-- stands directly before it. A comment is white space, and no line ends within it; a newline begins
-- a line and is none
pub data Cuts (file : ℕ) : LinePrefix → (space : Bool) → (text places : List ℕ) → Cutting
    → Type 0 where
  at_end : {line : LinePrefix} {space : Bool} {text places : List ℕ} → prefix line text ≡ End
      → Cuts file line space text places (tokens [])
  at_white : {line : LinePrefix} {space : Bool} {text places : List ℕ} {out : Cutting}
      → prefix line text ≡ WhiteSpace
      → Cuts file line true (drop 1 text) (drop 1 places) out
      → Cuts file line space text places out
  at_newline : {line : LinePrefix} {space : Bool} {text places : List ℕ} {out : Cutting}
      → prefix line text ≡ Newline
      → Cuts file Start false (drop 1 text) (drop 1 places) out
      → Cuts file line space text places out
  at_comment : {line : LinePrefix} {space : Bool} {text places : List ℕ} {out : Cutting} (n : ℕ)
      → prefix line text ≡ Comment n
      → Cuts file line true (drop n text) (drop n places) out
      → Cuts file line space text places out
  at_open_comment : {line : LinePrefix} {space : Bool} {text places : List ℕ}
      → prefix line text ≡ OpenComment
      → Cuts file line space text places (open_comment (slice_index places 0))
  at_token : {line : LinePrefix} {space : Bool} {text places : List ℕ} {out : Cutting} (m : Match)
      → prefix line text ≡ Token m
      → Cuts file (line_after line (take m.len text)) false (drop m.len text)
      (drop m.len places) out
      → Cuts file line space text places
      (prepend (token file line space m.kind (take m.len text) (take m.len places)) out)

-- the cutting of the file of this number
abbrev pub IsCut : (file : ℕ) → (bytes : List ℕ) → Cutting → Type 0
IsCut file bytes out = Cuts file Start false (spliced bytes) (offsets bytes) out
