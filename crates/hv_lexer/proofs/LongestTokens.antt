-- Each token of a cutting is the longest that starts at its place.
use Rattle.std.proofs.Common.{◌≡◌, ℕ, suc, ◌+◌, ◌-◌, ◌<◌, ◌≤◌, Bool, true, false, List, [], ◌∷◌, ◌++◌, cond, refl, sym, ◌∙◌, ap, arith, length, take, drop, append_assoc, one-add}
use Rattle.std.specs.Prelude.{nat_lt, ◌==◌, ◌&&◌, ◌||◌, slice_index}
use Rattle.std.specs.List.{All}
use Rattle.std.proofs.lemmas.Bool.Decides.{nat_tests}
use Rattle.std.proofs.lemmas.List.{take-append-drop, take-take, drop-take, length-take-le, length-drop, length-append, get_or-append-add}
use Rattle.std.proofs.lemmas.List.Elements.{All-nil, All-cons}
use Rattle.hv_toks.specs.declared.prefix.Prefix.{Prefix}
use Rattle.hv_toks.specs.declared.prefix.Prefix.TheVariants.{Token}
use Rattle.hv_toks.specs.declared.prefix.LinePrefix.{LinePrefix}
use Rattle.hv_toks.specs.declared.prefix.Match.{Match}
use Rattle.hv_toks.specs.declared.token.PpKind.{PpKind}
use Rattle.hv_toks.specs.declared.token.PpKind.TheVariants.{Identifier, Number, CharConstant, StringLiteral, HeaderName, Punctuator, Other}
use Rattle.hv_toks.specs.declared.token.PpTok.{PpTok}
use Rattle.hv_toks.specs.Lexical.{longest, is_identifier, is_number, is_char_constant, is_string_literal, is_header_name, is_punctuator}
use Rattle.hv_toks.specs.Splices.{spliced, offsets}
use Rattle.hv_toks.specs.Cutting.{Cutting, Cuts, IsCut, tokens, open_comment, prepend, at_end, at_white, at_newline, at_comment, at_open_comment, at_token, prefix, token, found, is_include, ends_line, line_len, longer, longest_token, other, token_at}
use Rattle.hv_lexer.specs.Laws.{NoneLonger, begins_with_quote, IsLongestToken, IsLongestAtItsPlace, AreLongest}
use Rattle.hv_lexer.specs.Printed.{is_spelling}
use Rattle.hv_lexer.proofs.LongestLemmas.{longest-is, longest-none}
use Rattle.hv_lexer.proofs.Rises.{dropped, same_lengths, same_take, taken-first, token-fits}
use Rattle.hv_lexer.proofs.Spliced.{is_spliced}
use Rattle.hv_lexer.proofs.PrefixCases.{View, view, view_newline, view_white, view_line, view_open, view_block, view_token, token_at-fits}

-- prefixes

take_both : (n k : ℕ) (text : List ℕ) → take n text ++ take k (drop n text) ≡ take (n + k) text
take_both n k text =
    rw (take-take n (n + k) text (omega arith), drop-take n k text) at
    (take-append-drop n (take (n + k) text))

none_beyond : (test : List ℕ → Bool) (text : List ℕ) (n : ℕ) → longest test text ≤ n
    → NoneLonger test (take n text) (drop n text)
none_beyond test text n h = λ k some within.
    rw (take_both n k text) ((longest-is test text).1 (n + k) (omega arith)
    (omega (arith, length-drop n text)))

pub none_at_all : (test : List ℕ → Bool) (text : List ℕ) → longest test text ≤ 0
    → NoneLonger test [] text
none_at_all test text h = λ k some within. (longest-is test text).1 k (omega arith) within

-- the longest of the categories

abbrev Spells : List ℕ → Match → Type 0
Spells text m = 0 < m.len → is_spelling m.kind (take m.len text) ≡ true

longer-spells : (text : List ℕ) (a b : Match) → Spells text a → Spells text b
    → Spells text (longer a b)
longer-spells text a b h l =
    elim (nat_lt a.len b.len) as (λ t. Spells text (cond t b a)) [ true ↦ l | false ↦ h ]

longest_token-spells : (text : List ℕ) → Spells text (longest_token text)
longest_token-spells text =
    longer-spells text _ _ (longest-is is_identifier text).0
    (longer-spells text _ _ (longest-is is_number text).0
    (longer-spells text _ _ (longest-is is_char_constant text).0
    (longer-spells text _ _ (longest-is is_string_literal text).0
    (longest-is is_punctuator text).0)))

first-within : (a b : Match) → a.len ≤ (longer a b).len
first-within a b =
    elim (nat_lt a.len b.len) as (λ t. nat_lt a.len b.len ≡ t → a.len ≤ (cond t b a).len) [
      | true ↦ λ e. grind (arith, nat_tests)
      | false ↦ λ e. omega arith
    ] refl

second-within : (a b : Match) (k : ℕ) → k ≤ b.len → k ≤ (longer a b).len
second-within a b k h =
    elim (nat_lt a.len b.len) as (λ t. nat_lt a.len b.len ≡ t → k ≤ (cond t b a).len) [
      | true ↦ λ e. h
      | false ↦ λ e. grind (arith, nat_tests)
    ] refl

longest_token-most : (text : List ℕ) (kind : PpKind)
    → longest (is_spelling kind) text ≤ (longest_token text).len
longest_token-most text Identifier = first-within _ _
longest_token-most text Number = second-within _ _ _ (first-within _ _)
longest_token-most text CharConstant = second-within _ _ _ (second-within _ _ _ (first-within _ _))
longest_token-most text StringLiteral =
    second-within _ _ _ (second-within _ _ _ (second-within _ _ _ (first-within _ _)))
longest_token-most text HeaderName =
    rw (longest-none (is_spelling HeaderName) text (λ x f. refl)) (omega arith)
longest_token-most text Punctuator =
    let same : longest is_punctuator text ≤ longest is_punctuator text = omega arith in
    second-within _ _ _ (second-within _ _ _ (second-within _ _ _ (second-within _ _ _ same)))
longest_token-most text Other =
    rw (longest-none (is_spelling Other) text (λ x f. refl)) (omega arith)

-- the token that comes first

abbrev pub Longest : List ℕ → Match → Type 0
Longest text m = IsLongestToken m.kind (take m.len text) (drop m.len text)

plain-longest : (kind : PpKind) (n : ℕ) (text : List ℕ) → is_spelling kind (take n text) ≡ true
    → ((other : PpKind) → longest (is_spelling other) text ≤ n)
    → Longest text (found kind n)
plain-longest Identifier n text e h = (e, λ other. none_beyond (is_spelling other) text n (h other))
plain-longest Number n text e h = (e, λ other. none_beyond (is_spelling other) text n (h other))
plain-longest CharConstant n text e h =
    (e, λ other. none_beyond (is_spelling other) text n (h other))
plain-longest StringLiteral n text e h =
    (e, λ other. none_beyond (is_spelling other) text n (h other))
plain-longest HeaderName n text e h = absurd (cc)
plain-longest Punctuator n text e h = (e, λ other. none_beyond (is_spelling other) text n (h other))
plain-longest Other n text e h = absurd (cc)

no_line_end : (byte : ℕ) (bytes : List ℕ) → (byte == 39 || byte == 34) ≡ true
    → ends_line (byte ∷ bytes) ≡ false
no_line_end byte bytes e =
    let newline : (10 == byte) ≡ false = grind (arith, nat_tests) in
    let return : (13 == byte) ≡ false = grind (arith, nat_tests) in
    rw (newline, return) refl

left_over : (byte : ℕ) (bytes : List ℕ) (t : Bool) → (byte == 39 || byte == 34) ≡ t
    → cond t (1 + line_len bytes) 1 ≤ length (byte ∷ bytes)
    → length (take (cond t (1 + line_len bytes) 1) (byte ∷ bytes))
    ≡ cond (begins_with_quote (take (cond t (1 + line_len bytes) 1) (byte ∷ bytes)))
    (line_len (byte ∷ bytes)) 1
left_over byte bytes true e within =
    rw one-add (rw (e, no_line_end byte bytes e)
    (length-take-le (suc (line_len bytes)) (byte ∷ bytes) (omega arith)))
left_over byte bytes false e within = rw e refl

other-longest : (byte : ℕ) (bytes : List ℕ) → (other (byte ∷ bytes)).len ≤ length (byte ∷ bytes)
    → ((kind : PpKind) → longest (is_spelling kind) (byte ∷ bytes) ≤ 0)
    → Longest (byte ∷ bytes) (other (byte ∷ bytes))
other-longest byte bytes within h =
    let n : ℕ = (other (byte ∷ bytes)).len in
    rw (take-append-drop n (byte ∷ bytes)) (
      (λ kind. none_at_all (is_spelling kind) (byte ∷ bytes) (h kind)),
      left_over byte bytes _ refl
          within,
    )

positive : (n : ℕ) → nat_lt 0 n ≡ true → 0 < n
positive n e = grind (arith, nat_tests)

pub nothing_found : (n : ℕ) → nat_lt 0 n ≡ false → n ≤ 0
nothing_found n e = grind (arith, nat_tests)

second : (a b : Bool) → (a && b) ≡ true → b ≡ true
second true b e = e
second false b e = absurd (cc)

-- by whether one of the categories was found
abbrev pub plain_at : Bool → List ℕ → Match
plain_at found text = cond found (longest_token text) (other text)

plain_at-longest : (byte : ℕ) (bytes : List ℕ) (t : Bool)
    → nat_lt 0 (longest_token (byte ∷ bytes)).len ≡ t
    → (plain_at t (byte ∷ bytes)).len ≤ length (byte ∷ bytes)
    → Longest (byte ∷ bytes) (plain_at t (byte ∷ bytes))
plain_at-longest byte bytes true e within =
    let text : List ℕ = byte ∷ bytes in
    plain-longest (longest_token text).kind (longest_token text).len text
    (longest_token-spells text (positive _ e)) (longest_token-most text)
plain_at-longest byte bytes false e within =
    let text : List ℕ = byte ∷ bytes in
    other-longest byte bytes within
    (λ kind. let most = longest_token-most text kind in let none =
    nothing_found (longest_token text).len e in omega arith)

-- and by whether a header name was
abbrev header_at : Bool → List ℕ → Match
header_at header text =
    cond header (found HeaderName (longest is_header_name text))
    (plain_at (nat_lt 0 (longest_token text).len) text)

header_at-longest : (line : LinePrefix) (byte : ℕ) (bytes : List ℕ) (t : Bool)
    → (is_include line && nat_lt 0 (longest is_header_name (byte ∷ bytes))) ≡ t
    → (header_at t (byte ∷ bytes)).len ≤ length (byte ∷ bytes)
    → Longest (byte ∷ bytes) (header_at t (byte ∷ bytes))
header_at-longest line byte bytes true e within =
    let text : List ℕ = byte ∷ bytes in
    let n : ℕ = longest is_header_name text in (
      (longest-is is_header_name text).0 (positive n (second (is_include line) _ e)),
      none_beyond
          is_header_name text n (omega arith),
    )
header_at-longest line byte bytes false e within = plain_at-longest byte bytes _ refl within

pub of_view : (line : LinePrefix) (byte : ℕ) (bytes : List ℕ) (f : Prefix) (m : Match)
    → View line byte bytes f → f ≡ Token m → token_at line (byte ∷ bytes) ≡ m
of_view line byte bytes f m (view_newline a) e = cc
of_view line byte bytes f m (view_white a) e = cc
of_view line byte bytes f m (view_line a) e = cc
of_view line byte bytes f m view_open e = cc
of_view line byte bytes f m (view_block n a b) e = cc
of_view line byte bytes f m view_token e = cc

pub prefix-longest : (line : LinePrefix) (text : List ℕ) (m : Match) → prefix line text ≡ Token m
    → Longest text m
prefix-longest line [] m e = absurd (cc)
prefix-longest line (byte ∷ bytes) m e =
    let p = of_view line byte bytes _ m (view line byte bytes) e in
    rw p at (header_at-longest line byte bytes _ refl (token_at-fits line byte bytes).1)

-- the tokens of a cutting, if it has some
abbrev Starts : (text places : List ℕ) → Cutting → Type 0
Starts text places (tokens toks) = All (λ tok. IsLongestAtItsPlace tok text places) toks
Starts text places (open_comment offset) = Unit {0}

-- the place of a byte after some others
place : (n : ℕ) (text places before : List ℕ) → length text ≡ length places
    → slice_index (drop n places) (length before)
    ≡ slice_index places (length (take n text ++ before))
place n text places before same =
    let far : length (take n text ++ before) ≡ length (take n places) + length before =
    length-append (take n text) before
    ∙ ap (λ k. k + length before) (same_take n text places same) in
    rw far (sym (rw take-append-drop at
    (get_or-append-add (take n places) (drop n places) (length before) 0)))

further : (n : ℕ) (text places : List ℕ) (tok : PpTok) → length text ≡ length places
    → IsLongestAtItsPlace tok (drop n text) (drop n places) → IsLongestAtItsPlace tok text places
further n text places tok same h = record {
  before = take n text ++ h.before;
  rest = h.rest;
  stands = sym (take-append-drop n text)
      ∙ (ap (λ t. take n text ++ t) h.stands
      ∙ sym (append_assoc (take n text) h.before (tok.text ++ h.rest)));
  starts = h.starts ∙ place n text places h.before same;
  longest = h.longest;
}

later : (n : ℕ) (text places : List ℕ) (out : Cutting) → length text ≡ length places
    → Starts (drop n text) (drop n places) out → Starts text places out
later n text places (tokens toks) same all =
    λ k tok within. further n text places _ same (all k tok within)
later n text places (open_comment offset) same all = tt

here : (file : ℕ) (line : LinePrefix) (space : Bool) (text places : List ℕ) (m : Match)
    → prefix line text ≡ Token m
    → IsLongestAtItsPlace (token file line space m.kind (take m.len text) (take m.len places)) text
    places
here file line space text places m e =
    let fits = token-fits line text m e in
    let len : m.len ≡ suc (m.len - 1) = omega (arith, fits.0) in
    record {
      before = [];
      rest = drop m.len text;
      stands = sym (take-append-drop m.len text);
      starts = rw len (taken-first (m.len - 1) places);
      longest = prefix-longest line text m e;
    }

with_token : (n : ℕ) (text places : List ℕ) (tok : PpTok) (out : Cutting)
    → length text ≡ length places → IsLongestAtItsPlace tok text places
    → Starts (drop n text) (drop n places) out → Starts text places (prepend tok out)
with_token n text places tok (tokens toks) same first all =
    All-cons (λ tok. IsLongestAtItsPlace tok text places) tok toks first
    (later n text places (tokens toks) same all)
with_token n text places tok (open_comment offset) same first all = tt

starts : {file : ℕ} {line : LinePrefix} {space : Bool} {text places : List ℕ} {out : Cutting}
    → length text ≡ length places → Cuts file line space text places out → Starts text places out
starts {text = text} {places = places} same (at_end e) =
    All-nil (λ tok. IsLongestAtItsPlace tok text places)
starts {text = text} {places = places} same (at_white e c) =
    later 1 text places _ same (starts (dropped 1 text places same) c)
starts {text = text} {places = places} same (at_newline e c) =
    later 1 text places _ same (starts (dropped 1 text places same) c)
starts {text = text} {places = places} same (at_comment n e c) =
    later n text places _ same (starts (dropped n text places same) c)
starts same (at_open_comment e) = tt
starts {file = file} {line = line} {space = space} {text = text} {places = places} same
    (at_token m e c) =
    with_token m.len text places _ _ same (here file line space text places m e)
    (starts (dropped m.len text places same) c)

pub lex-longest : (file : ℕ) (bytes : List ℕ) (toks : List PpTok) → IsCut file bytes (tokens toks)
    → AreLongest toks bytes
lex-longest file bytes toks c =
    (spliced bytes, (offsets bytes, (is_spliced bytes, starts (same_lengths bytes) c)))
