-- A header name stands only after `#` and `include` on their line, and wherever one can stand there, it does.
use Rattle.std.proofs.Common.{◌≡◌, ℕ, Bool, true, false, List, [], ◌∷◌, cond, refl, ◌⊎◌, inl, inr}
use Rattle.std.specs.Prelude.{nat_lt, ◌&&◌, not, codes}
use Rattle.std.specs.Str.{bytes_eq}
use Rattle.hv_toks.specs.declared.prefix.LinePrefix.{LinePrefix}
use Rattle.hv_toks.specs.declared.prefix.LinePrefix.TheVariants.{Start, Hash, Include, Rest}
use Rattle.hv_toks.specs.declared.prefix.Match.{Match}
use Rattle.hv_toks.specs.declared.prefix.Prefix.TheVariants.{Token}
use Rattle.hv_toks.specs.declared.token.PpKind.{PpKind}
use Rattle.hv_toks.specs.declared.token.PpKind.TheVariants.{Identifier, Number, CharConstant, StringLiteral, HeaderName, Punctuator, Other}
use Rattle.hv_toks.specs.declared.token.PpTok.{PpTok}
use Rattle.hv_toks.specs.Lexical.{longest, is_char_constant, is_header_name, is_identifier, is_number, is_punctuator, is_string_literal}
use Rattle.hv_toks.specs.Cutting.{found, is_include, is_start, line_after, longer, longest_token, other, prefix, token_at}
use Rattle.hv_lexer.specs.Laws.{IsHeaderRight, NoneLonger, follows_hash, follows_include}
use Rattle.hv_lexer.proofs.ByteTests.{never_both}
use Rattle.hv_lexer.proofs.LongestTokens.{none_at_all, nothing_found, of_view, plain_at}
use Rattle.hv_lexer.proofs.PrefixCases.{view}

------ kinds

abbrev IsNone : Match → Type 0
IsNone m = m.kind ≡ HeaderName → ⊥

longer-none : (a b : Match) → IsNone a → IsNone b → IsNone (longer a b)
longer-none a b h l =
    elim (nat_lt a.len b.len) as (λ t. IsNone (cond t b a)) [ true ↦ l | false ↦ h ]

longest-none : (text : List ℕ) → IsNone (longest_token text)
longest-none text =
    longer-none (found Identifier (longest is_identifier text)) _ (λ e. cc)
    (longer-none (found Number (longest is_number text)) _ (λ e. cc)
    (longer-none (found CharConstant (longest is_char_constant text)) _ (λ e. cc)
    (longer-none (found StringLiteral (longest is_string_literal text))
    (found Punctuator (longest is_punctuator text)) (λ e. cc) (λ e. cc))))

plain-none : (t : Bool) (byte : ℕ) (bytes : List ℕ) → IsNone (plain_at t (byte ∷ bytes))
plain-none true byte bytes = longest-none (byte ∷ bytes)
plain-none false byte bytes = λ e. cc

at_include : (byte : ℕ) (bytes : List ℕ) (t : Bool)
    → nat_lt 0 (longest is_header_name (byte ∷ bytes)) ≡ t
    → IsHeaderRight true (cond t (found HeaderName (longest is_header_name (byte ∷ bytes)))
    (plain_at (nat_lt 0 (longest_token (byte ∷ bytes)).len) (byte ∷ bytes))).kind (byte ∷ bytes)
at_include byte bytes true e = inl refl
at_include byte bytes false e = inr (none_at_all is_header_name (byte ∷ bytes) (nothing_found _ e))

at : (line : LinePrefix) (byte : ℕ) (bytes : List ℕ)
    → IsHeaderRight (is_include line) (token_at line (byte ∷ bytes)).kind (byte ∷ bytes)
at Start byte bytes = plain-none _ byte bytes
at Hash byte bytes = plain-none _ byte bytes
at Include byte bytes = at_include byte bytes _ refl
at Rest byte bytes = plain-none _ byte bytes

pub header-right : (line : LinePrefix) (text : List ℕ) (m : Match) → prefix line text ≡ Token m
    → IsHeaderRight (is_include line) m.kind text
header-right line [] m e = absurd (cc)
header-right line (byte ∷ bytes) m e =
    let p = of_view line byte bytes _ m (view line byte bytes) e in
    rw p at (at line byte bytes)

------ the tokens before

-- what stands on the line agrees with the tokens before
abbrev pub Agrees : LinePrefix → List PpTok → Type 0
Agrees Start before = Unit {0}
Agrees Hash before = (follows_hash before ≡ true) × (follows_include before ≡ false)
Agrees Include before = (follows_hash before ≡ false) × (follows_include before ≡ true)
Agrees Rest before = (follows_hash before ≡ false) × (follows_include before ≡ false)

pub may-be : (line : LinePrefix) (before : List PpTok) → Agrees line before
    → (not (is_start line) && follows_include before) ≡ is_include line
may-be Start before h = refl
may-be Hash before h = h.1
may-be Include before h = h.1
may-be Rest before h = h.1

after_start : (tok : PpTok) (before : List PpTok) (t : Bool) → tok.first ≡ true
    → bytes_eq tok.text (codes "#") ≡ t → Agrees (cond t Hash Rest) (tok ∷ before)
after_start tok before true f e = (rw (f, e) refl, rw f refl)
after_start tok before false f e = (rw (f, e) refl, rw f refl)

after_hash : (tok : PpTok) (before : List PpTok) (t : Bool) → tok.first ≡ false
    → follows_hash before ≡ true → bytes_eq tok.text (codes "include") ≡ t
    → Agrees (cond t Include Rest) (tok ∷ before)
after_hash tok before true f h e = (rw f refl, rw (f, e, h) refl)
after_hash tok before false f h e = (rw f refl, rw (f, e) refl)

after_rest : (tok : PpTok) (before : List PpTok) → tok.first ≡ false → follows_hash before ≡ false
    → Agrees Rest (tok ∷ before)
after_rest tok before f h =
    (rw f refl, rw (f, h) (never_both (bytes_eq tok.text (codes "include"))))

pub agrees-after : (line : LinePrefix) (tok : PpTok) (before : List PpTok)
    → tok.first ≡ is_start line → Agrees line before
    → Agrees (line_after line tok.text) (tok ∷ before)
agrees-after Start tok before f h = after_start tok before _ f refl
agrees-after Hash tok before f h = after_hash tok before _ f h.0 refl
agrees-after Include tok before f h = after_rest tok before f h.0
agrees-after Rest tok before f h = after_rest tok before f h.0

pub no_start : (line : LinePrefix) (text : List ℕ) → is_start (line_after line text) ≡ false
no_start Start text =
    elim (bytes_eq text (codes "#")) as (λ t. is_start (cond t Hash Rest) ≡ false) [
      | true ↦ refl
      | false ↦ refl
    ]
no_start Hash text =
    elim (bytes_eq text (codes "include")) as (λ t. is_start (cond t Include Rest) ≡ false) [
      | true ↦ refl
      | false ↦ refl
    ]
no_start Include text = refl
no_start Rest text = refl
