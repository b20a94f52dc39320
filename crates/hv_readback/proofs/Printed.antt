-- Printed tokens are cut into ordinary tokens, which become them again.
use Rattle.std.proofs.Common.{◌≡◌, ℕ, Bool, true, false, cond, List, [], ◌∷◌, ◌++◌, map, refl, sym, ap, ◌∙◌, subst, append_assoc, codes}
use Rattle.std.specs.Prelude.{◌&&◌, if◌then◌else◌, IsTrue, Result, Ok}
use Rattle.std.specs.List.{All}
use Rattle.std.specs.Str.{bytes_eq}
use Rattle.std.proofs.lemmas.List.Elements.{All-cons, All-head, All-nil, All-tail}
use Rattle.std.proofs.lemmas.Slice.Eq.{bytes_eq-Decides}
use Rattle.hv_base.proofs.Booleans.{and_left, and_right, not_true, contrary}
use Rattle.hv_base.proofs.Lists.{heads}
use Rattle.hv_base.specs.Ascii.{newline, space}
use Rattle.hv_base.specs.declared.token.CTok.{CTok}
use Rattle.hv_base.specs.declared.token.CTok.TheVariants.{Name, Punct}
use Rattle.hv_base.specs.declared.punct.Punct.TheVariants.{Hash}
use Rattle.hv_base.specs.declared.why.Why.{Why}
use Rattle.hv_ctoks.specs.Conversion.{converted}
use Rattle.hv_ctoks.specs.ReadBack.{Printed, text_of, IsPrintable, becomes}
use Rattle.hv_ctoks.specs.Spelling.{spelling}
use Rattle.hv_ctoks.specs.declared.reserved.ReservedNames.TheVariants.{Allowed}
use Rattle.hv_model.specs.Beginning.{beginning}
use Rattle.hv_print.specs.Shown.{ends_line, shown}
use Rattle.hv_toks.specs.Macro.{Macro, undefined}
use Rattle.hv_toks.specs.MacroState.{Entry, entries_of, meaning_of}
use Rattle.hv_toks.specs.declared.token.PpKind.{PpKind}
use Rattle.hv_toks.specs.declared.token.PpKind.TheVariants.{Identifier, Number, CharConstant, StringLiteral, HeaderName, Punctuator, Other}
use Rattle.hv_toks.specs.declared.token.PpTok.{PpTok}
use Rattle.hv_plainpp.specs.Laws.{AreOrdinary}
use Rattle.hv_plainpp.specs.Lines.{begins_directive}
use Rattle.hv_readback.specs.Laws.{is_predefined, is_printable}

------ the text

-- a token, with what is printed after it
abbrev pub as_printed : CTok → Printed
as_printed c = record { tok = c; newline = ends_line c }

pub text_shown : (cs : List CTok) → text_of (map as_printed cs) ≡ shown cs
text_shown [] = refl
text_shown (c ∷ cs) =
    ap (λ bytes. spelling c ++ cond (ends_line c) newline space ∷ bytes) (text_shown cs)
    ∙ sym (append_assoc (spelling c) (cond (ends_line c) newline space ∷ []) (shown cs))

-- a token, where nothing is refused
abbrev pub kept : CTok → Result CTok Why
kept c = Ok c

pub each_becomes : (cs : List CTok)
    → map (λ (p : Printed). kept p.tok) (map as_printed cs) ≡ map kept cs
each_becomes [] = refl
each_becomes (c ∷ cs) = ap (λ (rest : List (Result CTok Why)). kept c ∷ rest) (each_becomes cs)

pub printable : (cs : List CTok) → All (λ c. IsTrue (is_printable c)) cs
    → All (IsPrintable Allowed) (map as_printed cs)
printable [] all = All-nil (IsPrintable Allowed)
printable (c ∷ cs) all =
    let e = All-head (λ c. IsTrue (is_printable c)) c cs all in
    All-cons (IsPrintable Allowed) (as_printed c) (map as_printed cs)
    (and_left _ _ (and_left _ _ e), and_right _ _ (and_left _ _ e))
    (printable cs (All-tail (λ c. IsTrue (is_printable c)) c cs all))

------ no directive

-- what becomes a token of C and is spelled `#` becomes a token that is spelled so
hash_becomes : (kind : PpKind) (c : CTok) → converted Allowed kind (codes "#") ≡ Ok c
    → bytes_eq (spelling c) (codes "#") ≡ true
hash_becomes Identifier c e =
    let same : Name (codes "#") ≡ c = cc in
    subst (λ (x : CTok). bytes_eq (spelling x) (codes "#") ≡ true) same refl
hash_becomes Number c e = cc
hash_becomes CharConstant c e = cc
hash_becomes StringLiteral c e = cc
hash_becomes HeaderName c e = cc
hash_becomes Punctuator c e =
    let same : Punct Hash ≡ c = cc in
    subst (λ (x : CTok). bytes_eq (spelling x) (codes "#") ≡ true) same refl
hash_becomes Other c e = cc

-- a text that becomes this token isn't one that becomes only other tokens
differs : (word text : List ℕ) (kind : PpKind) (c : CTok) (P : Bool)
    → (converted Allowed kind word ≡ Ok c → P ≡ true)
    → converted Allowed kind text ≡ Ok c → P ≡ false → bytes_eq text word ≡ false
differs word text kind c P law e p =
    elim (bytes_eq text word) as (λ b. bytes_eq text word ≡ b → b ≡ false) [
      | true ↦ λ q. let same : text ≡ word = (bytes_eq-Decides text word).0 q in
          contrary P (law (subst (λ (t : List ℕ). converted Allowed kind t ≡ Ok c) same e)) p
      | false ↦ λ q. refl
    ] refl

no_start : (first b : Bool) → b ≡ false → (first && b) ≡ false
no_start true b e = e
no_start false b e = refl

no_directive : (t : PpTok) (c : CTok) → becomes Allowed t ≡ Ok c → is_printable c ≡ true
    → begins_directive t ≡ false
no_directive t c e p =
    no_start t.first (bytes_eq t.text (codes "#"))
    (differs (codes "#") t.text t.kind c (bytes_eq (spelling c) (codes "#")) (hash_becomes t.kind c) e
    (not_true _ (and_right _ _ (and_left _ _ p))))

------ no macro

-- the macro state in which a unit without options begins
abbrev pub start : List Entry
start = entries_of (beginning [] [])

stdc_becomes : (kind : PpKind) (c : CTok) → converted Allowed kind (codes "__STDC__") ≡ Ok c
    → is_predefined c ≡ true
stdc_becomes Identifier c e =
    let same : Name (codes "__STDC__") ≡ c = cc in
    subst (λ (x : CTok). is_predefined x ≡ true) same refl
stdc_becomes Number c e = cc
stdc_becomes CharConstant c e = cc
stdc_becomes StringLiteral c e = cc
stdc_becomes HeaderName c e = cc
stdc_becomes Punctuator c e = cc
stdc_becomes Other c e = cc

hosted_becomes : (kind : PpKind) (c : CTok)
    → converted Allowed kind (codes "__STDC_HOSTED__") ≡ Ok c → is_predefined c ≡ true
hosted_becomes Identifier c e =
    let same : Name (codes "__STDC_HOSTED__") ≡ c = cc in
    subst (λ (x : CTok). is_predefined x ≡ true) same refl
hosted_becomes Number c e = cc
hosted_becomes CharConstant c e = cc
hosted_becomes StringLiteral c e = cc
hosted_becomes HeaderName c e = cc
hosted_becomes Punctuator c e = cc
hosted_becomes Other c e = cc

version_becomes : (kind : PpKind) (c : CTok)
    → converted Allowed kind (codes "__STDC_VERSION__") ≡ Ok c → is_predefined c ≡ true
version_becomes Identifier c e =
    let same : Name (codes "__STDC_VERSION__") ≡ c = cc in
    subst (λ (x : CTok). is_predefined x ≡ true) same refl
version_becomes Number c e = cc
version_becomes CharConstant c e = cc
version_becomes StringLiteral c e = cc
version_becomes HeaderName c e = cc
version_becomes Punctuator c e = cc
version_becomes Other c e = cc

bytes_eq_sym : (a b : List ℕ) → bytes_eq a b ≡ false → bytes_eq b a ≡ false
bytes_eq_sym a b e = elim (bytes_eq b a) as (λ r. bytes_eq b a ≡ r → r ≡ false) [
  | true ↦ λ q. contrary (bytes_eq a b)
      ((bytes_eq-Decides a b).1 (sym ((bytes_eq-Decides b a).0 q))) e
  | false ↦ λ q. refl
] refl

-- three definitions, of which none is of the name
none_of : (a b c : Bool) (x y z : Macro) → a ≡ false → b ≡ false → c ≡ false
    → (if c then z else (if b then y else (if a then x else undefined))) ≡ undefined
none_of a b c x y z e f g = rw (e, f, g) refl

no_macro : (t : PpTok) (c : CTok) → becomes Allowed t ≡ Ok c → is_printable c ≡ true
    → meaning_of start t.text ≡ undefined
no_macro t c e p =
    let free : is_predefined c ≡ false = not_true _ (and_right _ _ p) in
    none_of _ _ _ _ _ _
    (bytes_eq_sym t.text (codes "__STDC__")
    (differs (codes "__STDC__") t.text t.kind c (is_predefined c) (stdc_becomes t.kind c) e free))
    (bytes_eq_sym t.text (codes "__STDC_HOSTED__")
    (differs (codes "__STDC_HOSTED__") t.text t.kind c (is_predefined c) (hosted_becomes t.kind c) e free))
    (bytes_eq_sym t.text (codes "__STDC_VERSION__")
    (differs (codes "__STDC_VERSION__") t.text t.kind c (is_predefined c) (version_becomes t.kind c) e free))

------ all tokens

-- tokens that become printable ones are ordinary
pub ordinary : (toks : List PpTok) (cs : List CTok) → map (becomes Allowed) toks ≡ map kept cs
    → All (λ c. IsTrue (is_printable c)) cs → AreOrdinary start toks
ordinary [] cs e all = tt
ordinary (t ∷ toks) [] e all = cc
ordinary (t ∷ toks) (c ∷ cs) e all =
    let both = heads (becomes Allowed t) (kept c) (map (becomes Allowed) toks) (map kept cs) e in
    let p = All-head (λ c. IsTrue (is_printable c)) c cs all in (
      (no_directive t c both.0 p, no_macro t c both.0 p),
      ordinary toks cs both.1 (All-tail (λ c. IsTrue (is_printable c)) c cs all),
    )
