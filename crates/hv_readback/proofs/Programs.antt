-- The tokens that a program is derived from may be printed, and so are read back.
use Rattle.std.proofs.Common.{◌≡◌, ℕ, Bool, true, false, cond, not, List, [], ◌∷◌, map, refl, sym, ap, ◌∙◌, subst, codes, Some}
use Rattle.std.specs.Prelude.{◌&&◌, ◌||◌, IsTrue, drop}
use Rattle.std.specs.List.{All, list_any}
use Rattle.std.specs.Str.{bytes_eq}
use Rattle.std.proofs.lemmas.List.Elements.{All-cons, All-head, All-nil, All-tail}
use Rattle.std.proofs.lemmas.Slice.Eq.{bytes_eq-Decides}
use Rattle.hv_base.proofs.Booleans.{and_both, and_left, and_right, contrary, not_true}
use Rattle.hv_base.proofs.Lists.{heads}
use Rattle.hv_base.proofs.PunctsLemmas as puncts_lemmas
use Rattle.hv_base.specs.Ascii.{is_among}
use Rattle.hv_base.specs.Puncts.{punct_of, spelling_of}
use Rattle.hv_base.specs.declared.punct.Punct.{Punct as Sign}
use Rattle.hv_base.specs.declared.punct.Punct.TheVariants.{Hash}
use Rattle.hv_base.specs.declared.token.CTok.{CTok}
use Rattle.hv_base.specs.declared.token.CTok.TheVariants.{Keyword, Name, Int, Char, Str, Punct}
use Rattle.hv_ctoks.specs.Spelling.{spelling}
use Rattle.hv_ctoks.specs.Tokens.{is_token, kind_of}
use Rattle.hv_ctoks.specs.declared.reserved.ReservedNames.TheVariants.{Allowed}
use Rattle.hv_ctoks.proofs.ReadBack.{is_spelled}
use Rattle.hv_grammar.specs.Grammar.{symbol_of, plain_symbol, foreign_names}
use Rattle.hv_grammar.specs.Symbols.{Symbol, keyword, name, marked, number, text, sign, hole, foreign, Token}
use Rattle.hv_lexer.specs.Printed.{is_spelling}
use Rattle.hv_print.specs.ProgramTokens.{externals_tokens}
use Rattle.hv_print.specs.Shown.{shown, c_tokens}
use Rattle.hv_print.proofs.FillLemmas.{externals_read}
use Rattle.hv_print.proofs.SpeltLemmas.{spelt_externals}
use Rattle.hv_print.proofs.TokensLemmas.{tokens_back, plain_given}
use Rattle.hv_readback.specs.Laws.{is_predefined, is_printable, is_string, begins_with_string, are_apart, ProgramsAreReadBack}
use Rattle.hv_readback.specs.Texts.{IsPreprocessed}
use Rattle.hv_readback.proofs.ApartLemmas.{is_hash, apart, apart_externals}
use Rattle.hv_readback.proofs.Preprocessed.{tokens_are_read_back}

------ one token

-- a token that isn't `#`
abbrev is_good : Symbol → Bool
is_good (keyword k) = true
is_good (name n) = true
is_good (marked n) = true
is_good (number v) = true
is_good (text b) = true
is_good (sign p) = not (is_hash p)
is_good hole = false
is_good foreign = false

abbrev is_text : Symbol → Bool
is_text (keyword k) = false
is_text (name n) = false
is_text (marked n) = false
is_text (number v) = false
is_text (text b) = true
is_text (sign p) = false
is_text hole = false
is_text foreign = false

good_plain : (s : Symbol) → is_good (plain_symbol s) ≡ is_good s
good_plain (keyword k) = refl
good_plain (name n) = refl
good_plain (marked n) = refl
good_plain (number v) = refl
good_plain (text b) = refl
good_plain (sign p) = refl
good_plain hole = refl
good_plain foreign = refl

text_plain : (s : Symbol) → is_text (plain_symbol s) ≡ is_text s
text_plain (keyword k) = refl
text_plain (name n) = refl
text_plain (marked n) = refl
text_plain (number v) = refl
text_plain (text b) = refl
text_plain (sign p) = refl
text_plain hole = refl
text_plain foreign = refl

name_text : (b : Bool) (n : List ℕ) → is_text (cond b foreign (name n)) ≡ false
name_text true n = refl
name_text false n = refl

string_text : (c : CTok) → is_string c ≡ is_text (symbol_of c false)
string_text (Keyword k) = refl
string_text (Name n) = sym (name_text (is_among n foreign_names) n)
string_text (Int v k) = refl
string_text (Char v) = refl
string_text (Str b) = refl
string_text (Punct p) = refl

never : (after : Bool) → not (after && false) ≡ true
never true = refl
never false = refl

not_both : (after : Bool) → not after ≡ true → not (after && true) ≡ true
not_both true e = cc
not_both false e = refl

-- the first of tokens that are apart, and the others
first_apart : (after : Bool) (s : Symbol) (ss : List Symbol) → apart after (s ∷ ss) ≡ true
    → (is_good s ≡ true) × ((not (after && is_text s) ≡ true) × (apart (is_text s) ss ≡ true))
first_apart after (keyword k) ss e = (refl, (never after, e))
first_apart after (name n) ss e = (refl, (never after, e))
first_apart after (marked n) ss e = (refl, (never after, e))
first_apart after (number v) ss e = (refl, (never after, e))
first_apart after (text b) ss e = (refl, (not_both after (and_left _ _ e), and_right _ _ e))
first_apart after (sign p) ss e = (and_left _ _ e, (never after, and_right _ _ e))
first_apart after hole ss e = cc
first_apart after foreign ss e = cc

------ no `#`

is_sign_hash : (p : Sign) → spelling_of p ≡ codes "#" → is_hash p ≡ true
is_sign_hash p e =
    let same : Some p ≡ Some Hash = sym (puncts_lemmas.read_back p) ∙ ap punct_of e in
    let hash : p ≡ Hash = cc in
    ap is_hash hash

-- the spelling of a token is one of its kind
hash_spelled : (c : CTok) → is_token Allowed c ≡ true → spelling c ≡ codes "#"
    → is_spelling (kind_of c) (codes "#") ≡ true
hash_spelled c t e =
    subst (λ (bytes : List ℕ). is_spelling (kind_of c) bytes ≡ true) e (is_spelled Allowed c t)

spelled_hash : (c : CTok) → is_token Allowed c ≡ true → is_good (symbol_of c false) ≡ true
    → spelling c ≡ codes "#" → ⊥
spelled_hash (Keyword k) t g e = contrary _ (hash_spelled (Keyword k) t e) refl
spelled_hash (Name n) t g e = contrary _ (hash_spelled (Name n) t e) refl
spelled_hash (Int v k) t g e = contrary _ (hash_spelled (Int v k) t e) refl
spelled_hash (Char v) t g e = contrary _ (hash_spelled (Char v) t e) refl
spelled_hash (Str b) t g e = contrary _ (hash_spelled (Str b) t e) refl
spelled_hash (Punct p) t g e = contrary (is_hash p) (is_sign_hash p e) (not_true (is_hash p) g)

no_hash : (c : CTok) → (spelling c ≡ codes "#" → ⊥) → not (bytes_eq (spelling c) (codes "#")) ≡ true
no_hash c n = elim (bytes_eq (spelling c) (codes "#")) as
    (λ b. bytes_eq (spelling c) (codes "#") ≡ b → not b ≡ true) [
      | true ↦ λ q. absurd (n ((bytes_eq-Decides (spelling c) (codes "#")).0 q))
      | false ↦ λ q. refl
    ] refl

------ no macro

known : (b : Bool) (n : List ℕ) → is_good (cond b foreign (name n)) ≡ true → b ≡ false
known true n g = cc
known false n g = refl

-- what holds of none of these holds of none of the first three
three : (a b c rest : Bool) → a || (b || (c || rest)) ≡ false
    → not (a || (b || (c || false))) ≡ true
three true b c rest e = cc
three false true c rest e = cc
three false false true rest e = cc
three false false false rest e = refl

no_macro : (c : CTok) → is_good (symbol_of c false) ≡ true → not (is_predefined c) ≡ true
no_macro (Keyword k) g = refl
no_macro (Name n) g =
    three (bytes_eq n (codes "__STDC__")) (bytes_eq n (codes "__STDC_HOSTED__"))
    (bytes_eq n (codes "__STDC_VERSION__")) (list_any (bytes_eq n) (drop 3 foreign_names))
    (known (is_among n foreign_names) n g)
no_macro (Int v k) g = refl
no_macro (Char v) g = refl
no_macro (Str b) g = refl
no_macro (Punct p) g = refl

------ all tokens

good_token : (s : Symbol) (c : CTok) → plain_symbol s ≡ symbol_of c false → is_good s ≡ true
    → is_good (symbol_of c false) ≡ true
good_token s c e g = sym (ap is_good e) ∙ good_plain s ∙ g

all_printable : (after : Bool) (ss : List Symbol) (cs : List CTok)
    → map plain_symbol ss ≡ map (λ c. symbol_of c false) cs → apart after ss ≡ true
    → All (λ c. IsTrue (is_token Allowed c)) cs → All (λ c. IsTrue (is_printable c)) cs
all_printable after [] [] e a all = All-nil (λ c. IsTrue (is_printable c))
all_printable after [] (c ∷ cs) e a all = cc
all_printable after (s ∷ ss) [] e a all = cc
all_printable after (s ∷ ss) (c ∷ cs) e a all =
    let both =
    heads (plain_symbol s) (symbol_of c false) (map plain_symbol ss) (map (λ c. symbol_of c false) cs) e in
    let parts = first_apart after s ss a in
    let t = All-head (λ c. IsTrue (is_token Allowed c)) c cs all in
    let g = good_token s c both.0 parts.0 in
    All-cons (λ c. IsTrue (is_printable c)) c cs
    (and_both _ _ (and_both _ _ t (no_hash c (spelled_hash c t g))) (no_macro c g))
    (all_printable (is_text s) ss cs both.1 parts.1.1 (All-tail (λ c. IsTrue (is_token Allowed c)) c cs all))

none_after : (after : Bool) → not (after && false) && true ≡ true
none_after true = refl
none_after false = refl

all_apart : (after : Bool) (ss : List Symbol) (cs : List CTok)
    → map plain_symbol ss ≡ map (λ c. symbol_of c false) cs → apart after ss ≡ true
    → not (after && begins_with_string cs) && are_apart cs ≡ true
all_apart after [] [] e a = none_after after
all_apart after [] (c ∷ cs) e a = cc
all_apart after (s ∷ ss) [] e a = cc
all_apart after (s ∷ ss) (c ∷ cs) e a =
    let both =
    heads (plain_symbol s) (symbol_of c false) (map plain_symbol ss) (map (λ c. symbol_of c false) cs) e in
    let parts = first_apart after s ss a in
    let same : is_text s ≡ is_string c =
    sym (text_plain s) ∙ (ap is_text both.0 ∙ sym (string_text c)) in
    subst (λ (b : Bool). not (after && b) && (not (b && begins_with_string cs) && are_apart cs) ≡ true) same
    (and_both _ _ parts.1.0 (all_apart (is_text s) ss cs both.1 parts.1.1))

------ the law

pub programs_are_read_back : ProgramsAreReadBack
programs_are_read_back limits file tokens program all d =
    let derived = d.derives in
    let ss : List Symbol = externals_tokens program.externals in
    let plain : map plain_symbol ss ≡ map (λ c. symbol_of c false) tokens =
    ap (map plain_symbol) (sym (externals_read derived.reads)) ∙ plain_given derived.first
    ∙ ap (map (λ (t : Token). t.symbol)) derived.tokens ∙ d.same in
    let back : c_tokens ss ≡ tokens =
    tokens_back ss tokens (spelt_externals program.externals) plain in
    let fits = apart_externals program.externals in
    record {
      tokens = tokens;
      preprocessed = subst (λ (cs : List CTok). IsPreprocessed file (shown cs) tokens) (sym back)
          (tokens_are_read_back file tokens (all_printable false ss tokens plain fits all)
          (all_apart false ss tokens plain fits));
      derived = d;
    }
