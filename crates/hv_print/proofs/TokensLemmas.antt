-- A C token is the token that its terminal is, so terminals that are C tokens say which they are.
use Rattle.std.proofs.Common.{◌≡◌, Bool, true, false, List, [], ◌∷◌, ◌++◌, map, cond, refl, sym, ap, ◌∙◌}
use Rattle.std.specs.Prelude.{ℕ, ◌&&◌}
use Rattle.hv_base.specs.Ascii.{is_among}
use Rattle.hv_base.specs.declared.token.CTok.{CTok}
use Rattle.hv_base.specs.declared.token.CTok.TheVariants.{Keyword, Name, Int, Char, Str, Punct}
use Rattle.hv_grammar.specs.Symbols.{Symbol, keyword, name, marked, number, text, sign, hole, foreign, Marked, Token}
use Rattle.hv_grammar.specs.Grammar.{symbol_of, plain_symbol, given, foreign_names}
use Rattle.hv_grammar.proofs.Spelling.{symbols}
use Rattle.hv_print.specs.Shown.{token_of, c_tokens}
use Rattle.hv_print.proofs.SpeltLemmas.{spelt, all_spelt}

token_plain : (s : Symbol) → token_of (plain_symbol s) ≡ token_of s
token_plain (keyword k) = refl
token_plain (name n) = refl
token_plain (marked n) = refl
token_plain (number v) = refl
token_plain (text b) = refl
token_plain (sign p) = refl
token_plain hole = refl
token_plain foreign = refl

spelt_plain : (s : Symbol) → spelt (plain_symbol s) ≡ spelt s
spelt_plain (keyword k) = refl
spelt_plain (name n) = refl
spelt_plain (marked n) = refl
spelt_plain (number v) = refl
spelt_plain (text b) = refl
spelt_plain (sign p) = refl
spelt_plain hole = refl
spelt_plain foreign = refl

spelt_first : (s : Symbol) (ss : List Symbol) → all_spelt (s ∷ ss) ≡ true
    → (spelt s ≡ true) × (all_spelt ss ≡ true)
spelt_first (keyword k) ss e = (refl, e)
spelt_first (name n) ss e = (refl, e)
spelt_first (marked n) ss e = (refl, e)
spelt_first (number v) ss e = (refl, e)
spelt_first (text b) ss e = (refl, e)
spelt_first (sign p) ss e = (refl, e)
spelt_first hole ss e = cc
spelt_first foreign ss e = cc

name_back : (b : Bool) (n : List ℕ) → spelt (cond b foreign (name n)) ≡ true
    → token_of (cond b foreign (name n)) ≡ Name n ∷ []
name_back true n e = cc
name_back false n e = refl

token_back : (c : CTok) → spelt (symbol_of c false) ≡ true
    → token_of (symbol_of c false) ≡ c ∷ []
token_back (Keyword k) e = refl
token_back (Name n) e = name_back (is_among n foreign_names) n e
token_back (Int v k) e = refl
token_back (Char v) e = refl
token_back (Str b) e = refl
token_back (Punct p) e = refl

-- terminals that C tokens are, marks of typedef names aside, are these C tokens
pub tokens_back : (ss : List Symbol) (cs : List CTok) → all_spelt ss ≡ true
    → map plain_symbol ss ≡ map (λ c. symbol_of c false) cs
    → c_tokens ss ≡ cs
tokens_back [] [] e f = refl
tokens_back [] (c ∷ cs) e f = cc
tokens_back (s ∷ ss) [] e f = cc
tokens_back (s ∷ ss) (c ∷ cs) e f =
    let first : plain_symbol s ≡ symbol_of c false = cc in
    let rest : map plain_symbol ss ≡ map (λ x. symbol_of x false) cs = cc in
    let both = spelt_first s ss e in
    let known : spelt (symbol_of c false) ≡ true =
    sym (ap spelt first) ∙ spelt_plain s ∙ both.0 in
    let here : token_of s ≡ c ∷ [] =
    sym (token_plain s) ∙ ap token_of first ∙ token_back c known in
    ap (λ ts. ts ++ c_tokens ss) here ∙ ap (λ ts. c ∷ ts) (tokens_back ss cs both.1 rest)

------ the tokens of a derivation

-- tokens as preprocessing gives them, without their places
pub plain_given : (first : List Marked)
    → map plain_symbol (symbols first) ≡ map (λ (t : Token). t.symbol) (map given first)
plain_given [] = refl
plain_given (t ∷ first) = ap (λ ss. plain_symbol t.token.symbol ∷ ss) (plain_given first)

-- tokens without their marks and places
pub symbols_first : (first : List Marked)
    → symbols first ≡ map (λ (t : Token). t.symbol) (map (λ (t : Marked). t.token) first)
symbols_first [] = refl
symbols_first (t ∷ first) = ap (λ ss. t.token.symbol ∷ ss) (symbols_first first)

-- a C token that isn't marked stays as it is
plain_symbol_of : (b : Bool) (n : List ℕ)
    → plain_symbol (cond b foreign (name n)) ≡ cond b foreign (name n)
plain_symbol_of true n = refl
plain_symbol_of false n = refl

plain_token : (c : CTok) → plain_symbol (symbol_of c false) ≡ symbol_of c false
plain_token (Keyword k) = refl
plain_token (Name n) = plain_symbol_of (is_among n foreign_names) n
plain_token (Int v k) = refl
plain_token (Char v) = refl
plain_token (Str b) = refl
plain_token (Punct p) = refl

plain_tokens : (cs : List CTok)
    → map plain_symbol (map (λ c. symbol_of c false) cs) ≡ map (λ c. symbol_of c false) cs
plain_tokens [] = refl
plain_tokens (c ∷ cs) =
    ap (λ s. s ∷ map plain_symbol (map (λ x. symbol_of x false) cs)) (plain_token c)
    ∙ ap (λ ss. symbol_of c false ∷ ss) (plain_tokens cs)

pub plain_back : (cs : List CTok) (ss : List Symbol) → ss ≡ map (λ c. symbol_of c false) cs
    → map plain_symbol ss ≡ map (λ c. symbol_of c false) cs
plain_back cs ss e = ap (map plain_symbol) e ∙ plain_tokens cs
