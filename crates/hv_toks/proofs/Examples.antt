-- Small files and what they are cut into.
use Rattle.std.proofs.Common.{◌≡◌, ℕ, Bool, true, false, List, [], ◌∷◌, ◌++◌, refl}
use Rattle.std.specs.Prelude.{codes}
use Rattle.hv_toks.specs.declared.prefix.Prefix.TheVariants.{Comment, Token}
use Rattle.hv_toks.specs.declared.prefix.LinePrefix.TheVariants.{Start, Rest}
use Rattle.hv_toks.specs.declared.token.PpKind.{PpKind}
use Rattle.hv_toks.specs.declared.token.PpKind.TheVariants.{Identifier, Number, CharConstant, StringLiteral, HeaderName, Punctuator, Other}
use Rattle.hv_toks.specs.declared.token.PpTok.{PpTok}
use Rattle.hv_toks.specs.Cutting.{IsCut, tokens, open_comment, at_end, at_white, at_newline, at_comment, at_open_comment, at_token, prefix, found}

tok : PpKind → ℕ → ℕ → List ℕ → Bool → Bool → PpTok
tok kind start end text space first =
    record {
      kind = kind;
      span = record { file = 0; start = start; end = end };
      text = text;
      space =
          space;
      first = first;
    }

-- the longest punctuator first
sum : IsCut 0 (codes "a+++b")
    (tokens (tok Identifier 0 1 (codes "a") false true ∷ tok Punctuator 1 3 (codes "++") false false
    ∷ tok Punctuator 3 4 (codes "+") false false ∷ tok Identifier 4 5 (codes "b") false false ∷ []))
unfolding tok
sum = at_token (found Identifier 1) refl
    (at_token (found Punctuator 2) refl
    (at_token (found Punctuator 1) refl (at_token (found Identifier 1) refl (at_end refl))))

-- a comment is white space
comment : IsCut 0 (codes "x/**/y")
    (tokens (tok Identifier 0 1 (codes "x") false true ∷ tok Identifier 5 6 (codes "y") true false ∷
    []))
unfolding tok
comment =
    at_token (found Identifier 1) refl
    (at_comment 4 refl (at_token (found Identifier 1) refl (at_end refl)))

-- a quote that is not closed on its line
unclosed : IsCut 0 (codes "'ab" ++ 10 ∷ []) (tokens (tok Other 0 3 (codes "'ab") false true ∷ []))
unfolding tok
unclosed = at_token (found Other 3) refl (at_newline refl (at_end refl))

open_at : IsCut 0 (codes "x /*/") (open_comment 2)
open_at = at_token (found Identifier 1) refl (at_white refl (at_open_comment refl))

-- a token over two lines: `i\` and `f`
splice : IsCut 0 (105 ∷ 92 ∷ 13 ∷ 10 ∷ 102 ∷ 10 ∷ [])
    (tokens (tok Identifier 0 5 (codes "if") false true ∷ []))
unfolding tok
splice = at_token (found Identifier 2) refl (at_newline refl (at_end refl))

-- a header name, in which no comment begins
header : IsCut 0 (codes "#include <a//b>")
    (tokens (tok Punctuator 0 1 (codes "#") false true ∷
    tok Identifier 1 8 (codes "include") false false
    ∷ tok HeaderName 9 15 (codes "<a//b>") true false ∷ []))
unfolding tok
header =
    at_token (found Punctuator 1) refl
    (at_token (found Identifier 7) refl
    (at_white refl (at_token (found HeaderName 6) refl (at_end refl))))

-- elsewhere it is none
no_header : prefix Rest (codes "<a>") ≡ Token (found Punctuator 1)
no_header = refl

-- no comment begins in a string; an escaped quote does not close it
string : prefix Start (34 ∷ 47 ∷ 42 ∷ 92 ∷ 34 ∷ 34 ∷ 120 ∷ []) ≡ Token (found StringLiteral 6)
string = refl

wide : prefix Start (76 ∷ 39 ∷ 97 ∷ 39 ∷ []) ≡ Token (found CharConstant 4)
wide = refl

wide_open : prefix Start (76 ∷ 39 ∷ 97 ∷ []) ≡ Token (found Identifier 1)
wide_open = refl

exponent : prefix Rest (codes "1e+5+x") ≡ Token (found Number 4)
exponent = refl

-- 6.4 gives this one: it is no valid floating constant
hexadecimal : prefix Rest (codes "0x1ffe+y") ≡ Token (found Number 8)
hexadecimal = refl

fraction : prefix Rest (codes ".5.+") ≡ Token (found Number 3)
fraction = refl

dots : prefix Rest (codes "...x") ≡ Token (found Punctuator 3)
dots = refl

two_dots : prefix Rest (codes "..x") ≡ Token (found Punctuator 1)
two_dots = refl

-- an open quote at the end of a line whose newline has a carriage return
return_stays : prefix Rest (34 ∷ 97 ∷ 13 ∷ 10 ∷ []) ≡ Token (found Other 2)
return_stays = refl

no_token : prefix Rest (codes "@x") ≡ Token (found Other 1)
no_token = refl

line_comment : prefix Rest (codes "// a" ++ 10 ∷ []) ≡ Comment 4
line_comment = refl
