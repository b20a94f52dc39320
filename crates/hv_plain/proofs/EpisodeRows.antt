-- The examples of macro replacement of 6.10.3.5, some refusals, and white space, computed. A text
-- is written with a blank before a token that stands after white space, and a backquote before one
-- that doesn't.
use Rattle.std.proofs.Common.{◌≡◌, ℕ, zero, suc, ◌+◌, Bool, true, false, List, [], ◌∷◌, ◌++◌, refl, Option, Some, None}
use Rattle.std.specs.Prelude.{◌==◌, codes, length}
use Rattle.std.specs.Str.{bytes_eq}
use Rattle.hv_base.specs.declared.place.Place.{Place}
use Rattle.hv_base.specs.declared.why.Why.{Why}
use Rattle.hv_base.specs.declared.why.Why.TheVariants.{BadInvocation, DirectiveInArguments, BadPaste}
use Rattle.hv_toks.specs.Cutting.{whole_token}
use Rattle.hv_toks.specs.Macro.{Macro, undefined, defined}
use Rattle.hv_toks.specs.Spelled.{Spelled}
use Rattle.hv_toks.specs.declared.macros.Body.{Body}
use Rattle.hv_toks.specs.declared.macros.Body.TheVariants.{Object, Function}
use Rattle.hv_toks.specs.declared.token.PpKind.{PpKind}
use Rattle.hv_toks.specs.declared.token.PpKind.TheVariants.{Other}
use Rattle.hv_toks.specs.declared.token.PpTok.{PpTok}
use Rattle.hv_plain.specs.declared.episode.RunEnd.{RunEnd}
use Rattle.hv_plain.specs.declared.episode.RunEnd.TheVariants.{Directive, FileEnd, Line}
use Rattle.hv_plain.specs.episode.Episode.{episode, goes_on}
use Rattle.hv_plain.specs.episode.Expansion.{Result, expands, fails, run}

------ texts

abbrev kind : Option PpKind → PpKind
kind None = Other
kind (Some k) = k

abbrev word : Bool → List ℕ → List PpTok → List PpTok
word space [] after = after
word space (byte ∷ bytes) after = record {
  kind = kind (whole_token (byte ∷ bytes));
  span = record { file = 0; start = 0; end = 0 };
  text = byte ∷ bytes;
  space = space;
  first = false;
} ∷ after

abbrev words : Bool → (begun : List ℕ) → List ℕ → List PpTok
words space begun [] = word space begun []
words space begun (byte ∷ bytes) = elim (byte == 32) [
  | true ↦ word space begun (words true [] bytes)
  | false ↦ elim (byte == 96) [
    | true ↦ word space begun (words false [] bytes)
    | false ↦ words space (begun ++ byte ∷ []) bytes
  ]
]

abbrev text : List ℕ → List PpTok
text bytes = words false [] bytes

-- tokens with one blank or backquote between them
abbrev more_shown : List Spelled → List ℕ
more_shown [] = []
more_shown (s ∷ tokens) = (elim s.space [ true ↦ 32 | false ↦ 96 ]) ∷ (s.text ++ more_shown tokens)

abbrev shown : List Spelled → List ℕ
shown [] = []
shown (s ∷ tokens) = s.text ++ more_shown tokens

-- tokens with one blank between them
abbrev more_listed : List Spelled → List ℕ
more_listed [] = []
more_listed (s ∷ tokens) = 32 ∷ (s.text ++ more_listed tokens)

------ macros

record Line_ : Type 0 where
  name : List ℕ
  body : Body

abbrev object : List ℕ → List ℕ → Line_
object name bytes = record { name = name; body = Object (text bytes) }

abbrev function : List ℕ → List (List ℕ) → List ℕ → Line_
function name params bytes = record { name = name; body = Function params false (text bytes) }

abbrev variadic : List ℕ → List (List ℕ) → List ℕ → Line_
variadic name params bytes = record { name = name; body = Function params true (text bytes) }

abbrev place : ℕ → Place
place n = record { stack = []; file = 0; offset = n }

abbrev meaning : ℕ → List Line_ → List ℕ → Macro
meaning n [] name = undefined
meaning n (l ∷ lines) name = elim (bytes_eq l.name name) [
  | true ↦ defined (place n) l.body
  | false ↦ meaning (n + 1) lines name
]

------ what comes of a text

data Seen : Type 0 where
  Gives : List ℕ → Seen
  Refuses : Why → Seen

abbrev before : List Spelled → Seen → Seen
before given (Gives bytes) = Gives (more_listed given ++ bytes)
before given (Refuses why) = Refuses why

-- the tokens of all episodes of a run, or the first refusal
all_from : RunEnd → (List ℕ → Macro) → (fuel : ℕ) → List PpTok → ℕ → Seen
all_from ends macros zero run position = Gives []
all_from ends macros (suc fuel) run position = elim (bytes_eq (position ∷ []) (length run ∷ [])) [
  | true ↦ Gives []
  | false ↦ elim (episode ends run position macros).result [
    | expands given unread ↦ before given
        (all_from ends macros fuel run (goes_on run position (expands given unread)))
    | fails why ↦ Refuses why
  ]
]

abbrev all : RunEnd → List Line_ → List ℕ → Seen
all ends lines bytes = all_from ends (meaning 0 lines) (length bytes) (text bytes) 0

-- the tokens of the episode at the beginning of a run, with their white space
abbrev first_result : Result → Seen
first_result (expands given unread) = Gives (shown given)
first_result (fails why) = Refuses why

abbrev first : RunEnd → List Line_ → List ℕ → Seen
first ends lines bytes = first_result (episode ends (text bytes) 0 (meaning 0 lines)).result

------ rescanning and hide sets

abbrev rescanned : List Line_
rescanned =
    object (codes "x") (codes "2") ∷ function (codes "f") (codes "a" ∷ []) (codes "f`(`x * (`a`)`)")
    ∷ object (codes "g") (codes "f") ∷ object (codes "z") (codes "z`[`0`]")
    ∷ object (codes "h") (codes "g`(`~") ∷ function (codes "m") (codes "a" ∷ []) (codes "a`(`w`)")
    ∷ object (codes "w") (codes "0`,`1") ∷ function (codes "t") (codes "a" ∷ []) (codes "a")
    ∷ function (codes "p") [] (codes "int") ∷ function (codes "q") (codes "x" ∷ []) (codes "x")
    ∷ function (codes "r") (codes "x" ∷ codes "y" ∷ []) (codes "x ## y")
    ∷ function (codes "str") (codes "x" ∷ []) (codes "# x") ∷ []

nested : all FileEnd rescanned
    (codes "f`(`y`+`1`) + f`(`f`(`z`)`) % t`(`t`(`g`)`(`0`) + t`)`(`1`)`;")
    ≡ Gives (codes
    " f ( 2 * ( y + 1 ) ) + f ( 2 * ( f ( 2 * ( z [ 0 ] ) ) ) ) % f ( 2 * ( 0 ) ) + t ( 1 ) ;")
unfolding all_from episode run
nested = refl

from_the_rest : all FileEnd rescanned
    (codes "g`(`x`+`(`3`,`4`)`-`w`) | h 5`) & m`(`f`)`^`m`(`m`)`;")
    ≡ Gives (codes
    " f ( 2 * ( 2 + ( 3 , 4 ) - 0 , 1 ) ) | f ( 2 * ( ~ 5 ) ) & " ++
    codes "f ( 2 * ( 0 , 1 ) ) ^ m ( 0 , 1 ) ;")
unfolding all_from episode run
from_the_rest = refl

empty_arguments : all FileEnd rescanned
    (codes "p`(`) i`[`q`(`)`] = { q`(`1`)`, r`(`2`,`3`)`, r`(`4`,`)`, r`(`,`5`)`, r`(`,`) }`;")
    ≡ Gives (codes " int i [ ] = { 1 , 23 , 4 , 5 , } ;")
unfolding all_from episode run
empty_arguments = refl

abbrev quoted : List ℕ → List ℕ
quoted bytes = 34 ∷ (bytes ++ 34 ∷ [])

strings : all FileEnd rescanned (codes "str`(` hello  world`) str`(`)")
    ≡ Gives (32 ∷ (quoted (codes "hello world") ++ 32 ∷ quoted []))
unfolding all_from episode run
strings = refl

------ `#` and `##`

abbrev pasted : List Line_
pasted =
    function (codes "str") (codes "s" ∷ []) (codes "# s")
    ∷ function (codes "xstr") (codes "s" ∷ []) (codes "str`(`s`)")
    ∷ function (codes "glue") (codes "a" ∷ codes "b" ∷ []) (codes "a ## b")
    ∷ function (codes "xglue") (codes "a" ∷ codes "b" ∷ []) (codes "glue`(`a`, b`)")
    ∷ object (codes "HIGHLOW") (quoted (codes "hello")) ∷
    object (codes "LOW") (codes "LOW " ++ quoted (codes "world"))
    ∷ function (codes "file") (codes "n" ∷ []) (codes "vers ## n")
    ∷ function (codes "t") (codes "x" ∷ codes "y" ∷ codes "z" ∷ []) (codes "x ## y ## z")
    ∷ object (codes "hash_hash") (codes "# ## #")
    ∷ function (codes "in_between") (codes "a" ∷ []) (codes "xstr`(`a hash_hash`)")
    ∷ []

glued : all FileEnd pasted (codes "glue`(`HIGH`, LOW`)`; xglue`(`HIGH`, LOW`)")
    ≡ Gives (32 ∷
    (quoted (codes "hello") ++ codes " ; " ++ quoted (codes "hello") ++ 32 ∷
    quoted (codes "world")))
unfolding all_from episode run
glued = refl

expanded_first : all FileEnd pasted (codes "xstr`(`file`(`2`)`.`h`) str`(`file`(`2`)`)")
    ≡ Gives (32 ∷ (quoted (codes "vers2.h") ++ 32 ∷ quoted (codes "file(2)")))
unfolding all_from episode run
expanded_first = refl

escapes : all FileEnd pasted (codes "str`(`" ++ quoted (codes "a\\n") ++ codes " : @ '\\0'`)")
    ≡ Gives (32 ∷
    (34 ∷ 92 ∷ 34 ∷ (codes "a" ++ 92 ∷ 92 ∷
    (codes "n" ++ 92 ∷ 34 ∷ (codes " : @ '" ++ 92 ∷ 92 ∷ (codes "0'" ++ 34 ∷ []))))))
unfolding all_from episode run
escapes = refl

three : all FileEnd pasted (codes
    "t`(`1`,`2`,`3`) t`(`,`4`,`5`) t`(`6`,`,`7`) t`(`8`,`9`,`) " ++
    codes "t`(`10`,`,`) t`(`,`11`,`) t`(`,`,`12`) t`(`,`,`)")
    ≡ Gives (codes " 123 45 67 89 10 11 12")
unfolding all_from episode run
three = refl

-- a `##` that is the result of one isn't an operator
hashes : all FileEnd pasted (codes "in_between`(`x`)") ≡ Gives (32 ∷ quoted (codes "x ##"))
unfolding all_from episode run
hashes = refl

no_token : all FileEnd pasted (codes "glue`(`+`,`x`)") ≡ Refuses BadPaste
unfolding all_from episode run
no_token = refl

-- two slashes begin a comment, which is no token
no_comment : all FileEnd pasted (codes "glue`(`/`,`/`)") ≡ Refuses BadPaste
unfolding all_from episode run
no_comment = refl

------ variable arguments

abbrev variable : List Line_
variable =
    variadic (codes "debug") [] (codes "fprintf`(`stderr`, __VA_ARGS__`)")
    ∷ variadic (codes "showlist") [] (codes "puts`(`#`__VA_ARGS__`)")
    ∷ variadic (codes "report") (codes "test" ∷ [])
    (codes "(`(`test`)`?`puts`(`#`test`)`: printf`(`__VA_ARGS__`)`)")
    ∷ []

with_commas : all FileEnd variable
    (codes "debug`(`flag`) debug`(`f`, x`) showlist`(`The first`, second`, and third items.`) " ++
    codes "report`(`x`>`y`, is`, y`) report`(`x`)")
    ≡ Gives (codes " fprintf ( stderr , flag ) fprintf ( stderr , f , x ) puts ( " ++
    quoted (codes "The first, second, and third items.")
    ++ codes " ) ( ( x > y ) ? puts ( " ++ quoted (codes "x>y") ++
    codes " ) : printf ( is , y ) ) ( ( x ) ? puts ( "
    ++ quoted (codes "x") ++ codes " ) : printf ( ) )")
unfolding all_from episode run
with_commas = refl

------ refusals

not_closed : all FileEnd rescanned (codes "a f`(`1") ≡ Refuses BadInvocation
unfolding all_from episode run
not_closed = refl

at_a_directive : all Directive rescanned (codes "a f`(`1") ≡ Refuses DirectiveInArguments
unfolding all_from episode run
at_a_directive = refl

name_at_a_directive : all Directive rescanned (codes "a g") ≡ Refuses DirectiveInArguments
unfolding all_from episode run
name_at_a_directive = refl

name_at_an_end : all FileEnd rescanned (codes "a g") ≡ Gives (codes " a f")
unfolding all_from episode run
name_at_an_end = refl

within_an_argument : all Directive rescanned (codes "t`(`f`(`) ;") ≡ Refuses DirectiveInArguments
unfolding all_from episode run
within_an_argument = refl

argument_not_closed : all Directive rescanned (codes "t`(`h`) ;") ≡ Refuses BadInvocation
unfolding all_from episode run
argument_not_closed = refl

one_too_many : all FileEnd rescanned (codes "f`(`1`,`2`)") ≡ Refuses BadInvocation
unfolding all_from episode run
one_too_many = refl

------ white space

abbrev blanks : List Line_
blanks =
    object (codes "none") [] ∷ function (codes "id") (codes "x" ∷ []) (codes "x") ∷
    function (codes "str") (codes "x" ∷ []) (codes "#`x")
    ∷ function (codes "show") (codes "x" ∷ []) (codes "str`(`x`)")
    ∷ function (codes "two") (codes "x" ∷ codes "y" ∷ []) (codes "[ x y`]")
    ∷ function (codes "last") (codes "x" ∷ []) (codes "[ x") ∷ []

-- what stands for nothing leaves its white space to the next token
passed_on : first FileEnd blanks (codes "show`(`a none`+`b`)") ≡ Gives (quoted (codes "a +b"))
unfolding episode run
passed_on = refl

first_of_a_result : first FileEnd blanks (codes "show`(`a`id`( + )`b`)")
    ≡ Gives (quoted (codes "a+b"))
unfolding episode run
first_of_a_result = refl

parameters_of_nothing : first FileEnd blanks (codes "two`(`,`)") ≡ Gives (codes "[ ]")
unfolding episode run
parameters_of_nothing = refl

lost_at_the_end : first FileEnd blanks (codes "show`(`last`(`)`+`)") ≡ Gives (quoted (codes "[+"))
unfolding episode run
lost_at_the_end = refl

------ controlling lines

abbrev asking : List Line_
asking =
    object (codes "A") (codes "1") ∷ function (codes "drop") (codes "x" ∷ []) (codes "7")
    ∷ object (codes "later") (codes "defined A") ∷
    function (codes "paste") (codes "x" ∷ []) (codes "N ## x")
    ∷ object (codes "N1") (codes "on") ∷ []

questions : first Line asking (codes "defined A && ! defined`( B`) || drop`(`defined B`) + A")
    ≡ Gives (codes "1 && ! 0 || 7 + 1")
unfolding episode run
questions = refl

expanded_after : first Line asking (codes "later + paste`(`defined A`) + defined 1")
    ≡ Gives (codes "defined 1 + on + defined 1")
unfolding episode run
expanded_after = refl
