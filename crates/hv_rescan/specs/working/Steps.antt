-- What the values of private functions stand for.
use Rattle.std.specs.Prelude.{ℕ, ◌≡◌, ◌<◌, ◌≤◌, ◌+◌, Bool, true, false, not, List, [], ◌∷◌, ◌++◌, filter, codes, drop, length, Option, Some, None}
use Rattle.std.specs.Global.{Vec}
use Rattle.hv_base.specs.Ascii.{is_among}
use Rattle.hv_toks.specs.Macro.{Macro}
use Rattle.hv_toks.specs.declared.macros.Body.{Body}
use Rattle.hv_toks.specs.declared.token.PpKind.{PpKind}
use Rattle.hv_toks.specs.declared.token.PpKind.TheVariants.{Identifier, Number, CharConstant, StringLiteral, HeaderName, Punctuator, Other}
use Rattle.hv_toks.specs.declared.token.PpTok.{PpTok}
use Rattle.hv_plain.specs.episode.Bodies.{Before, nothing, a_part, a_paste, quoted_index}
use Rattle.hv_plain.specs.episode.Episode.{Question}
use Rattle.hv_plain.specs.episode.Invocation.{Mark, opening, closing, comma, none, Taken, take_arguments}
use Rattle.hv_plain.specs.episode.Substitution.{Scan, Filled, whole, waits, broken, blank, quoted}
use Rattle.hv_plain.specs.episode.Tokens.{Token, owing, hiding, spaced}
use Rattle.hv_rescan.specs.Values.{arguments_of, frame_of, hides_of, scan_of, token_of, tokens_of, unread_of}
use Rattle.hv_rescan.specs.declared.arguments.Found.{Found as Found'}
use Rattle.hv_rescan.specs.declared.arguments.Mark.{Mark as Mark'}
use Rattle.hv_rescan.specs.declared.arguments.Mark.TheVariants as mark'
use Rattle.hv_rescan.specs.declared.arguments.Taken.{Taken as Taken'}
use Rattle.hv_rescan.specs.declared.part.Before.{Before as Before'}
use Rattle.hv_rescan.specs.declared.part.Before.TheVariants as before'
use Rattle.hv_rescan.specs.declared.part.Parameters.{Parameters}
use Rattle.hv_rescan.specs.declared.scan.Unread.{Unread}
use Rattle.hv_rescan.specs.declared.start.Question.{Question as Question'}
use Rattle.hv_rescan.specs.declared.substitution.Filled.{Filled as Filled'}
use Rattle.hv_rescan.specs.declared.substitution.Filled.TheVariants as filled'
use Rattle.hv_rescan.specs.declared.token.Token.{Token as Token'}

-- those of the names that are among others, or those that aren't
abbrev pub chosen : (among : Bool) → (others names : List (List ℕ)) → List (List ℕ)
chosen true others names = filter (λ name. is_among name others) names
chosen false others names = filter (λ name. not (is_among name others)) names

------ `#` and `##`

-- whether `"` and `\` in a token are escaped within a string literal
abbrev pub is_quoted : PpKind → Bool
is_quoted Identifier = false
is_quoted Number = false
is_quoted CharConstant = true
is_quoted StringLiteral = true
is_quoted HeaderName = false
is_quoted Punctuator = false
is_quoted Other = false

-- the spelling of a token within a string literal, after a blank where this is so
abbrev pub spelled_within : (space : Bool) → Token → List ℕ
spelled_within space t = blank space ++ quoted t.kind t.text

-- the same of a token of an argument, which may be the first
abbrev pub spelled_at : (is_first : Bool) → Token → List ℕ
spelled_at true t = spelled_within false t
spelled_at false t = spelled_within t.space t

-- joined tokens; `None` where two are not one preprocessing token (6.10.3.3)
abbrev pub joined_of : (macros : List ℕ → Macro) → Option (Vec Token') → Option (List Token)
joined_of macros None = None
joined_of macros (Some tokens) = Some (tokens_of macros tokens.items)

------ parts

-- what stands before a token of a replacement list, by its name in the code
abbrev pub before_of : Before' → Before
before_of before'.Nothing = nothing
before_of before'.Part = a_part
before_of before'.Paste = a_paste

-- an index in what is left after so many
abbrev pub shifted : ℕ → Option ℕ → Option ℕ
shifted n None = None
shifted n (Some i) = Some (n + i)

-- the name of the variable arguments, where there are any (6.10.3, paragraph 5)
abbrev pub variadic_of : Bool → List (List ℕ)
variadic_of true = codes "__VA_ARGS__" ∷ []
variadic_of false = []

-- the parameters of a macro, the variable arguments last
abbrev pub parameters_of : Parameters → List (List ℕ)
parameters_of p = p.names.now ++ variadic_of p.variadic

-- the parameter that the operator `#` stands before, where these tokens follow it
abbrev pub quoted_after : (parameters : List (List ℕ)) → PpTok → List PpTok → Option ℕ
quoted_after ps t [] = None
quoted_after ps t (next ∷ tokens) = quoted_index ps t next

------ texts and arguments

-- the tokens that stand next, and those of the run after them
abbrev pub ahead_of : (macros : List ℕ → Macro) → (run : List PpTok) → List Token' → Option Unread
    → List Token
ahead_of macros run front unread = tokens_of macros front ++ unread_of run unread

-- the first of some tokens is taken off
abbrev pub Takes : Option Token → (before after : List Token) → Type 0
Takes None before after = (before ≡ []) × (after ≡ [])
Takes (Some t) before after = before ≡ t ∷ after

-- a count doesn't rise, and falls where a token was taken
abbrev pub Fewer : Option Token' → (before after : ℕ) → Type 0
Fewer None before after = after ≤ before
Fewer (Some t) before after = after < before

-- what a token is to an invocation, by its name in the code
abbrev pub mark_of : Mark' → Mark
mark_of mark'.Opening = opening
mark_of mark'.Closing = closing
mark_of mark'.Comma = comma
mark_of mark'.Other = none

-- the arguments of an invocation, and the tokens after it; `None` where it has no `)`
abbrev pub taken_of : (macros : List ℕ → Macro) → Option Taken' → (after : List Token)
    → Option Taken
taken_of macros None after = None
taken_of macros (Some t) after = Some (record {
  arguments = arguments_of macros t.arguments.items;
  hides = hides_of t.hides;
  after = after;
})

-- where arguments are taken of the tokens that stand next, they are those of the invocation,
-- whatever stands after these tokens
abbrev pub FindsArguments : Body → Option Taken' → (before after : List Token') → Type 0
FindsArguments body None before after = after ≡ before
FindsArguments body (Some t) before after = (length after ≤ length before)
    × ((macros : List ℕ → Macro) (rest : List Token)
    → taken_of macros (Some t) (tokens_of macros after ++ rest)
    ≡ take_arguments body 0 [] [] (tokens_of macros before ++ rest))

-- the same where they are found, and not yet taken
abbrev pub IsFound : Body → Option Found' → List Token' → Type 0
IsFound body None tokens = Unit {0}
IsFound body (Some f) tokens = (f.length ≤ length tokens)
    × ((macros : List ℕ → Macro) (rest : List Token)
    → taken_of macros (Some f.taken) (tokens_of macros (drop f.length tokens) ++ rest)
    ≡ take_arguments body 0 [] [] (tokens_of macros tokens ++ rest))

------ substitution

-- a text whose first token stands after white space where this is so, too
abbrev pub owing_in : Bool → Scan → Scan
owing_in owed s = record s { ahead = owing owed s.ahead }

-- the text around, with the result of a substitution before it
abbrev pub placed : Scan → List Token → (hides : List (List ℕ)) → (space : Bool) → Scan
placed around [] hides space = owing_in space around
placed around (t ∷ tokens) hides space =
    record around { ahead = hiding hides (spaced space (t ∷ tokens)) ++ around.ahead }

-- how far a substitution is
abbrev pub filled_of : (macros : List ℕ → Macro) → (run : List PpTok) → Filled' → Filled
filled_of macros run (filled'.Whole s) = whole (scan_of macros run s)
filled_of macros run (filled'.Waits first more frame) =
    waits (token_of macros first) (tokens_of macros more) (frame_of macros run frame)
filled_of macros run filled'.Broken = broken

------ `defined`

-- a question of `defined`; `None` where none is asked
abbrev pub question_of : Option Question' → Option Question
question_of None = None
question_of (Some q) = Some (record { name = q.name.now; more = q.more })
