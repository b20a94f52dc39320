-- Rescanning (6.10.3.4), one event after another: a macro is used, or a token is given.
use Rattle.std.specs.Prelude.{ℕ, zero, suc, Bool, true, false, List, [], ◌∷◌, ◌++◌, map, min, Option, Some, None, length, nat_le}
use Rattle.hv_base.specs.Ascii.{is_among}
use Rattle.hv_base.specs.declared.place.Place.{Place}
use Rattle.hv_base.specs.declared.why.Why.{Why}
use Rattle.hv_base.specs.declared.why.Why.TheVariants.{BadInvocation, DirectiveInArguments, BadPaste, EpisodeTooLong}
use Rattle.hv_toks.specs.Macro.{Macro, undefined, defined}
use Rattle.hv_toks.specs.Spelled.{Spelled}
use Rattle.hv_toks.specs.declared.macros.Body.{Body}
use Rattle.hv_toks.specs.declared.macros.Body.TheVariants.{Object, Function}
use Rattle.hv_toks.specs.declared.token.PpKind.{PpKind}
use Rattle.hv_plain.specs.declared.episode.RunEnd.{RunEnd}
use Rattle.hv_plain.specs.declared.episode.RunEnd.TheVariants.{Directive, FileEnd, Line}
use Rattle.hv_plain.specs.episode.Bodies.{parts}
use Rattle.hv_plain.specs.episode.Invocation.{Mark, opening, closing, comma, none, mark, Taken, take_arguments, takes}
use Rattle.hv_plain.specs.episode.Substitution.{Scan, Frame, whole, waits, broken, resume}
use Rattle.hv_plain.specs.episode.Tokens.{Token, given_token, is_identifier, both}

------ what a name does

-- what follows a name in its text: `(`; another token or an end that ends the text; or a directive
pub data Next : Type 0 where
  parenthesis : Next
  otherwise : Next
  directive : Next

-- what follows, where the next token is this to an invocation
abbrev pub next_mark : Mark → Next
next_mark opening = parenthesis
next_mark closing = otherwise
next_mark comma = otherwise
next_mark none = otherwise

-- the end of a text: only the source's own may stand at a directive
abbrev pub next_end : RunEnd → List Frame → Next
next_end Directive [] = directive
next_end Directive (f ∷ frames) = otherwise
next_end FileEnd frames = otherwise
next_end Line frames = otherwise

-- what follows in a text
abbrev pub next : RunEnd → List Token → List Frame → Next
next ends [] frames = next_end ends frames
next ends (t ∷ tokens) frames = next_mark (mark t.text)

-- what is done with a token: it is given, the macro that is defined at a place is used, or the
-- episode is refused
pub data Deed : Type 0 where
  give : Deed
  use_macro : Place → Body → Deed
  stop : Deed

-- a name of a function-like macro is one of its invocations only before `(` (6.10.3, paragraph 10)
abbrev pub function_deed : Next → Place → Body → Deed
function_deed parenthesis place body = use_macro place body
function_deed otherwise place body = give
function_deed directive place body = stop

-- what is done with a name that means this and isn't hidden
abbrev pub deed : Next → Macro → Deed
deed following undefined = give
deed following (defined place (Object body)) = use_macro place (Object body)
deed following (defined place (Function params variadic body)) =
    function_deed following place (Function params variadic body)

-- whether a token may be a macro's name: an identifier that it doesn't hide itself (6.10.3.4,
-- paragraph 2)
abbrev pub is_open : Token → Bool
is_open t =
    elim (is_identifier t.kind) [
      | true ↦ elim (is_among t.text t.hides) [ true ↦ false | false ↦ true ]
      | false ↦ false
    ]

-- what is done with the token that stands before these, where its name means this
abbrev pub deed_at : RunEnd → Token → List Token → List Frame → Macro → Deed
deed_at ends t tokens frames macro =
    elim (is_open t) [ true ↦ deed (next ends tokens frames) macro | false ↦ give ]

------ what follows

-- how far an expansion is: a token is next, all is given, or it is refused
pub data State : Type 0 where
  -- this token is next, and stands before those of the text. The frames are the substitutions that
  -- wait for the text, the innermost first
  at : Token → Scan → List Frame → State
  done : Scan → State
  refused : Why → State

-- the first token of a text is next, unless only the source's are left
abbrev pub first_of_text : Scan → List Frame → (at_end : State) → State
first_of_text s frames at_end = elim (nat_le (length s.ahead) s.unread) [
  | true ↦ at_end
  | false ↦ elim s.ahead [ [] ↦ at_end | t ∷ tokens ↦ at t (record s { ahead = tokens }) frames ]
]

-- a text to be scanned by itself (6.10.3.1)
abbrev pub alone : List Token → Scan
alone tokens = record { ahead = tokens; unread = 0; given = [] }

-- the next state where a text is left: the substitution that waits for it goes on
abbrev pub settle : List Frame → Scan → State
settle [] s = first_of_text s [] (done s)
settle (f ∷ frames) s =
    let at_end : State = elim (resume f s.given) [
      | whole around ↦ settle frames around
      | waits t tokens waiting ↦ at t (alone tokens) (waiting ∷ frames)
      | broken ↦ refused BadPaste
    ] in
    first_of_text s (f ∷ frames) at_end

-- a substitution of the name begins, whose result hides these names too
abbrev pub begin : Token → Scan → List Frame → Body → (arguments : List (List Token))
    → (hides : List (List ℕ)) → State
begin t around frames body arguments hides = settle (record {
  around = around;
  arguments = arguments;
  rest = parts body;
  built = [];
  owed = false;
  hides = t.text ∷ hides;
  space = t.space;
} ∷ frames) (alone [])

-- an invocation whose text ends before the `)`
abbrev pub unclosed : RunEnd → List Frame → Why
unclosed Directive [] = DirectiveInArguments
unclosed Directive (f ∷ frames) = BadInvocation
unclosed FileEnd frames = BadInvocation
unclosed Line frames = BadInvocation

-- the text after an invocation
abbrev pub left_after : Scan → Taken → Scan
left_after s taken =
    record { ahead = taken.after; unread = min s.unread (length taken.after); given = s.given }

-- an invocation with these arguments; the result hides what both the name and the `)` hide
abbrev pub invoke : RunEnd → Token → Scan → List Frame → Body → Option Taken → State
invoke ends t s frames body None = refused (unclosed ends frames)
invoke ends t s frames body (Some taken) = elim (takes body taken.arguments) [
  | true ↦ begin t (left_after s taken) frames body taken.arguments (both t.hides taken.hides)
  | false ↦ refused BadInvocation
]

-- the tokens after the first
abbrev pub tail : List Token → List Token
tail [] = []
tail (t ∷ tokens) = tokens

-- the state after a macro is used; of a function-like one the arguments are taken after the `(`
abbrev pub used : RunEnd → Token → Scan → List Frame → Body → State
used ends t s frames (Object body) = begin t s frames (Object body) [] t.hides
used ends t s frames (Function params variadic body) =
    invoke ends t s frames (Function params variadic body)
    (take_arguments (Function params variadic body) 0 [] [] (tail s.ahead))

-- the state after a deed
abbrev pub after : RunEnd → Token → Scan → List Frame → Deed → State
after ends t s frames give = settle frames (record s { given = s.given ++ t ∷ [] })
after ends t s frames (use_macro place body) = used ends t s frames body
after ends t s frames stop = refused DirectiveInArguments

------ events

-- an event of an episode: a macro is used, or a token is given
pub data Event : Type 0 where
  -- the definition that is made at this place was used
  uses : Place → Event
  -- a token of this kind and spelling was given, by the episode or by the expansion of an argument
  gives : PpKind → List ℕ → Event

-- the events of a deed with this token; a refusal is none
abbrev pub events : Token → Deed → List Event
events t give = gives t.kind t.text ∷ []
events t (use_macro place body) = uses place ∷ []
events t stop = []

-- the tokens that are given, and how many of the source's tokens are left; or the refusal
pub data Result : Type 0 where
  expands : List Spelled → (unread : ℕ) → Result
  fails : Why → Result

-- the expansion face, and what the expansion comes to
pub record Episode : Type 0 where
  pub face : List Event
  pub result : Result

-- an expansion with these events before its own
abbrev pub adding : List Event → Episode → Episode
adding before e = record { face = before ++ e.face; result = e.result }

-- an expansion without events
abbrev pub ended : Result → Episode
ended result = record { face = []; result = result }

-- after a deed whose event is one too many
abbrev pub too_long : Deed → Episode
too_long give = ended (fails EpisodeTooLong)
too_long (use_macro place body) = ended (fails EpisodeTooLong)
too_long stop = ended (fails DirectiveInArguments)

-- the expansion from a state on, where each name means this and `left` more events may come
unfoldable pub run : RunEnd → (macros : List ℕ → Macro) → (left : ℕ) → State → Episode
run ends macros left (done s) = ended (expands (map given_token s.given) s.unread)
run ends macros left (refused why) = ended (fails why)
run ends macros zero (at t s frames) =
    let d : Deed = deed_at ends t s.ahead frames (macros t.text) in adding (events t d) (too_long d)
run ends macros (suc left) (at t s frames) =
    let d : Deed = deed_at ends t s.ahead frames (macros t.text) in
    adding (events t d) (run ends macros left (after ends t s frames d))
