-- What the values of the code stand for under a macro state, which says what each name means.
use Rattle.std.specs.Prelude.{ℕ, List, [], ◌∷◌, ◌++◌, map, drop, length, Option, Some, None}
use Rattle.std.specs.Global.{Global}
use Rattle.std.specs.declared.rc.Rc.{Rc}
use Rattle.hv_toks.specs.Macro.{Macro}
use Rattle.hv_toks.specs.declared.token.PpTok.{PpTok}
use Rattle.hv_plain.specs.episode.Bodies.{Operand, token, parameter, string, Part, expanded, single, joined}
use Rattle.hv_plain.specs.episode.Episode.{digit}
use Rattle.hv_plain.specs.episode.Expansion.{State, at, done, refused}
use Rattle.hv_plain.specs.episode.Substitution.{Scan, Frame}
use Rattle.hv_plain.specs.episode.Tokens.{Token, owing, source_token}
use Rattle.hv_rescan.specs.declared.hides.Hides.{Hides}
use Rattle.hv_rescan.specs.declared.spelling.Digit.{Digit}
use Rattle.hv_rescan.specs.declared.spelling.Spelling.{Spelling}
use Rattle.hv_rescan.specs.declared.spelling.Spelling.TheVariants.{Known, Open}
use Rattle.hv_rescan.specs.declared.token.Token.{Token as Token'}
use Rattle.hv_rescan.specs.declared.token.Given.{Given}
use Rattle.hv_rescan.specs.declared.part.Operand.{Operand as Operand'}
use Rattle.hv_rescan.specs.declared.part.Operand.TheVariants as operand'
use Rattle.hv_rescan.specs.declared.part.Part.{Part as Part'}
use Rattle.hv_rescan.specs.declared.part.Part.TheVariants as part'
use Rattle.hv_rescan.specs.declared.scan.Unread.{Unread}
use Rattle.hv_rescan.specs.declared.scan.Scan.{Scan as Scan'}
use Rattle.hv_rescan.specs.declared.scan.Frame.{Frame as Frame'}
use Rattle.hv_rescan.specs.declared.scan.State.{State as State'}
use Rattle.hv_rescan.specs.declared.scan.State.TheVariants as state'
use Rattle.hv_rescan.specs.declared.machine.Machine.{Machine}

------ texts

-- texts, each followed by the answer to a question
abbrev pub digits_of : (macros : List ℕ → Macro) → List Digit → List ℕ
digits_of macros [] = []
digits_of macros (d ∷ ds) = d.before ++ digit (macros d.name) ∷ digits_of macros ds

-- the text of a spelling
abbrev pub text_of : (macros : List ℕ → Macro) → Spelling → List ℕ
text_of macros (Known text) = text.value
text_of macros (Open first more tail) = digits_of macros (first ∷ more) ++ tail

-- the names whose definedness is asked for in a text, in order
abbrev pub asked_in : Spelling → List (List ℕ)
asked_in (Known text) = []
asked_in (Open first more tail) = map (λ (d : Digit). d.name) (first ∷ more)

------ tokens

-- names that are shared, in order
abbrev pub names_in : List (Rc (List ℕ) Global) → List (List ℕ)
names_in names = map (λ (name : Rc (List ℕ) Global). name.value) names

-- the names of a shared list; none where there is no list
abbrev pub names_of : Option (Rc (List (Rc (List ℕ) Global)) Global) → List (List ℕ)
names_of None = []
names_of (Some names) = names_in names.value

-- the names of a hide set, in order
abbrev pub hides_of : Hides → List (List ℕ)
hides_of h = names_of h.names

-- a token of an expansion
abbrev pub token_of : (macros : List ℕ → Macro) → Token' → Token
token_of macros t = record {
  kind = t.kind;
  text = text_of macros t.spelling;
  space = t.space;
  hides = hides_of t.hides;
}

-- tokens of an expansion, in order
abbrev pub tokens_of : (macros : List ℕ → Macro) → List Token' → List Token
tokens_of macros ts = map (token_of macros) ts

-- a token that was given has no question left
abbrev pub given_of : Given → Token
given_of t =
    record { kind = t.kind; text = t.text.value; space = t.space; hides = hides_of t.hides }

-- the tokens that were given, in order
abbrev pub givens_of : List Given → List Token
givens_of ts = map given_of ts

------ parts of a replacement list

-- an operand of a replacement list
abbrev pub operand_of : Operand' → Operand
operand_of (operand'.Token kind text space) =
    token (record { kind = kind; text = text.value; space = space })
operand_of (operand'.Parameter index space) = parameter index space
operand_of (operand'.Str index space) = string index space

-- a part of a replacement list
abbrev pub part_of : Part' → Part
part_of (part'.Expanded index space) = expanded index space
part_of (part'.Single operand) = single (operand_of operand)
part_of (part'.Joined operand) = joined (operand_of operand)

------ states

-- the tokens of a run that nothing took yet
abbrev pub unread_of : (run : List PpTok) → Option Unread → List Token
unread_of run None = []
unread_of run (Some u) = owing u.owed (map source_token (drop u.next run))

-- a text that is rescanned: the tokens in front, then those of the run that nothing took yet
abbrev pub scan_of : (macros : List ℕ → Macro) → (run : List PpTok) → Scan' → Scan
scan_of macros run s = record {
  ahead = tokens_of macros s.front ++ unread_of run s.unread;
  unread = length (unread_of run s.unread);
  given = givens_of s.given;
}

-- the arguments of an invocation, in order
abbrev pub arguments_of : (macros : List ℕ → Macro) → List (List Token') → List (List Token)
arguments_of macros arguments = map (tokens_of macros) arguments

-- a substitution that waits for the expansion of an argument
abbrev pub frame_of : (macros : List ℕ → Macro) → (run : List PpTok) → Frame' → Frame
frame_of macros run f = record {
  around = scan_of macros run f.around;
  arguments = arguments_of macros f.arguments.items;
  rest = map part_of f.rest;
  built = tokens_of macros f.built.items;
  owed = f.owed;
  hides = hides_of f.hides;
  space = f.space;
}

-- the substitutions that wait, the innermost first
abbrev pub frames_of : (macros : List ℕ → Macro) → (run : List PpTok) → List Frame' → List Frame
frames_of macros run fs = map (frame_of macros run) fs

-- the state of an expansion over this run
abbrev pub state_in : (macros : List ℕ → Macro) → (run : List PpTok) → State' → State
state_in macros run (state'.At t s fs) =
    at (token_of macros t) (scan_of macros run s) (frames_of macros run fs)
state_in macros run (state'.Done s) = done (scan_of macros run s)
state_in macros run (state'.Refused why) = refused why

-- the state of a machine under a macro state
unfoldable pub state_of : (macros : List ℕ → Macro) → Machine → State
state_of macros machine = state_in macros machine.run.tokens.now machine.state

-- the names that are asked for in the token that pends, in order
abbrev pub asked_of : State' → List (List ℕ)
asked_of (state'.At t s fs) = asked_in t.spelling
asked_of (state'.Done s) = []
asked_of (state'.Refused why) = []

-- the names that a machine asks for in the token that pends, in order
unfoldable pub open_names : Machine → List (List ℕ)
open_names machine = asked_of machine.state
