-- What pends in a state.
use Rattle.std.specs.Prelude.{ℕ, ◌≡◌, Bool, true, false, List, Option, Some, None}
use Rattle.hv_toks.specs.Macro.{Macro, undefined, defined}
use Rattle.hv_toks.specs.declared.token.PpKind.{PpKind}
use Rattle.hv_plain.specs.declared.episode.RunEnd.{RunEnd}
use Rattle.hv_plain.specs.episode.Expansion.{Next, parenthesis, otherwise, directive, next, is_open, State, at, done, refused}
use Rattle.hv_plain.specs.episode.Substitution.{Scan, Frame}
use Rattle.hv_plain.specs.episode.Tokens.{Token}
use Rattle.hv_rescan.specs.declared.pending.Following.{Following}
use Rattle.hv_rescan.specs.declared.pending.Following.TheVariants as following
use Rattle.hv_rescan.specs.declared.pending.Pending.{Pending}
use Rattle.hv_rescan.specs.declared.pending.Pending.TheVariants as pending

-- whether a name that means this is defined
abbrev pub is_macro : Macro → Bool
is_macro undefined = false
is_macro (defined place body) = true

-- what follows a token, by its name in the code
abbrev pub next_of : Following → Next
next_of following.Parenthesis = parenthesis
next_of following.Otherwise = otherwise
next_of following.Directive = directive

-- a token is next in a state
pub record IsAt (state : State) : Type 0 where
  pub token : Token
  pub scan : Scan
  pub frames : List Frame
  pub is : state ≡ at token scan frames

-- a token of this kind and spelling is next in a state, it may be a macro's name exactly where
-- `opens`, and this follows it
pub record IsToken (ends : RunEnd) (kind : PpKind) (text : List ℕ) (opens : Bool) (follows : Next)
    (state : State) : Type 0 where
  pub token : Token
  pub scan : Scan
  pub frames : List Frame
  pub is : state ≡ at token scan frames
  pub kinds : token.kind ≡ kind
  pub texts : token.text ≡ text
  pub opening : is_open token ≡ opens
  pub following : next ends scan.ahead frames ≡ follows

-- the answer is right of a state
abbrev pub Pends : RunEnd → Pending → State → Type 0
Pends ends pending.Done state = (scan : Scan) × (state ≡ done scan)
Pends ends (pending.Refused why) state = state ≡ refused why
Pends ends (pending.Digit name) state = IsAt state
Pends ends (pending.Token kind text opens follows) state =
    IsToken ends kind text.now opens (next_of follows) state

-- the name that an answer asks for
abbrev pub name_in : Pending → Option (List ℕ)
name_in pending.Done = None
name_in (pending.Refused why) = None
name_in (pending.Digit name) = Some name.now
name_in (pending.Token kind text opens follows) = None
