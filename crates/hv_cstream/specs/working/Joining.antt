-- What is joined so far.
use Rattle.std.specs.Prelude.{ℕ, ◌≡◌, ◌≤◌, ◌++◌, true, false, Bool, List, [], ◌∷◌, All, length, map, filter, if◌then◌else◌}
use Rattle.hv_base.specs.declared.place.Start.{Start}
use Rattle.hv_base.specs.declared.token.CTok.{CTok}
use Rattle.hv_base.specs.declared.token.CTok.TheVariants.{Str}
use Rattle.hv_cond.specs.Diagram.{Diagram, IsNode, holds}
use Rattle.hv_cond.specs.declared.conditions.Cond.{Cond}
use Rattle.hv_cstream.specs.Streams.{stream_in}
use Rattle.hv_cstream.specs.declared.literal.Literal.{Literal}
use Rattle.hv_ctoks.specs.Joining.{joined}
use Rattle.hv_toks.specs.declared.stream.StreamTok.{StreamTok}

-- a literal as a token
abbrev pub shown : Literal → CTok × Start
shown literal = (Str literal.bytes, literal.start)

-- the literals that are open where the options have these values
abbrev pub open_in : Diagram → List Literal → List Bool → List (CTok × Start)
open_in diagram literals values =
    map shown (filter (λ (l : Literal). holds diagram l.cond values) literals)

-- each condition is a node
abbrev pub AreNodes : Diagram → List Literal → Type 0
AreNodes diagram literals = All (λ (l : Literal). IsNode diagram l.cond) literals

-- a literal with more bytes at its end
abbrev pub appended : List ℕ → CTok × Start → CTok × Start
appended more (Str bytes, start) = (Str (bytes ++ more), start)
appended more token = token

-- each of these literals goes on, if they do
abbrev pub appended_if : Bool → List ℕ → List (CTok × Start) → List (CTok × Start)
appended_if true more literals = map (appended more) literals
appended_if false more literals = literals

-- the open literals once a string literal follows
abbrev pub with_string : List ℕ → Start → List (CTok × Start) → List (CTok × Start)
with_string bytes start [] = (Str bytes, start) ∷ []
with_string bytes start (x ∷ xs) = map (appended bytes) (x ∷ xs)

-- whether there is none
abbrev pub is_none : List (CTok × Start) → Bool
is_none [] = true
is_none (x ∷ xs) = false

-- of the tokens of each configuration those of `out` are joined, and a literal that may go on is
-- open
pub record IsJoining (diagram : Diagram) (good : Cond) (tokens : List Bool → List (CTok × Start))
    (out : List StreamTok) (literals : List Literal) : Type 0 where
  pub good_node : IsNode diagram good
  pub out_nodes : All (λ (t : StreamTok). IsNode diagram t.cond) out
  pub nodes : AreNodes diagram literals
  pub one : (values : List Bool) → length (open_in diagram literals values) ≤ 1
  pub joins : (values : List Bool) → holds diagram good values ≡ true
      → (rest : List (CTok × Start)) → joined (tokens values ++ rest)
      ≡ stream_in diagram out values ++ joined (open_in diagram literals values ++ rest)

-- literals are put after others, and go on where a condition holds
pub record Appends (old new : Diagram) (cond : Cond) (more : List ℕ)
    (literals before after : List Literal) : Type 0 where
  pub nodes : AreNodes new after
  pub shows : (values : List Bool) → open_in new after values
      ≡ open_in old before values
      ++ appended_if (holds old cond values) more (open_in old literals values)

-- literals are put after others, and where a condition holds they are written to a stream instead
pub record WritesOut (old new : Diagram) (cond : Cond) (literals before after : List Literal)
    (out written : List StreamTok) : Type 0 where
  pub nodes : AreNodes new after
  pub out_nodes : All (λ (t : StreamTok). IsNode new t.cond) written
  pub shows : (values : List Bool) → open_in new after values
      ≡ open_in old before values
      ++ (if holds old cond values then [] else open_in old literals values)
  pub writes : (values : List Bool) → stream_in new written values
      ≡ stream_in old out values
      ++ (if holds old cond values then open_in old literals values else [])
