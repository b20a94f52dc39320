-- What is seen of what a name means, and which configurations stay where it is asked.
use Rattle.std.specs.Prelude.{ℕ, ◌≡◌, Bool, true, false, ◌||◌, ◌&&◌, nat_eq, List, [], ◌∷◌, length}
use Rattle.std.specs.Str.{bytes_eq}
use Rattle.hv_base.specs.declared.place.Place.{Place}
use Rattle.hv_toks.specs.Macro.{Macro}
use Rattle.hv_plain.specs.episode.Expansion.{Deed, give, use_macro, stop, deed}
use Rattle.hv_rescan.specs.Pending.{is_macro, next_of}
use Rattle.hv_expand.specs.declared.questions.Question.{Question}
use Rattle.hv_expand.specs.declared.questions.Question.TheVariants as question
use Rattle.hv_expand.specs.declared.questions.Seen.{Seen as Seen'}
use Rattle.hv_expand.specs.declared.questions.Seen.TheVariants as seen'

-- a test of configurations, as that a condition holds
abbrev pub Test : Type 0
Test = List Bool → Bool

-- what is seen of an answer: a token is given, the definition at a place is used, the episode is
-- refused; or whether a name is defined
pub data Seen : Type 0 where
  gives : Seen
  uses : Place → Seen
  stops : Seen
  tells : Bool → Seen

-- what the code's value says
abbrev pub seen_of : Seen' → Seen
seen_of seen'.Gives = gives
seen_of (seen'.Uses place) = uses place.now
seen_of seen'.Stops = stops
seen_of (seen'.Tells told) = tells told

-- what is seen of a deed
abbrev pub shown : Deed → Seen
shown give = gives
shown (use_macro place body) = uses place
shown stop = stops

-- what is seen of a name that means this
abbrev pub seen : Question → Macro → Seen
seen (question.Deed follows) macro = shown (deed (next_of follows) macro)
seen question.Defined macro = tells (is_macro macro)

-- whether two places are one
abbrev pub same_place : Place → Place → Bool
same_place p q = bytes_eq p.stack q.stack && (nat_eq p.file q.file && nat_eq p.offset q.offset)

-- whether two answers are one
abbrev pub same_told : Bool → Bool → Bool
same_told true true = true
same_told true false = false
same_told false true = false
same_told false false = true

-- whether the same is seen
abbrev pub same_seen : Seen → Seen → Bool
same_seen gives gives = true
same_seen (uses p) (uses q) = same_place p q
same_seen stops stops = true
same_seen (tells b) (tells c) = same_told b c
same_seen s t = false

-- whether this is seen of one of these meanings
abbrev pub some_alike : Question → Seen → List Macro → Bool
some_alike q s [] = false
some_alike q s (m ∷ ms) = same_seen (seen q m) s || some_alike q s ms

-- of the configurations of a condition, which give a name a meaning each, those stay of which the
-- same is seen as of one of them, whose meaning is this
pub record IsAnswered (variables : ℕ) (before after : Test) (means : List Bool → Macro)
    (q : Question) (macro : Macro) : Type 0 where
  pub stay : (values : List Bool)
      → after values ≡ (before values && same_seen (seen q (means values)) (seen q macro))
  pub one : List Bool
  pub complete : length one ≡ variables
  pub within : before one ≡ true
  pub its : means one ≡ macro
