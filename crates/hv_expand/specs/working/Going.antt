-- A run under the configurations of a condition that have made the same events. Those that leave it
-- have faces that don't begin so.
use Rattle.std.specs.Prelude.{ℕ, ◌≡◌, ◌≢◌, Bool, true, false, List, [], ◌∷◌, ◌++◌}
use Rattle.hv_toks.specs.Macro.{Macro}
use Rattle.hv_toks.specs.declared.token.PpKind.{PpKind}
use Rattle.hv_plain.specs.declared.episode.RunEnd.{RunEnd}
use Rattle.hv_plain.specs.declared.episode.RunEnd.TheVariants.{Line}
use Rattle.hv_plain.specs.episode.Expansion.{State, at, done, refused, Deed, give, use_macro, stop, deed_at, after, Event, uses, gives, events, Episode, Result}
use Rattle.hv_rescan.specs.Pending.{IsAt}
use Rattle.hv_expand.specs.working.Questions.{Test, shown}

------ runs

-- a run goes on: each configuration now has made these events and has the rest before it, and the
-- face of none that left begins with them
pub record IsGoing (before now : Test) (whole rest : List Bool → Episode) : Type 0 where
  pub face : List Event
  pub within : (v : List Bool) → now v ≡ true → before v ≡ true
  pub result : (v : List Bool) → now v ≡ true → (whole v).result ≡ (rest v).result
  pub goes : (v : List Bool) → now v ≡ true → (whole v).face ≡ face ++ (rest v).face
  pub others : (v : List Bool) → before v ≡ true → now v ≡ false
      → (more : List Event) → (whole v).face ≢ face ++ more

-- a run is over: each configuration now has this face and a right result, and none that left has
-- the face
pub record IsOver (before now : Test) (whole : List Bool → Episode) (is_right : Result → Type 0)
    : Type 0 where
  pub face : List Event
  pub within : (v : List Bool) → now v ≡ true → before v ≡ true
  pub faces : (v : List Bool) → now v ≡ true → (whole v).face ≡ face
  pub right : (v : List Bool) → now v ≡ true → is_right (whole v).result
  pub others : (v : List Bool) → before v ≡ true → now v ≡ false → (whole v).face ≢ face

------ one event

-- the spelling of the token that is next
abbrev pub text_in : State → List ℕ
text_in (at t s fs) = t.text
text_in (done s) = []
text_in (refused why) = []

-- what is done with the token that is next
abbrev pub does : RunEnd → State → (macros : List ℕ → Macro) → Deed
does ends (at t s fs) macros = deed_at ends t s.ahead fs (macros t.text)
does ends (done s) macros = stop
does ends (refused why) macros = stop

-- the state after that
abbrev pub moved : RunEnd → State → Deed → State
moved ends (at t s fs) d = after ends t s fs d
moved ends (done s) d = done s
moved ends (refused why) d = refused why

-- the events of a deed with the token that is next
abbrev pub events_in : State → Deed → List Event
events_in (at t s fs) d = events t d
events_in (done s) d = []
events_in (refused why) d = []

-- the events of a deed with a token of this kind and spelling
abbrev pub told : PpKind → List ℕ → Deed → List Event
told kind text give = gives kind text ∷ []
told kind text (use_macro place body) = uses place ∷ []
told kind text stop = []

-- a configuration that leaves where a digit is asked for does so on a controlling line, and another
-- spelling is next
pub record Differs (ends : RunEnd) (state other : State) : Type 0 where
  pub on_line : ends ≡ Line
  pub pends : IsAt state
  pub other_pends : IsAt other
  pub differs : text_in state ≢ text_in other

-- the digits of the token that is next are asked for: each configuration that stays has the state
-- that it had
pub record IsSettled (ends : RunEnd) (before after : Test) (state now : List Bool → State)
    : Type 0 where
  pub within : (v : List Bool) → after v ≡ true → before v ≡ true
  pub same : (v : List Bool) → after v ≡ true → now v ≡ state v
  pub others : (v w : List Bool) → before v ≡ true → after v ≡ false → after w ≡ true
      → Differs ends (state v) (state w)

-- a token of one kind and spelling is next, and those configurations stay that do this with it
pub record IsAsked (ends : RunEnd) (macros : List Bool → List ℕ → Macro) (before after : Test)
    (state : List Bool → State) (deed : Deed) : Type 0 where
  pub kind : PpKind
  pub text : List ℕ
  pub pends : (v : List Bool) → before v ≡ true → IsAt (state v)
  pub spelled : (v : List Bool) → before v ≡ true → text_in (state v) ≡ text
  pub shows : (v : List Bool) → before v ≡ true → (d : Deed)
      → events_in (state v) d ≡ told kind text d
  pub within : (v : List Bool) → after v ≡ true → before v ≡ true
  pub right : (v : List Bool) → after v ≡ true → does ends (state v) (macros v) ≡ deed
  pub others : (v : List Bool) → before v ≡ true → after v ≡ false
      → shown (does ends (state v) (macros v)) ≢ shown deed
  pub one : List Bool
  pub stays : after one ≡ true

-- of the configurations that have made the same events those stay that do this with a token of this
-- kind and spelling; the others make another event or, where this is a stop, some event
pub record IsTurn (ends : RunEnd) (macros : List Bool → List ℕ → Macro) (before after : Test)
    (state : List Bool → State) (kind : PpKind) (text : List ℕ) (deed : Deed) : Type 0 where
  pub within : (v : List Bool) → after v ≡ true → before v ≡ true
  pub pends : (v : List Bool) → before v ≡ true → IsAt (state v)
  pub right : (v : List Bool) → after v ≡ true → does ends (state v) (macros v) ≡ deed
  pub shows : (v : List Bool) → after v ≡ true → events_in (state v) deed ≡ told kind text deed
  pub others : (v : List Bool) → before v ≡ true → after v ≡ false → deed ≢ stop
      → events_in (state v) (does ends (state v) (macros v)) ≢ told kind text deed
  pub go_on : (v : List Bool) → before v ≡ true → after v ≡ false → deed ≡ stop
      → does ends (state v) (macros v) ≢ stop
