-- One turn of a run under all configurations of a condition.
use Rattle.std.proofs.Common.{ℕ, zero, suc, ◌≡◌, ◌≢◌, refl, sym, ap, ◌∙◌, subst, Bool, true, false, List, [], ◌∷◌, ◌++◌, map, append_assoc}
use Rattle.std.proofs.lemmas.List.{append-nil}
use Rattle.std.proofs.lemmas.Bool.{false≢true}
use Rattle.hv_base.specs.declared.why.Why.{Why}
use Rattle.hv_base.specs.declared.why.Why.TheVariants.{DirectiveInArguments, EpisodeTooLong}
use Rattle.hv_toks.specs.Macro.{Macro}
use Rattle.hv_toks.specs.declared.token.PpKind.{PpKind}
use Rattle.hv_plain.specs.declared.episode.RunEnd.{RunEnd}
use Rattle.hv_plain.specs.episode.Expansion.{State, at, done, refused, Deed, give, use_macro, stop, deed_at, Event, uses, gives, events, Result, expands, fails, Episode, adding, ended, too_long, run}
use Rattle.hv_plain.specs.episode.Substitution.{Scan, Frame}
use Rattle.hv_plain.specs.episode.Tokens.{Token, given_token}
use Rattle.hv_rescan.specs.Pending.{IsAt}
use Rattle.hv_expand.specs.working.Going.{IsGoing, IsOver, IsTurn, does, events_in, moved, told}
use Rattle.hv_expand.specs.working.Questions.{Test}

------ one configuration

-- what comes after a stop is nothing
abbrev StopsEmpty : Deed → Episode → Type 0
StopsEmpty stop e = e.face ≡ []
StopsEmpty give e = Unit {0}
StopsEmpty (use_macro place body) e = Unit {0}

-- the episode after a deed, by how many events are left
abbrev pub behind : RunEnd → (List ℕ → Macro) → ℕ → State → Deed → Episode
behind ends m zero state d = too_long d
behind ends m (suc left) state d = run ends m left (moved ends state d)

pub is_refused : (ends : RunEnd) (m : List ℕ → Macro) (left : ℕ) (why : Why)
    → run ends m left (refused why) ≡ ended (fails why)
unfolding run
is_refused ends m zero why = refl
is_refused ends m (suc left) why = refl

pub is_done : (ends : RunEnd) (m : List ℕ → Macro) (left : ℕ) (s : Scan)
    → run ends m left (done s) ≡ ended (expands (map given_token s.given) s.unread)
unfolding run
is_done ends m zero s = refl
is_done ends m (suc left) s = refl

stops_empty : (ends : RunEnd) (m : List ℕ → Macro) (left : ℕ) (t : Token) (s : Scan)
    (fs : List Frame) (d : Deed) → StopsEmpty d (behind ends m left (at t s fs) d)
stops_empty ends m zero t s fs give = tt
stops_empty ends m zero t s fs (use_macro p b) = tt
stops_empty ends m zero t s fs stop = refl
stops_empty ends m (suc left) t s fs give = tt
stops_empty ends m (suc left) t s fs (use_macro p b) = tt
stops_empty ends m (suc left) t s fs stop =
    ap (λ (e : Episode). e.face) (is_refused ends m left DirectiveInArguments)

stops_empty_in : (ends : RunEnd) (m : List ℕ → Macro) (left : ℕ) (state : State) (d : Deed)
    → IsAt state → StopsEmpty d (behind ends m left state d)
stops_empty_in ends m left state d n =
    subst (λ (s : State). StopsEmpty d (behind ends m left s d)) (sym n.is)
    (stops_empty ends m left n.token n.scan n.frames d)

-- one event, and the rest
one_turn : (ends : RunEnd) (m : List ℕ → Macro) (left : ℕ) (t : Token) (s : Scan)
    (fs : List Frame) → run ends m left (at t s fs)
    ≡ adding (events t (deed_at ends t s.ahead fs (m t.text)))
    (behind ends m left (at t s fs) (deed_at ends t s.ahead fs (m t.text)))
unfolding run
one_turn ends m zero t s fs = refl
one_turn ends m (suc left) t s fs = refl

pub one_turn_in : (ends : RunEnd) (m : List ℕ → Macro) (left : ℕ) (state : State) → IsAt state
    → run ends m left state ≡ adding (events_in state (does ends state m))
    (behind ends m left state (does ends state m))
one_turn_in ends m left state n =
    subst (λ (s : State). run ends m left s ≡ adding (events_in s (does ends s m))
    (behind ends m left s (does ends s m))) (sym n.is)
    (one_turn ends m left n.token n.scan n.frames)

stops : (ends : RunEnd) (m : List ℕ → Macro) (left : ℕ) (t : Token) (s : Scan) (fs : List Frame)
    → behind ends m left (at t s fs) stop ≡ ended (fails DirectiveInArguments)
stops ends m zero t s fs = refl
stops ends m (suc left) t s fs = is_refused ends m left DirectiveInArguments

pub stops_in : (ends : RunEnd) (m : List ℕ → Macro) (left : ℕ) (state : State) → IsAt state
    → behind ends m left state stop ≡ ended (fails DirectiveInArguments)
stops_in ends m left state n =
    subst (λ (s : State). behind ends m left s stop ≡ ended (fails DirectiveInArguments))
    (sym n.is) (stops ends m left n.token n.scan n.frames)

pub lasts : (a : Deed) → a ≢ stop → too_long a ≡ ended (fails EpisodeTooLong)
lasts give some = refl
lasts (use_macro p b) some = refl
lasts stop some = absurd (some refl)

-- where faces begin with one event each, the events are the same
same_events : (t : Token) (d : Deed) (e : Episode) (kind : PpKind) (text : List ℕ) (a : Deed)
    (more : List Event) → StopsEmpty d e → a ≢ stop
    → events t d ++ e.face ≡ told kind text a ++ more → events t d ≡ told kind text a
same_events t give e kind text give more h some f =
    let x : gives t.kind t.text ≡ gives kind text = cc in ap (λ y. y ∷ []) x
same_events t give e kind text (use_macro p b) more h some f =
    let x : gives t.kind t.text ≡ uses p = cc in ap (λ y. y ∷ []) x
same_events t give e kind text stop more h some f = absurd (some refl)
same_events t (use_macro p b) e kind text give more h some f =
    let x : uses p ≡ gives kind text = cc in ap (λ y. y ∷ []) x
same_events t (use_macro p b) e kind text (use_macro r c) more h some f =
    let x : uses p ≡ uses r = cc in ap (λ y. y ∷ []) x
same_events t (use_macro p b) e kind text stop more h some f = absurd (some refl)
same_events t stop e kind text give more h some f =
    let x : [] ≡ gives kind text ∷ more = sym h ∙ f in cc
same_events t stop e kind text (use_macro r c) more h some f =
    let x : [] ≡ uses r ∷ more = sym h ∙ f in cc
same_events t stop e kind text stop more h some f = absurd (some refl)

same_events_in : (state : State) (d : Deed) (e : Episode) (kind : PpKind) (text : List ℕ)
    (a : Deed) (more : List Event) → IsAt state → StopsEmpty d e → a ≢ stop
    → events_in state d ++ e.face ≡ told kind text a ++ more
    → events_in state d ≡ told kind text a
same_events_in state d e kind text a more n h some =
    subst (λ (s : State). events_in s d ++ e.face ≡ told kind text a ++ more
    → events_in s d ≡ told kind text a) (sym n.is)
    (same_events n.token d e kind text a more h some)

-- a deed that is no stop shows an event
some_event : (t : Token) (d : Deed) (e : Episode) → d ≢ stop → events t d ++ e.face ≡ [] → ⊥
some_event t give e ne f = cc
some_event t (use_macro p b) e ne f = cc
some_event t stop e ne f = ne refl

some_event_in : (state : State) (d : Deed) (e : Episode) → IsAt state → d ≢ stop
    → events_in state d ++ e.face ≡ [] → ⊥
some_event_in state d e n ne =
    subst (λ (s : State). events_in s d ++ e.face ≡ [] → ⊥) (sym n.is) (some_event n.token d e ne)

------ all configurations

-- a run that has made no event
pub going_start : (before : Test) (whole rest : List Bool → Episode)
    → ((v : List Bool) → whole v ≡ rest v) → IsGoing before before whole rest
going_start before whole rest same =
    record {
      face = [];
      within = λ v e. e;
      result = λ v e. ap (λ (x : Episode). x.result) (same v);
      goes = λ v e. ap (λ (x : Episode). x.face) (same v);
      others = λ v e f es g. false≢true (sym f ∙ e);
    }

cancel : (xs ys zs : List Event) → xs ++ ys ≡ xs ++ zs → ys ≡ zs
cancel [] ys zs e = e
cancel (x ∷ xs) ys zs e = let f : xs ++ ys ≡ xs ++ zs = cc in cancel xs ys zs f

pub either : {P : Type 0} (b : Bool) → (b ≡ true → P) → (b ≡ false → P) → P
either true f g = f refl
either false f g = g refl

module _ (ends : RunEnd) (m : List Bool → List ℕ → Macro) (before mid now : Test)
    (whole : List Bool → Episode) (left : ℕ) (st : List Bool → State)
    (kind : PpKind) (text : List ℕ) (a : Deed)
    (going : IsGoing before mid whole (λ v. run ends (m v) left (st v)))
    (turn : IsTurn ends m mid now st kind text a) where
  -- what comes after the deed of a configuration
  abbrev comes : List Bool → Episode
  comes v = behind ends (m v) left (st v) (does ends (st v) (m v))

  turns : (v : List Bool) → mid v ≡ true → run ends (m v) left (st v)
      ≡ adding (events_in (st v) (does ends (st v) (m v))) (comes v)
  turns v h = one_turn_in ends (m v) left (st v) (turn.pends v h)

  -- the rest of those that stay
  stay : (v : List Bool) → now v ≡ true → run ends (m v) left (st v)
      ≡ adding (told kind text a) (behind ends (m v) left (st v) a)
  stay v h = turns v (turn.within v h)
      ∙ ap (λ (d : Deed). adding (events_in (st v) d) (behind ends (m v) left (st v) d))
      (turn.right v h)
      ∙ ap (λ es. adding es (behind ends (m v) left (st v) a)) (turn.shows v h)

  face_of : (v : List Bool) → mid v ≡ true → (whole v).face
      ≡ going.face ++ (events_in (st v) (does ends (st v) (m v)) ++ (comes v).face)
  face_of v h = going.goes v h ∙ ap (λ (e : Episode). going.face ++ e.face) (turns v h)

  others_if : a ≢ stop → (v : List Bool) → before v ≡ true → now v ≡ false
      → (more : List Event) → (whole v).face ≡ (going.face ++ told kind text a) ++ more → ⊥
  others_if some v b f more e =
      let e' : (whole v).face ≡ going.face ++ (told kind text a ++ more) =
      e ∙ append_assoc going.face (told kind text a) more in
      either (mid v)
      (λ h. turn.others v h f some
      (same_events_in (st v) (does ends (st v) (m v)) (comes v) kind text a more
      (turn.pends v h)
      (stops_empty_in ends (m v) left (st v) (does ends (st v) (m v)) (turn.pends v h))
      some (cancel going.face _ _ (sym (face_of v h) ∙ e'))))
      (λ h. going.others v b h (told kind text a ++ more) e')

  pub turned : (k : ℕ) (after_it : List Bool → State) → left ≡ suc k → a ≢ stop
      → ((v : List Bool) → now v ≡ true → after_it v ≡ moved ends (st v) a)
      → IsGoing before now whole (λ v. run ends (m v) k (after_it v))
  turned k after_it n some e =
      let step : (v : List Bool) → now v ≡ true
      → run ends (m v) left (st v) ≡ adding (told kind text a) (run ends (m v) k (after_it v)) =
      λ v h. stay v h
      ∙ ap (λ (i : ℕ). adding (told kind text a) (behind ends (m v) i (st v) a)) n
      ∙ ap (λ (s : State). adding (told kind text a) (run ends (m v) k s)) (sym (e v h)) in
      record {
        face = going.face ++ told kind text a;
        within = λ v h. going.within v (turn.within v h);
        result = λ v h. going.result v (turn.within v h)
            ∙ ap (λ (x : Episode). x.result) (step v h);
        goes = λ v h. going.goes v (turn.within v h)
            ∙ ap (λ (x : Episode). going.face ++ x.face) (step v h)
            ∙ sym (append_assoc going.face (told kind text a) _);
        others = others_if some;
      }

  pub too_many : (is_right : Result → Type 0) → is_right (fails EpisodeTooLong) → left ≡ 0
      → a ≢ stop → IsOver before now whole is_right
  too_many is_right told_so n some =
      let step : (v : List Bool) → now v ≡ true → run ends (m v) left (st v)
      ≡ adding (told kind text a) (ended (fails EpisodeTooLong)) =
      λ v h. stay v h
      ∙ ap (λ (i : ℕ). adding (told kind text a) (behind ends (m v) i (st v) a)) n
      ∙ ap (adding (told kind text a)) (lasts a some) in
      record {
        face = going.face ++ told kind text a;
        within = λ v h. going.within v (turn.within v h);
        right = λ v h. subst is_right (sym (going.result v (turn.within v h)
            ∙ ap (λ (x : Episode). x.result) (step v h))) told_so;
        faces = λ v h. going.goes v (turn.within v h)
            ∙ ap (λ (x : Episode). going.face ++ x.face) (step v h)
            ∙ ap (λ es. going.face ++ es) (append-nil (told kind text a));
        others = λ v b f e. others_if some v b f [] (e ∙ sym (append-nil _));
      }

  pub stopped : (is_right : Result → Type 0) → is_right (fails DirectiveInArguments)
      → a ≡ stop → IsOver before now whole is_right
  stopped is_right told_so h =
      let step : (v : List Bool) → now v ≡ true
      → run ends (m v) left (st v) ≡ ended (fails DirectiveInArguments) =
      λ v k. stay v k
      ∙ ap (λ (d : Deed). adding (told kind text d) (behind ends (m v) left (st v) d)) h
      ∙ stops_in ends (m v) left (st v) (turn.pends v (turn.within v k)) in
      record {
        face = going.face;
        within = λ v k. going.within v (turn.within v k);
        right = λ v k. subst is_right (sym (going.result v (turn.within v k)
            ∙ ap (λ (x : Episode). x.result) (step v k))) told_so;
        faces = λ v k. going.goes v (turn.within v k)
            ∙ ap (λ (x : Episode). going.face ++ x.face) (step v k) ∙ append-nil going.face;
        others = λ v b f e.
            either (mid v)
            (λ k. some_event_in (st v) (does ends (st v) (m v)) (comes v) (turn.pends v k)
            (turn.go_on v k f h)
            (cancel going.face _ _ (sym (face_of v k) ∙ e ∙ sym (append-nil going.face))))
            (λ k. going.others v b k [] (e ∙ sym (append-nil going.face)));
      }

-- a run of which nothing is left
pub over_with : (before now : Test) (whole rest : List Bool → Episode)
    (is_right : Result → Type 0)
    → ((v : List Bool) → now v ≡ true
    → ((r : Result) × (rest v ≡ ended r) × is_right r)) → IsGoing before now whole rest
    → IsOver before now whole is_right
over_with before now whole rest is_right step going =
    record {
      face = going.face;
      within = going.within;
      right = λ v k. subst is_right (sym (going.result v k
          ∙ ap (λ (x : Episode). x.result) (step v k).1)) (step v k).2;
      faces = λ v k. going.goes v k ∙ ap (λ (x : Episode). going.face ++ x.face) (step v k).1
          ∙ append-nil going.face;
      others = λ v b f e. going.others v b f [] (e ∙ sym (append-nil going.face));
    }
