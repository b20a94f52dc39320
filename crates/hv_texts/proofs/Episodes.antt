-- The episodes of a text at a position, and where they are met.
use Rattle.std.proofs.Common.{◌≡◌, ◌+◌, ◌-◌, ℕ, zero, suc, Bool, List, [], ◌∷◌, length, drop, refl, sym, ◌∙◌, ap, subst, arith}
use Rattle.std.specs.Prelude.{Contains}
use Rattle.std.specs.List.{AllByRecursion}
use Rattle.hv_base.specs.declared.limits.TheConstants.{MOST_EVENTS}
use Rattle.hv_base.specs.declared.place.Place.{Place}
use Rattle.hv_base.specs.declared.why.Why.{Why}
use Rattle.hv_expand.specs.Outcomes.{IsResult}
use Rattle.hv_expand.specs.declared.outcome.Expanded.{Expanded}
use Rattle.hv_expand.specs.declared.outcome.Expanded.TheVariants.{Tokens, Fails}
use Rattle.hv_expand.specs.declared.outcome.Outcome.{Outcome}
use Rattle.hv_given.specs.Given.{IsEpisode}
use Rattle.hv_given.specs.declared.given.Given.{Given}
use Rattle.hv_plain.specs.declared.episode.RunEnd.{RunEnd}
use Rattle.hv_plain.specs.episode.Episode.{episode, goes_on, start}
use Rattle.hv_plain.specs.episode.Expansion.{Episode, Event, Result, expands, fails, run as run_from}
use Rattle.hv_plainpp.specs.Files.{place_of}
use Rattle.hv_plainpp.specs.Reading.{Met, Reading, continued, refusal}
use Rattle.hv_plainpp.specs.Text.{episodes, with_episode}
use Rattle.hv_texts.proofs.Stepping.{IsComing}
use Rattle.hv_texts.specs.Readings.{AreApart, IsApart}
use Rattle.hv_texts.specs.declared.origin.Origin.{Origin}
use Rattle.hv_texts.specs.working.Sorting.{IsBegun, left}
use Rattle.hv_texts.specs.working.Steps.{IsFree, entered, entry, rests, tokens_in, way_on}
use Rattle.hv_toks.specs.Macro.{Macro}
use Rattle.hv_toks.specs.Spelled.{Spelled}
use Rattle.hv_toks.specs.declared.token.PpTok.{PpTok}

------ one episode

-- the episode at a position is that of the run from there on
pub episode_here : (ends : RunEnd) (run : List PpTok) (at : ℕ) (macros : List ℕ → Macro)
    (t : PpTok) (tokens : List PpTok) → drop at run ≡ t ∷ tokens
    → episode ends (t ∷ tokens) 0 macros ≡ episode ends run at macros
unfolding episode
episode_here ends run at macros t tokens first =
    ap (λ (xs : List PpTok). run_from ends macros MOST_EVENTS (start ends macros xs)) (sym first)

-- what is read from there on
pub reads_on : (origin : Origin) (ends : RunEnd) (macros : List Bool → List ℕ → Macro)
    (run : List PpTok) (at : ℕ) (t : PpTok) (tokens : List PpTok) (values : List Bool)
    → drop at run ≡ t ∷ tokens
    → rests origin ends macros (drop at run) 0 values
    ≡ with_episode (place_of (entered origin) t) (length tokens)
    (episode ends run at (macros values)).face (episode ends run at (macros values)).result
    (λ own. rests origin ends macros tokens own values)
reads_on origin ends macros run at t tokens values first =
    ap (λ (xs : List PpTok). rests origin ends macros xs 0 values) first
    ∙ ap (λ (e : Episode). with_episode (place_of (entered origin) t) (length tokens) e.face e.result
    (λ own. rests origin ends macros tokens own values))
    (episode_here ends run at (macros values) t tokens first)

-- by an outcome
outcome_goes : (o : Outcome) (place : Place) (n len at : ℕ) (face : List Event)
    (going : ℕ → List Bool → Reading (Unit {0})) (values : List Bool) → n ≡ len - (at + 1)
    → (x : Expanded) (r : Result) → IsResult x r
    → ((given : List Spelled) (unread : ℕ) → r ≡ expands given unread → len - unread ≡ o.end)
    → IsComing (entry place o (tokens_in x))
    (with_episode place n face r (λ own. going own values))
    (left going (way_on at place o.end x) values) face
outcome_goes o place n len at face going values long (Tokens tokens) (expands given unread) is goes =
    let end = goes given unread refl in
    let own : n - unread ≡ o.end - (at + 1) = omega arith in
    record {
      met = record { place = place; face = face; gives = given };
      is_episode = record { place = refl; tokens = is };
      reads = ap (λ (k : ℕ). continued
          (record { place = place; face = face; gives = given } ∷ []) (going k values)) own;
      same = refl;
    }
outcome_goes o place n len at face going values long (Tokens tokens) (fails why) is goes = absurd is
outcome_goes o place n len at face going values long (Fails why) (expands given unread) is goes =
    absurd is
outcome_goes o place n len at face going values long (Fails why) (fails cause) is goes =
    record {
      met = record { place = place; face = face; gives = [] };
      is_episode = record { place = refl; tokens = refl };
      reads = ap (λ (w : Why). continued
          (record { place = place; face = face; gives = [] } ∷ []) (refusal w place)) (sym is);
      same = refl;
    }

goes_to : (run : List PpTok) (at end : ℕ) (r : Result) → goes_on run at r ≡ end
    → (given : List Spelled) (unread : ℕ) → r ≡ expands given unread → length run - unread ≡ end
goes_to run at end r e given unread is =
    ap (λ (x : Result). goes_on run at x) (sym is) ∙ e

-- the configurations of an outcome go on as it says
pub text_goes : (origin : Origin) (ends : RunEnd) (macros : List Bool → List ℕ → Macro)
    (run : List PpTok) (at : ℕ) (t : PpTok) (tokens : List PpTok) (place : Place)
    (values : List Bool) (o : Outcome)
    → drop at run ≡ t ∷ tokens → length tokens ≡ length run - (at + 1)
    → place ≡ place_of (entered origin) t
    → IsResult o.result (episode ends run at (macros values)).result
    → goes_on run at (episode ends run at (macros values)).result ≡ o.end
    → IsComing (entry place o (tokens_in o.result))
    (rests origin ends macros (drop at run) 0 values)
    (left (rests origin ends macros tokens) (way_on at place o.end o.result) values)
    (episode ends run at (macros values)).face
text_goes origin ends macros run at t tokens place values o first long stands right goes =
    let e : Episode = episode ends run at (macros values) in
    subst (λ (r : Reading (Unit {0})). IsComing (entry place o (tokens_in o.result)) r
    (left (rests origin ends macros tokens) (way_on at place o.end o.result) values) e.face)
    (ap (λ (p : Place). with_episode p (length tokens) e.face e.result
    (λ own. rests origin ends macros tokens own values)) stands
    ∙ sym (reads_on origin ends macros run at t tokens values first))
    (outcome_goes o place (length tokens) (length run) at e.face (rests origin ends macros tokens)
    values long o.result e.result right (goes_to run at o.end e.result goes))

------ places

rec_weaker : {X : Type 0} (P Q : X → Type 0) → ((x : X) → P x → Q x) → (xs : List X)
    → AllByRecursion P xs → AllByRecursion Q xs
rec_weaker P Q f [] all = tt
rec_weaker P Q f (x ∷ xs) all = (f x all.0, rec_weaker P Q f xs all.1)

-- an episode is met at the place of one of these tokens
abbrev pub IsMetIn : Origin → List PpTok → Met → Type 0
IsMetIn origin tokens m = (place : Place) → IsFree place origin tokens → place ≡ m.place → ⊥

met_later : (origin : Origin) (t : PpTok) (tokens : List PpTok) (met : List Met)
    → AllByRecursion (IsMetIn origin tokens) met → AllByRecursion (IsMetIn origin (t ∷ tokens)) met
met_later origin t tokens met =
    rec_weaker (IsMetIn origin tokens) (IsMetIn origin (t ∷ tokens))
    (λ m later place free e. later place free.1 e) met

met_with : (origin : Origin) (t : PpTok) (tokens : List PpTok) (n : ℕ) (face : List Event)
    (r : Result) (going : ℕ → Reading (Unit {0}))
    → ((own : ℕ) → AllByRecursion (IsMetIn origin tokens) (going own).met)
    → AllByRecursion (IsMetIn origin (t ∷ tokens))
    (with_episode (place_of (entered origin) t) n face r going).met
met_with origin t tokens n face (expands given unread) going all = (
  λ place free e. free.0 e,
  met_later origin t tokens (going (n - unread)).met (all (n - unread)),
)
met_with origin t tokens n face (fails why) going all = (λ place free e. free.0 e, tt)

pub met_in : (origin : Origin) (ends : RunEnd) (macros : List ℕ → Macro) (own : ℕ)
    (tokens : List PpTok)
    → AllByRecursion (IsMetIn origin tokens) (episodes (entered origin) ends macros own tokens).met
met_in origin ends macros own [] = tt
met_in origin ends macros (suc own) (t ∷ tokens) =
    met_later origin t tokens (episodes (entered origin) ends macros own tokens).met
    (met_in origin ends macros own tokens)
met_in origin ends macros zero (t ∷ tokens) =
    let e : Episode = episode ends (t ∷ tokens) 0 macros in
    met_with origin t tokens (length tokens) e.face e.result
    (λ own. episodes (entered origin) ends macros own tokens)
    (λ own. met_in origin ends macros own tokens)

-- a token's place is none of the others'
pub free_from : (origin : Origin) (t : PpTok) (tokens : List PpTok) → IsApart t tokens
    → IsFree (place_of (entered origin) t) origin tokens
free_from origin t [] apart = tt
free_from origin t (u ∷ tokens) apart = (
  λ e. apart.0 (ap (λ (p : Place). p.offset) e),
  free_from origin t tokens apart.1,
)

pub apart_drop : (n : ℕ) (run : List PpTok) → AreApart run → AreApart (drop n run)
apart_drop zero run apart = apart
apart_drop (suc n) [] apart = tt
apart_drop (suc n) (t ∷ run) apart = apart_drop n run apart.1

------ what is met at a place

-- what is met after those that are begun
pub begun_contains : (given : List Given) (met : List Met) (m : Met) (rest : List Met)
    → IsBegun given met (m ∷ rest) → Contains met m
begun_contains [] met m rest b =
    subst (λ (ms : List Met). Contains ms m) (sym b) (0, omega arith, refl)
begun_contains (g ∷ given) [] m rest b = absurd b
begun_contains (g ∷ given) (n ∷ met) m rest b =
    let later = begun_contains given met m rest b.1 in
    (suc later.0, omega (arith, later.1), later.2)

-- what is so of each entry's episode and of the others is so of all
pub begun_each : (Q : Met → Type 0) (given : List Given) (met rest : List Met)
    → IsBegun given met rest
    → AllByRecursion (λ (g : Given). (m : Met) → IsEpisode g m → Q m) given
    → AllByRecursion Q rest → AllByRecursion Q met
begun_each Q [] met rest b all others = subst (AllByRecursion Q) (sym b) others
begun_each Q (g ∷ given) [] rest b all others = absurd b
begun_each Q (g ∷ given) (m ∷ met) rest b all others =
    (all.0 m b.0, begun_each Q given met rest b.1 all.1 others)

-- with an episode, at its place, the others at those of later tokens
pub record IsMetFirst (origin : Origin) (t : PpTok) (tokens : List PpTok) (face : List Event)
    (met : List Met) : Type 0 where
  pub first : Met
  pub rest : List Met
  pub is : met ≡ first ∷ rest
  pub place : first.place ≡ place_of (entered origin) t
  pub face_is : first.face ≡ face
  pub later : AllByRecursion (IsMetIn origin tokens) rest

met_first_of : (origin : Origin) (t : PpTok) (tokens : List PpTok) (n : ℕ) (face : List Event)
    (r : Result) (going : ℕ → Reading (Unit {0}))
    → ((own : ℕ) → AllByRecursion (IsMetIn origin tokens) (going own).met)
    → IsMetFirst origin t tokens face
    (with_episode (place_of (entered origin) t) n face r going).met
met_first_of origin t tokens n face (expands given unread) going all =
    record {
      first = record { place = place_of (entered origin) t; face = face; gives = given };
      rest = (going (n - unread)).met;
      is = refl;
      place = refl;
      face_is = refl;
      later = all (n - unread);
    }
met_first_of origin t tokens n face (fails why) going all =
    record {
      first = record { place = place_of (entered origin) t; face = face; gives = [] };
      rest = [];
      is = refl;
      place = refl;
      face_is = refl;
      later = tt;
    }

pub met_first : (origin : Origin) (ends : RunEnd) (macros : List Bool → List ℕ → Macro)
    (run : List PpTok) (at : ℕ) (t : PpTok) (tokens : List PpTok) (values : List Bool)
    → drop at run ≡ t ∷ tokens
    → IsMetFirst origin t tokens (episode ends run at (macros values)).face
    (rests origin ends macros (drop at run) 0 values).met
met_first origin ends macros run at t tokens values first =
    let e : Episode = episode ends run at (macros values) in
    subst (λ (r : Reading (Unit {0})). IsMetFirst origin t tokens e.face r.met)
    (sym (reads_on origin ends macros run at t tokens values first))
    (met_first_of origin t tokens (length tokens) e.face e.result
    (λ own. rests origin ends macros tokens own values)
    (λ own. met_in origin ends (macros values) own tokens))
