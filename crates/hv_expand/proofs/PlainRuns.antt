-- The run of the episode of one configuration.
use Rattle.std.proofs.Common.{ℕ, suc, ◌≡◌, ◌≢◌, ◌+◌, ◌-◌, ◌<◌, refl, sym, ap, ◌∙◌, subst, Bool, true, false, List, ◌∷◌, drop, drop-cons, add-one, get_or, length, map, if◌then◌else◌, Some, None, arith}
use Rattle.std.specs.Str.{bytes_eq}
use Rattle.std.proofs.lemmas.Slice.Eq.{bytes_eq-Decides}
use Rattle.hv_base.specs.declared.limits.TheConstants.{MOST_EVENTS}
use Rattle.hv_base.specs.declared.why.Why.{Why}
use Rattle.hv_base.specs.declared.why.Why.TheVariants.{DirectiveInArguments, EpisodeTooLong}
use Rattle.hv_plain.specs.declared.episode.RunEnd.{RunEnd}
use Rattle.hv_plain.specs.episode.Episode.{episode, goes_on, start}
use Rattle.hv_plain.specs.episode.Expansion.{State, at, done, refused, Deed, give, stop, deed, Next, next, Episode, Result, ended, fails, run}
use Rattle.hv_rescan.specs.Pending.{IsAt, IsToken, next_of}
use Rattle.hv_rescan.specs.Values.{state_of}
use Rattle.hv_rescan.specs.declared.machine.Machine.{Machine}
use Rattle.hv_rescan.specs.declared.pending.Following.{Following}
use Rattle.hv_toks.specs.Macro.{Macro, macro_of}
use Rattle.hv_toks.specs.MacroState.{meaning_after}
use Rattle.hv_toks.specs.declared.token.PpKind.{PpKind}
use Rattle.hv_toks.specs.declared.token.PpTok.{PpTok}
use Rattle.hv_expand.specs.declared.moves.Deed.{Deed as Deed'}
use Rattle.hv_expand.specs.declared.moves.Deed.TheVariants as deed'
use Rattle.hv_expand.specs.declared.outcome.Ending.{Ending}
use Rattle.hv_expand.specs.declared.outcome.Expanded.TheVariants.{Fails}
use Rattle.hv_expand.specs.Outcomes.{ComesTo, IsResult}
use Rattle.hv_expand.specs.Plain.{entry_of}
use Rattle.hv_expand.specs.declared.plain.Entry.{Entry}
use Rattle.hv_expand.specs.working.Going.{does, moved}
use Rattle.hv_expand.specs.working.Moves.{EndsSo, IsEnding, Says}
use Rattle.hv_expand.specs.working.PlainSteps.{DoesPlainly}
use Rattle.hv_expand.specs.working.Steps.{IsRefusal}
use Rattle.hv_expand.proofs.Running.{episode_is, says_stop}
use Rattle.hv_expand.proofs.Turns.{behind, is_done, is_refused, lasts, one_turn_in, stops_in}

------ one token

pub does_token : (ends : RunEnd) (m : List ℕ → Macro) (kind : PpKind) (text : List ℕ)
    (opens : Bool) (f : Following) (state : State)
    → IsToken ends kind text opens (next_of f) state
    → does ends state m ≡ elim opens [ true ↦ deed (next_of f) (m text) | false ↦ give ]
does_token ends m kind text opens f state n =
    ap (λ (s : State). does ends s m) n.is
    ∙ ap (λ (b : Bool).
    elim b [ true ↦ deed (next ends n.scan.ahead n.frames) (m n.token.text) | false ↦ give ])
    n.opening
    ∙ ap (λ (x : Next). elim opens [ true ↦ deed x (m n.token.text) | false ↦ give ]) n.following
    ∙ ap (λ (t : List ℕ). elim opens [ true ↦ deed (next_of f) (m t) | false ↦ give ]) n.texts

------ the run

-- an episode goes on, where so many more events may come
pub record IsPlainRun (ends : RunEnd) (text : List PpTok) (position : ℕ) (m : List ℕ → Macro)
    (machine : Machine) (left : ℕ) : Type 0 where
  pub over : machine.run.ends ≡ ends
  pub tokens : machine.run.tokens.now ≡ text
  pub goes : (episode ends text position m).result ≡ (run ends m left (state_of m machine)).result

pub plain_start : (ends : RunEnd) (text : List PpTok) (position : ℕ) (m : List ℕ → Macro)
    (machine : Machine) → machine.run.ends ≡ ends → machine.run.tokens.now ≡ text
    → state_of m machine ≡ start ends m (drop position text)
    → IsPlainRun ends text position m machine MOST_EVENTS
plain_start ends text position m machine over tokens starts =
    record {
      over = over;
      tokens = tokens;
      goes = ap (λ (e : Episode). e.result)
          (episode_is ends text position m (state_of m machine) starts);
    }

ends_plainly : (ends : RunEnd) (text : List PpTok) (position : ℕ) (m : List ℕ → Macro)
    (left : ℕ) (ending : Ending) (state : State) → EndsSo text position ending state
    → ((r : Result) × (run ends m left state ≡ ended r) × IsEnding text position ending r)
ends_plainly ends text position m left ending (at t s fs) p = absurd p
ends_plainly ends text position m left ending (done s) p = (_, is_done ends m left s, p)
ends_plainly ends text position m left ending (refused why) p = (_, is_refused ends m left why, p)

comes : (ends : RunEnd) (text : List PpTok) (position : ℕ) (m : List ℕ → Macro) (ending : Ending)
    (r : Result) → (episode ends text position m).result ≡ r → IsEnding text position ending r
    → ComesTo ends text position m ending.result ending.end
comes ends text position m ending r is e =
    record {
      right = subst (IsResult ending.result) (sym is) e.right;
      goes = ap (goes_on text position) is ∙ e.goes;
    }

module _ (ends : RunEnd) (text : List PpTok) (position : ℕ) (m : List ℕ → Macro)
    (machine settled : Machine) (left : ℕ) (r : IsPlainRun ends text position m machine left)
    (same : state_of m settled ≡ state_of m machine) (same_run : settled.run ≡ machine.run) where
  over : settled.run.ends ≡ ends
  over = ap (λ x. x.ends) same_run ∙ r.over

  tokens : settled.run.tokens.now ≡ text
  tokens = ap (λ x. x.tokens.now) same_run ∙ r.tokens

  now : (episode ends text position m).result ≡ (run ends m left (state_of m settled)).result
  now = r.goes ∙ ap (λ (s : State). (run ends m left s).result) (sym same)

  pub plain_ends : (ending : Ending)
      → EndsSo settled.run.tokens.now position ending (state_of m settled)
      → ComesTo ends text position m ending.result ending.end
  plain_ends ending so =
      let x = ends_plainly ends text position m left ending (state_of m settled)
      (subst (λ (ts : List PpTok). EndsSo ts position ending (state_of m settled)) tokens so) in
      comes ends text position m ending x.0 (now ∙ ap (λ (e : Episode). e.result) x.1) x.2

  module _ (d : Deed') (p : DoesPlainly m settled d) where
    done_so : does ends (state_of m settled) m ≡ p.deed
    done_so = ap (λ (x : RunEnd). does x (state_of m settled) m) (sym over) ∙ p.does

    turn : (episode ends text position m).result
        ≡ (behind ends m left (state_of m settled) p.deed).result
    turn = now
        ∙ ap (λ (e : Episode). e.result) (one_turn_in ends m left (state_of m settled) p.pends)
        ∙ ap (λ (x : Deed). (behind ends m left (state_of m settled) x).result) done_so

    pub plain_more : (after_it : Machine) (less : ℕ) → IsRefusal d left None → less ≡ left - 1
        → ((macros : List ℕ → Macro) (x : Deed) → Says d x → IsAt (state_of macros settled)
        → state_of macros after_it ≡ moved settled.run.ends (state_of macros settled) x)
        → after_it.run ≡ settled.run → IsPlainRun ends text position m after_it less
    plain_more after_it less goes_on is moves run_is =
        let one : left ≡ suc less = omega (arith, goes_on.1, is) in
        record {
          over = ap (λ x. x.ends) run_is ∙ over;
          tokens = ap (λ x. x.tokens.now) run_is ∙ tokens;
          goes = turn
              ∙ ap (λ (k : ℕ). (behind ends m k (state_of m settled) p.deed).result) one
              ∙ ap (λ (x : RunEnd). (run ends m less (moved x (state_of m settled) p.deed)).result)
              (sym over)
              ∙ ap (λ (s : State). (run ends m less s).result)
              (sym (moves m p.deed p.says p.pends));
        }

    refused_so : (why : Why) → (behind ends m left (state_of m settled) p.deed).result ≡ fails why
        → ComesTo ends text position m (Fails why) position
    refused_so why is = record {
      right = subst (IsResult (Fails why)) (sym (turn ∙ is)) refl;
      goes = ap (goes_on text position) (turn ∙ is);
    }

    too_long_so : p.deed ≢ stop → left ≡ 0
        → (behind ends m left (state_of m settled) p.deed).result ≡ fails EpisodeTooLong
    too_long_so differs none =
        ap (λ (k : ℕ). (behind ends m k (state_of m settled) p.deed).result) none
        ∙ ap (λ (e : Episode). e.result) (lasts p.deed differs)

    stop_so : p.deed ≡ stop
        → (behind ends m left (state_of m settled) p.deed).result ≡ fails DirectiveInArguments
    stop_so is =
        ap (λ (x : Deed). (behind ends m left (state_of m settled) x).result) is
        ∙ ap (λ (e : Episode). e.result) (stops_in ends m left (state_of m settled) p.pends)

    -- the refusal, by what is done
    by_deed : (x : Deed') (why : Why) → Says x p.deed → IsRefusal x left (Some why)
        → (behind ends m left (state_of m settled) p.deed).result ≡ fails why
    by_deed deed'.Stop why says w = stop_so says ∙ ap fails (sym w)
    by_deed deed'.Give why says w =
        too_long_so (says_stop deed'.Give p.deed says (λ x. cc)) w.1 ∙ ap fails (sym w.0)
    by_deed (deed'.Use body) why says w =
        too_long_so (says_stop (deed'.Use body) p.deed says (λ x. cc)) w.1 ∙ ap fails (sym w.0)

    pub plain_refused : (why : Why) → IsRefusal d left (Some why)
        → ComesTo ends text position m (Fails why) position
    plain_refused why w = refused_so why (by_deed d why p.says w)

------ what a name means

first_left : {A : Type 0} (xs : List A) (i : ℕ) (x : A) → i < length xs → x ≡ get_or xs i x
    → drop i xs ≡ x ∷ drop (i + 1) xs
first_left xs i x h e =
    drop-cons xs i x h
    ∙ ap (λ y. y ∷ drop (suc i) xs) (sym e)
    ∙ ap (λ (k : ℕ). x ∷ drop k xs) (sym (add-one i))

-- the entry that is next counts where it has the name
pub meaning_step : (entries : List Entry) (i : ℕ) (e : Entry) (before after : Macro)
    (name : List ℕ) → i < length entries
    → e ≡ get_or entries i e
    → (if bytes_eq e.name name then macro_of e.meaning else before) ≡ after
    → meaning_after after (map entry_of (drop (i + 1) entries)) name
    ≡ meaning_after before (map entry_of (drop i entries)) name
meaning_step entries i e before after name within is_next is =
    ap (λ (m : Macro). meaning_after m (map entry_of (drop (i + 1) entries)) name) (sym is)
    ∙ ap (λ (es : List Entry). meaning_after before (map entry_of es) name)
    (sym (first_left entries i e within is_next))

pub is_named : (x name : List ℕ) (m before : Macro) → x ≡ name
    → (if bytes_eq x name then m else before) ≡ m
is_named x name m before is =
    ap (λ (b : Bool). if b then m else before) ((bytes_eq-Decides x name).1 is)

else_before : (b : Bool) (m before : Macro) → (b ≡ true → ⊥) → (if b then m else before) ≡ before
else_before true m before not_so = absurd (not_so refl)
else_before false m before not_so = refl

pub is_unnamed : (x name : List ℕ) (m before : Macro) → (x ≡ name → ⊥)
    → (if bytes_eq x name then m else before) ≡ before
is_unnamed x name m before differs =
    else_before (bytes_eq x name) m before (λ is. differs ((bytes_eq-Decides x name).0 is))
