-- A run of an episode, from its first token on, narrows a condition to the configurations of one
-- face.
use Rattle.std.proofs.Common.{ℕ, ◌≡◌, ◌≢◌, ◌-◌, refl, sym, ap, ◌∙◌, subst, Bool, true, List, drop, length, Some, None, arith}
use Rattle.std.proofs.lemmas.Bool.{false≢true}
use Rattle.hv_base.specs.declared.limits.TheConstants.{MOST_EVENTS}
use Rattle.hv_base.specs.declared.why.Why.{Why}
use Rattle.hv_base.specs.declared.why.Why.TheVariants.{DirectiveInArguments, EpisodeTooLong}
use Rattle.hv_cond.specs.Diagram.{Diagram, IsNever, IsNode, Keeps, holds}
use Rattle.hv_cond.specs.Laws.{IsNever-before, Keeps-refl, Keeps-trans}
use Rattle.hv_cond.specs.declared.conditions.Cond.{Cond}
use Rattle.hv_faces.specs.Faces.{IsClass}
use Rattle.hv_faces.specs.declared.class.Class.{Class}
use Rattle.hv_macros.specs.Table.{meaning_in}
use Rattle.hv_plain.specs.declared.episode.RunEnd.{RunEnd}
use Rattle.hv_plain.specs.declared.episode.RunEnd.TheVariants.{Directive, FileEnd, Line}
use Rattle.hv_plain.specs.episode.Episode.{episode, start}
use Rattle.hv_plain.specs.episode.Expansion.{State, at, done, refused, Deed, give, use_macro, stop, Episode, Result, ended, fails, run}
use Rattle.hv_rescan.specs.Pending.{IsAt}
use Rattle.hv_rescan.specs.Values.{state_of}
use Rattle.hv_rescan.specs.declared.machine.Machine.{Machine}
use Rattle.hv_toks.specs.Macro.{Macro}
use Rattle.hv_toks.specs.declared.token.PpKind.{PpKind}
use Rattle.hv_toks.specs.declared.token.PpTok.{PpTok}
use Rattle.hv_expand.specs.declared.episodes.Episodes.{Episodes}
use Rattle.hv_expand.specs.declared.episodes.Part.{Part}
use Rattle.hv_expand.specs.declared.moves.Deed.{Deed as Deed'}
use Rattle.hv_expand.specs.declared.moves.Deed.TheVariants as deed'
use Rattle.hv_expand.specs.declared.moves.Move.{Move}
use Rattle.hv_expand.specs.declared.outcome.Ending.{Ending}
use Rattle.hv_expand.specs.declared.outcome.Expanded.TheVariants.{Fails}
use Rattle.hv_expand.specs.Outcomes.{ComesTo, HaveOneFace}
use Rattle.hv_expand.specs.working.Going.{IsAsked, IsGoing, IsOver, IsSettled, IsTurn, moved}
use Rattle.hv_expand.specs.working.Moves.{EndsSo, IsEnding, Says}
use Rattle.hv_expand.specs.working.Questions.{Test}
use Rattle.hv_expand.specs.working.Steps.{DoesMove, IsFound, IsGood, IsMachineOf, IsPart, IsRefusal, states}
use Rattle.hv_expand.proofs.Answering.{witness}
use Rattle.hv_expand.proofs.Deeds.{combined, consistent}
use Rattle.hv_expand.specs.working.Kept.{all_macros_same}
use Rattle.hv_expand.proofs.Turns.{either, going_start, is_done, is_refused, over_with, stopped, too_many, turned}

-- the episode of each configuration
abbrev pub episodes : Diagram → Episodes → List Bool → Episode
episodes d e v = episode e.ends e.run.now e.at (meaning_in d e.table.now v)

-- what a machine has before it in each configuration
abbrev pub rests : Diagram → Episodes → Machine → ℕ → List Bool → Episode
rests d e machine left v =
    run e.ends (meaning_in d e.table.now v) left (states (meaning_in d e.table.now) machine v)

-- a run goes on, where so many more events may come
pub record IsRunning (old now : Diagram) (e : Episodes) (c : Cond) (machine : Machine)
    (narrowed : Cond) (left : ℕ) : Type 0 where
  pub keeps : Keeps old now
  pub node : IsNode now narrowed
  pub possible : ¬ IsNever now narrowed
  pub machine_of : IsMachineOf e machine
  pub going : IsGoing (λ v. holds old c v) (λ v. holds now narrowed v) (episodes old e)
      (rests old e machine left)

------ the beginning

starts_fixed : (ends : RunEnd) → ends ≢ Line → (macros others : List ℕ → Macro)
    → (text : List PpTok) → start ends macros text ≡ start ends others text
starts_fixed Directive differs macros others text = refl
starts_fixed FileEnd differs macros others text = refl
starts_fixed Line differs macros others text = absurd (differs refl)

pub episode_is : (ends : RunEnd) (text : List PpTok) (position : ℕ) (macros : List ℕ → Macro)
    (state : State) → state ≡ start ends macros (drop position text)
    → episode ends text position macros ≡ run ends macros MOST_EVENTS state
unfolding episode
episode_is ends text position macros state is = ap (run ends macros MOST_EVENTS) (sym is)

pub running_start : (d : Diagram) (e : Episodes) (machine : Machine) (c : Cond) → IsNode d c
    → (¬ IsNever d c)
    → ((macros : List ℕ → Macro)
    → state_of macros machine ≡ start e.ends macros (drop e.at e.run.now))
    → machine.run.ends ≡ e.ends → machine.run.tokens.now ≡ e.run.now
    → IsRunning d d e c machine c MOST_EVENTS
running_start d e machine c node possible starts ends tokens =
    record {
      keeps = Keeps-refl d;
      node = node;
      possible = possible;
      machine_of = record {
        ends = ends;
        tokens = tokens;
        fixed = λ differs macros others. starts macros
            ∙ starts_fixed e.ends differs macros others (drop e.at e.run.now) ∙ sym (starts others);
      };
      going = going_start (λ v. holds d c v) (episodes d e) (rests d e machine MOST_EVENTS)
          (λ v. episode_is e.ends e.run.now e.at (meaning_in d e.table.now v)
          (states (meaning_in d e.table.now) machine v) (starts (meaning_in d e.table.now v)));
    }

------ stores that have grown

test_same : {old new : Diagram} → Keeps old new → (c : Cond) → IsNode old c
    → holds old c ≡ holds new c
test_same keeps c node = λ k v. (sym (keeps.meaning c node v)) k

-- what is settled is so of the macro states of an earlier store
settled_before : {old mid new : Diagram} → Keeps old mid → (e : Episodes) → IsGood old e
    → (machine : Machine) (narrowed : Cond) (part : Part) → IsPart mid new e machine narrowed part
    → IsSettled e.ends (λ v. holds mid narrowed v) (λ v. holds new part.cond v)
    (states (meaning_in old e.table.now) machine)
    (states (meaning_in old e.table.now) part.machine)
settled_before {mid = mid} {new = new} keeps e good machine narrowed part p =
    subst (λ (m : List Bool → List ℕ → Macro). IsSettled e.ends (λ v. holds mid narrowed v)
    (λ v. holds new part.cond v) (states m machine) (states m part.machine))
    (all_macros_same keeps e.table.now good.table) p.settled

asked_before : {old mid new : Diagram} → Keeps old mid → (e : Episodes) → IsGood old e
    → (part : Part) (found : Move) → (p : DoesMove mid new e part found)
    → IsAsked e.ends (meaning_in old e.table.now) (λ v. holds mid part.cond v)
    (λ v. holds new found.cond v) (states (meaning_in old e.table.now) part.machine) p.moves.deed
asked_before {mid = mid} {new = new} keeps e good part found p =
    subst (λ (m : List Bool → List ℕ → Macro). IsAsked e.ends m (λ v. holds mid part.cond v)
    (λ v. holds new found.cond v) (states m part.machine) p.moves.deed)
    (all_macros_same keeps e.table.now good.table) p.moves.asked

------ the end

-- where no token is next no digit is asked for, and all stay
all_stay : (ends : RunEnd) (before after : Test) (state now : List Bool → State)
    → IsSettled ends before after state now → (w : List Bool) → after w ≡ true
    → (IsAt (now w) → ⊥) → (v : List Bool) → before v ≡ true → after v ≡ true
all_stay ends before after state now s w h none v b =
    either (after v) (λ k. k)
    (λ k. absurd (none (subst IsAt (sym (s.same w h)) (s.others v w b k h).other_pends)))

not_next : (e : Episodes) (ending : Ending) (state : State)
    → EndsSo e.run.now e.at ending state → IsAt state → ⊥
not_next e ending state ends n =
    subst (λ (s : State). EndsSo e.run.now e.at ending s) n.is ends

ends_so : (e : Episodes) (macros : List ℕ → Macro) (left : ℕ) (ending : Ending) (state : State)
    → EndsSo e.run.now e.at ending state
    → ((r : Result) × (run e.ends macros left state ≡ ended r)
    × IsEnding e.run.now e.at ending r)
ends_so e macros left ending (at t s fs) p = absurd p
ends_so e macros left ending (done s) p = (_, is_done e.ends macros left s, p)
ends_so e macros left ending (refused why) p = (_, is_refused e.ends macros left why, p)

pub running_ends : (old mid new last : Diagram) (e : Episodes) (c narrowed : Cond)
    (machine : Machine) (left : ℕ) (part : Part) (found : Class Ending) → IsGood old e
    → IsRunning old mid e c machine narrowed left → Keeps mid new
    → IsPart mid new e machine narrowed part → Keeps new last
    → ((macros : List ℕ → Macro)
    → EndsSo e.run.now e.at found.value (state_of macros part.machine))
    → found.cond ≡ part.cond → IsFound old last e c found
running_ends old mid new last e c narrowed machine left part found good r grows p grown so is =
    record {
      node = subst (IsNode last) (sym is) (grown.stays part.cond p.node);
      possible = subst (λ (x : Cond). ¬ IsNever last x) (sym is)
          (λ never. p.possible (IsNever-before grown part.cond p.node never));
      over = subst (λ (x : Cond). IsOver (λ v. holds old c v) (λ v. holds last x v)
          (episodes old e) (IsEnding e.run.now e.at found.value)) (sym is)
          (subst (λ (t : Test). IsOver (λ v. holds old c v) t (episodes old e)
          (IsEnding e.run.now e.at found.value)) (test_same grown part.cond p.node) over);
    }
  where
    here : (w : List Bool) × (length w ≡ new.variables) × (holds new part.cond w ≡ true)
    here = witness new part.cond p.possible

    settled : IsSettled e.ends (λ v. holds mid narrowed v) (λ v. holds new part.cond v)
        (states (meaning_in old e.table.now) machine)
        (states (meaning_in old e.table.now) part.machine)
    settled = settled_before r.keeps e good machine narrowed part p

    stay : (v : List Bool) → holds mid narrowed v ≡ true → holds new part.cond v ≡ true
    stay = all_stay e.ends (λ v. holds mid narrowed v) (λ v. holds new part.cond v)
        (states (meaning_in old e.table.now) machine)
        (states (meaning_in old e.table.now) part.machine) settled here.0 here.2
        (not_next e found.value (states (meaning_in old e.table.now) part.machine here.0)
        (so (meaning_in old e.table.now here.0)))

    going : IsGoing (λ v. holds old c v) (λ v. holds new part.cond v) (episodes old e)
        (rests old e machine left)
    going =
        record {
          face = r.going.face;
          within = λ v h. r.going.within v (settled.within v h);
          result = λ v h. r.going.result v (settled.within v h);
          goes = λ v h. r.going.goes v (settled.within v h);
          others = λ v b f more.
              either (holds mid narrowed v)
              (λ k. absurd (false≢true (sym f ∙ stay v k)))
              (λ k. r.going.others v b k more);
        }

    over : IsOver (λ v. holds old c v) (λ v. holds new part.cond v) (episodes old e)
        (IsEnding e.run.now e.at found.value)
    over =
        over_with (λ v. holds old c v) (λ v. holds new part.cond v) (episodes old e)
        (rests old e machine left) (IsEnding e.run.now e.at found.value)
        (λ v h.
        let x = ends_so e (meaning_in old e.table.now v) left found.value
        (states (meaning_in old e.table.now) part.machine v) (so (meaning_in old e.table.now v)) in (
          x.0,
          ap (run e.ends (meaning_in old e.table.now v) left) (sym (settled.same v h)) ∙ x.1,
          x.2,
        ))
        going

------ a turn

turn_of : (old mid new last : Diagram) (e : Episodes) (c narrowed : Cond)
    (machine : Machine) (left : ℕ) (part : Part) (found : Move) → IsGood old e
    → IsRunning old mid e c machine narrowed left → Keeps mid new
    → IsPart mid new e machine narrowed part → (p : DoesMove new last e part found)
    → (kind : PpKind) × (text : List ℕ) × IsTurn e.ends (meaning_in old e.table.now)
    (λ v. holds mid narrowed v) (λ v. holds last found.cond v)
    (states (meaning_in old e.table.now) machine) kind text p.moves.deed
turn_of old mid new last e c narrowed machine left part found good r grows p d =
    let asked = asked_before (Keeps-trans r.keeps grows) e good part found d in (
      asked.kind,
      asked.text,
      combined e.ends (meaning_in old e.table.now)
          (λ v. holds mid narrowed v) (λ v. holds new part.cond v) (λ v. holds last found.cond v)
          (states (meaning_in old e.table.now) machine)
          (states (meaning_in old e.table.now) part.machine) d.moves.deed
          (consistent old e.table.now good.one_body)
          (settled_before r.keeps e good machine narrowed part p) asked,
    )

pub says_stop : (d : Deed') (deed : Deed) → Says d deed → d ≢ deed'.Stop → deed ≢ stop
says_stop deed'.Give deed says differs e = let x : give ≡ stop = sym says ∙ e in cc
says_stop (deed'.Use body) deed says differs e =
    let x : use_macro says.0 body.value ≡ stop = sym says.1 ∙ e in cc
says_stop deed'.Stop deed says differs e = differs refl

pub running_more : (old mid new last : Diagram) (e : Episodes) (c narrowed : Cond)
    (machine next : Machine) (left less : ℕ) (part : Part) (found : Move) → IsGood old e
    → IsRunning old mid e c machine narrowed left → Keeps mid new
    → IsPart mid new e machine narrowed part → Keeps new last
    → DoesMove new last e part found → IsRefusal found.deed left None → less ≡ left - 1
    → ((macros : List ℕ → Macro) (d : Deed) → Says found.deed d
    → IsAt (state_of macros part.machine) → state_of macros next
    ≡ moved part.machine.run.ends (state_of macros part.machine) d)
    → next.run ≡ part.machine.run → IsRunning old last e c next found.cond less
running_more old mid new last e c narrowed machine next left less part found good r grows p grown
    d goes_on is moves same_run =
    let t = turn_of old mid new last e c narrowed machine left part found good r grows p d in
    let settled = settled_before r.keeps e good machine narrowed part p in
    let step : (macros : List ℕ → Macro)
    → state_of macros next ≡ moved e.ends (state_of macros part.machine) d.moves.deed =
    λ macros. moves macros d.moves.deed d.moves.says (d.pends macros)
    ∙ ap (λ (x : RunEnd). moved x (state_of macros part.machine) d.moves.deed) p.machine_of.ends
    in
    record {
      keeps = Keeps-trans r.keeps (Keeps-trans grows grown);
      node = d.moves.node;
      possible = d.moves.possible;
      machine_of = record {
        ends = ap (λ x. x.ends) same_run ∙ p.machine_of.ends;
        tokens = ap (λ x. x.tokens.now) same_run ∙ p.machine_of.tokens;
        fixed = λ differs macros others. step macros
            ∙ ap (λ (s : State). moved e.ends s d.moves.deed)
            (p.machine_of.fixed differs macros others)
            ∙ sym (step others);
      };
      going = turned e.ends (meaning_in old e.table.now) (λ v. holds old c v)
          (λ v. holds mid narrowed v) (λ v. holds last found.cond v) (episodes old e) left
          (states (meaning_in old e.table.now) machine) t.0 t.1 d.moves.deed r.going t.2 less
          (states (meaning_in old e.table.now) next) (omega (arith, goes_on.1, is))
          (says_stop found.deed d.moves.deed d.moves.says goes_on.0)
          (λ v h. step (meaning_in old e.table.now v)
          ∙ ap (λ (s : State). moved e.ends s d.moves.deed)
          (settled.same v (within_of v h)));
    }
  where
    within_of : (v : List Bool) → holds last found.cond v ≡ true → holds new part.cond v ≡ true
    within_of v h = d.moves.asked.within v h

-- an ending with this refusal
fails_with : (e : Episodes) (why cause : Why) → why ≡ cause
    → IsEnding e.run.now e.at (record { result = Fails why; end = e.at }) (fails cause)
fails_with e why cause is = record { right = is; goes = refl }

pub running_refused : (old mid new last : Diagram) (e : Episodes) (c narrowed : Cond)
    (machine : Machine) (left : ℕ) (part : Part) (found : Move) (why : Why)
    (class : Class Ending) → IsGood old e
    → IsRunning old mid e c machine narrowed left → Keeps mid new
    → IsPart mid new e machine narrowed part → Keeps new last
    → DoesMove new last e part found → IsRefusal found.deed left (Some why)
    → class.cond ≡ found.cond → class.value ≡ record { result = Fails why; end = e.at }
    → IsFound old last e c class
running_refused old mid new last e c narrowed machine left part found why class good r grows p
    grown d refusal is value =
    record {
      node = subst (IsNode last) (sym is) d.moves.node;
      possible = subst (λ (x : Cond). ¬ IsNever last x) (sym is) d.moves.possible;
      over = subst (λ (x : Cond). IsOver (λ v. holds old c v) (λ v. holds last x v)
          (episodes old e) (IsEnding e.run.now e.at class.value)) (sym is)
          (subst (λ (x : Ending). IsOver (λ v. holds old c v) (λ v. holds last found.cond v)
          (episodes old e) (IsEnding e.run.now e.at x)) (sym value)
          (over found.deed d.moves.says refusal));
    }
  where
    t : (kind : PpKind) × (text : List ℕ) × IsTurn e.ends (meaning_in old e.table.now)
        (λ v. holds mid narrowed v) (λ v. holds last found.cond v)
        (states (meaning_in old e.table.now) machine) kind text d.moves.deed
    t = turn_of old mid new last e c narrowed machine left part found good r grows p d

    over : (x : Deed') → Says x d.moves.deed → IsRefusal x left (Some why)
        → IsOver (λ v. holds old c v) (λ v. holds last found.cond v) (episodes old e)
        (IsEnding e.run.now e.at (record { result = Fails why; end = e.at }))
    over deed'.Stop says w =
        stopped e.ends (meaning_in old e.table.now) (λ v. holds old c v)
        (λ v. holds mid narrowed v) (λ v. holds last found.cond v) (episodes old e) left
        (states (meaning_in old e.table.now) machine) t.0 t.1 d.moves.deed r.going t.2
        (IsEnding e.run.now e.at (record { result = Fails why; end = e.at }))
        (fails_with e why DirectiveInArguments w) says
    over deed'.Give says w =
        too_many e.ends (meaning_in old e.table.now) (λ v. holds old c v)
        (λ v. holds mid narrowed v) (λ v. holds last found.cond v) (episodes old e) left
        (states (meaning_in old e.table.now) machine) t.0 t.1 d.moves.deed r.going t.2
        (IsEnding e.run.now e.at (record { result = Fails why; end = e.at }))
        (fails_with e why EpisodeTooLong w.0) w.1
        (says_stop deed'.Give d.moves.deed says (λ x. cc))
    over (deed'.Use body) says w =
        too_many e.ends (meaning_in old e.table.now) (λ v. holds old c v)
        (λ v. holds mid narrowed v) (λ v. holds last found.cond v) (episodes old e) left
        (states (meaning_in old e.table.now) machine) t.0 t.1 d.moves.deed r.going t.2
        (IsEnding e.run.now e.at (record { result = Fails why; end = e.at }))
        (fails_with e why EpisodeTooLong w.0) w.1
        (says_stop (deed'.Use body) d.moves.deed says (λ x. cc))

------ the class that was found

pub class_of : (old new : Diagram) (e : Episodes) (c : Cond) (found : Class Ending)
    → IsFound old new e c found
    → IsClass new (λ v. holds old c v) (HaveOneFace e.ends e.run.now e.at old e.table.now)
    found.cond
class_of old new e c found f =
    record {
      lies = record { node = f.node; possible = f.possible; within = f.over.within };
      exact = λ v w h b. (
        λ k. f.over.faces v h ∙ sym (f.over.faces w k),
        λ same. either (holds new found.cond w) (λ k. k)
            (λ k. absurd (f.over.others w b k (sym same ∙ f.over.faces v h))),
      );
    }

pub right_of : (old new : Diagram) (e : Episodes) (c : Cond) (found : Class Ending)
    → IsFound old new e c found → (v : List Bool) → holds new found.cond v ≡ true
    → ComesTo e.ends e.run.now e.at (meaning_in old e.table.now v) found.value.result
    found.value.end
right_of old new e c found f v h =
    let x = f.over.right v h in record { right = x.right; goes = x.goes }
