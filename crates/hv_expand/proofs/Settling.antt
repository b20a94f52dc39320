-- The open digits of a token that is next are asked for, one after another.
use Rattle.std.proofs.Common.{ℕ, ◌≡◌, ◌≢◌, refl, sym, ap, ◌∙◌, subst, Bool, true, ◌&&◌, List, [], ◌∷◌}
use Rattle.std.proofs.lemmas.Bool.{false≢true}
use Rattle.hv_base.specs.declared.place.Place.{Place}
use Rattle.hv_cond.specs.Diagram.{Diagram, IsNever, IsNode, Keeps, holds}
use Rattle.hv_cond.specs.Laws.{IsNever-before, Keeps-refl, Keeps-trans}
use Rattle.hv_cond.specs.declared.conditions.Cond.{Cond}
use Rattle.hv_macros.specs.Table.{meaning_in}
use Rattle.hv_plain.specs.declared.episode.RunEnd.{RunEnd}
use Rattle.hv_plain.specs.declared.episode.RunEnd.TheVariants.{Directive, FileEnd, Line}
use Rattle.hv_plain.specs.episode.Expansion.{State}
use Rattle.hv_rescan.specs.Pending.{IsAt, is_macro}
use Rattle.hv_rescan.specs.Values.{open_names, state_of}
use Rattle.hv_rescan.specs.declared.machine.Machine.{Machine}
use Rattle.hv_toks.specs.Macro.{Macro, undefined, defined}
use Rattle.hv_toks.specs.declared.macros.Body.TheVariants.{Object}
use Rattle.hv_expand.specs.declared.episodes.Digit.{Digit}
use Rattle.hv_expand.specs.declared.episodes.Episodes.{Episodes}
use Rattle.hv_expand.specs.declared.questions.Question.TheVariants.{Defined}
use Rattle.hv_expand.specs.working.Going.{IsSettled, text_in}
use Rattle.hv_expand.specs.working.Questions.{IsAnswered, Test, same_told}
use Rattle.hv_expand.specs.working.Steps.{IsDigit, IsGood, IsMachineOf, IsPart, states}
use Rattle.hv_expand.proofs.Answering.{and_true, answered_possible, same_told-Decides}
use Rattle.hv_expand.specs.working.Kept.{all_macros_same}
use Rattle.hv_expand.proofs.Turns.{either}

------ a controlling line

-- two macro states that differ in every name
no_macros : List ℕ → Macro
no_macros name = undefined

all_macros : List ℕ → Macro
all_macros name =
    let nowhere : Place = record { stack = []; file = 0; offset = 0 } in defined nowhere (Object [])

told_apart : is_macro (no_macros []) ≡ is_macro (all_macros []) → ⊥
unfolding no_macros all_macros
told_apart e = false≢true e

same_names : (name : List ℕ) → is_macro (no_macros name) ≡ is_macro (all_macros name)
    → is_macro (no_macros []) ≡ is_macro (all_macros [])
unfolding no_macros all_macros
same_names name e = e

-- a digit is open on a controlling line alone
pub on_line : (ends : RunEnd) (state : (List ℕ → Macro) → State) (name : List ℕ)
    → (ends ≢ Line → (macros others : List ℕ → Macro) → state macros ≡ state others)
    → ((macros others : List ℕ → Macro) → text_in (state macros) ≡ text_in (state others)
    → is_macro (macros name) ≡ is_macro (others name)) → ends ≡ Line
on_line Line state name fixed tells = refl
on_line Directive state name fixed tells =
    absurd (told_apart (same_names name (tells no_macros all_macros
    (ap text_in (fixed (λ e. cc) no_macros all_macros)))))
on_line FileEnd state name fixed tells =
    absurd (told_apart (same_names name (tells no_macros all_macros
    (ap text_in (fixed (λ e. cc) no_macros all_macros)))))

------ one digit

settled_start : (ends : RunEnd) (before : Test) (state : List Bool → State)
    → IsSettled ends before before state state
settled_start ends before state =
    record {
      within = λ v h. h;
      same = λ v h. refl;
      others = λ v w b f h. absurd (false≢true (sym f ∙ b));
    }

module _ (variables : ℕ) (ends : RunEnd) (before mid after : Test)
    (state now next : List Bool → State) (m : List Bool → List ℕ → Macro) (name : List ℕ)
    (macro : Macro) (s : IsSettled ends before mid state now)
    (a : IsAnswered variables mid after (λ v. m v name) Defined macro) (line : ends ≡ Line)
    (pends : (v : List Bool) → IsAt (now v))
    (tells : (v w : List Bool) → text_in (now v) ≡ text_in (now w)
    → is_macro (m v name) ≡ is_macro (m w name))
    (same : (v : List Bool) → is_macro (m v name) ≡ is_macro macro → next v ≡ now v) where
  was : (v : List Bool) → after v ≡ true → mid v ≡ true
  was v h = (and_true (mid v) _ (sym (a.stay v) ∙ h)).0

  answers : (v : List Bool) → after v ≡ true → is_macro (m v name) ≡ is_macro macro
  answers v h = (same_told-Decides _ _).0 (and_true (mid v) _ (sym (a.stay v) ∙ h)).1

  stays : (v : List Bool) → mid v ≡ true → is_macro (m v name) ≡ is_macro macro
      → after v ≡ true
  stays v k e = a.stay v
      ∙ ap (λ (x : Bool). x && same_told (is_macro (m v name)) (is_macro macro)) k
      ∙ (same_told-Decides _ _).1 e

  pub settled_more : IsSettled ends before after state next
  settled_more =
      record {
        within = λ v h. s.within v (was v h);
        same = λ v h. same v (answers v h) ∙ s.same v (was v h);
        others = λ v w b f h.
            either (mid v)
            (λ k. record {
              on_line = line;
              pends = subst IsAt (s.same v k) (pends v);
              other_pends = subst IsAt (s.same w (was w h)) (pends w);
              differs = λ e. false≢true (sym f ∙ stays v k
                  (tells v w (ap text_in (s.same v k) ∙ e ∙ ap text_in (sym (s.same w (was w h))))
                  ∙ answers w h));
            })
            (λ k. s.others v w b k (was w h));
      }

------ the loop

-- some digits are settled
pub record IsSettling (old now : Diagram) (e : Episodes) (first : Machine) (c : Cond)
    (machine : Machine) (narrowed : Cond) : Type 0 where
  pub keeps : Keeps old now
  pub node : IsNode now narrowed
  pub possible : ¬ IsNever now narrowed
  pub machine_of : IsMachineOf e machine
  pub settled : IsSettled e.ends (λ v. holds old c v) (λ v. holds now narrowed v)
      (states (meaning_in old e.table.now) first) (states (meaning_in old e.table.now) machine)

pub settling_start : (d : Diagram) (e : Episodes) (machine : Machine) (c : Cond) → IsNode d c
    → (¬ IsNever d c) → IsMachineOf e machine → IsSettling d d e machine c machine c
settling_start d e machine c node possible of =
    record {
      keeps = Keeps-refl d;
      node = node;
      possible = possible;
      machine_of = of;
      settled = settled_start e.ends (λ v. holds d c v) (states (meaning_in d e.table.now) machine);
    }

pub settling_more : (old mid now : Diagram) (e : Episodes) (first machine next : Machine)
    (c narrowed : Cond) (digit : Digit) → IsGood old e
    → IsSettling old mid e first c machine narrowed → Keeps mid now
    → IsDigit mid now e machine narrowed digit
    → ((name : List ℕ) (names : List (List ℕ)) → open_names machine ≡ name ∷ names
    → (macros : List ℕ → Macro) → is_macro (macros name) ≡ digit.is_defined
    → state_of macros next ≡ state_of macros machine)
    → next.run ≡ machine.run → IsSettling old now e first c next digit.cond
settling_more old mid now e first machine next c narrowed digit good s grows d settles run =
    record {
      keeps = Keeps-trans s.keeps grows;
      node = d.node;
      possible = answered_possible now digit.cond d.answered (sym grows.variables);
      machine_of = record {
        ends = ap (λ r. r.ends) run ∙ s.machine_of.ends;
        tokens = ap (λ r. r.tokens.now) run ∙ s.machine_of.tokens;
        fixed = λ differs. absurd (differs line);
      };
      settled = settled_more mid.variables e.ends (λ v. holds old c v) (λ v. holds mid narrowed v)
          (λ v. holds now digit.cond v) (states (meaning_in old e.table.now) first)
          (states (meaning_in old e.table.now) machine) (states (meaning_in old e.table.now) next)
          (meaning_in old e.table.now) d.name d.macro s.settled
          (subst (λ (m : List Bool → List ℕ → Macro). IsAnswered mid.variables
          (λ v. holds mid narrowed v) (λ v. holds now digit.cond v) (λ v. m v d.name) Defined
          d.macro) (all_macros_same s.keeps e.table.now good.table) d.answered)
          line (λ v. d.pends (meaning_in old e.table.now v))
          (λ v w. d.tells (meaning_in old e.table.now v) (meaning_in old e.table.now w))
          (λ v is. settles d.name d.names d.open_digits (meaning_in old e.table.now v)
          (is ∙ d.told));
    }
  where
    line : e.ends ≡ Line
    line = on_line e.ends (λ m. state_of m machine) d.name s.machine_of.fixed d.tells

-- no digit is open any more
pub settling_ends : (old mid now : Diagram) (e : Episodes) (first machine : Machine)
    (c narrowed : Cond) → IsSettling old mid e first c machine narrowed → Keeps mid now
    → open_names machine ≡ []
    → IsPart old now e first c (record { cond = narrowed; machine = machine })
settling_ends old mid now e first machine c narrowed s grows none =
    record {
      node = grows.stays narrowed s.node;
      possible = λ never. s.possible (IsNever-before grows narrowed s.node never);
      machine_of = s.machine_of;
      none_open = none;
      settled = subst (λ (t : Test). IsSettled e.ends (λ v. holds old c v) t
          (states (meaning_in old e.table.now) first)
          (states (meaning_in old e.table.now) machine))
          (λ k v. (sym (grows.meaning narrowed s.node v)) k) s.settled;
    }
