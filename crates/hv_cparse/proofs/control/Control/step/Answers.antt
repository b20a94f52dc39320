-- Where the control is nowhere else, it is among initialisers or in an element's own production.
use Rattle.std.proofs.Common.{◌≡◌, ℕ, Bool, List, Option, Result, IfOk, refl, sym, subst}
use Rattle.hv_base.specs.declared.memory.Memory.{Memory}
use Rattle.hv_cparse.specs.declared.class.Class.{Class}
use Rattle.hv_cparse.specs.declared.frame.At.{At}
use Rattle.hv_cparse.specs.declared.frame.At.TheVariants.{Want, Have, Selecting, Words, AfterCompound, AfterTag, AfterEnum, AfterEnumTag, MemberStart, EnumeratorStart, AfterEnumerator, Pointing, Opened, Direct, Bracket, ParametersStart, ParameterNext, AfterEllipsis}
use Rattle.hv_cparse.specs.declared.frame.Frame.{Frame}
use Rattle.hv_cparse.specs.declared.frame.Mark.{Mark}
use Rattle.hv_cparse.specs.declared.frame.Mode.{Mode}
use Rattle.hv_cparse.specs.declared.frame.Owner.{Owner}
use Rattle.hv_cparse.specs.working.Steps.{IsMoved, Moved, step, step_element}
use Rattle.hv_cparse.proofs.control.Control.step.Goals as goal

-- the control is at no place that `step` has a row for
record IsElsewhere (a : At) : Type 0 where
  not-Want : a ≡ Want → ⊥
  not-Have : (x : ℕ) → a ≡ Have x → ⊥
  not-Selecting : a ≡ Selecting → ⊥
  not-Words : (x : Owner) (y : Bool) → a ≡ Words x y → ⊥
  not-AfterCompound : a ≡ AfterCompound → ⊥
  not-AfterTag : a ≡ AfterTag → ⊥
  not-AfterEnum : a ≡ AfterEnum → ⊥
  not-AfterEnumTag : a ≡ AfterEnumTag → ⊥
  not-MemberStart : a ≡ MemberStart → ⊥
  not-EnumeratorStart : a ≡ EnumeratorStart → ⊥
  not-AfterEnumerator : a ≡ AfterEnumerator → ⊥
  not-Pointing : (x : Mode) (y : ℕ) → a ≡ Pointing x y → ⊥
  not-Opened : (x : Mode) (y : ℕ) → a ≡ Opened x y → ⊥
  not-Direct : (x : Mode) (y : ℕ) → a ≡ Direct x y → ⊥
  not-Bracket : (x : Mode) (y : ℕ) → a ≡ Bracket x y → ⊥
  not-ParametersStart : (x : Mode) (y : ℕ) → a ≡ ParametersStart x y → ⊥
  not-ParameterNext : a ≡ ParameterNext → ⊥
  not-AfterEllipsis : a ≡ AfterEllipsis → ⊥

elsewhere : (stack : List Frame) (a : At) (c : Class) → IsElsewhere a
    → step stack a c ≡ step_element stack a c
elsewhere stack Want c n = absurd (n.not-Want refl)
elsewhere stack (Have x) c n = absurd (n.not-Have x refl)
elsewhere stack Selecting c n = absurd (n.not-Selecting refl)
elsewhere stack (Words x y) c n = absurd (n.not-Words x y refl)
elsewhere stack AfterCompound c n = absurd (n.not-AfterCompound refl)
elsewhere stack AfterTag c n = absurd (n.not-AfterTag refl)
elsewhere stack AfterEnum c n = absurd (n.not-AfterEnum refl)
elsewhere stack AfterEnumTag c n = absurd (n.not-AfterEnumTag refl)
elsewhere stack MemberStart c n = absurd (n.not-MemberStart refl)
elsewhere stack EnumeratorStart c n = absurd (n.not-EnumeratorStart refl)
elsewhere stack AfterEnumerator c n = absurd (n.not-AfterEnumerator refl)
elsewhere stack (Pointing x y) c n = absurd (n.not-Pointing x y refl)
elsewhere stack (Opened x y) c n = absurd (n.not-Opened x y refl)
elsewhere stack (Direct x y) c n = absurd (n.not-Direct x y refl)
elsewhere stack (Bracket x y) c n = absurd (n.not-Bracket x y refl)
elsewhere stack (ParametersStart x y) c n = absurd (n.not-ParametersStart x y refl)
elsewhere stack ParameterNext c n = absurd (n.not-ParameterNext refl)
elsewhere stack AfterEllipsis c n = absurd (n.not-AfterEllipsis refl)
elsewhere stack _ c n = refl

moved : (r : Result (Option Mark) Memory) (o p : Option Moved) (stack : List Frame) (a : At)
    → o ≡ p → IfOk r (λ mark. IsMoved p mark stack a) → IfOk r (λ mark. IsMoved o mark stack a)
moved r o p stack a e h =
    subst (λ (x : Option Moved). IfOk r (λ mark. IsMoved x mark stack a)) (sym e) h

pub returns-in_default : goal.returns-in_default
returns-in_default c =
    let d = c.in_default in
    let s = c.args.self.now in
    moved c.step_element.result (step s.frames s.at c.args.class)
    (step_element s.frames s.at c.args.class) c.step_element.new.self.frames
    c.step_element.new.self.at
    (elsewhere s.frames s.at c.args.class (record {
      not-Want = d.not-Want;
      not-Have = d.not-Have;
      not-Selecting = d.not-Selecting;
      not-Words = d.not-Words;
      not-AfterCompound = d.not-AfterCompound;
      not-AfterTag = d.not-AfterTag;
      not-AfterEnum = d.not-AfterEnum;
      not-AfterEnumTag = d.not-AfterEnumTag;
      not-MemberStart = d.not-MemberStart;
      not-EnumeratorStart = d.not-EnumeratorStart;
      not-AfterEnumerator = d.not-AfterEnumerator;
      not-Pointing = d.not-Pointing;
      not-Opened = d.not-Opened;
      not-Direct = d.not-Direct;
      not-Bracket = d.not-Bracket;
      not-ParametersStart = d.not-ParametersStart;
      not-ParameterNext = d.not-ParameterNext;
      not-AfterEllipsis = d.not-AfterEllipsis;
    })) c.step_element.ensures
