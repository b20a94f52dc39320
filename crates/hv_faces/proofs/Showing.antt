-- Classes of what runs show, for the tests.
use Rattle.std.proofs.Common.{ℕ, zero, suc, ◌≡◌, ◌+◌, ◌<◌, ◌⊎◌, inl, inr, ⊎_elim, refl, sym, ap, subst, ◌∙◌, Bool, true, false, ◌&&◌, List, arith}
use Rattle.std.proofs.lemmas.Bool.{false≢true}
use Rattle.hv_cond.specs.Diagram.{Diagram, IsNode, IsNever, Keeps, holds, value_of}
use Rattle.hv_cond.specs.Laws.{IsNever-before}
use Rattle.hv_cond.specs.declared.conditions.Cond.{Cond}
use Rattle.hv_faces.specs.Faces.{IsClass}

first_true : (a b : Bool) → (a && b) ≡ true → a ≡ true
first_true true b e = refl
first_true false b e = e

second_true : (a b : Bool) → (a && b) ≡ true → b ≡ true
second_true true b e = e
second_true false b e = absurd (false≢true e)

second_false : (a b : Bool) → (a && b) ≡ false → a ≡ true → b ≡ false
second_false true b e h = e
second_false false b e h = absurd (false≢true h)

both_true : (a b : Bool) → a ≡ true → b ≡ true → (a && b) ≡ true
both_true true b h k = k
both_true false b h k = h

------ one test

module _ {old now : Diagram} (c both : Cond) (shown : List Bool → Bool) (keeps : Keeps old now)
    (node : IsNode old c)
    (means : (values : List Bool) → holds now both values ≡ (holds old c values && shown values)) where
  -- where some configuration meets the test, those that do
  pub shown_class : IsNode now both → ¬ IsNever now both
      → IsClass now (λ values. holds old c values) (λ values others. shown values ≡ shown others) both
  shown_class there possible =
      record {
        lies = record {
          node = there;
          possible = possible;
          within = λ v h. first_true _ _ (sym (means v) ∙ h);
        };
        exact = λ v w h o. (
          λ k. second_true _ _ (sym (means v) ∙ h) ∙ sym (second_true _ _ (sym (means w) ∙ k)),
          λ e. means w ∙ both_true _ _ o (sym e ∙ second_true _ _ (sym (means v) ∙ h)),
        );
      }

  -- where none does, all
  pub hidden_class : ¬ IsNever old c → ((values : List Bool) → holds now both values ≡ false)
      → IsClass now (λ values. holds old c values) (λ values others. shown values ≡ shown others) c
  hidden_class possible never =
      let nowhere : (v : List Bool) → holds old c v ≡ true → shown v ≡ false =
      λ v h. second_false _ _ (sym (means v) ∙ never v) h in
      record {
        lies = record {
          node = keeps.stays c node;
          possible = λ n. possible (IsNever-before keeps c node n);
          within = λ v h. sym (keeps.meaning c node v) ∙ h;
        };
        exact = λ v w h o. (
          λ k. nowhere v (sym (keeps.meaning c node v) ∙ h) ∙ sym (nowhere w o),
          λ e. keeps.meaning c node w ∙ o,
        );
      }

------ the first options

before_or_last : (i n : ℕ) → i < n + 1 → (i < n) ⊎ (i ≡ n)
before_or_last zero zero l = inr refl
before_or_last zero (suc n) l = inl (omega arith)
before_or_last (suc i) zero l = absurd (omega arith)
before_or_last (suc i) (suc n) l =
    ⊎_elim (λ (h : i < n). inl (omega arith)) (λ (e : i ≡ n). inr (ap suc e))
    (before_or_last i n (omega arith))

-- two assignments agree on so many of the first options
abbrev pub Agree : ℕ → List Bool → List Bool → Type 0
Agree count values others = (i : ℕ) → i < count → value_of values i ≡ value_of others i

pub options_start : (d : Diagram) (c : Cond) → IsNode d c → ¬ IsNever d c
    → IsClass d (λ values. holds d c values) (Agree 0) c
options_start d c node possible =
    record {
      lies = record { node = node; possible = possible; within = λ v h. h };
      exact = λ v w h o. (λ k i l. absurd (omega (arith, l)), λ e. o);
    }

pub options_more : {mid now : Diagram} (of : List Bool → Bool) (count : ℕ) (found more : Cond)
    → IsClass mid of (Agree count) found
    → IsClass now (λ values. holds mid found values)
    (λ values others. value_of values count ≡ value_of others count) more
    → IsClass now of (Agree (count + 1)) more
options_more {mid} of count found more first second =
    record {
      lies = record {
        node = second.lies.node;
        possible = second.lies.possible;
        within = λ v h. first.lies.within v (second.lies.within v h);
      };
      exact = λ v w h o.
          let here : holds mid found v ≡ true = second.lies.within v h in (
            λ k i l. ⊎_elim
                (λ (before : i < count). (first.exact v w here o).0 (second.lies.within w k) i before)
                (λ (last : i ≡ count). subst (λ (j : ℕ). value_of v j ≡ value_of w j) (sym last)
                ((second.exact v w h (second.lies.within w k)).0 k))
                (before_or_last i count l),
            λ e.
                let there : holds mid found w ≡ true =
                (first.exact v w here o).1 (λ i l. e i (omega (arith, l))) in
                (second.exact v w h there).1 (e count (omega arith)),
          );
    }
