-- Entries agree in face, with one more.
use Rattle.std.proofs.Common.{◌≡◌, ◌↔◌, ◌⊎◌, inl, inr, ℕ, Bool, true, false, List, [], ◌∷◌, ◌++◌, refl, sym, ◌∙◌, ap, subst, arith}
use Rattle.std.specs.Prelude.{All, slice_index_or, zip}
use Rattle.std.proofs.lemmas.List.Elements.{All-push, All-weaker}
use Rattle.hv_base.specs.declared.place.Place.{Place}
use Rattle.hv_cond.specs.Diagram.{AllNodes, Diagram, Keeps, holds}
use Rattle.hv_cond.specs.declared.conditions.Cond.{Cond}
use Rattle.hv_given.specs.Given.{AgreeInFace, AllAgree, given_in}
use Rattle.hv_given.specs.declared.given.Given.{Given}
use Rattle.hv_plain.specs.episode.Expansion.{Event}
use Rattle.hv_plainpp.specs.Reading.{Met, Reading, continued}
use Rattle.hv_texts.proofs.Beginnings.{begun_pair, given_in_kept, given_in_with, given_in_without}
use Rattle.hv_texts.specs.Readings.{conditions_of}
use Rattle.hv_texts.specs.working.Sorting.{AreFaced, IsBegun, IsFaced, IsSorted, pairs}
use Rattle.hv_toks.specs.declared.parted.Failing.{Failing}

abbrev Pair : Type 0
Pair = Given × Met

-- a store that grows changes no pairs
pub pairs_kept : {A : Type 0} {old new : Diagram} → Keeps old new → (given : List Given)
    → AllNodes old (conditions_of given) → (read : List Bool → Reading A) (values : List Bool)
    → pairs new given read values ≡ pairs old given read values
pairs_kept keeps given nodes read values =
    ap (λ (gs : List Given). zip gs (read values).met) (given_in_kept keeps given nodes values)

module _ {A : Type 0} (given : List Given) (read : List Bool → Reading A) (place : Place)
    (Number : List Bool → ℕ → Type 0) (face : List Bool → List Event) where
  pub faced_kept : {old new : Diagram} → Keeps old new → AllNodes old (conditions_of given)
      → AreFaced old given read place Number face → AreFaced new given read place Number face
  faced_kept {old} {new} keeps nodes f =
      record {
        agree = λ values others.
            subst (λ (ps : List Pair). AllAgree ps (pairs new given read others))
            (sym (pairs_kept keeps given nodes read values))
            (subst (λ (ps : List Pair). AllAgree (pairs old given read values) ps)
            (sym (pairs_kept keeps given nodes read others)) (f.agree values others));
        here = λ values.
            subst (λ (ps : List Pair). All (IsFaced place (Number values) (face values)) ps)
            (sym (pairs_kept keeps given nodes read values)) (f.here values);
      }

-- entries none of which stands at the place
pub faced_first : {A : Type 0} (d : Diagram) (given : List Given) (read : List Bool → Reading A)
    (place : Place) (Number : List Bool → ℕ → Type 0) (face : List Bool → List Event)
    → ((values others : List Bool)
    → AllAgree (pairs d given read values) (pairs d given read others))
    → ((values : List Bool) → All (λ (p : Pair). p.0.place ≡ place → ⊥) (pairs d given read values))
    → AreFaced d given read place Number face
faced_first d given read place Number face agree none =
    record {
      agree = agree;
      here = λ values. All-weaker (λ (p : Pair). p.0.place ≡ place → ⊥)
          (IsFaced place (Number values) (face values)) (λ p away. record {
            number = λ e. absurd (away e);
            same = λ e. absurd (away e);
          }) (pairs d given read values) (none values);
    }

-- one more entry, where it is there, with an episode of this face
pub record IsNext {A : Type 0} (before after : Diagram) (given more : List Given)
    (read : List Bool → Reading A) (Number : List Bool → ℕ → Type 0)
    (face : List Bool → List Event) (g : Given) (values : List Bool) (m : Met) : Type 0 where
  pub next : pairs after more read values ≡ pairs before given read values ++ (g, m) ∷ []
  pub number : Number values g.face
  pub same : m.face ≡ face values

module _ {A : Type 0} (d : Diagram) (given more : List Given) (read : List Bool → Reading A)
    (place : Place) (Number : List Bool → ℕ → Type 0) (face : List Bool → List Event)
    (g : Given) (stands : g.place ≡ place)
    (once : (values others : List Bool) (i j : ℕ) → Number values i → Number others j
    → ((i ≡ j) ↔ (face values ≡ face others)))
    (f : AreFaced d given read place Number face)
    (new : (values : List Bool)
    → (pairs d more read values ≡ pairs d given read values)
    ⊎ ((m : Met) × IsNext d d given more read Number face g values m)) where
  -- the entry with each other one
  left : (values others : List Bool) (m : Met) → Number values g.face → m.face ≡ face values
      → All (AgreeInFace (g, m)) (pairs d given read others)
  left values others m number same =
      All-weaker (IsFaced place (Number others) (face others)) (AgreeInFace (g, m))
      (λ p q e.
      let at : p.0.place ≡ place = sym e ∙ stands in
      let both = once values others g.face p.0.face number (q.number at) in
      (λ h. same ∙ (both.0 h ∙ sym (q.same at)), λ h. both.1 (sym same ∙ (h ∙ q.same at))))
      (pairs d given read others) (f.here others)

  right : (values others : List Bool) (m : Met) → Number others g.face → m.face ≡ face others
      → All (λ (p : Pair). AgreeInFace p (g, m)) (pairs d given read values)
  right values others m number same =
      All-weaker (IsFaced place (Number values) (face values)) (λ (p : Pair). AgreeInFace p (g, m))
      (λ p q e.
      let at : p.0.place ≡ place = e ∙ stands in
      let both = once values others p.0.face g.face (q.number at) number in
      (λ h. q.same at ∙ (both.0 h ∙ sym same), λ h. both.1 (sym (q.same at) ∙ (h ∙ same))))
      (pairs d given read values) (f.here values)

  two : (values others : List Bool) (m n : Met) → Number values g.face → m.face ≡ face values
      → Number others g.face → n.face ≡ face others → AgreeInFace (g, m) (g, n)
  two values others m n number same number' same' e =
      let both = once values others g.face g.face number number' in
      (λ h. same ∙ (both.0 h ∙ sym same'), λ h. both.1 (sym same ∙ (h ∙ same')))

  with_right : (ps qs : List Pair) (q : Pair) → AllAgree ps qs
      → All (λ (p : Pair). AgreeInFace p q) ps → AllAgree ps (qs ++ q ∷ [])
  with_right ps qs q all last =
      λ k x l. All-push (AgreeInFace (slice_index_or ps k x)) qs q (all k x l) (last k x l)

  agree_more : (values others : List Bool)
      → (pairs d more read values ≡ pairs d given read values)
      ⊎ ((m : Met) × IsNext d d given more read Number face g values m)
      → (pairs d more read others ≡ pairs d given read others)
      ⊎ ((m : Met) × IsNext d d given more read Number face g others m)
      → AllAgree (pairs d more read values) (pairs d more read others)
  agree_more values others (inl a) (inl b) =
      subst (λ (ps : List Pair). AllAgree ps (pairs d more read others)) (sym a)
      (subst (λ (qs : List Pair). AllAgree (pairs d given read values) qs) (sym b)
      (f.agree values others))
  agree_more values others (inr a) (inl b) =
      subst (λ (ps : List Pair). AllAgree ps (pairs d more read others)) (sym a.1.next)
      (subst (λ (qs : List Pair). AllAgree (pairs d given read values ++ (g, a.0) ∷ []) qs) (sym b)
      (All-push (λ (p : Pair). All (AgreeInFace p) (pairs d given read others))
      (pairs d given read values) (g, a.0) (f.agree values others)
      (left values others a.0 a.1.number a.1.same)))
  agree_more values others (inl a) (inr b) =
      subst (λ (ps : List Pair). AllAgree ps (pairs d more read others)) (sym a)
      (subst (λ (qs : List Pair). AllAgree (pairs d given read values) qs) (sym b.1.next)
      (with_right (pairs d given read values) (pairs d given read others) (g, b.0)
      (f.agree values others) (right values others b.0 b.1.number b.1.same)))
  agree_more values others (inr a) (inr b) =
      subst (λ (ps : List Pair). AllAgree ps (pairs d more read others)) (sym a.1.next)
      (subst (λ (qs : List Pair). AllAgree (pairs d given read values ++ (g, a.0) ∷ []) qs)
      (sym b.1.next)
      (All-push (λ (p : Pair). All (AgreeInFace p) (pairs d given read others ++ (g, b.0) ∷ []))
      (pairs d given read values) (g, a.0)
      (with_right (pairs d given read values) (pairs d given read others) (g, b.0)
      (f.agree values others) (right values others b.0 b.1.number b.1.same))
      (All-push (AgreeInFace (g, a.0)) (pairs d given read others) (g, b.0)
      (left values others a.0 a.1.number a.1.same)
      (two values others a.0 b.0 a.1.number a.1.same b.1.number b.1.same))))

  here_more : (values : List Bool)
      → (pairs d more read values ≡ pairs d given read values)
      ⊎ ((m : Met) × IsNext d d given more read Number face g values m)
      → All (IsFaced place (Number values) (face values)) (pairs d more read values)
  here_more values (inl a) =
      subst (λ (ps : List Pair). All (IsFaced place (Number values) (face values)) ps) (sym a)
      (f.here values)
  here_more values (inr a) =
      subst (λ (ps : List Pair). All (IsFaced place (Number values) (face values)) ps)
      (sym a.1.next)
      (All-push (IsFaced place (Number values) (face values)) (pairs d given read values) (g, a.0)
      (f.here values) (record { number = λ e. a.1.number; same = λ e. a.1.same }))

  pub faced_more : AreFaced d more read place Number face
  faced_more = record {
    agree = λ values others. agree_more values others (new values) (new others);
    here = λ values. here_more values (new values);
  }

-- the pairs of a configuration once the first pending condition has its entry
pub next_pairs : {A : Type 0} (d : Diagram) (whole : Cond) (read : List Bool → Reading A)
    (given : List Given) (c : Cond) (pending : List Cond) (next : List Bool → Reading A)
    (slots : List Cond) (rests : ℕ → List Bool → Reading A) (refused : List Failing)
    (rest : List Bool → Reading A)
    (Number : List Bool → ℕ → Type 0) (face : List Bool → List Event) (g : Given)
    → IsSorted d whole read given (c ∷ pending) next slots rests refused → g.cond ≡ c
    → (values : List Bool)
    → (holds d c values ≡ true → (m : Met) × (next values ≡ continued (m ∷ []) (rest values))
    × (m.face ≡ face values) × Number values g.face)
    → (pairs d (given ++ g ∷ []) read values ≡ pairs d given read values)
    ⊎ ((m : Met) × IsNext d d given (given ++ g ∷ []) read Number face g values m)
next_pairs {A} d whole read given c pending next slots rests refused rest Number face g s own values
    comes = step (holds d c values) refl
  where
    owned : holds d g.cond values ≡ holds d c values
    owned = ap (λ (x : Cond). holds d x values) own

    step : (b : Bool) → holds d c values ≡ b
        → (pairs d (given ++ g ∷ []) read values ≡ pairs d given read values)
        ⊎ ((m : Met) × IsNext d d given (given ++ g ∷ []) read Number face g values m)
    step false e = inl (ap (λ (gs : List Given). zip gs (read values).met)
        (given_in_without d values given g (owned ∙ e)))
    step true e =
        let m = comes e in
        let begun : IsBegun (given_in d given values) (read values).met
        (m.0 ∷ (rest values).met) =
        subst (λ (r : Reading A). IsBegun (given_in d given values) (read values).met r.met) m.1
        (s.waiting 0 c (omega arith) values e).begun in
        inr (
          m.0,
          record {
            next = ap (λ (gs : List Given). zip gs (read values).met)
                (given_in_with d values given g (owned ∙ e))
                ∙ begun_pair (given_in d given values) g m.0 (read values).met (rest values).met begun;
            number = m.3;
            same = m.2;
          },
        )
