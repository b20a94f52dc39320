-- What is so of each outcome of an episode, and by which numbers they are told apart.
use Rattle.std.proofs.Common.{◌≡◌, ◌+◌, ◌<◌, ◌≤◌, ◌↔◌, ◌⊎◌, inl, inr, ℕ, suc, Bool, true, List, [], ◌∷◌, ◌++◌, drop, length, refl, sym, ◌∙◌, ap, subst, arith}
use Rattle.std.specs.Prelude.{All, slice_index_or}
use Rattle.std.proofs.lemmas.Bool.{cases_lt, false_from_ne_true}
use Rattle.std.proofs.lemmas.List.{get_or-map, get_or_at, length-append, length-map}
use Rattle.hv_base.specs.declared.limits.TheConstants.{MOST_FACES}
use Rattle.hv_cond.specs.Diagram.{AllNodes, Diagram, IsNode, IsNever, holds}
use Rattle.hv_cond.specs.Parts.{NoneFalse}
use Rattle.hv_cond.specs.declared.conditions.Cond.{Cond}
use Rattle.hv_expand.specs.Outcomes.{AreNumbered, IsRight, conditions}
use Rattle.hv_expand.specs.declared.outcome.Outcome.{Outcome}
use Rattle.hv_macros.specs.Table.{meaning_in}
use Rattle.hv_macros.specs.declared.tables.MacroTable.{MacroTable}
use Rattle.hv_plain.specs.declared.episode.RunEnd.{RunEnd}
use Rattle.hv_plain.specs.episode.Episode.{episode, goes_on}
use Rattle.hv_plain.specs.episode.Expansion.{Result, expands, fails}
use Rattle.hv_texts.proofs.Counting.{count_at, count_once, if_at_most, if_one}
use Rattle.hv_texts.specs.working.Steps.{AreOutcomes, HasNumber}
use Rattle.hv_toks.specs.declared.token.PpTok.{PpTok}

-- what is so of each item is so of one in the middle
pub middle : {X : Type 0} (P : X → Type 0) (xs : List X) (y : X) (ys : List X)
    → All P (xs ++ y ∷ ys) → P y
middle P xs y ys all =
    subst P (get_or_at xs y ys y (length xs) refl)
    (all (length xs) y (omega (arith, length-append xs (y ∷ ys))))

number_of : (n : ℕ) (xs : List Outcome) (o : Outcome) (ys : List Outcome)
    → AreNumbered n (xs ++ o ∷ ys) → o.face ≡ n + length xs
number_of n [] o ys numbers = numbers.0 ∙ omega arith
number_of n (x ∷ xs) o ys numbers = number_of (n + 1) xs o ys numbers.1 ∙ omega arith

module _ (d : Diagram) (table : MacroTable) (ends : RunEnd) (run : List PpTok) (at : ℕ) (c : Cond)
    (outcomes : List Outcome) (a : AreOutcomes d table ends run at c outcomes) where
  cond_at : (values : List Bool) (i : ℕ) → HasNumber d outcomes values i → (x : Outcome)
      → holds d (slice_index_or (conditions outcomes) i x.cond) values ≡ true
  cond_at values i h x =
      ap (λ (y : Cond). holds d y values)
      (get_or-map (λ (o : Outcome). o.cond) outcomes i x x.cond h.within) ∙ h.here x

  within_at : (values : List Bool) (i : ℕ) → HasNumber d outcomes values i
      → i < length (conditions outcomes)
  within_at values i h =
      subst (λ (n : ℕ). i < n) (sym (length-map outcomes (λ (o : Outcome). o.cond))) h.within

  holds_there : (values : List Bool) (i : ℕ) → HasNumber d outcomes values i → (x : Outcome)
      → holds d c values ≡ true
  holds_there values i h x =
      let some = count_at d values (conditions outcomes) i x.cond (within_at values i h)
      (cond_at values i h x) in
      let one = a.parts.one values in
      if_one (holds d c values) (omega arith)

  -- two configurations have one number exactly where they have one face
  pub once : Outcome → (values others : List Bool) (i j : ℕ)
      → HasNumber d outcomes values i → HasNumber d outcomes others j
      → ((i ≡ j) ↔ ((episode ends run at (meaning_in d table values)).face
      ≡ (episode ends run at (meaning_in d table others)).face))
  once x values others i j hi hj =
      let face = a.by_face i x hi.within values others (hi.here x) (holds_there others j hj x) in (
        λ e. face.0 (ap (λ (k : ℕ). holds d (slice_index_or outcomes k x).cond others) e
            ∙ hj.here x),
        λ same.
            let most = if_at_most (holds d c others) _ (a.parts.one others) in
            count_once d others (conditions outcomes) i j x.cond most
            (within_at values i hi) (within_at others j hj)
            (ap (λ (y : Cond). holds d y others)
            (get_or-map (λ (o : Outcome). o.cond) outcomes i x x.cond hi.within)
            ∙ face.1 same) (cond_at others j hj x),
      )

  module _ (done : List Outcome) (o : Outcome) (pending : List Outcome)
      (is : outcomes ≡ done ++ o ∷ pending) where
    its_index : o.face ≡ length done
    its_index = number_of 0 done o pending (subst (λ (os : List Outcome). AreNumbered 0 os) is
        a.numbers) ∙ omega arith

    its_within : o.face < length outcomes
    its_within =
        let all = length-append done (o ∷ pending) in
        let long : length outcomes ≡ length (done ++ o ∷ pending) = ap length is in
        let e = its_index in
        omega arith

    -- an outcome's number is that of its configurations
    pub own_number : (values : List Bool) → holds d o.cond values ≡ true
        → HasNumber d outcomes values o.face
    own_number values h = record {
      within = its_within;
      here = λ x. ap (λ (y : Outcome). holds d y.cond values)
          (ap (λ (os : List Outcome). slice_index_or os o.face x) is
          ∙ get_or_at done o pending x o.face (sym its_index)) ∙ h;
    }

    pub its_few : o.face < MOST_FACES
    its_few = let w = its_within in let f = a.few in omega arith

    pub its_right : IsRight ends run at d table d o
    its_right = middle (IsRight ends run at d table d) done o pending
        (subst (λ (os : List Outcome). All (IsRight ends run at d table d) os) is a.right)

nodes_middle : (d : Diagram) (xs : List Outcome) (o : Outcome) (ys : List Outcome)
    → AllNodes d (conditions (xs ++ o ∷ ys)) → IsNode d o.cond
nodes_middle d [] o ys nodes = nodes.0
nodes_middle d (x ∷ xs) o ys nodes = nodes_middle d xs o ys nodes.1

pub its_node : (d : Diagram) (table : MacroTable) (ends : RunEnd) (run : List PpTok) (at : ℕ)
    (c : Cond) (outcomes : List Outcome) → AreOutcomes d table ends run at c outcomes
    → (done : List Outcome) (o : Outcome) (pending : List Outcome)
    → outcomes ≡ done ++ o ∷ pending → IsNode d o.cond
its_node d table ends run at c outcomes a done o pending is =
    nodes_middle d done o pending
    (subst (λ (os : List Outcome). AllNodes d (conditions os)) is a.parts.nodes)

------ a queue of outcomes

-- the condition of the first one is a node
pub head_node : (d : Diagram) (o : Outcome) (pending queue : List Outcome) → queue ≡ o ∷ pending
    → AllNodes d (conditions queue) → IsNode d o.cond
head_node d o pending queue e nodes =
    (subst (λ (os : List Outcome). AllNodes d (conditions os)) e nodes).0

-- a queue of which nothing can be taken is empty
pub all_popped : {X : Type 0} (xs ys : List X) → xs ≡ ys → ys ≡ drop 1 xs → xs ≡ []
all_popped [] ys a b = refl
all_popped (x ∷ xs) ys a b =
    let e : suc (length xs) ≡ length xs = ap length (a ∙ b) in absurd (omega arith)

none_middle : (d : Diagram) (xs : List Outcome) (o : Outcome) (ys : List Outcome)
    → NoneFalse d (conditions (xs ++ o ∷ ys)) → IsNever d o.cond → ⊥
none_middle d [] o ys none = none.0
none_middle d (x ∷ xs) o ys none = none_middle d xs o ys none.1

goes_within : (run : List PpTok) (at : ℕ) (r : Result) → at < length run
    → goes_on run at r < length run + 1
goes_within run at (expands given unread) within = omega arith
goes_within run at (fails why) within = omega arith

-- an outcome goes on within the run, or at its end
pub its_end : (d : Diagram) (table : MacroTable) (ends : RunEnd) (run : List PpTok) (at : ℕ)
    (c : Cond) (outcomes : List Outcome) → AreOutcomes d table ends run at c outcomes
    → (done : List Outcome) (o : Outcome) (pending : List Outcome)
    → outcomes ≡ done ++ o ∷ pending → at < length run → o.end < length run + 1
its_end d table ends run at c outcomes a done o pending is within =
    step (cases_lt o.end (length run + 1))
  where
    ends_so : (values : List Bool) → holds d o.cond values ≡ true → o.end < length run + 1
    ends_so values h =
        let right = its_right d table ends run at c outcomes a done o pending is values h in
        let e : goes_on run at (episode ends run at (meaning_in d table values)).result ≡ o.end =
        right.goes in
        let l = goes_within run at (episode ends run at (meaning_in d table values)).result within in
        subst (λ (n : ℕ). n < length run + 1) e l

    step : (o.end < length run + 1) ⊎ (length run + 1 ≤ o.end) → o.end < length run + 1
    step (inl l) = l
    step (inr l) = absurd (none_middle d done o pending
        (subst (λ (os : List Outcome). NoneFalse d (conditions os)) is a.parts.none_false)
        (λ values long. false_from_ne_true (holds d o.cond values) (λ h.
        let m = ends_so values h in omega arith)))
