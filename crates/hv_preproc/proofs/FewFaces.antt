-- No place has more faces than there are numbers of faces.
use Rattle.std.proofs.Common.{◌≡◌, ◌≢◌, ◌<◌, ◌≤◌, ◌+◌, ◌||◌, ◌⊎◌, zero, suc, ℕ, Bool, true, false, List, [], ◌∷◌, length, eqb, refl, sym, ◌∙◌, ap, subst, inl, inr, arith}
use Rattle.std.specs.Prelude.{zip, filter}
use Rattle.std.specs.List.{All, AllPairs, Contains, IsDistinct, list_any}
use Rattle.std.proofs.lemmas.Bool.{eqb-true, false≢true, or_cases}
use Rattle.std.proofs.lemmas.Bool.Decides.{Decides-eqb}
use Rattle.std.proofs.lemmas.List.Elements.{All-contains, All-cons, All-filter, All-head, All-nil, All-tail, All-weaker}
use Rattle.std.proofs.lemmas.List.Kept.{AllPairs-cons}
use Rattle.std.proofs.lemmas.Map.Made.{IsDistinct-from_AllPairs}
use Rattle.std.proofs.lemmas.Map.Steps.{length-le_from_distinct_below}
use Rattle.hv_base.specs.declared.config.Config.{Config}
use Rattle.hv_base.specs.declared.limits.TheConstants.{MOST_FACES}
use Rattle.hv_base.specs.declared.place.Place.{Place}
use Rattle.hv_cond.specs.Diagram.{Diagram, IsNode, Keeps, holds}
use Rattle.hv_cond.specs.declared.conditions.Cond.{Cond}
use Rattle.hv_given.specs.Given.{AgreeInFace, AllAgree, AreEpisodes, IsEpisode, given_in}
use Rattle.hv_given.specs.declared.given.Given.{Given}
use Rattle.hv_plainpp.specs.Reading.{Met}
use Rattle.hv_preproc.specs.Plain.{Plain}
use Rattle.hv_preproc.specs.Preprocessed.{AreTooManyAt, HasFewFaces, IsMetIn}
use Rattle.hv_texts.specs.Faces.{HaveOneFaceAt}
use Rattle.hv_texts.specs.Readings.{AreFew}

------ an episode's entry

-- an entry with its episode
pub record HasEntry (gs : List Given) (ms : List Met) (m : Met) : Type 0 where
  pub entry : Given
  pub paired : Contains (zip gs ms) (entry, m)
  pub among : Contains gs entry
  pub is : IsEpisode entry m

later : {X : Type 0} (x : X) (xs : List X) (y : X) → Contains xs y → Contains (x ∷ xs) y
later x xs y c = (suc c.0, omega (arith, c.1), c.2)

entry_later : (g : Given) (gs : List Given) (n : Met) (ms : List Met) (m : Met)
    → HasEntry gs ms m → HasEntry (g ∷ gs) (n ∷ ms) m
entry_later g gs n ms m h = record {
  entry = h.entry;
  paired = later (g, n) (zip gs ms) (h.entry, m) h.paired;
  among = later g gs h.entry h.among;
  is = h.is;
}

entry_at : (gs : List Given) (ms : List Met) → AreEpisodes gs ms → (m : Met) → Contains ms m
    → HasEntry gs ms m
entry_at [] [] p m c = absurd (omega (arith, c.1))
entry_at [] (n ∷ ms) p m c = absurd p
entry_at (g ∷ gs) [] p m c = absurd p
entry_at (g ∷ gs) (n ∷ ms) p m (zero, l, e) =
    subst (λ (x : Met). HasEntry (g ∷ gs) (n ∷ ms) x) e (record {
      entry = g;
      paired = (zero, omega arith, refl);
      among = (zero, omega arith, refl);
      is = p.0;
    })
entry_at (g ∷ gs) (n ∷ ms) p m (suc k, l, e) =
    entry_later g gs n ms m (entry_at gs ms p.1 m (k, omega (arith, l), e))

------ numbers of one place

-- a configuration meets an episode at a place, and this is the episode's entry
record Shows (plain : Plain) (d : Diagram) (valid : Cond) (given : List Given) (place : Place)
    (c : Config) : Type 0 where
  is_valid : holds d valid c.on ≡ true
  met : Met
  entry : Given
  paired : Contains (zip (given_in d given c.on) (plain c.on).met) (entry, met)
  is_met : Contains (plain c.on).met met
  here : met.place ≡ place
  entered : entry.place ≡ place
  below : entry.face < MOST_FACES

below_any : (n : ℕ) (xs : List ℕ) → All (λ x. x < n) xs → (q : ℕ)
    → list_any (eqb q) xs ≡ true → q < n
below_any n [] all q e = absurd (false≢true e)
below_any n (x ∷ xs) all q e =
    cases (or_cases (eqb q x) (list_any (eqb q) xs) e)
    (below_any n xs (All-tail (λ (x : ℕ). x < n) x xs all) q)
  where
    cases : (eqb q x ≡ true) ⊎ (list_any (eqb q) xs ≡ true)
        → (list_any (eqb q) xs ≡ true → q < n) → q < n
    cases (inl h) rest =
        let same : q ≡ x = eqb-true q x h in
        let less : x < n = All-head (λ (x : ℕ). x < n) x xs all in
        omega (arith, same, less)
    cases (inr h) rest = rest h

module _ (plain : Plain) (d : Diagram) (valid : Cond) (given : List Given) (few : AreFew given)
    (there : (values : List Bool) → holds d valid values ≡ true
    → AreEpisodes (given_in d given values) (plain values).met)
    (faces : (values others : List Bool)
    → holds d valid values ≡ true → holds d valid others ≡ true
    → AllAgree (zip (given_in d given values) (plain values).met)
    (zip (given_in d given others) (plain others).met)) where
  shows : (place : Place) (c : Config) → IsMetIn plain d valid place c
      → Shows plain d valid given place c
  shows place c m =
      let h : HasEntry (given_in d given c.on) (plain c.on).met m.meets.1.0 =
      entry_at (given_in d given c.on) (plain c.on).met (there c.on m.is_valid) m.meets.1.0
      m.meets.1.1 in
      record {
        is_valid = m.is_valid;
        met = m.meets.1.0;
        entry = h.entry;
        paired = h.paired;
        is_met = m.meets.1.1;
        here = m.meets.1.2;
        entered = h.is.place ∙ m.meets.1.2;
        below = All-contains (λ (g : Given). g.face < MOST_FACES) (given_in d given c.on) h.entry
            (All-filter (λ (g : Given). holds d g.cond c.on) (λ (g : Given). g.face < MOST_FACES) given
            few) h.among;
      }

  -- two numbers differ where two faces do
  differ : (place : Place) (c o : Config) (s : Shows plain d valid given place c)
      (t : Shows plain d valid given place o) → ¬ HaveOneFaceAt plain place c.on o.on
      → s.entry.face ≢ t.entry.face
  differ place c o s t apart e =
      let agree : AgreeInFace (s.entry, s.met) (t.entry, t.met) =
      All-contains (AgreeInFace (s.entry, s.met)) (zip (given_in d given o.on) (plain o.on).met)
      (t.entry, t.met)
      (All-contains
      (λ (p : Given × Met). All (AgreeInFace p) (zip (given_in d given o.on) (plain o.on).met))
      (zip (given_in d given c.on) (plain c.on).met) (s.entry, s.met)
      (faces c.on o.on s.is_valid t.is_valid) s.paired) t.paired in
      apart (
        s.met.face,
        (s.met, s.is_met, s.here, refl),
        (t.met, t.is_met, t.here, sym ((agree (s.entered ∙ sym t.entered)).0 e)),
      )

  -- each configuration meets an episode there
  abbrev AllShow : (place : Place) → List Config → Type 0
  AllShow place [] = Unit {0}
  AllShow place (c ∷ cs) = Shows plain d valid given place c × AllShow place cs

  all_show : (place : Place) (cs : List Config) → All (IsMetIn plain d valid place) cs
      → AllShow place cs
  all_show place [] all = tt
  all_show place (c ∷ cs) all = (
    shows place c (All-head (IsMetIn plain d valid place) c cs all),
    all_show place cs (All-tail (IsMetIn plain d valid place) c cs all),
  )

  -- their numbers
  abbrev numbers : (place : Place) (cs : List Config) → AllShow place cs → List ℕ
  numbers place [] s = []
  numbers place (c ∷ cs) s = s.0.entry.face ∷ numbers place cs s.1

  numbers_length : (place : Place) (cs : List Config) (s : AllShow place cs)
      → length (numbers place cs s) ≡ length cs
  numbers_length place [] s = refl
  numbers_length place (c ∷ cs) s = ap suc (numbers_length place cs s.1)

  numbers_below : (place : Place) (cs : List Config) (s : AllShow place cs)
      → All (λ x. x < MOST_FACES) (numbers place cs s)
  numbers_below place [] s = All-nil (λ (x : ℕ). x < MOST_FACES)
  numbers_below place (c ∷ cs) s =
      All-cons (λ (x : ℕ). x < MOST_FACES) s.0.entry.face (numbers place cs s.1) s.0.below
      (numbers_below place cs s.1)

  first_differs : (place : Place) (c : Config) (first : Shows plain d valid given place c)
      (cs : List Config) (s : AllShow place cs)
      → All (λ (o : Config). ¬ HaveOneFaceAt plain place c.on o.on) cs
      → All (λ y. first.entry.face ≢ y) (numbers place cs s)
  first_differs place c first [] s apart = All-nil (λ (y : ℕ). first.entry.face ≢ y)
  first_differs place c first (o ∷ cs) s apart =
      All-cons (λ (y : ℕ). first.entry.face ≢ y) s.0.entry.face (numbers place cs s.1)
      (differ place c o first s.0
      (All-head (λ (o : Config). ¬ HaveOneFaceAt plain place c.on o.on) o cs apart))
      (first_differs place c first cs s.1
      (All-tail (λ (o : Config). ¬ HaveOneFaceAt plain place c.on o.on) o cs apart))

  numbers_differ : (place : Place) (cs : List Config) (s : AllShow place cs)
      → AllPairs (λ (c o : Config). ¬ HaveOneFaceAt plain place c.on o.on) cs
      → AllPairs (λ (x y : ℕ). x ≢ y) (numbers place cs s)
  numbers_differ place [] s apart = λ i j e before within. absurd (omega arith)
  numbers_differ place (c ∷ cs) s apart =
      AllPairs-cons (λ (x y : ℕ). x ≢ y) s.0.entry.face (numbers place cs s.1)
      (first_differs place c s.0 cs s.1
      (λ k e l. apart zero (suc k) e (omega arith) (omega (arith, l))))
      (numbers_differ place cs s.1
      (λ i j e before within. apart (suc i) (suc j) e (omega (arith, before))
      (omega (arith, within))))

  pub few_faces : HasFewFaces plain d valid
  few_faces place configs many =
      let s : AllShow place configs = all_show place configs many.1.each in
      let most : length (numbers place configs s) ≤ MOST_FACES =
      length-le_from_distinct_below (numbers place configs s) MOST_FACES
      (IsDistinct-from_AllPairs Decides-eqb (numbers place configs s)
      (numbers_differ place configs s many.1.differ))
      (below_any MOST_FACES (numbers place configs s) (numbers_below place configs s)) in
      let same : length (numbers place configs s) ≡ length configs =
      numbers_length place configs s in
      let count : length configs ≡ MOST_FACES + 1 = many.0 in
      omega (arith, most, same, count)

-- a store that has grown
pub HasFewFaces-kept : {old new : Diagram} → Keeps old new → (plain : Plain) (valid : Cond)
    → IsNode old valid → HasFewFaces plain old valid → HasFewFaces plain new valid
HasFewFaces-kept {old} {new} keeps plain valid node few = λ place configs many.
    few place configs (
      many.0,
      record {
        each = All-weaker (IsMetIn plain new valid place) (IsMetIn plain old valid place)
            (λ c m. record {
              all_options = m.all_options ∙ keeps.variables;
              is_valid = sym (keeps.meaning valid node c.on) ∙ m.is_valid;
              meets = m.meets;
            }) configs many.1.each;
        differ = many.1.differ;
      },
    )
