-- Readings that meet their episodes at different places, of one file and those that it includes.
use Rattle.std.proofs.Common.{◌≡◌, ℕ, zero, suc, ◌-◌, ◌<◌, ◌≤◌, Bool, true, false, List, [], ◌∷◌, ◌++◌, length, refl, sym, ap, ◌∙◌, subst, arith}
use Rattle.hv_base.specs.declared.place.Place.{Place}
use Rattle.hv_toks.specs.Spelled.{Spelled}
use Rattle.hv_toks.specs.Macro.{Macro}
use Rattle.hv_toks.specs.declared.token.PpTok.{PpTok}
use Rattle.hv_plain.specs.declared.episode.RunEnd.{RunEnd}
use Rattle.hv_plain.specs.episode.Episode.{episode}
use Rattle.hv_plain.specs.episode.Expansion.{Result, expands, fails, Episode, Event}
use Rattle.hv_plainpp.proofs.CutPlaces.{Increasing}
use Rattle.hv_plainpp.specs.Files.{Entered, place_of}
use Rattle.hv_plainpp.specs.Laws.{IsFree, DifferInPlace}
use Rattle.hv_plainpp.specs.Reading.{Met, Ending, reaches, refused, Reading, continued, and_then}
use Rattle.hv_plainpp.specs.Text.{met, with_episode, episodes}
use Rattle.hv_plainpp.proofs.Items.{Each, each_weaken}
use Rattle.std.proofs.lemmas.List.{append-nil}

------ ways to places

-- the offsets of the `#` that led to a place, and its own
abbrev pub way : Met → List ℕ
way m = m.place.stack ++ m.place.offset ∷ []

-- an episode is met at this offset of the file that the stack leads to, or in files that its
-- `#include` there leads to
abbrev pub At : List ℕ → ℕ → Met → Type 0
At stack offset m = (more : List ℕ) × (way m ≡ stack ++ offset ∷ more)

-- it is met between two offsets
abbrev pub Between : List ℕ → ℕ → ℕ → Met → Type 0
Between stack lo hi m = (offset : ℕ) × (lo ≤ offset) × (offset < hi) × At stack offset m

-- it is met from an offset on
abbrev pub From : List ℕ → ℕ → Met → Type 0
From stack lo m = (offset : ℕ) × (lo ≤ offset) × At stack offset m

-- episodes at different places between two offsets
abbrev pub Block : List ℕ → ℕ → ℕ → List Met → Type 0
Block stack lo hi ms = DifferInPlace ms × Each (Between stack lo hi) ms

-- episodes at different places from an offset on
abbrev pub Rest : List ℕ → ℕ → List Met → Type 0
Rest stack lo ms = DifferInPlace ms × Each (From stack lo) ms

pub head_or : ℕ → List ℕ → ℕ
head_or d [] = d
head_or d (n ∷ ns) = n

pub tail_of : List ℕ → List ℕ
tail_of [] = []
tail_of (n ∷ ns) = ns

pub same_offset : (stack : List ℕ) (a b : ℕ) (x y : List ℕ) → stack ++ a ∷ x ≡ stack ++ b ∷ y → a ≡ b
unfolding head_or tail_of
same_offset [] a b x y e = ap (head_or 0) e
same_offset (n ∷ stack) a b x y e = same_offset stack a b x y (ap tail_of e)

pub apart : (stack : List ℕ) (lo mid hi : ℕ) (m n : Met) → Between stack lo mid m → From stack mid n
    → ¬ (m.place ≡ n.place)
apart stack lo mid hi m n p q e =
    let same : p.0 ≡ q.0 = same_offset stack p.0 q.0 p.3.0 q.2.0
    (sym p.3.1 ∙ (ap (λ (w : Place). w.stack ++ w.offset ∷ []) e ∙ q.2.1)) in
    omega (arith, same, p.2, q.1)

pub free_behind : (stack : List ℕ) (lo mid : ℕ) (m : Met) → Between stack lo mid m → (ns : List Met)
    → Each (From stack mid) ns → IsFree m.place ns
free_behind stack lo mid m p [] q = tt
free_behind stack lo mid m p (n ∷ ns) q =
    (apart stack lo mid mid m n p q.0, free_behind stack lo mid m p ns q.1)

pub free_append : (place : Place) (ms ns : List Met) → IsFree place ms → IsFree place ns
    → IsFree place (ms ++ ns)
free_append place [] ns p q = q
free_append place (m ∷ ms) ns p q = (p.0, free_append place ms ns p.1 q)

pub from_between : (stack : List ℕ) (lo hi : ℕ) (m : Met) → Between stack lo hi m → From stack lo m
from_between stack lo hi m p = (p.0, p.1, p.3)

pub from_later : (stack : List ℕ) (lo hi : ℕ) → lo ≤ hi → (m : Met) → From stack hi m
    → From stack lo m
from_later stack lo hi h m p = (p.0, omega (arith, h, p.1), p.2)

pub rest_later : (stack : List ℕ) (lo hi : ℕ) → lo ≤ hi → (ms : List Met) → Rest stack hi ms
    → Rest stack lo ms
rest_later stack lo hi h ms p =
    (p.0, each_weaken (From stack hi) (From stack lo) (from_later stack lo hi h) ms p.1)

-- a block, and what is met from its end on
pub joined : (stack : List ℕ) (lo hi : ℕ) → lo ≤ hi → (ms ns : List Met) → Block stack lo hi ms
    → Rest stack hi ns → Rest stack lo (ms ++ ns)
joined stack lo hi h [] ns p q = rest_later stack lo hi h ns q
joined stack lo hi h (m ∷ ms) ns p q =
    let rest : Rest stack lo (ms ++ ns) = joined stack lo hi h ms ns (p.0.1, p.1.1) q in (
      (free_append m.place ms ns p.0.0 (free_behind stack lo hi m p.1.0 ns q.1), rest.0),
      (from_between stack lo hi m p.1.0, rest.1),
    )

pub block_wider : (stack : List ℕ) (lo hi low high : ℕ) → low ≤ lo → hi ≤ high → (ms : List Met)
    → Block stack lo hi ms → Block stack low high ms
block_wider stack lo hi low high h k ms p = (
  p.0,
  each_weaken (Between stack lo hi) (Between stack low high)
      (λ m q. (q.0, omega (arith, h, q.1), omega (arith, k, q.2), q.3)) ms p.1,
)

-- an episode of this file itself
pub own_block : (at : Entered) (t : PpTok) (face : List Event) (given : List Spelled)
    → Block at.stack t.span.start (suc t.span.start) (met (place_of at t) face given)
own_block at t face given =
    ((tt, tt), ((t.span.start, omega arith, omega arith, ([], refl)), tt))

------ readings

pub block_rest : (stack : List ℕ) (lo hi : ℕ) (ms : List Met) → Block stack lo hi ms
    → Rest stack lo ms
block_rest stack lo hi ms p =
    (p.0, each_weaken (Between stack lo hi) (From stack lo) (from_between stack lo hi) ms p.1)

pub no_block : (stack : List ℕ) (lo hi : ℕ) (ms : List Met) → ms ≡ [] → Block stack lo hi ms
no_block stack lo hi ms e = subst (Block stack lo hi) (sym e) (tt, tt)

-- what is read behind these episodes, by how they end
abbrev pub behind : {A B : Type 0} → List Met → (A → Reading B) → Ending A → Reading B
behind before next (reaches value) = continued before (next value)
behind before next (refused why place) = record { met = before; ending = refused why place }

pub behind_same : {A B : Type 0} (before : List Met) (next : A → Reading B) (o : Ending A)
    → elim o [
      | reaches value ↦ continued before (next value)
      | refused why place ↦ record { met = before; ending = refused why place }
    ] ≡ behind before next o
behind_same before next (reaches value) = refl
behind_same before next (refused why place) = refl

pub and_then_same : {A B : Type 0} (r : Reading A) (next : A → Reading B)
    → and_then r next ≡ behind r.met next r.ending
and_then_same r next = behind_same r.met next r.ending

pub behind_rest : {A B : Type 0} (stack : List ℕ) (lo hi : ℕ) → lo ≤ hi → (before : List Met)
    (next : A → Reading B) (o : Ending A) → Block stack lo hi before
    → ((a : A) → Rest stack hi (next a).met) → Rest stack lo (behind before next o).met
behind_rest stack lo hi h before next (reaches value) p q =
    joined stack lo hi h before (next value).met p (q value)
behind_rest stack lo hi h before next (refused why place) p q = block_rest stack lo hi before p

pub and_then_rest : {A B : Type 0} (stack : List ℕ) (lo hi : ℕ) → lo ≤ hi → (r : Reading A)
    (next : A → Reading B) → Block stack lo hi r.met
    → ((a : A) → Rest stack hi (next a).met) → Rest stack lo (and_then r next).met
and_then_rest {A} {B} stack lo hi h r next p q =
    subst (λ (w : Reading B). Rest stack lo w.met) (sym (and_then_same r next))
    (behind_rest stack lo hi h r.met next r.ending p q)

pub behind_block : {A B : Type 0} (stack : List ℕ) (lo hi : ℕ) (before : List Met)
    (next : A → Reading B) (o : Ending A) → Block stack lo hi before
    → ((a : A) → (next a).met ≡ []) → Block stack lo hi (behind before next o).met
behind_block stack lo hi before next (reaches value) p q =
    subst (Block stack lo hi)
    (sym (ap (λ (ms : List Met). before ++ ms) (q value) ∙ append-nil before)) p
behind_block stack lo hi before next (refused why place) p q = p

pub and_then_block : {A B : Type 0} (stack : List ℕ) (lo hi : ℕ) (r : Reading A)
    (next : A → Reading B) → Block stack lo hi r.met → ((a : A) → (next a).met ≡ [])
    → Block stack lo hi (and_then r next).met
and_then_block {A} {B} stack lo hi r next p q =
    subst (λ (w : Reading B). Block stack lo hi w.met) (sym (and_then_same r next))
    (behind_block stack lo hi r.met next r.ending p q)

pub if_block : {A : Type 0} (stack : List ℕ) (lo hi : ℕ) (b : Bool) (x y : Reading A)
    → Block stack lo hi x.met → Block stack lo hi y.met
    → Block stack lo hi (elim b as (λ _. Reading A) [ true ↦ x | false ↦ y ]).met
if_block stack lo hi true x y p q = p
if_block stack lo hi false x y p q = q

pub if_rest : {A : Type 0} (stack : List ℕ) (lo : ℕ) (b : Bool) (x y : Reading A)
    → Rest stack lo x.met → Rest stack lo y.met
    → Rest stack lo (elim b as (λ _. Reading A) [ true ↦ x | false ↦ y ]).met
if_rest stack lo true x y p q = p
if_rest stack lo false x y p q = q

------ text

pub behind_cons : {A B : Type 0} (m : Met) (before : List Met) (next : A → Reading B) (o : Ending A)
    → (behind (m ∷ before) next o).met ≡ m ∷ (behind before next o).met
behind_cons m before next (reaches value) = refl
behind_cons m before next (refused why place) = refl

pub continued_cons : {A B : Type 0} (m : Met) (r : Reading A) (next : A → Reading B)
    → (and_then (continued (m ∷ []) r) next).met ≡ m ∷ (and_then r next).met
continued_cons {A} {B} m r next =
    ap (λ (w : Reading B). w.met) (and_then_same (continued (m ∷ []) r) next)
    ∙ (behind_cons m r.met next r.ending
    ∙ ap (λ (w : Reading B). m ∷ w.met) (sym (and_then_same r next)))

-- an episode of a text, and what is read behind the text
pub episode_rest : {B : Type 0} (at : Entered) (t : PpTok) (more : ℕ) (face : List Event)
    (result : Result) (rest : ℕ → Reading (Unit {0})) (next : Unit {0} → Reading B) (lo : ℕ)
    → lo ≤ t.span.start
    → ((own : ℕ) → Rest at.stack (suc t.span.start) (and_then (rest own) next).met)
    → Rest at.stack lo
    (and_then (with_episode (place_of at t) more face result rest) next).met
episode_rest at t more face (fails why) rest next lo h p =
    block_rest at.stack lo (suc t.span.start) (met (place_of at t) face [])
    (block_wider at.stack t.span.start (suc t.span.start) lo (suc t.span.start) h (omega arith)
    (met (place_of at t) face []) (own_block at t face []))
episode_rest at t more face (expands given unread) rest next lo h p =
    let m : Met = record { place = place_of at t; face = face; gives = given } in
    subst (Rest at.stack lo) (sym (continued_cons m (rest (more - unread)) next))
    (joined at.stack lo (suc t.span.start) (omega (arith, h)) (m ∷ [])
    (and_then (rest (more - unread)) next).met
    (block_wider at.stack t.span.start (suc t.span.start) lo (suc t.span.start) h (omega arith)
    (m ∷ []) (own_block at t face given))
    (p (more - unread)))

pub text_rest : {B : Type 0} (at : Entered) (ends : RunEnd) (macros : List ℕ → Macro)
    (next : Unit {0} → Reading B) (more : List PpTok)
    → ((lo : ℕ) → Increasing lo more → Rest at.stack lo (next tt).met)
    → (run : List PpTok) (own lo : ℕ) → Increasing lo (run ++ more)
    → Rest at.stack lo (and_then (episodes at ends macros own run) next).met
text_rest at ends macros next more h [] own lo p = h lo p
text_rest at ends macros next more h (t ∷ run) (suc own) lo p =
    rest_later at.stack lo (suc t.span.start) (omega (arith, p.0))
    (and_then (episodes at ends macros own run) next).met
    (text_rest at ends macros next more h run own (suc t.span.start) p.1)
text_rest at ends macros next more h (t ∷ run) zero lo p =
    let e : Episode = episode ends (t ∷ run) 0 macros in
    episode_rest at t (length run) e.face e.result (λ own. episodes at ends macros own run) next lo
    p.0 (λ own. text_rest at ends macros next more h run own (suc t.span.start) p.1)
