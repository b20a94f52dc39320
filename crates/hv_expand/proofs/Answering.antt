-- What the alternatives of a name answer under a condition.
use Rattle.std.proofs.Common.{ℕ, zero, suc, ◌≡◌, ◌+◌, ◌<◌, ◌≤◌, refl, sym, ap, ◌∙◌, subst, Bool, true, false, ◌||◌, ◌&&◌, ◌⊎◌, inl, inr, List, [], ◌∷◌, ◌++◌, length, take, get_or, if◌then◌else◌, arith, eqb, Decides}
use Rattle.std.proofs.lemmas.List.{take_more, take_all}
use Rattle.std.proofs.lemmas.Bool.{false≢true, true≢false}
use Rattle.std.proofs.lemmas.Bool.Decides.{Decides-and, Decides-eqb}
use Rattle.std.specs.Str.{bytes_eq}
use Rattle.std.proofs.lemmas.Slice.Eq.{bytes_eq-Decides}
use Rattle.hv_base.specs.declared.place.Place.{Place}
use Rattle.hv_cond.specs.Diagram.{AllNodes, Diagram, IsNode, IsNever, Keeps, holds}
use Rattle.hv_cond.specs.Laws.{Keeps-refl, Keeps-trans}
use Rattle.hv_cond.specs.Parts.{NoneFalse}
use Rattle.hv_cond.specs.declared.conditions.Cond.{Cond}
use Rattle.hv_macros.specs.Alternatives.{conditions, meanings}
use Rattle.hv_macros.specs.Laws.{meanings-append, node_at}
use Rattle.hv_macros.specs.declared.alternatives.Alternative.{Alternative}
use Rattle.hv_toks.specs.Macro.{Macro, macro_of, undefined}
use Rattle.hv_expand.specs.declared.questions.Question.{Question}
use Rattle.hv_expand.specs.working.Questions.{IsAnswered, Seen, gives, uses, stops, tells, same_place, same_seen, same_told, seen, some_alike, Test}

------ an assignment that satisfies a condition

-- one of this length satisfies a test, or none does
some_or_none : (n : ℕ) (f : List Bool → Bool)
    → ((v : List Bool) × (length v ≡ n) × (f v ≡ true))
    ⊎ ((v : List Bool) → length v ≡ n → f v ≡ false)
some_or_none zero f = start (f []) refl
  where
    only : f [] ≡ false → (v : List Bool) → length v ≡ 0 → f v ≡ false
    only e [] l = e
    only e (x ∷ v) l = absurd (omega arith)

    start : (b : Bool) → f [] ≡ b → ((v : List Bool) × (length v ≡ 0) × (f v ≡ true))
        ⊎ ((v : List Bool) → length v ≡ 0 → f v ≡ false)
    start true e = inl ([], refl, e)
    start false e = inr (only e)
some_or_none (suc n) f =
    join (some_or_none n (λ v. f (false ∷ v))) (some_or_none n (λ v. f (true ∷ v)))
  where
    none : ((v : List Bool) → length v ≡ n → f (false ∷ v) ≡ false)
        → ((v : List Bool) → length v ≡ n → f (true ∷ v) ≡ false)
        → (v : List Bool) → length v ≡ suc n → f v ≡ false
    none p q [] l = absurd (omega arith)
    none p q (false ∷ v) l = p v (omega arith)
    none p q (true ∷ v) l = q v (omega arith)

    join : ((v : List Bool) × (length v ≡ n) × (f (false ∷ v) ≡ true))
        ⊎ ((v : List Bool) → length v ≡ n → f (false ∷ v) ≡ false)
        → ((v : List Bool) × (length v ≡ n) × (f (true ∷ v) ≡ true))
        ⊎ ((v : List Bool) → length v ≡ n → f (true ∷ v) ≡ false)
        → ((v : List Bool) × (length v ≡ suc n) × (f v ≡ true))
        ⊎ ((v : List Bool) → length v ≡ suc n → f v ≡ false)
    join (inl (v, l, e)) y = inl (false ∷ v, omega arith, e)
    join (inr p) (inl (v, l, e)) = inl (true ∷ v, omega arith, e)
    join (inr p) (inr q) = inr (none p q)

pub witness : (d : Diagram) (c : Cond) → (IsNever d c → ⊥)
    → ((v : List Bool) × (length v ≡ d.variables) × (holds d c v ≡ true))
witness d c possible = elim (some_or_none d.variables (holds d c))
    [ inl w ↦ w | inr none ↦ absurd (possible none) ]

------ what is seen

pub and_true : (a b : Bool) → (a && b) ≡ true → (a ≡ true) × (b ≡ true)
and_true true b e = (refl, e)
and_true false b e = absurd (false≢true e)

-- two places with the same parts are one
one_place : (p q : Place) → p.stack ≡ q.stack → p.file ≡ q.file → p.offset ≡ q.offset → p ≡ q
one_place p q stack file offset =
    ap (λ (s : List ℕ). let x : Place = record { stack = s; file = p.file; offset = p.offset } in x)
    stack
    ∙ ap (λ (f : ℕ). let x : Place = record { stack = q.stack; file = f; offset = p.offset } in x)
    file
    ∙ ap (λ (o : ℕ). let x : Place = record { stack = q.stack; file = q.file; offset = o } in x)
    offset

pub same_place-Decides : (p q : Place) → Decides (same_place p q) (p ≡ q)
same_place-Decides p q =
    let d = Decides-and (bytes_eq p.stack q.stack) (eqb p.file q.file && eqb p.offset q.offset)
    (bytes_eq-Decides p.stack q.stack) (Decides-and (eqb p.file q.file) (eqb p.offset q.offset)
    (Decides-eqb p.file q.file) (Decides-eqb p.offset q.offset)) in (
      λ e. let x = d.0 e in one_place p q x.0 x.1.0 x.1.1,
      λ e. d.1 (
        ap (λ (x : Place). x.stack) e,
        (ap (λ (x : Place). x.file) e, ap (λ (x : Place). x.offset) e),
      ),
    )

pub same_told-Decides : (b c : Bool) → Decides (same_told b c) (b ≡ c)
same_told-Decides true true = (λ e. refl, λ e. refl)
same_told-Decides true false = (λ e. absurd (false≢true e), λ e. absurd (true≢false e))
same_told-Decides false true = (λ e. absurd (false≢true e), λ e. absurd (false≢true e))
same_told-Decides false false = (λ e. refl, λ e. refl)

apart : {b : Bool} {P : Type 0} → b ≡ false → (P → ⊥) → Decides b P
apart e n = (λ t. absurd (true≢false (sym t ∙ e)), λ p. absurd (n p))

pub same_seen-Decides : (s t : Seen) → Decides (same_seen s t) (s ≡ t)
same_seen-Decides gives gives = (λ e. refl, λ e. refl)
same_seen-Decides gives (uses q) = apart refl (λ e. cc)
same_seen-Decides gives stops = apart refl (λ e. cc)
same_seen-Decides gives (tells b) = apart refl (λ e. cc)
same_seen-Decides (uses p) gives = apart refl (λ e. cc)
same_seen-Decides (uses p) (uses q) =
    let d = same_place-Decides p q in (λ e. ap uses (d.0 e), λ e. let x : p ≡ q = cc in d.1 x)
same_seen-Decides (uses p) stops = apart refl (λ e. cc)
same_seen-Decides (uses p) (tells b) = apart refl (λ e. cc)
same_seen-Decides stops gives = apart refl (λ e. cc)
same_seen-Decides stops (uses q) = apart refl (λ e. cc)
same_seen-Decides stops stops = (λ e. refl, λ e. refl)
same_seen-Decides stops (tells b) = apart refl (λ e. cc)
same_seen-Decides (tells b) gives = apart refl (λ e. cc)
same_seen-Decides (tells b) (uses q) = apart refl (λ e. cc)
same_seen-Decides (tells b) stops = apart refl (λ e. cc)
same_seen-Decides (tells b) (tells c) =
    let d = same_told-Decides b c in (λ e. ap tells (d.0 e), λ e. let x : b ≡ c = cc in d.1 x)

------ the alternatives of which this is seen

some_alike-append : (q : Question) (s : Seen) (xs ys : List Macro)
    → some_alike q s (xs ++ ys) ≡ (some_alike q s xs || some_alike q s ys)
some_alike-append q s [] ys = refl
some_alike-append q s (x ∷ xs) ys =
    ap (λ (b : Bool). same_seen (seen q x) s || b) (some_alike-append q s xs ys)
    ∙ or_assoc (same_seen (seen q x) s) (some_alike q s xs) (some_alike q s ys)
  where
    or_assoc : (a b c : Bool) → (a || (b || c)) ≡ ((a || b) || c)
    or_assoc true b c = refl
    or_assoc false b c = refl

or_false : (b : Bool) → (b || false) ≡ b
or_false true = refl
or_false false = refl

pub node_of : (d : Diagram) (xs : List Alternative) (k : ℕ) (a : Alternative)
    → AllNodes d (conditions xs) → k < length xs → a ≡ get_or xs k a → IsNode d a.cond
node_of d xs k a p lt is =
    subst (λ (x : Alternative). IsNode d x.cond) (sym is) (node_at d xs k a p lt)

-- the condition of those alternatives before the k-th of which this is seen
pub record IsGathering (old now : Diagram) (q : Question) (s : Seen) (xs : List Alternative)
    (k : ℕ) (whole : Cond) : Type 0 where
  pub keeps : Keeps old now
  pub node : IsNode now whole
  pub meaning : (v : List Bool) → holds now whole v ≡ some_alike q s (meanings old v (take k xs))

one_more : (old : Diagram) (q : Question) (s : Seen) (xs : List Alternative) (k : ℕ)
    (a : Alternative) (v : List Bool) → k < length xs → a ≡ get_or xs k a
    → some_alike q s (meanings old v (take (k + 1) xs))
    ≡ (some_alike q s (meanings old v (take k xs))
    || (holds old a.cond v && same_seen (seen q (macro_of a.meaning)) s))
one_more old q s xs k a v lt is =
    ap (λ (ys : List Alternative). some_alike q s (meanings old v ys))
    (take_more xs k a lt ∙ ap (λ (x : Alternative). take k xs ++ x ∷ []) (sym is))
    ∙ ap (some_alike q s) (meanings-append old v (take k xs) (a ∷ []))
    ∙ some_alike-append q s (meanings old v (take k xs)) (meanings old v (a ∷ []))
    ∙ ap (λ (b : Bool). some_alike q s (meanings old v (take k xs)) || b) (alone (holds old a.cond v))
  where
    alone : (b : Bool) → some_alike q s ((if b then macro_of a.meaning ∷ [] else []) ++ [])
        ≡ (b && same_seen (seen q (macro_of a.meaning)) s)
    alone true = or_false _
    alone false = refl

pub gathering_start : (store : Diagram) (q : Question) (s : Seen) (xs : List Alternative)
    (whole : Cond) → IsNode store whole → ((v : List Bool) → holds store whole v ≡ false)
    → IsGathering store store q s xs 0 whole
gathering_start store q s xs whole n e =
    record { keeps = Keeps-refl store; node = n; meaning = e }

pub gathering_more : (old mid now : Diagram) (q : Question) (s : Seen) (xs : List Alternative)
    (k : ℕ) (a : Alternative) (whole both : Cond) → IsGathering old mid q s xs k whole
    → AllNodes old (conditions xs) → k < length xs → a ≡ get_or xs k a
    → same_seen (seen q (macro_of a.meaning)) s ≡ true → Keeps mid now → IsNode now both
    → ((v : List Bool) → holds now both v ≡ (holds mid whole v || holds mid a.cond v))
    → IsGathering old now q s xs (k + 1) both
gathering_more old mid now q s xs k a whole both g ns lt is same grows n m =
    record {
      keeps = Keeps-trans g.keeps grows;
      node = n;
      meaning = λ v.
          m v
          ∙ ap (λ (b : Bool). b || holds mid a.cond v) (g.meaning v)
          ∙ ap (λ (b : Bool). some_alike q s (meanings old v (take k xs)) || b)
          (g.keeps.meaning a.cond (node_of old xs k a ns lt is) v
          ∙ and_one (holds old a.cond v) _ same)
          ∙ sym (one_more old q s xs k a v lt is);
    }
  where
    and_one : (a b : Bool) → b ≡ true → a ≡ (a && b)
    and_one true b e = sym e
    and_one false b e = refl

pub gathering_skip : (old mid : Diagram) (q : Question) (s : Seen) (xs : List Alternative)
    (k : ℕ) (a : Alternative) (whole : Cond) → IsGathering old mid q s xs k whole
    → k < length xs → a ≡ get_or xs k a → same_seen (seen q (macro_of a.meaning)) s ≡ false
    → IsGathering old mid q s xs (k + 1) whole
gathering_skip old mid q s xs k a whole g lt is other =
    record {
      keeps = g.keeps;
      node = g.node;
      meaning = λ v.
          g.meaning v
          ∙ or_none (some_alike q s (meanings old v (take k xs))) (holds old a.cond v) _ other
          ∙ sym (one_more old q s xs k a v lt is);
    }
  where
    or_none : (a b c : Bool) → c ≡ false → a ≡ (a || (b && c))
    or_none true b c e = refl
    or_none false true c e = sym e
    or_none false false c e = refl

pub gathered : (old now : Diagram) (q : Question) (s : Seen) (xs : List Alternative) (k : ℕ)
    (whole : Cond) → IsGathering old now q s xs k whole → length xs ≤ k
    → (v : List Bool) → holds now whole v ≡ some_alike q s (meanings old v xs)
gathered old now q s xs k whole g le v =
    g.meaning v ∙ ap (λ ys. some_alike q s (meanings old v ys)) (take_all k xs le)

------ the answer

-- the first alternative holds somewhere, and there it is what the name means
first_possible : (d : Diagram) (xs : List Alternative) (a : Alternative)
    → NoneFalse d (conditions xs) → 0 < length xs → a ≡ get_or xs 0 a → IsNever d a.cond → ⊥
first_possible d [] a p lt is = absurd (omega arith)
first_possible d (x ∷ xs) a p lt is =
    λ never. p.0 (subst (λ (y : Alternative). IsNever d y.cond) is never)

first_means : (d : Diagram) (xs : List Alternative) (a : Alternative) (v : List Bool)
    → 0 < length xs → a ≡ get_or xs 0 a → holds d a.cond v ≡ true
    → ((ms : List Macro) × (meanings d v xs ≡ macro_of a.meaning ∷ ms))
first_means d [] a v lt is e = absurd (omega arith)
first_means d (x ∷ xs) a v lt is e = (
  meanings d v xs,
  ap (λ (b : Bool). (if b then macro_of x.meaning ∷ [] else []) ++ meanings d v xs)
      (ap (λ (y : Alternative). holds d y.cond v) (sym is) ∙ e)
      ∙ ap (λ (y : Alternative). macro_of y.meaning ∷ meanings d v xs) (sym is),
)

-- a condition that can hold has some alternative
pub not_empty : (d : Diagram) (cond : Cond) (old : Diagram) (xs : List Alternative)
    (mean : List Bool → Macro) → (IsNever old cond → ⊥)
    → ((v : List Bool) → meanings d v xs ≡ (if holds old cond v then mean v ∷ [] else []))
    → 0 < length xs
not_empty d cond old (x ∷ xs) mean possible e = omega arith
not_empty d cond old [] mean possible e =
    absurd (possible (λ v l. none v (holds old cond v) (e v)))
  where
    none : (v : List Bool) (b : Bool) → [] ≡ (if b then mean v ∷ [] else []) → b ≡ false
    none v true f = cc
    none v false f = refl

-- those stay that mean what is seen as the first alternative
pub answered : (old mid new : Diagram) (mean : List Bool → Macro) (cond c : Cond) (q : Question)
    (parts : List Alternative) (first : Alternative) → 0 < length parts
    → first ≡ get_or parts 0 first → NoneFalse mid (conditions parts) → Keeps old mid
    → ((v : List Bool) → meanings mid v parts
    ≡ (if holds old cond v then mean v ∷ [] else []))
    → ((v : List Bool) → holds new c v
    ≡ some_alike q (seen q (macro_of first.meaning)) (meanings mid v parts))
    → IsAnswered old.variables (λ v. holds old cond v) (λ v. holds new c v) mean q
    (macro_of first.meaning)
answered old mid new mean cond c q parts first lt is possible keeps means whole =
    record {
      stay = λ v. whole v ∙ ap (some_alike q (seen q (macro_of first.meaning))) (means v)
          ∙ spread v (holds old cond v);
      one = here.0;
      complete = here.1 ∙ keeps.variables;
      within = told.0;
      its = sym told.1;
    }
  where
    here : (v : List Bool) × (length v ≡ mid.variables) × (holds mid first.cond v ≡ true)
    here = witness mid first.cond (first_possible mid parts first possible lt is)

    at : (b : Bool) (ms : List Macro) (m : Macro)
        → macro_of first.meaning ∷ ms ≡ (if b then m ∷ [] else [])
        → (b ≡ true) × (macro_of first.meaning ≡ m)
    at true ms m e = (refl, cc)
    at false ms m e = cc

    told : (holds old cond here.0 ≡ true) × (macro_of first.meaning ≡ mean here.0)
    told =
        let y = first_means mid parts first here.0 lt is here.2 in
        at (holds old cond here.0) y.0 (mean here.0) (sym y.1 ∙ means here.0)

    spread : (v : List Bool) (b : Bool)
        → some_alike q (seen q (macro_of first.meaning)) (if b then mean v ∷ [] else [])
        ≡ (b && same_seen (seen q (mean v)) (seen q (macro_of first.meaning)))
    spread v true = or_false _
    spread v false = refl

-- the configuration with this meaning stays, so some do
pub one_stays : {n : ℕ} {before after : Test} {mean : List Bool → Macro} {q : Question}
    {macro : Macro} → (a : IsAnswered n before after mean q macro) → after a.one ≡ true
one_stays {before = before} {mean = mean} {q = q} {macro = macro} a =
    a.stay a.one
    ∙ ap (λ (x : Bool). x && same_seen (seen q (mean a.one)) (seen q macro)) a.within
    ∙ (same_seen-Decides _ _).1 (ap (seen q) a.its)

pub answered_possible : {n : ℕ} {before : Test} {mean : List Bool → Macro} {q : Question}
    {macro : Macro} (d : Diagram) (c : Cond)
    → IsAnswered n before (λ v. holds d c v) mean q macro → n ≡ d.variables → ¬ IsNever d c
answered_possible d c a e = λ never. false≢true (sym (never a.one (a.complete ∙ e)) ∙ one_stays a)

-- where a name is no macro in any configuration, all stay
pub answered_nowhere : (d : Diagram) (mean : List Bool → Macro) (cond : Cond) (q : Question)
    → (IsNever d cond → ⊥) → ((v : List Bool) → mean v ≡ undefined)
    → IsAnswered d.variables (λ v. holds d cond v) (λ v. holds d cond v) mean q undefined
answered_nowhere d mean cond q possible none =
    let w = witness d cond possible in
    record {
      stay = λ v. all (holds d cond v) _ ((same_seen-Decides _ _).1 (ap (seen q) (none v)));
      one = w.0;
      complete = w.1;
      within = w.2;
      its = none w.0;
    }
  where
    all : (b c : Bool) → c ≡ true → b ≡ (b && c)
    all true c e = sym e
    all false c e = refl
