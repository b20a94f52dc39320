-- A condition is split by what a name means.
use Rattle.std.proofs.Common.{◌≡◌, ◌≢◌, ℕ, Bool, true, false, ◌&&◌, not, List, [], ◌∷◌, ◌++◌, refl, sym, ◌∙◌, ap, ◌+◌, ◌<◌, ◌≤◌, length, take, drop, get_or, arith, zero, suc, if◌then◌else◌}
use Rattle.std.proofs.lemmas.List.{take_all, append_assoc, append-nil}
use Rattle.std.proofs.lemmas.List.Elements.{All-nil}
use Rattle.std.specs.List.{AllPairs}
use Rattle.hv_cond.specs.Diagram.{AllNodes, Diagram, IsNode, Keeps, holds}
use Rattle.hv_cond.specs.declared.conditions.Cond.{Cond}
use Rattle.hv_cond.specs.Laws.{AllNodes-kept, Keeps-refl, Keeps-trans, NoneFalse-kept}
use Rattle.hv_cond.specs.Parts.{NoneFalse}
use Rattle.hv_macros.specs.Alternatives.{AreAlternatives, MeansOther, NoneMeans, conditions, meaning_or, meanings}
use Rattle.hv_macros.specs.Laws.{meaning_or-append, meanings-kept}
use Rattle.hv_macros.specs.working.Added.{IsAdded}
use Rattle.hv_macros.proofs.AddedLemmas.{meaning_or-more, none-before, none-fewer, none-last}
use Rattle.hv_toks.specs.Macro.{Macro, macro_of, undefined}
use Rattle.hv_macros.specs.declared.alternatives.Alternative.{Alternative}

-- the condition is split by the first k alternatives into parts, and a rest
pub record IsSplitting (old now : Diagram) (cond rest : Cond) (xs : List Alternative) (k : ℕ)
    (parts : List Alternative) : Type 0 where
  pub keeps : Keeps old now
  pub rest_node : IsNode now rest
  pub nodes : AllNodes now (conditions parts)
  pub none_false : NoneFalse now (conditions parts)
  pub distinct : AllPairs MeansOther parts
  pub only : (p : Macro) → NoneMeans p (take k xs) → NoneMeans p parts
  pub meanings : (v : List Bool) (m : Macro)
      → meanings now v parts ++ (if holds now rest v then m ∷ [] else [])
      ≡ (if holds old cond v then meaning_or old v (take k xs) m ∷ [] else [])

pub splitting_start : (store : Diagram) (cond : Cond) (xs parts : List Alternative) → IsNode store cond
    → parts ≡ [] → IsSplitting store store cond cond xs 0 parts
splitting_start store cond xs parts n e =
    record {
      keeps = Keeps-refl store;
      rest_node = n;
      nodes = rw e tt;
      none_false = rw e tt;
      distinct = rw e (λ i j d lt within. absurd (omega arith));
      only = λ p none. rw e (All-nil (λ (x : Alternative). macro_of x.meaning ≢ p));
      meanings = λ v m. ap (λ ys. meanings store v ys ++ (if holds store cond v then m ∷ [] else [])) e;
    }

pub splitting_step : (old mid now : Diagram) (cond rest inside outside : Cond) (xs : List Alternative)
    (k : ℕ) (a : Alternative) (parts next : List Alternative)
    → IsSplitting old mid cond rest xs k parts → AreAlternatives old xs → IsNode old a.cond
    → k < length xs → a ≡ get_or xs k a → Keeps mid now → IsNode now outside
    → ((v : List Bool) → holds now inside v ≡ (holds mid rest v && holds mid a.cond v))
    → ((v : List Bool) → holds now outside v ≡ (holds mid rest v && not (holds mid a.cond v)))
    → IsAdded now parts next inside (macro_of a.meaning)
    → IsSplitting old now cond outside xs (k + 1) next
splitting_step old mid now cond rest inside outside xs k a parts next i ns anode lt is grows n p q add =
    record {
      keeps = Keeps-trans i.keeps grows;
      rest_node = n;
      nodes = add.nodes (AllNodes-kept grows (conditions parts) i.nodes);
      none_false = add.none_false (NoneFalse-kept grows (conditions parts) i.nodes i.none_false);
      distinct =
          add.distinct (i.only (macro_of a.meaning) (none-before xs k a ns.distinct lt is)) i.distinct;
      only = λ other none. add.only other (none-last other xs k a lt is none)
          (i.only other (none-fewer other xs k lt none));
      meanings = λ v m.
          let tail : List Macro = if holds now outside v then m ∷ [] else [] in
          let more : List Macro = if holds now inside v then macro_of a.meaning ∷ [] else [] in
          ap (λ ys. ys ++ tail) (add.meanings v)
          ∙ (append_assoc (meanings now v parts) more tail
          ∙ (ap (λ ys. ys ++ (more ++ tail)) (meanings-kept grows parts i.nodes v)
          ∙ (ap (λ ys. meanings mid v parts ++ ys)
          (choose (holds mid rest v) (holds mid a.cond v) (holds now inside v) (holds now outside v)
          (macro_of a.meaning) m (p v) (q v))
          ∙ (i.meanings v (if holds mid a.cond v then macro_of a.meaning else m)
          ∙ (ap (λ (b : Bool). if holds old cond v then meaning_or old v (take k xs)
          (if b then macro_of a.meaning else m) ∷ [] else []) (i.keeps.meaning a.cond anode v)
          ∙ sym (ap (λ (x : Macro). if holds old cond v then x ∷ [] else [])
          (meaning_or-more old v xs k a m lt is)))))));
    }
  where
    choose : (r x p q : Bool) (y m : Macro) → p ≡ (r && x) → q ≡ (r && not x)
        → (if p then y ∷ [] else []) ++ (if q then m ∷ [] else [])
        ≡ (if r then (if x then y else m) ∷ [] else [])
    choose true true p q y m e f = rw (e, f) refl
    choose true false p q y m e f = rw (e, f) refl
    choose false x p q y m e f = rw (e, f) refl

-- the rest is added as no macro
pub split_meanings : (old now : Diagram) (cond rest : Cond) (xs : List Alternative) (k : ℕ)
    (parts next : List Alternative) → IsSplitting old now cond rest xs k parts → length xs ≤ k
    → IsAdded now parts next rest undefined
    → (v : List Bool) → meanings now v next ≡ (if holds old cond v then meaning_or old v xs undefined ∷
    [] else [])
split_meanings old now cond rest xs k parts next i h add = λ v.
    add.meanings v ∙ (i.meanings v undefined
    ∙ ap (λ ys. if holds old cond v then meaning_or old v ys undefined ∷ [] else []) (take_all k xs h))

pub split_distinct : (old now : Diagram) (cond rest : Cond) (xs : List Alternative) (k : ℕ)
    (parts next : List Alternative) → IsSplitting old now cond rest xs k parts → length xs ≤ k
    → AreAlternatives old xs
    → IsAdded now parts next rest undefined → AllPairs MeansOther next
split_distinct old now cond rest xs k parts next i h ns add =
    add.distinct (i.only undefined (rw (take_all k xs h) ns.macros)) i.distinct

take_drop : (k : ℕ) (xs : List Alternative) → take k xs ++ drop k xs ≡ xs
take_drop zero xs = refl
take_drop (suc k) [] = refl
take_drop (suc k) (x ∷ xs) = ap (λ ys. x ∷ ys) (take_drop k xs)

-- nothing is left
pub split_done : (old now : Diagram) (cond rest : Cond) (xs : List Alternative) (k : ℕ)
    (parts : List Alternative) → IsSplitting old now cond rest xs k parts
    → ((v : List Bool) → holds now rest v ≡ false)
    → (v : List Bool) → meanings now v parts ≡ (if holds old cond v then meaning_or old v xs undefined ∷
    [] else [])
split_done old now cond rest xs k parts i never v =
    sym (append-nil (meanings now v parts))
    ∙ (sym (ap (λ (b : Bool). meanings now v parts ++ (if b then later ∷ [] else [])) (never v))
    ∙ (i.meanings v later
    ∙ ap (λ (x : Macro). if holds old cond v then x ∷ [] else [])
    (sym (meaning_or-append old v (take k xs) (drop k xs) undefined)
    ∙ ap (λ ys. meaning_or old v ys undefined) (take_drop k xs))))
  where
    later : Macro
    later = meaning_or old v (drop k xs) undefined
