-- A name is given a meaning under a condition.
use Rattle.std.proofs.Common.{◌≡◌, ◌≢◌, ℕ, Bool, true, false, ◌&&◌, ◌||◌, not, List, [], ◌∷◌, ◌++◌, refl, sym, ◌∙◌, ap, ◌+◌, ◌<◌, ◌≤◌, length, take, get_or, arith, if◌then◌else◌}
use Rattle.std.proofs.lemmas.List.{take_all}
use Rattle.std.proofs.lemmas.List.Elements.{All-nil}
use Rattle.std.specs.Bool.{Decides}
use Rattle.std.specs.List.{AllPairs}
use Rattle.hv_cond.specs.Diagram.{AllNodes, Diagram, IsNode, Keeps, holds}
use Rattle.hv_cond.specs.declared.conditions.Cond.{Cond}
use Rattle.hv_cond.specs.Laws.{AllNodes-kept, Keeps-refl, Keeps-trans, NoneFalse-kept}
use Rattle.hv_cond.specs.Parts.{NoneFalse}
use Rattle.hv_macros.specs.Alternatives.{AreAlternatives, MeansOther, NoneMeans, conditions, meaning_or}
use Rattle.hv_macros.specs.Laws.{meaning_or-kept}
use Rattle.hv_macros.specs.working.Added.{IsAdded}
use Rattle.hv_macros.proofs.AddedLemmas.{meaning_or-more, none-before, none-fewer, none-last, none-more}
use Rattle.hv_toks.specs.Macro.{Macro, macro_of, undefined}
use Rattle.hv_macros.specs.declared.alternatives.Alternative.{Alternative}

-- of the first k alternatives is kept what they are once the name has this macro under the condition;
-- `joined` says whether one of them has this macro
pub record IsOverriding (old now : Diagram) (cond : Cond) (macro : Macro) (xs : List Alternative) (k : ℕ)
    (joined : Bool) (kept : List Alternative) : Type 0 where
  pub keeps : Keeps old now
  pub nodes : AllNodes now (conditions kept)
  pub none_false : NoneFalse now (conditions kept)
  pub distinct : AllPairs MeansOther kept
  pub only : (p : Macro) → NoneMeans p (take k xs) → NoneMeans p kept
  pub fresh : joined ≡ false → NoneMeans macro (take k xs)
  pub meaning : (v : List Bool) (m : Macro)
      → meaning_or now v kept m ≡ (if holds old cond v then (if joined then macro else m) else meaning_or
      old v (take k xs) m)

pub overriding_start : (store : Diagram) (cond : Cond) (macro : Macro) (xs kept : List Alternative)
    → kept ≡ [] → IsOverriding store store cond macro xs 0 false kept
overriding_start store cond macro xs kept e =
    record {
      keeps = Keeps-refl store;
      nodes = rw e tt;
      none_false = rw e tt;
      distinct = rw e (λ i j d lt within. absurd (omega arith));
      only = λ p none. rw e (All-nil (λ (x : Alternative). macro_of x.meaning ≢ p));
      fresh = λ is. All-nil (λ (x : Alternative). macro_of x.meaning ≢ macro);
      meaning = λ v m. ap (λ ys. meaning_or store v ys m) e ∙ same (holds store cond v) m;
    }
  where
    same : (b : Bool) (m : Macro) → m ≡ (if b then m else m)
    same true m = refl
    same false m = refl

pub overriding_step : (old mid now : Diagram) (cond : Cond) (macro : Macro) (xs : List Alternative)
    (k : ℕ) (a : Alternative) (joined same : Bool) (rest : Cond) (kept next : List Alternative)
    → IsOverriding old mid cond macro xs k joined kept → AreAlternatives old xs → IsNode old cond
    → IsNode old a.cond → k < length xs → a ≡ get_or xs k a → Keeps mid now
    → Decides same (macro_of a.meaning ≡ macro)
    → ((v : List Bool) → holds now rest v ≡ (if same then holds mid a.cond v ||
    holds mid cond v else holds mid a.cond v && not (holds mid cond v)))
    → IsAdded now kept next rest (macro_of a.meaning)
    → IsOverriding old now cond macro xs (k + 1) (joined || same) next
overriding_step old mid now cond macro xs k a joined same rest kept next i ns node anode lt is grows d r
    add =
    record {
      keeps = Keeps-trans i.keeps grows;
      nodes = add.nodes (AllNodes-kept grows (conditions kept) i.nodes);
      none_false = add.none_false (NoneFalse-kept grows (conditions kept) i.nodes i.none_false);
      distinct =
          add.distinct (i.only (macro_of a.meaning) (none-before xs k a ns.distinct lt is)) i.distinct;
      only = λ p none. add.only p (none-last p xs k a lt is none) (i.only p (none-fewer p xs k lt none));
      fresh =
          λ neither. none-more macro xs k a lt is (i.fresh (left joined same neither))
          (λ e. differs joined same d neither e);
      meaning = λ v m.
          add.meaning v m
          ∙ (meaning_or-kept grows kept i.nodes v (if holds now rest v then macro_of a.meaning else m)
          ∙ (i.meaning v (if holds now rest v then macro_of a.meaning else m)
          ∙ (choose (holds old cond v) (holds old a.cond v) (holds now rest v) joined same
          (meaning_or old v (take k xs)) macro (macro_of a.meaning) m d (is_rest v)
          ∙ sym (ap (λ (x : Macro). if holds old cond v then (if joined || same then macro else m) else
          x) (meaning_or-more old v xs k a m lt is)))));
    }
  where
    left : (j s : Bool) → (j || s) ≡ false → j ≡ false
    left true s e = e
    left false s e = refl

    differs : (j s : Bool) → Decides s (macro_of a.meaning ≡ macro) → (j || s) ≡ false
        → macro_of a.meaning ≡ macro → ⊥
    differs j true d e is = absurd (never j e)
      where
        never : (j : Bool) → (j || true) ≡ false → ⊥
        never true e = cc
        never false e = cc
    differs j false d e is = let h : false ≡ true = d.1 is in cc

    choose : (c x r j s : Bool) (f : Macro → Macro) (p q m : Macro) → Decides s (q ≡ p)
        → r ≡ (if s then x || c else x && not c)
        → (if c then (if j then p else (if r then q else m)) else f (if r then q else m))
        ≡ (if c then (if j || s then p else m) else f (if x then q else m))
    choose true x r true s f p q m d e = refl
    choose true true r false true f p q m d e = rw e (d.0 refl)
    choose true false r false true f p q m d e = rw e (d.0 refl)
    choose true true r false false f p q m d e = rw e refl
    choose true false r false false f p q m d e = rw e refl
    choose false true r j true f p q m d e = rw e refl
    choose false false r j true f p q m d e = rw e refl
    choose false true r j false f p q m d e = rw e refl
    choose false false r j false f p q m d e = rw e refl

    is_rest : (v : List Bool) → holds now rest v ≡ (if same then holds old a.cond v ||
        holds old cond v else holds old a.cond v && not (holds old cond v))
    is_rest v = r v ∙ (ap
        (λ (b : Bool). if same then b || holds mid cond v else b && not (holds mid cond v))
        (i.keeps.meaning a.cond anode v)
        ∙ ap (λ (b : Bool). if same then holds old a.cond v || b else holds old a.cond v && not b)
        (i.keeps.meaning cond node v))

-- all alternatives are done
pub overridden_alternatives : (old now : Diagram) (cond : Cond) (macro : Macro) (xs : List Alternative)
    (k : ℕ) (joined : Bool) (kept : List Alternative) → IsOverriding old now cond macro xs k joined kept
    → length xs ≤ k
    → AreAlternatives old xs → AreAlternatives now kept
overridden_alternatives old now cond macro xs k joined kept i h ns =
    record {
      nodes = i.nodes;
      none_false = i.none_false;
      macros =
          i.only undefined (rw (take_all k xs h) ns.macros);
      distinct = i.distinct;
    }

-- the macro is added
pub added_alternatives : (old now : Diagram) (cond : Cond) (macro : Macro) (xs : List Alternative)
    (k : ℕ) (joined : Bool) (kept next : List Alternative)
    → IsOverriding old now cond macro xs k joined kept → length xs ≤ k
    → joined ≡ false → AreAlternatives old xs → macro ≢ undefined → IsAdded now kept next cond macro
    → AreAlternatives now next
added_alternatives old now cond macro xs k joined kept next i h is ns some add =
    record {
      nodes = add.nodes i.nodes;
      none_false = add.none_false i.none_false;
      macros = add.only undefined some (i.only undefined (rw (take_all k xs h) ns.macros));
      distinct = add.distinct (i.only macro (i.fresh is)) i.distinct;
    }

-- one more is looked at
pub joined_before : (joined same now : Bool) → joined ≡ true → now ≡ joined → (joined || same) ≡ now
joined_before true same now e f = sym f
joined_before false same now e f = cc

pub joined_here : (joined same now : Bool) → joined ≡ false → now ≡ same → (joined || same) ≡ now
joined_here true same now e f = cc
joined_here false same now e f = sym f
