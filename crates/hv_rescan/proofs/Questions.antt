-- The questions of a controlling line.
use Rattle.std.proofs.Common.{◌≡◌, ◌≤◌, ◌-◌, Bool, true, false, List, [], ◌∷◌, Option, None, refl, sym, ap, ◌∙◌, arith, length, get_or, take, drop}
use Rattle.std.specs.Prelude.{codes}
use Rattle.hv_base.proofs.Lists.{take-rest}
use Rattle.hv_toks.specs.declared.token.PpTok.{PpTok}
use Rattle.hv_plain.specs.episode.Episode.{Question, asked, has_text, question}

-- what two tokens and one after them ask, by whether they are parentheses
abbrev asked_by : (opens closes : Bool) → PpTok → PpTok → Option Question
asked_by true true t u = question u 3
asked_by true false t u = None
asked_by false closes t u = question t 1

asked_three : (t u v : PpTok) (after : List PpTok) (o c : Bool)
    → (elim o as (λ w. Option Question) [
      | true ↦ elim c as (λ w. Option Question) [ true ↦ question u 3 | false ↦ None ]
      | false ↦ question t 1
    ]) ≡ asked_by o c t u
asked_three t u v after true true = refl
asked_three t u v after true false = refl
asked_three t u v after false c = refl

asked_as : (t u v : PpTok) (after : List PpTok)
    → asked (t ∷ u ∷ v ∷ after)
    ≡ asked_by (has_text t (codes "(")) (has_text v (codes ")")) t u
asked_as t u v after = asked_three t u v after (has_text t (codes "(")) (has_text v (codes ")"))

pub asks_none : (after : List PpTok) (t v : PpTok) → 3 ≤ length after → t ≡ get_or after 0 t
    → v ≡ get_or after 2 v → has_text t (codes "(") ≡ true → has_text v (codes ")") ≡ false
    → None ≡ asked after
asks_none [] t v n e f o c = absurd (omega arith)
asks_none (x ∷ []) t v n e f o c = absurd (omega arith)
asks_none (x ∷ y ∷ []) t v n e f o c = absurd (omega arith)
asks_none (x ∷ y ∷ z ∷ after) t v n e f o c =
    sym (asked_as x y z after
    ∙ ap (λ (b : Bool). asked_by b (has_text z (codes ")")) x y)
    (ap (λ (w : PpTok). has_text w (codes "(")) (sym e) ∙ o)
    ∙ ap (λ (b : Bool). asked_by true b x y)
    (ap (λ (w : PpTok). has_text w (codes ")")) (sym f) ∙ c))

pub asks_name : (after : List PpTok) (t : PpTok) → 1 ≤ length after → t ≡ get_or after 0 t
    → (3 ≤ length after → has_text t (codes "(") ≡ false) → question t 1 ≡ asked after
asks_name [] t n e o = absurd (omega arith)
asks_name (x ∷ []) t n e o = ap (λ (w : PpTok). question w 1) e
asks_name (x ∷ y ∷ []) t n e o = ap (λ (w : PpTok). question w 1) e
asks_name (x ∷ y ∷ z ∷ after) t n e o =
    ap (λ (w : PpTok). question w 1) e
    ∙ sym (asked_as x y z after
    ∙ ap (λ (b : Bool). asked_by b (has_text z (codes ")")) x y)
    (ap (λ (w : PpTok). has_text w (codes "(")) (sym e) ∙ o (omega arith)))

------ the rest after a first token

pub rest_long : (after : List PpTok) → 2 ≤ length (take (length after - 1) (drop 1 after))
    → 3 ≤ length after
rest_long [] h = absurd (omega arith)
rest_long (x ∷ xs) h = let e = ap length (take-rest 1 (x ∷ xs)) in omega (arith, e)

pub long_rest : (after : List PpTok) → 3 ≤ length after
    → 2 ≤ length (take (length after - 1) (drop 1 after))
long_rest [] h = absurd (omega arith)
long_rest (x ∷ xs) h = let e = ap length (take-rest 1 (x ∷ xs)) in omega (arith, e)

pub item_later : (after : List PpTok) (v : PpTok) → 1 ≤ length after
    → v ≡ get_or (take (length after - 1) (drop 1 after)) 1 v → v ≡ get_or after 2 v
item_later [] v h e = absurd (omega arith)
item_later (x ∷ xs) v h e = e ∙ ap (λ (l : List PpTok). get_or l 1 v) (take-rest 1 (x ∷ xs))

pub first_and_rest : (rest : List PpTok) (t : PpTok) → 1 ≤ length rest → t ≡ get_or rest 0 t
    → rest ≡ t ∷ take (length rest - 1) (drop 1 rest)
first_and_rest [] t h e = absurd (omega arith)
first_and_rest (x ∷ xs) t h e =
    ap (λ (u : PpTok). u ∷ xs) (sym e)
    ∙ ap (λ (l : List PpTok). t ∷ l) (sym (take-rest 1 (x ∷ xs)))
