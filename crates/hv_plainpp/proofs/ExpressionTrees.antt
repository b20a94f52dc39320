-- The trees that are computed are those that the grammar derives.
use Rattle.std.proofs.Common.{◌≡◌, ℕ, zero, suc, ◌+◌, ◌*◌, ◌<◌, ◌≤◌, Bool, true, false, List, [], ◌∷◌, ◌++◌, map, flat_map, length, length-append, refl, sym, ap, ◌∙◌, subst, inl, inr, ◌⊎◌, Option, Some, None, arith, ◌==◌}
use Rattle.std.proofs.lemmas.Bool.{eqb-true, ne_eqb}
use Rattle.hv_base.specs.declared.operator.BinaryOperator.{BinaryOperator}
use Rattle.hv_base.specs.declared.operator.BinaryOperator.TheVariants.{Multiply, Divide, Remainder, Add, Subtract, ShiftLeft, ShiftRight, Less, Greater, LessEqual, GreaterEqual, Equal, NotEqual, And, ExclusiveOr, Or, LogicalAnd, LogicalOr}
use Rattle.hv_plain.specs.controlling.Grammar.{Tree, unary, binary, conditional, level, sign, Derives, a_number, a_parenthesized, a_unary, a_binary, a_conditional, a_higher, truth, IsTruth, symbols}
use Rattle.hv_plain.specs.declared.controlling.Symbol.{Symbol}
use Rattle.hv_plain.specs.declared.controlling.Symbol.TheVariants.{Number, Operator, Complement, Not, Open, Close, Question, Colon, Other}
use Rattle.hv_plain.specs.declared.controlling.Unary.{Unary}
use Rattle.hv_plain.specs.controlling.Symbols.{symbol_of}
use Rattle.hv_toks.specs.Spelled.{all_spelled}
use Rattle.hv_toks.specs.declared.token.PpTok.{PpTok}
use Rattle.std.proofs.lemmas.Option.{none-some}
use Rattle.hv_plainpp.specs.Laws.{TruthIsDerived}
use Rattle.hv_plainpp.specs.Expressions.{symbols_of, truth_of, Parting, partings, close, question, colon, operator, prefix, single, closed, parenthesized, prefixed, unary_trees, around, chosen, conditional_trees, trees_of, trees, first_truth}
use Rattle.hv_plainpp.proofs.Items.{Each, Has, each_append, each_weaken, each_map, each_flat, has_left, has_right, has_map, has_flat}
use Rattle.hv_plainpp.proofs.Partings.{Holds, IsParting, partings_part, parting, partings_all, IsClose, close_fits, IsQuestion, question_fits, IsColon, colon_fits, IsOperator, operator_fits, operator_at, IsSign, prefix_fits, prefix_at}

------ each tree that is computed is derived

-- each tree of these symbols at each level is derived
abbrev Sound : (ℕ → List Symbol → List Tree) → Type 0
Sound below = (k : ℕ) (ts : List Symbol) → Each (Derives k ts) (below k ts)

single_sound : (s : Symbol) → Each (Derives 11 (s ∷ [])) (single s)
single_sound (Number v) = (a_number v, tt)
single_sound (Operator op) = tt
single_sound Complement = tt
single_sound Not = tt
single_sound Open = tt
single_sound Close = tt
single_sound Question = tt
single_sound Colon = tt
single_sound Other = tt

closed_sound : (below : ℕ → List Symbol → List Tree) → Sound below → (ts : List Symbol)
    (before behind : List Symbol) (s : Symbol) → s ≡ Close → ts ≡ before ++ s ∷ behind
    → Each (Derives 11 (Open ∷ ts)) (closed below (parting before tt behind))
closed_sound below h ts before (v ∷ behind) s e q = tt
closed_sound below h ts before [] s e q =
    subst (λ (r : List Symbol). Each (Derives 11 (Open ∷ r)) (below 0 before))
    (sym (q ∙ ap (λ (u : Symbol). before ++ u ∷ []) e))
    (each_weaken (Derives 0 before) (Derives 11 (Open ∷ (before ++ Close ∷ [])))
    (λ t d. a_parenthesized d) (below 0 before) (h 0 before))

parenthesized_sound : (below : ℕ → List Symbol → List Tree) → Sound below → (s : Symbol)
    (ts : List Symbol) → Each (Derives 11 (s ∷ ts)) (parenthesized below s ts)
parenthesized_sound below h Open ts =
    each_flat (IsParting IsClose ts) (Derives 11 (Open ∷ ts)) (closed below)
    (λ p q. closed_sound below h ts p.before p.behind q.0 q.1 q.2) (partings close ts)
    (partings_part close IsClose close_fits ts)
parenthesized_sound below h (Number v) ts = tt
parenthesized_sound below h (Operator op) ts = tt
parenthesized_sound below h Complement ts = tt
parenthesized_sound below h Not ts = tt
parenthesized_sound below h Close ts = tt
parenthesized_sound below h Question ts = tt
parenthesized_sound below h Colon ts = tt
parenthesized_sound below h Other ts = tt

prefixed_sound : (below : ℕ → List Symbol → List Tree) → Sound below → (s : Symbol)
    (o : Option Unary) → Holds (IsSign s) o → (ts : List Symbol)
    → Each (Derives 11 (s ∷ ts)) (prefixed below o ts)
prefixed_sound below h s None e ts = tt
prefixed_sound below h s (Some op) e ts =
    subst (λ (u : Symbol). Each (Derives 11 (u ∷ ts)) (map (unary op) (below 11 ts))) (sym e)
    (each_map (Derives 11 ts) (Derives 11 (sign op ∷ ts)) (unary op) (λ t d. a_unary op d)
    (below 11 ts) (h 11 ts))

unary_sound : (below : ℕ → List Symbol → List Tree) → Sound below → (ts : List Symbol)
    → Each (Derives 11 ts) (unary_trees below ts)
unary_sound below h [] = tt
unary_sound below h (s ∷ []) = single_sound s
unary_sound below h (s ∷ next ∷ ts) =
    each_append (Derives 11 (s ∷ next ∷ ts)) (parenthesized below s (next ∷ ts))
    (prefixed below (prefix s) (next ∷ ts))
    (parenthesized_sound below h s (next ∷ ts))
    (prefixed_sound below h s (prefix s) (prefix_fits s) (next ∷ ts))

around_at : (below : ℕ → List Symbol → List Tree) → Sound below → (op : BinaryOperator)
    (before behind : List Symbol)
    → Each (Derives (level op) (before ++ Operator op ∷ behind))
    (around below (parting before op behind))
around_at below h op before behind =
    each_flat (Derives (level op) before) (Derives (level op) (before ++ Operator op ∷ behind))
    (λ a. map (binary op a) (below (suc (level op)) behind))
    (λ a d. each_map (Derives (suc (level op)) behind)
    (Derives (level op) (before ++ Operator op ∷ behind)) (binary op a) (λ b e. a_binary op d e)
    (below (suc (level op)) behind) (h (suc (level op)) behind))
    (below (level op) before) (h (level op) before)

around_sound : (below : ℕ → List Symbol → List Tree) → Sound below → (k : ℕ) (ts : List Symbol)
    (p : Parting BinaryOperator) → IsParting (IsOperator k) ts p → Each (Derives k ts) (around below p)
around_sound below h k ts p q =
    subst (λ (j : ℕ). Each (Derives j ts) (around below p)) q.1.1
    (subst (λ (r : List Symbol). Each (Derives (level p.at) r) (around below p))
    (sym (q.2 ∙ ap (λ (s : Symbol). p.before ++ s ∷ p.behind) q.1.0))
    (around_at below h p.at p.before p.behind))

chosen_at : (below : ℕ → List Symbol → List Tree) → Sound below → (condition before behind : List Symbol)
    → Each (Derives 0 (condition ++ Question ∷ (before ++ Colon ∷ behind)))
    (chosen below condition (parting before tt behind))
chosen_at below h condition before behind =
    let D : Tree → Type 0 = Derives 0 (condition ++ Question ∷ (before ++ Colon ∷ behind)) in
    each_flat (Derives 1 condition) D
    (λ c. flat_map (λ a. map (conditional c a) (below 0 behind)) (below 0 before))
    (λ c d. each_flat (Derives 0 before) D (λ a. map (conditional c a) (below 0 behind))
    (λ a e. each_map (Derives 0 behind) D (conditional c a) (λ b f. a_conditional d e f)
    (below 0 behind) (h 0 behind))
    (below 0 before) (h 0 before))
    (below 1 condition) (h 1 condition)

chosen_sound : (below : ℕ → List Symbol → List Tree) → Sound below → (ts : List Symbol)
    (p : Parting (Unit {0})) → IsParting IsQuestion ts p
    → (q : Parting (Unit {0})) → IsParting IsColon p.behind q
    → Each (Derives 0 ts) (chosen below p.before q)
chosen_sound below h ts p e q f =
    subst (λ (r : List Symbol). Each (Derives 0 r) (chosen below p.before q))
    (sym (e.2 ∙ (ap (λ (s : Symbol). p.before ++ s ∷ p.behind) e.1
    ∙ ap (λ (r : List Symbol). p.before ++ Question ∷ r)
    (f.2 ∙ ap (λ (s : Symbol). q.before ++ s ∷ q.behind) f.1))))
    (chosen_at below h p.before q.before q.behind)

conditional_sound : (below : ℕ → List Symbol → List Tree) → Sound below → (k : ℕ)
    (ts : List Symbol) → Each (Derives k ts) (conditional_trees below k ts)
conditional_sound below h (suc k) ts = tt
conditional_sound below h zero ts =
    each_flat (IsParting IsQuestion ts) (Derives 0 ts)
    (λ p. flat_map (chosen below p.before) (partings colon p.behind))
    (λ p e. each_flat (IsParting IsColon p.behind) (Derives 0 ts) (chosen below p.before)
    (chosen_sound below h ts p e) (partings colon p.behind)
    (partings_part colon IsColon colon_fits p.behind))
    (partings question ts) (partings_part question IsQuestion question_fits ts)

lower_sound : (below : ℕ → List Symbol → List Tree) → Sound below → (k : ℕ) (ts : List Symbol)
    → Each (Derives k ts) (below (suc k) ts
    ++ (flat_map (around below) (partings (operator k) ts) ++ conditional_trees below k ts))
lower_sound below h k ts =
    each_append (Derives k ts) (below (suc k) ts)
    (flat_map (around below) (partings (operator k) ts) ++ conditional_trees below k ts)
    (each_weaken (Derives (suc k) ts) (Derives k ts) (λ t d. a_higher d) (below (suc k) ts)
    (h (suc k) ts))
    (each_append (Derives k ts) (flat_map (around below) (partings (operator k) ts))
    (conditional_trees below k ts)
    (each_flat (IsParting (IsOperator k) ts) (Derives k ts) (around below)
    (around_sound below h k ts) (partings (operator k) ts)
    (partings_part (operator k) (IsOperator k) (operator_fits k) ts))
    (conditional_sound below h k ts))

level_sound : (below : ℕ → List Symbol → List Tree) → Sound below → (k : ℕ) (ts : List Symbol)
    (b : Bool) → (k == 11) ≡ b → Each (Derives k ts) (elim b [
      | true ↦ unary_trees below ts
      | false ↦ below (suc k) ts
          ++ (flat_map (around below) (partings (operator k) ts) ++ conditional_trees below k ts)
    ])
level_sound below h k ts true e =
    subst (λ (j : ℕ). Each (Derives j ts) (unary_trees below ts)) (sym (eqb-true k 11 e))
    (unary_sound below h ts)
level_sound below h k ts false e = lower_sound below h k ts

trees_sound : (n : ℕ) → Sound (trees n)
unfolding trees
trees_sound zero k ts = tt
trees_sound (suc n) k ts = level_sound (trees n) (trees_sound n) k ts (k == 11) refl

------ each derived tree is computed

-- the trees of these symbols at each level are all there, where they take at most `n` steps
abbrev Complete : ℕ → (ℕ → List Symbol → List Tree) → Type 0
Complete n below = (k : ℕ) (ts : List Symbol) (t : Tree) → Derives k ts t
    → 12 * length ts ≤ n + k → Has t (below k ts)

level_below : (op : BinaryOperator) → level op ≤ 10
level_below Multiply = omega arith
level_below Divide = omega arith
level_below Remainder = omega arith
level_below Add = omega arith
level_below Subtract = omega arith
level_below ShiftLeft = omega arith
level_below ShiftRight = omega arith
level_below Less = omega arith
level_below Greater = omega arith
level_below LessEqual = omega arith
level_below GreaterEqual = omega arith
level_below Equal = omega arith
level_below NotEqual = omega arith
level_below And = omega arith
level_below ExclusiveOr = omega arith
level_below Or = omega arith
level_below LogicalAnd = omega arith
level_below LogicalOr = omega arith

level_within : {k : ℕ} {ts : List Symbol} {t : Tree} → Derives k ts t → k ≤ 11
level_within (a_number v) = omega arith
level_within (a_parenthesized d) = omega arith
level_within (a_unary op d) = omega arith
level_within (a_binary op d e) = omega (arith, level_below op)
level_within (a_conditional d e f) = omega arith
level_within (a_higher d) = omega (arith, level_within d)

-- a derivation at a level has more symbols than that takes steps
level_steps : {k : ℕ} {ts : List Symbol} {t : Tree} → Derives k ts t → k < 12 * length ts
level_steps (a_number v) = omega arith
level_steps (a_parenthesized {ts = ts} d) =
    omega (arith, level_steps d, length-append ts (Close ∷ []))
level_steps (a_unary op d) = omega (arith, level_steps d)
level_steps (a_binary {ts = ts} {us = us} op d e) =
    omega (arith, level_steps d, level_below op, length-append ts (Operator op ∷ us))
level_steps (a_conditional {cs = cs} {ts = ts} {us = us} d e f) =
    omega (arith, level_steps d, length-append cs (Question ∷ (ts ++ Colon ∷ us)))
level_steps (a_higher d) = omega (arith, level_steps d)

-- at a level other than that of unary expressions
lower_at : (below : ℕ → List Symbol → List Tree) (k : ℕ) (ts : List Symbol) (t : Tree) → k ≤ 10
    → Has t (below (suc k) ts
    ++ (flat_map (around below) (partings (operator k) ts) ++ conditional_trees below k ts))
    → Has t (trees_of below k ts)
lower_at below k ts t h p =
    subst (λ (b : Bool). Has t (elim b [
      | true ↦ unary_trees below ts
      | false ↦ below (suc k) ts
          ++ (flat_map (around below) (partings (operator k) ts) ++ conditional_trees below k ts)
    ]))
    (sym (ne_eqb k 11 (λ e. omega (arith, e, h)))) p

open_at : (below : ℕ → List Symbol → List Tree) (t : Tree) (us : List Symbol)
    → Has t (parenthesized below Open us) → Has t (unary_trees below (Open ∷ us))
open_at below t [] h = absurd h
open_at below t (v ∷ us) h =
    has_left t (parenthesized below Open (v ∷ us)) (prefixed below (prefix Open) (v ∷ us)) h

sign_at : (below : ℕ → List Symbol → List Tree) (t : Tree) (op : Unary) (us : List Symbol)
    → 0 < length us → Has t (map (unary op) (below 11 us))
    → Has t (unary_trees below (sign op ∷ us))
sign_at below t op [] p h = absurd (omega (arith, p))
sign_at below t op (v ∷ us) p h =
    has_right t (parenthesized below (sign op) (v ∷ us))
    (prefixed below (prefix (sign op)) (v ∷ us))
    (subst (λ (o : Option Unary). Has t (prefixed below o (v ∷ us))) (sym (prefix_at op)) h)

binary_at : (below : ℕ → List Symbol → List Tree) (op : BinaryOperator) (ts us : List Symbol)
    (a b : Tree) → Has a (below (level op) ts) → Has b (below (suc (level op)) us)
    → Has (binary op a b) (trees_of below (level op) (ts ++ Operator op ∷ us))
binary_at below op ts us a b p q =
    let all : List Symbol = ts ++ Operator op ∷ us in
    lower_at below (level op) all (binary op a b) (level_below op)
    (has_right (binary op a b) (below (suc (level op)) all)
    (flat_map (around below) (partings (operator (level op)) all)
    ++ conditional_trees below (level op) all)
    (has_left (binary op a b) (flat_map (around below) (partings (operator (level op)) all))
    (conditional_trees below (level op) all)
    (has_flat (around below) (parting ts op us) (binary op a b)
    (partings (operator (level op)) all)
    (partings_all (operator (level op)) (Operator op) op (operator_at op) ts us)
    (has_flat (λ x. map (binary op x) (below (suc (level op)) us)) a (binary op a b)
    (below (level op) ts) p
    (has_map (binary op a) b (below (suc (level op)) us) q)))))

conditional_at : (below : ℕ → List Symbol → List Tree) (cs ts us : List Symbol) (c a b : Tree)
    → Has c (below 1 cs) → Has a (below 0 ts) → Has b (below 0 us)
    → Has (conditional c a b) (trees_of below 0 (cs ++ Question ∷ (ts ++ Colon ∷ us)))
conditional_at below cs ts us c a b p q r =
    let rest : List Symbol = ts ++ Colon ∷ us in
    let all : List Symbol = cs ++ Question ∷ rest in
    let t : Tree = conditional c a b in
    has_right t (below 1 all)
    (flat_map (around below) (partings (operator 0) all) ++ conditional_trees below 0 all)
    (has_right t (flat_map (around below) (partings (operator 0) all))
    (conditional_trees below 0 all)
    (has_flat (λ w. flat_map (chosen below w.before) (partings colon w.behind))
    (parting cs tt rest) t (partings question all)
    (partings_all question Question tt refl cs rest)
    (has_flat (chosen below cs) (parting ts tt us) t (partings colon rest)
    (partings_all colon Colon tt refl ts us)
    (has_flat (λ x. flat_map (λ y. map (conditional x y) (below 0 us)) (below 0 ts)) c t
    (below 1 cs) p
    (has_flat (λ y. map (conditional c y) (below 0 us)) a t (below 0 ts) q
    (has_map (conditional c a) b (below 0 us) r))))))

trees_complete : {k : ℕ} {ts : List Symbol} {t : Tree} → Derives k ts t → (n : ℕ)
    → 12 * length ts ≤ n + k → Has t (trees n k ts)
unfolding trees
trees_complete {k} {ts} {t} d zero h = absurd (omega (arith, h, level_steps d))
trees_complete (a_number v) (suc n) h = inl refl
trees_complete (a_parenthesized {ts = ts} {t = t} d) (suc n) h =
    open_at (trees n) t (ts ++ Close ∷ [])
    (has_flat (closed (trees n)) (parting ts tt []) t (partings close (ts ++ Close ∷ []))
    (partings_all close Close tt refl ts [])
    (trees_complete d n (omega (arith, h, length-append ts (Close ∷ [])))))
trees_complete (a_unary {ts = ts} {t = t} op d) (suc n) h =
    sign_at (trees n) (unary op t) op ts (omega (arith, level_steps d))
    (has_map (unary op) t (trees n 11 ts) (trees_complete d n (omega (arith, h))))
trees_complete (a_binary {ts = ts} {us = us} {a = a} {b = b} op d e) (suc n) h =
    binary_at (trees n) op ts us a b
    (trees_complete d n (omega (arith, h, length-append ts (Operator op ∷ us))))
    (trees_complete e n (omega (arith, h, length-append ts (Operator op ∷ us))))
trees_complete (a_conditional {cs = cs} {ts = ts} {us = us} {c = c} {a = a} {b = b} d e f) (suc n) h =
    conditional_at (trees n) cs ts us c a b
    (trees_complete d n (omega (
      arith,
      h,
      length-append cs (Question ∷ (ts ++ Colon ∷ us)),
      length-append ts (Colon ∷ us),
    )))
    (trees_complete e n (omega (
      arith,
      h,
      length-append cs (Question ∷ (ts ++ Colon ∷ us)),
      length-append ts (Colon ∷ us),
    )))
    (trees_complete f n (omega (
      arith,
      h,
      length-append cs (Question ∷ (ts ++ Colon ∷ us)),
      length-append ts (Colon ∷ us),
    )))
trees_complete (a_higher {k = k} {ts = ts} {t = t} d) (suc n) h =
    lower_at (trees n) k ts t (omega (arith, level_within d))
    (has_left t (trees n (suc k) ts)
    (flat_map (around (trees n)) (partings (operator k) ts) ++ conditional_trees (trees n) k ts)
    (trees_complete d n (omega (arith, h))))

------ truth

-- what is true of the first tree with a truth, as `first_truth` finds it
abbrev IsFirst : (Tree → Type 0) → Bool → Type 0
IsFirst P b = (t : Tree) × P t × (truth t ≡ Some b)

first_case : (P : Tree → Type 0) (t : Tree) (ts : List Tree) (b : Bool) (o : Option Bool)
    → truth t ≡ o → P t → (first_truth ts ≡ Some b → IsFirst P b)
    → elim o [ Some c ↦ Some c | None ↦ first_truth ts ] ≡ Some b → IsFirst P b
first_case P t ts b (Some c) q p rest e = (t, p, q ∙ e)
first_case P t ts b None q p rest e = rest e

first_sound : (P : Tree → Type 0) (ts : List Tree) → Each P ts → (b : Bool)
    → first_truth ts ≡ Some b → IsFirst P b
first_sound P [] p b e = absurd (none-some b e)
first_sound P (t ∷ ts) p b e =
    first_case P t ts b (truth t) refl p.0 (first_sound P ts p.1 b) e

found_case : (t u : Tree) (ts : List Tree) (b : Bool) → truth t ≡ Some b → (o : Option Bool)
    → truth u ≡ o → (t ≡ u) ⊎ Has t ts → (Has t ts → (c : Bool) × (first_truth ts ≡ Some c))
    → (c : Bool) × (elim o [ Some c ↦ Some c | None ↦ first_truth ts ] ≡ Some c)
found_case t u ts b e (Some c) q p rest = (c, refl)
found_case t u ts b e None q (inl p) rest = absurd (none-some b (sym q ∙ (sym (ap truth p) ∙ e)))
found_case t u ts b e None q (inr p) rest = rest p

first_found : (t : Tree) (ts : List Tree) (b : Bool) → truth t ≡ Some b → Has t ts
    → (c : Bool) × (first_truth ts ≡ Some c)
first_found t [] b e h = absurd h
first_found t (u ∷ ts) b e h = found_case t u ts b e (truth u) refl h (first_found t ts b e)

same_symbols : (tokens : List PpTok) → symbols_of (all_spelled tokens) ≡ symbols tokens
same_symbols [] = refl
same_symbols (t ∷ tokens) = ap (λ (ss : List Symbol). symbol_of t ∷ ss) (same_symbols tokens)

derived_of : (tokens : List PpTok) (b : Bool)
    → IsFirst (Derives 0 (symbols_of (all_spelled tokens))) b → IsTruth tokens b
derived_of tokens b w = record {
  tree = w.0;
  derived = subst (λ (ss : List Symbol). Derives 0 ss w.0) (same_symbols tokens) w.1;
  holds = w.2;
}

computed_of : (tokens : List PpTok) (b : Bool) → IsTruth tokens b
    → (c : Bool) × (truth_of (all_spelled tokens) ≡ Some c)
computed_of tokens b w =
    let ss : List Symbol = symbols_of (all_spelled tokens) in
    first_found w.tree (trees (12 * length ss) 0 ss) b w.holds
    (trees_complete (subst (λ (us : List Symbol). Derives 0 us w.tree) (sym (same_symbols tokens))
    w.derived) (12 * length ss) (omega arith))

pub truth_is_derived : TruthIsDerived
truth_is_derived tokens b =
    let ss : List Symbol = symbols_of (all_spelled tokens) in (
      λ e. derived_of tokens b (first_sound (Derives 0 ss) (trees (12 * length ss) 0 ss)
          (trees_sound (12 * length ss) 0 ss) b e),
      computed_of tokens b,
    )
