-- Many conditions joined to one, in an order of their own.
use Rattle.std.specs.Prelude.{Result, Ok, Err, IfOk}
use Rattle.std.specs.List.{All, list_all, list_any}
use Rattle.std.specs.List.Sorted.{IsPermutation}
use Rattle.std.proofs.Common.{◌≡◌, ℕ, zero, suc, ◌+◌, ◌<◌, ◌≤◌, Bool, true, false, ◌&&◌, ◌||◌, not, List, [], ◌∷◌, length, map, take, get_or, refl, sym, subst, ap, ◌∙◌, arith}
use Rattle.std.proofs.lemmas.List.{get_or-map, length-map, take_all, take_more}
use Rattle.std.proofs.lemmas.List.Folds.{list_all-append, list_all-map}
use Rattle.std.proofs.lemmas.List.Sorted.{list_any-IsPermutation}
use Rattle.std.proofs.lemmas.Map.Views.{All-map-IsPermutation}
use Rattle.hv_cond.specs.Diagram.{AllNodes, Diagram, IsNode, Keeps, all_hold, holds}
use Rattle.hv_cond.specs.Laws.{Keeps-refl, Keeps-trans}
use Rattle.hv_cond.specs.declared.conditions.Cond.{Cond}
use Rattle.hv_cond.specs.declared.joins.Ranked.{Ranked}
use Rattle.hv_cond.specs.working.Joins.{cond_in}

-- each of the nodes is one
pub AllNodes-at : (d : Diagram) (conds : List Cond) (k : ℕ) (c : Cond) → AllNodes d conds
    → k < length conds → IsNode d (get_or conds k c)
AllNodes-at d [] k c nodes l = absurd (omega arith)
AllNodes-at d (x ∷ conds) zero c nodes l = nodes.0
AllNodes-at d (x ∷ conds) (suc k) c nodes l = AllNodes-at d conds k c nodes.1 (omega arith)

-- and with its rank
pub ranked_node : (d : Diagram) (parts : List Ranked) (k : ℕ) (r : Ranked)
    → AllNodes d (map cond_in parts) → k < length parts → IsNode d (get_or parts k r).cond
ranked_node d parts k r nodes l =
    subst (IsNode d) (get_or-map cond_in parts k r r.cond l)
    (AllNodes-at d (map cond_in parts) k r.cond nodes
    (omega (arith, length-map parts cond_in, l)))

-- the condition of so many is made
pub record IsJoining (old now : Diagram) (all : Cond) (parts : List Ranked) (k : ℕ) : Type 0 where
  pub keeps : Keeps old now
  pub node : IsNode now all
  pub meaning : (values : List Bool)
      → holds now all values ≡ all_hold old (take k (map cond_in parts)) values

-- of none
pub joining_start : (store : Diagram) (all : Cond) (parts : List Ranked) → IsNode store all
    → ((values : List Bool) → holds store all values ≡ true) → IsJoining store store all parts 0
joining_start store all parts n h = record { keeps = Keeps-refl store; node = n; meaning = h }

-- a test of one more
list_all-more : {X : Type 0} (p : X → Bool) (xs : List X) (k : ℕ) (d : X) → k < length xs
    → list_all p (take (k + 1) xs) ≡ (list_all p (take k xs) && p (get_or xs k d))
list_all-more p xs k d l =
    ap (list_all p) (take_more xs k d l)
    ∙ (list_all-append p (take k xs) (get_or xs k d ∷ [])
    ∙ ap (λ b. list_all p (take k xs) && b) (and_true (p (get_or xs k d))))
  where
    and_true : (a : Bool) → (a && true) ≡ a
    and_true true = refl
    and_true false = refl

-- one more
pub joining_step : (old mid now : Diagram) (all both : Cond) (parts : List Ranked) (k : ℕ)
    (r : Ranked) → AllNodes old (map cond_in parts) → IsJoining old mid all parts k
    → k < length parts → Keeps mid now → IsNode now both
    → ((values : List Bool) → holds now both values ≡ (holds mid all values &&
    holds mid (get_or parts k r).cond values))
    → IsJoining old now both parts (k + 1)
joining_step old mid now all both parts k r nodes g l kept n f =
    let conds = map cond_in parts in
    let part = (get_or parts k r).cond in
    let below : k < length conds = omega (arith, length-map parts cond_in, l) in
    record {
      keeps = Keeps-trans g.keeps kept;
      node = n;
      meaning = λ values.
          f values
          ∙ (ap (λ (b : Bool). b && holds mid part values) (g.meaning values)
          ∙ (ap (λ (b : Bool). all_hold old (take k conds) values && b)
          (g.keeps.meaning part (ranked_node old parts k r nodes l) values
          ∙ ap (λ (c : Cond). holds old c values) (sym (get_or-map cond_in parts k r r.cond l)))
          ∙ sym (list_all-more (λ (c : Cond). holds old c values) conds k r.cond below)));
    }

-- of all
pub joined_meaning : (old now : Diagram) (all : Cond) (parts : List Ranked) (k : ℕ)
    → IsJoining old now all parts k → length parts ≤ k → (values : List Bool)
    → holds now all values ≡ all_hold old (map cond_in parts) values
joined_meaning old now all parts k g l = λ values.
    g.meaning values
    ∙ ap (λ (xs : List Cond). all_hold old xs values)
    (take_all k (map cond_in parts) (omega (arith, length-map parts cond_in, l)))

-- a test passes a list and its permutation alike
list_all-permuted : {X : Type 0} (p : X → Bool) (xs ys : List X) → IsPermutation xs ys
    → list_all p xs ≡ list_all p ys
list_all-permuted p xs ys h =
    list_all-any p xs ∙ (ap not (list_any-IsPermutation (λ x. not (p x)) xs ys h)
    ∙ sym (list_all-any p ys))
  where
    not_or : (a b : Bool) → (a && not b) ≡ not (not a || b)
    not_or true b = refl
    not_or false b = refl

    list_all-any : {X : Type 0} (p : X → Bool) (xs : List X)
        → list_all p xs ≡ not (list_any (λ x. not (p x)) xs)
    list_all-any p [] = refl
    list_all-any p (x ∷ xs) = ap (λ b. p x && b) (list_all-any p xs)
        ∙ not_or (p x) (list_any (λ x. not (p x)) xs)

-- conditions in another order hold together under the same values
pub all_hold-permuted : (d : Diagram) (conds : List Cond) (parts sorted : List Ranked)
    → map cond_in parts ≡ conds → IsPermutation parts sorted → (values : List Bool)
    → all_hold d (map cond_in sorted) values ≡ all_hold d conds values
all_hold-permuted d conds parts sorted e h values =
    let hold : Cond → Bool = λ (c : Cond). holds d c values in
    list_all-map hold cond_in sorted
    ∙ (sym (list_all-permuted (λ (r : Ranked). hold r.cond) parts sorted h)
    ∙ (sym (list_all-map hold cond_in parts)
    ∙ ap (λ (xs : List Cond). all_hold d xs values) e))

-- nodes, as what holds of each
all_are : (d : Diagram) (conds : List Cond) → AllNodes d conds → All (IsNode d) conds
all_are d conds nodes = λ k c l. AllNodes-at d conds k c nodes l

are_all : (d : Diagram) (conds : List Cond) → All (IsNode d) conds → AllNodes d conds
are_all d [] all = tt
are_all d (c ∷ conds) all =
    (all 0 c (omega arith), are_all d conds (λ k x l. all (suc k) x (omega arith)))

-- nodes in another order
pub AllNodes-permuted : (d : Diagram) (conds : List Cond) (parts sorted : List Ranked)
    → map cond_in parts ≡ conds → IsPermutation parts sorted → AllNodes d conds
    → AllNodes d (map cond_in sorted)
AllNodes-permuted d conds parts sorted e h nodes =
    are_all d (map cond_in sorted) (All-map-IsPermutation cond_in (IsNode d) parts sorted h
    (all_are d (map cond_in parts) (subst (AllNodes d) (sym e) nodes)))

-- what the condition means, by an equal test
pub meaning_by : {E : Type 0} (r : Result Cond E) (d : Diagram) (f g : List Bool → Bool)
    → ((values : List Bool) → f values ≡ g values)
    → IfOk r (λ c. (values : List Bool) → holds d c values ≡ f values)
    → IfOk r (λ c. (values : List Bool) → holds d c values ≡ g values)
meaning_by (Ok c) d f g e h = λ values. h values ∙ e values
meaning_by (Err x) d f g e h = tt
