-- Laws of conditions, for proofs above: what a diagram that keeps another one's nodes keeps
-- besides, and of the parts of a condition.
use Rattle.std.specs.Prelude.{◌≡◌, ◌==◌, ◌+◌, ◌<◌, ◌≤◌, ℕ, Bool, true, false, ◌&&◌, ◌||◌, not, List, [], ◌∷◌, ◌++◌, cond, length, refl}
use Rattle.std.specs.List.{AllPairs, list_any, slice_index_or}
use Rattle.std.proofs.Common.{sym, ap, ◌∙◌, add-zero, arith, suc, zero, zero-add}
use Rattle.std.proofs.Math.Nat.{le_refl, le_trans}
use Rattle.std.proofs.lemmas.Bool.{both_ways, false_from_ne_true, true_from_ne_false, true≢false}
use Rattle.std.proofs.lemmas.List.Folds.{list_all-append}
use Rattle.std.proofs.lemmas.List.Sums.{sum_by-cons, sum_by-append}
use Rattle.hv_cond.specs.declared.conditions.Cond.{Cond}
use Rattle.hv_cond.specs.declared.conditions.Node.{Node}
use Rattle.hv_cond.specs.declared.conditions.Node.TheVariants.{Truth, Falsity, Branch}
use Rattle.hv_cond.specs.declared.nodes.Decision.{Decision}
use Rattle.hv_cond.specs.Diagram.{AllNodes, AreDisjoint, Diagram, Implies, IsLeast, IsNever, IsNode, Keeps, SameMeaning, all_hold, holds, holds_in, node, node_in, size, top, value_of}
use Rattle.hv_cond.specs.Parts.{count_satisfied, IsPartition, NoneFalse}

-- a diagram keeps its own nodes
pub Keeps-refl : (d : Diagram) → Keeps d d
Keeps-refl d = record {
  variables = refl;
  order = refl;
  stays = λ c l. l;
  meaning =
      λ c l values. refl;
  same_node = λ c l. refl;
  same_reach = λ c l. refl;
  grows =
      le_refl (size d);
}

-- what is kept twice is kept
pub Keeps-trans : {old mid new : Diagram} → Keeps old mid → Keeps mid new → Keeps old new
Keeps-trans e f =
    record {
      variables = f.variables ∙ e.variables;
      order = f.order ∙ e.order;
      stays = λ c l. f.stays c (e.stays c l);
      meaning = λ c l values. f.meaning c (e.stays c l) values ∙ e.meaning c l values;
      same_node = λ c l. f.same_node c (e.stays c l) ∙ e.same_node c l;
      same_reach = λ c l. f.same_reach c (e.stays c l) ∙ e.same_reach c l;
      grows = le_trans e.grows f.grows;
    }

-- a condition that is never kept true stays so
pub IsNever-kept : {old new : Diagram} → Keeps old new → (c : Cond) → IsNode old c → IsNever old c
    → IsNever new c
IsNever-kept e c l never = λ values len. e.meaning c l values ∙ never values (len ∙ e.variables)

-- disjoint conditions stay so
pub AreDisjoint-kept : {old new : Diagram} → Keeps old new → (a b : Cond) → IsNode old a
    → IsNode old b → AreDisjoint old a b → AreDisjoint new a b
AreDisjoint-kept e a b first second disjoint = λ values len holds_a. e.meaning b second values
    ∙ disjoint values (len ∙ e.variables) (sym (e.meaning a first values) ∙ holds_a)

-- an implication stays one
pub Implies-kept : {old new : Diagram} → Keeps old new → (a b : Cond) → IsNode old a
    → IsNode old b → Implies old a b → Implies new a b
Implies-kept e a b first second implies = λ values len holds_a. e.meaning b second values
    ∙ implies values (len ∙ e.variables) (sym (e.meaning a first values) ∙ holds_a)

-- two conditions are disjoint where their conjunction never holds
pub AreDisjoint-from_conjunction : (d : Diagram) (a b both : Cond)
    → ((values : List Bool) → holds d both values ≡ (holds d a values && holds d b values))
    → IsNever d both → AreDisjoint d a b
AreDisjoint-from_conjunction d a b both meaning never =
    λ values len first. sym (ap (λ (x : Bool). x && holds d b values) first)
    ∙ sym (meaning values) ∙ never values len

-- and their conjunction never holds where they are disjoint
pub IsNever-from_disjoint : (d : Diagram) (a b both : Cond)
    → ((values : List Bool) → holds d both values ≡ (holds d a values && holds d b values))
    → AreDisjoint d a b → IsNever d both
IsNever-from_disjoint d a b both meaning disjoint = λ values len. meaning values
    ∙ unless (holds d a values) (holds d b values) (disjoint values len)
  where
    unless : (x y : Bool) → (x ≡ true → y ≡ false) → (x && y) ≡ false
    unless true y h = h refl
    unless false y h = refl

-- the first implies the second where it never holds without it
pub Implies-from_conjunction : (d : Diagram) (a b opposite both : Cond)
    → ((values : List Bool) → holds d opposite values ≡ not (holds d b values))
    → ((values : List Bool) → holds d both values ≡ (holds d a values && holds d opposite values))
    → IsNever d both → Implies d a b
Implies-from_conjunction d a b opposite both is_not is_both never = λ values len first.
    true_from_ne_false (holds d b values) (λ second.
    let other : holds d opposite values ≡ true = is_not values ∙ ap not second in
    both_ways (holds d both values) (never values len) (is_both values
    ∙ ap (λ (x : Bool). x && holds d opposite values) first ∙ other))

-- of two conditions with the same meaning both keep it
pub SameMeaning-kept : {old new : Diagram} → Keeps old new → (a b : Cond)
    → IsNode old a → IsNode old b → SameMeaning old a b → SameMeaning new a b
SameMeaning-kept e a b first second same =
    λ values len. e.meaning a first values ∙ same values (len ∙ e.variables)
    ∙ sym (e.meaning b second values)

-- a condition that never holds in the new diagram never held
pub IsNever-before : {old new : Diagram} → Keeps old new → (c : Cond)
    → IsNode old c → IsNever new c → IsNever old c
IsNever-before e c l never =
    λ values len. sym (e.meaning c l values) ∙ never values (len ∙ sym e.variables)

-- the least assignment of a condition stays so
pub IsLeast-kept : {old new : Diagram} → Keeps old new → (c : Cond) (values : List Bool)
    → IsNode old c → IsLeast old c values → IsLeast new c values
IsLeast-kept e c values l least =
    record {
      all_variables = least.all_variables ∙ sym e.variables;
      satisfies = e.meaning c l values ∙ least.satisfies;
      first = λ others len h. least.first others (len
          ∙ e.variables) (sym (e.meaning c l others) ∙ h);
    }

-- nodes stay nodes
pub AllNodes-kept : {old new : Diagram} → Keeps old new → (conds : List Cond)
    → AllNodes old conds → AllNodes new conds
AllNodes-kept e [] nodes = tt
AllNodes-kept e (c ∷ conds) nodes = (e.stays c nodes.0, AllNodes-kept e conds nodes.1)

-- two lists of nodes are one
pub AllNodes-append : (d : Diagram) (xs ys : List Cond) → AllNodes d xs → AllNodes d ys
    → AllNodes d (xs ++ ys)
AllNodes-append d [] ys first second = second
AllNodes-append d (x ∷ xs) ys first second = (first.0, AllNodes-append d xs ys first.1 second)

-- conditions hold together under the same values
pub all_hold-kept : {old new : Diagram} → Keeps old new → (conds : List Cond)
    → AllNodes old conds → (values : List Bool)
    → all_hold new conds values ≡ all_hold old conds values
all_hold-kept e [] nodes values = refl
all_hold-kept {old} {new} e (c ∷ conds) nodes values =
    ap (λ (b : Bool). b && all_hold new conds values) (e.meaning c nodes.0 values)
    ∙ ap (λ (b : Bool). holds old c values && b) (all_hold-kept e conds nodes.1 values)

-- two lists hold together where each does
pub all_hold-append : (d : Diagram) (xs ys : List Cond) (values : List Bool)
    → all_hold d (xs ++ ys) values ≡ (all_hold d xs values && all_hold d ys values)
all_hold-append d xs ys values = list_all-append (λ (c : Cond). holds d c values) xs ys

-- what none of them is stays so
pub NoneFalse-kept : {old new : Diagram} → Keeps old new → (conds : List Cond)
    → AllNodes old conds → NoneFalse old conds → NoneFalse new conds
NoneFalse-kept e [] nodes none = tt
NoneFalse-kept e (c ∷ conds) nodes none =
    (λ never. none.0 (IsNever-before e c nodes.0 never), NoneFalse-kept e conds nodes.1 none.1)

-- two lists of which none is false are one
pub NoneFalse-append : (d : Diagram) (xs ys : List Cond) → NoneFalse d xs → NoneFalse d ys
    → NoneFalse d (xs ++ ys)
NoneFalse-append d [] ys first second = second
NoneFalse-append d (x ∷ xs) ys first second = (first.0, NoneFalse-append d xs ys first.1 second)

-- how many of the conditions an assignment satisfies stays so
pub count_satisfied-kept : {old new : Diagram} → Keeps old new → (conds : List Cond)
    → AllNodes old conds → (values : List Bool)
    → count_satisfied new conds values ≡ count_satisfied old conds values
count_satisfied-kept e [] nodes values = refl
count_satisfied-kept {old} {new} e (c ∷ conds) nodes values =
    sum_by-cons _ c conds
    ∙ ap (λ (b : Bool). cond b 1 0 + count_satisfied new conds values) (e.meaning c nodes.0 values)
    ∙ ap (λ (n : ℕ). cond (holds old c values) 1 0 + n)
    (count_satisfied-kept e conds nodes.1 values)
    ∙ sym (sum_by-cons _ c conds)

-- of two lists an assignment satisfies as many as of each
pub count_satisfied-append : (d : Diagram) (xs ys : List Cond) (values : List Bool)
    → count_satisfied d (xs ++ ys) values
    ≡ count_satisfied d xs values + count_satisfied d ys values
count_satisfied-append d xs ys values = sum_by-append _ xs ys

-- the parts of a condition stay its parts
pub IsPartition-kept : {old new : Diagram} → Keeps old new → (c : Cond) (parts : List Cond)
    → IsNode old c → IsPartition old c parts → IsPartition new c parts
IsPartition-kept {old} {new} e c parts l p =
    record {
      nodes = AllNodes-kept e parts p.nodes;
      none_false = NoneFalse-kept e parts p.nodes p.none_false;
      one = λ values. count_satisfied-kept e parts p.nodes values ∙ p.one values
          ∙ ap (λ (x : Bool). cond x 1 0) (sym (e.meaning c l values));
    }

-- an assignment satisfies one of the conditions exactly where it satisfies some number of them
satisfied : (d : Diagram) (conds : List Cond) (values : List Bool)
    → (b : Bool) → count_satisfied d conds values ≡ cond b 1 0
    → list_any (λ c. holds d c values) conds ≡ b
satisfied d [] values true e = absurd (omega arith)
satisfied d [] values false e = refl
satisfied d (c ∷ conds) values b e =
    split (holds d c values) b (list_any (λ (x : Cond). holds d x values) conds)
    (count_satisfied d conds values) (sym (sum_by-cons _ c conds) ∙ e)
    (λ e. satisfied d conds values false e) (λ e. satisfied d conds values b e)
  where
    split : (h b rest : Bool) (n : ℕ) → cond h 1 0 + n ≡ cond b 1 0
        → (n ≡ 0 → rest ≡ false) → (n ≡ cond b 1 0 → rest ≡ b) → (h || rest) ≡ b
    split true true rest n e none same = refl
    split true false rest n e none same = absurd (omega arith)
    split false b rest n e none same = same (omega arith)

-- a condition holds exactly where one of its parts does
pub IsPartition-together : (d : Diagram) (c : Cond) (parts : List Cond) → IsPartition d c parts
    → (values : List Bool) → list_any (λ part. holds d part values) parts ≡ holds d c values
IsPartition-together d c parts p values = satisfied d parts values (holds d c values) (p.one values)

-- an assignment that satisfies the first satisfies one more than among the rest
one_more : (h : Bool) (all rest : ℕ) → all ≡ cond h 1 0 + rest → h ≡ true → rest + 1 ≤ all
one_more true all rest e h = omega arith
one_more false all rest e h = absurd (true≢false (sym h))

-- an assignment that satisfies one of the conditions
satisfied_once : (d : Diagram) (values : List Bool) (conds : List Cond) (j : ℕ) (e : Cond)
    → j < length conds
    → holds d (slice_index_or conds j e) values ≡ true → 1 ≤ count_satisfied d conds values
satisfied_once d values [] j e l h = absurd (omega arith)
satisfied_once d values (c ∷ conds) zero e l h =
    let all = sum_by-cons (λ (x : Cond). cond (holds d x values) 1 0) c conds in
    let more =
    one_more (holds d c values) (count_satisfied d (c ∷ conds) values)
    (count_satisfied d conds values) all h in
    omega arith
satisfied_once d values (c ∷ conds) (suc j) e l h =
    let all = sum_by-cons (λ (x : Cond). cond (holds d x values) 1 0) c conds in
    let later = satisfied_once d values conds j e (omega arith) h in
    omega arith

-- an assignment that satisfies two of the conditions
satisfied_twice : (d : Diagram) (values : List Bool) (conds : List Cond) (i j : ℕ) (e : Cond)
    → i < j → j < length conds
    → holds d (slice_index_or conds i e) values ≡ true
    → holds d (slice_index_or conds j e) values ≡ true
    → 2 ≤ count_satisfied d conds values
satisfied_twice d values [] i j e before l first second = absurd (omega arith)
satisfied_twice d values (c ∷ conds) i zero e before l first second = absurd (omega arith)
satisfied_twice d values (c ∷ conds) zero (suc j) e before l first second =
    let all = sum_by-cons (λ (x : Cond). cond (holds d x values) 1 0) c conds in
    let more =
    one_more (holds d c values) (count_satisfied d (c ∷ conds) values)
    (count_satisfied d conds values) all first in
    let later = satisfied_once d values conds j e (omega arith) second in
    omega arith
satisfied_twice d values (c ∷ conds) (suc i) (suc j) e before l first second =
    let all = sum_by-cons (λ (x : Cond). cond (holds d x values) 1 0) c conds in
    let later = satisfied_twice d values conds i j e (omega arith) (omega arith) first second in
    omega arith

-- no two parts hold together
pub IsPartition-disjoint : (d : Diagram) (c : Cond) (parts : List Cond) → IsPartition d c parts
    → AllPairs (λ a b. AreDisjoint d a b) parts
IsPartition-disjoint d c parts p =
    λ i j e before within values len first.
    false_from_ne_true (holds d (slice_index_or parts j e) values) (λ second.
    let two = satisfied_twice d values parts i j e before within first second in
    let one = p.one values in
    most_one (holds d c values) (count_satisfied d parts values) one two)
  where
    most_one : (b : Bool) (n : ℕ) → n ≡ cond b 1 0 → 2 ≤ n → ⊥
    most_one true n e l = omega arith
    most_one false n e l = omega arith

-- an assignment that satisfies one of the conditions at most
counted : (d : Diagram) (conds : List Cond) (values : List Bool)
    → count_satisfied d conds values ≤ 1
    → count_satisfied d conds values ≡ cond (list_any (λ c. holds d c values) conds) 1 0
counted d [] values l = refl
counted d (c ∷ conds) values l =
    let all = sum_by-cons (λ (x : Cond). cond (holds d x values) 1 0) c conds in
    all ∙ split (holds d c values) (list_any (λ (x : Cond). holds d x values) conds)
    (count_satisfied d conds values) (omega arith) (λ m. counted d conds values m)
  where
    split : (h any : Bool) (n : ℕ) → cond h 1 0 + n ≤ 1 → (n ≤ 1 → n ≡ cond any 1 0)
        → cond h 1 0 + n ≡ cond (h || any) 1 0
    split true any n l rest = omega arith
    split false any n l rest = zero-add n ∙ rest (omega arith)

-- conditions that are not false, of which no assignment satisfies two, are the parts of what they
-- are together
pub IsPartition-from : (d : Diagram) (c : Cond) (parts : List Cond) → AllNodes d parts
    → NoneFalse d parts
    → ((values : List Bool) → count_satisfied d parts values ≤ 1)
    → ((values : List Bool) → list_any (λ part. holds d part values) parts ≡ holds d c values)
    → IsPartition d c parts
IsPartition-from d c parts nodes none_false most together =
    record {
      nodes = nodes;
      none_false = none_false;
      one = λ values. counted d parts values (most values)
          ∙ ap (λ (b : Bool). cond b 1 0) (together values);
    }

-- a condition that is not false is its only part
pub IsPartition-whole : (d : Diagram) (c : Cond) → IsNode d c → (¬ IsNever d c)
    → IsPartition d c (c ∷ [])
IsPartition-whole d c node possible =
    record {
      nodes = (node, tt);
      none_false = (possible, tt);
      one =
          λ values. sum_by-cons (λ (x : Cond). cond (holds d x values) 1 0) c []
          ∙ add-zero (cond (holds d c values) 1 0);
    }

-- a condition that never holds has no part
pub IsPartition-none : (d : Diagram) (c : Cond)
    → ((values : List Bool) → holds d c values ≡ false) → IsPartition d c []
IsPartition-none d c never =
    record {
      nodes = tt;
      none_false = tt;
      one =
          λ values. ap (λ (b : Bool). cond b 1 0) (sym (never values));
    }

-- the parts of two conditions that never hold together are the parts of both
pub IsPartition-append : (d : Diagram) (a b c : Cond) (xs ys : List Cond) → IsPartition d a xs
    → IsPartition d b ys
    → ((values : List Bool) → (holds d a values && holds d b values) ≡ false)
    → ((values : List Bool) → holds d c values ≡ (holds d a values || holds d b values))
    → IsPartition d c (xs ++ ys)
IsPartition-append d a b c xs ys p q apart both =
    record {
      nodes = AllNodes-append d xs ys p.nodes q.nodes;
      none_false = NoneFalse-append d xs ys p.none_false q.none_false;
      one = λ values.
          count_satisfied-append d xs ys values
          ∙ ap (λ (n : ℕ). n + count_satisfied d ys values) (p.one values)
          ∙ ap (λ (n : ℕ). cond (holds d a values) 1 0 + n) (q.one values)
          ∙ either (holds d a values) (holds d b values) (apart values)
          ∙ ap (λ (x : Bool). cond x 1 0) (sym (both values));
    }
  where
    either : (x y : Bool) → (x && y) ≡ false → cond x 1 0 + cond y 1 0 ≡ cond (x || y) 1 0
    either true true e = absurd (true≢false e)
    either true false e = refl
    either false true e = refl
    either false false e = refl

-- a branch and truth are not falsity
not_falsity : (i : ℕ) (low high : Cond) → Branch i low high ≡ Falsity → ⊥
not_falsity i low high e = cc

truth_is_not : Truth ≡ Falsity → ⊥
truth_is_not e = cc

-- the same among branches
nowhere : (ds : List Decision) (c : Cond) → node_in ds c ≡ Falsity → (values : List Bool)
    → holds_in ds c values ≡ false
unfolding holds_in node_in
nowhere [] c is values = terminal (c.index == 1) is
  where
    terminal : (b : Bool) → cond b Truth Falsity ≡ Falsity → b ≡ false
    terminal true e = absurd (truth_is_not e)
    terminal false e = refl
nowhere (d ∷ older) c is values =
    split (c.index == top older) (node_in older c) (holds_in older c values) is
    (λ e. nowhere older c e values)
  where
    split : (b : Bool) (n : Node) (h : Bool) → cond b (Branch d.variable d.low d.high) n ≡ Falsity
        → (n ≡ Falsity → h ≡ false)
        → cond b
        (cond (value_of values d.variable) (holds_in older d.high values)
        (holds_in older d.low values)) h
        ≡ false
    split true n h e rest = absurd (not_falsity d.variable d.low d.high e)
    split false n h e rest = rest e

-- where a condition's node is falsity's, no values satisfy it
pub holds-falsity : (d : Diagram) (c : Cond) → node d c ≡ Falsity → (values : List Bool)
    → holds d c values ≡ false
unfolding holds node
holds-falsity d c is values = nowhere d.decisions c is values
