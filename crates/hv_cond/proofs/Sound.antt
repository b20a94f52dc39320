-- What the calls of a store leave and answer, of the diagram that callers see.
use Rattle.std.proofs.Common.{◌≡◌, ◌==◌, ◌+◌, ◌*◌, ◌<◌, ◌≤◌, ℕ, Bool, true, false, cond, not, List, ◌++◌, length, map, get_or, Some, Result, Ok, Err, IfOk, refl, sym, ap, ◌∙◌, ⊎_elim, subst, arith, length-append}
use Rattle.std.specs.List.{range_with_len}
use Rattle.std.specs.declared.alloc.AllocError.{AllocError}
use Rattle.std.proofs.lemmas.Bool.{cond-true, cond-false, cases_lt, cases_eq, eq-eqb, ne_eqb}
use Rattle.std.proofs.lemmas.List.{map-append}
use Rattle.hv_cond.specs.declared.complements.Complements.{Complements}
use Rattle.hv_cond.specs.declared.conditions.Cond.{Cond}
use Rattle.hv_cond.specs.declared.conditions.Node.{Node}
use Rattle.hv_cond.specs.declared.conditions.Node.TheVariants.{Truth, Falsity, Branch}
use Rattle.hv_cond.specs.declared.connectives.Connective.{Connective}
use Rattle.hv_cond.specs.declared.nodes.Decision.{Decision}
use Rattle.hv_cond.specs.declared.nodes.Nodes.{Nodes}
use Rattle.hv_cond.specs.declared.orders.Order.{Order}
use Rattle.hv_cond.specs.declared.results.Results.{Results}
use Rattle.hv_cond.specs.Diagram.{Describes, IsChoice, IsEarlier, IsNever, IsNode, Keeps, SameMeaning, TestsLater, holds, holds_in, node, node_in, nodes, size, top, value_of}
use Rattle.hv_cond.specs.working.Complements.{complement_of, AreComplements, GrowsBy, IsComplement}
use Rattle.hv_cond.specs.working.Connectives.{apply, AreAnswers, Grows, IsAnswer}
use Rattle.hv_cond.specs.working.Nodes.{choice, newest_first, level, Extends, IsBranch, IsOrdered, IsReduced, MayBranch}
use Rattle.hv_cond.specs.working.Orders.{IsOrder, by_position, numbered, seen}
use Rattle.hv_cond.specs.working.Results.{known}
use Rattle.hv_cond.proofs.Branches.{Cond-same, branch_of, level-terminal, node_in-terminal}
use Rattle.hv_cond.proofs.Canonical.{canonical}
use Rattle.hv_cond.proofs.Combining.{truth_holds, falsity_fails}
use Rattle.hv_cond.proofs.Counts.{open_pairs-le, open_among-le}
use Rattle.hv_cond.proofs.Lifts.{holds_in-append, node_in-append}
use Rattle.hv_cond.proofs.Reached.{reached, reached-append, reached-within, reached-closed, length-passing}
use Rattle.hv_cond.proofs.Seen.{IsNode-in, IsNode-out, by_number, by_position-by_number, holds-seen, length-by_number, node-seen, nodes-seen, numbered_node, size-seen, value-by_position}
use Rattle.hv_cond.proofs.Tables.{Extends-node, Extends-holds}

-- a table that extends another keeps its nodes
pub Keeps-from : (order : Order) {old new : Nodes} → Extends old new → Keeps (seen order old) (seen order new)
unfolding IsNode holds node nodes size
Keeps-from order {old} {new} e =
    let name = numbered order.variables.items in
    let olds = map name (newest_first old) in
    let added = map name e.added in
    let all : map name (newest_first new) ≡ added ++ olds = ap (map name) e.decisions ∙ map-append name e.added (newest_first old) in
    record {
      variables = e.variables;
      order = refl;
      stays = λ c l. IsNode-out order new c (Extends-node e c (IsNode-in order old c l));
      meaning = λ c l v. rw all (holds_in-append added olds c v l);
      same_node = λ c l. rw all (node_in-append added olds c l);
      same_reach = λ c l. rw all (reached-append added olds c l);
      grows = (let len = ap length all ∙ length-append added olds in omega arith);
    }

-- the number of branches reached, as the length of their list
reached-length : (order : Order) (old : Nodes) (c : Cond) → length (reached (newest_first old) c) ≡ nodes (seen order old) c
reached-length order old c = length-passing _ (range_with_len 2 (length (newest_first old))) ∙ sym (nodes-seen order old c)

-- what is added for a connective
pub bound_by_pairs : (k : Connective) (order : Order) (old new : Nodes) (before after : Results) (a b : Cond) → IsReduced old
    → IsNode (seen order old) a → IsNode (seen order old) b → Grows k old new before after a b
    → size (seen order new) ≤ size (seen order old) + (nodes (seen order old) a + 1) * (nodes (seen order old) b + 1)
bound_by_pairs k order old new before after a b r first_seen second_seen g =
    let first = IsNode-in order old a first_seen in
    let second = IsNode-in order old b second_seen in
    let ds = newest_first old in
    let xs = reached ds a in
    let ys = reached ds b in
    let n = old.variables in
    let step = g.bound xs ys (reached-closed n ds r.ordered a first) (reached-closed n ds r.ordered b second) (reached-within ds a first) (reached-within ds b second) in
    let all = open_pairs-le (known before) xs ys in
    let product : length xs * length ys ≡ nodes (seen order old) a * nodes (seen order old) b =
    ap (λ (m : ℕ). m * length ys) (reached-length order old a) ∙ ap (λ (m : ℕ). nodes (seen order old) a * m) (reached-length order old b) in
    let size_old = size-seen order old in
    let size_new = size-seen order new in
    omega arith

-- what is added for a complement
pub bound_by_branches : (order : Order) (old new : Nodes) (before after : Complements) (a : Cond) → IsReduced old
    → IsNode (seen order old) a → GrowsBy old new before after a
    → size (seen order new) ≤ size (seen order old) + nodes (seen order old) a
bound_by_branches order old new before after a r first_seen g =
    let first = IsNode-in order old a first_seen in
    let ds = newest_first old in
    let xs = reached ds a in
    let step = g.bound xs (reached-closed old.variables ds r.ordered a first) (reached-within ds a first) in
    let all = open_among-le (complement_of before) xs in
    let len = reached-length order old a in
    let size_old = size-seen order old in
    let size_new = size-seen order new in
    omega arith

-- the order of a table stays that of a table which extends it
pub order_of_new : (order : Order) {old new : Nodes} → Extends old new → IsOrder old.variables order → IsOrder new.variables order
order_of_new order e io = subst (λ (n : ℕ). IsOrder n order) (sym e.variables) io

-- a node means in the new table what it meant
old_meaning : (order : Order) {old new : Nodes} → Extends old new → IsOrder old.variables order → IsReduced old
    → (c : Cond) → IsNode (seen order old) c → (v : List Bool)
    → holds_in (newest_first new) c (by_position order.variables.items v) ≡ holds (seen order old) c v
old_meaning order {old} {new} e io r c l v =
    let node = IsNode-in order old c l in
    Extends-holds e c (by_position order.variables.items v) node ∙ sym (holds-seen order old io r c node v)

-- what an answer means to a caller
pub meaning_of_answer : (k : Connective) (order : Order) (old new : Nodes) (a b : Cond) (r : Result Cond AllocError)
    → IsOrder old.variables order → IsReduced old → IsReduced new → Extends old new
    → IsNode (seen order old) a → IsNode (seen order old) b → IfOk r (IsAnswer k (newest_first new) a b)
    → IfOk r (λ c. (v : List Bool) → holds (seen order new) c v ≡ apply k (holds (seen order old) a v) (holds (seen order old) b v))
meaning_of_answer k order old new a b (Ok c) io ro rn e first second h =
    λ v.
    let w = by_position order.variables.items v in
    holds-seen order new (order_of_new order e io) rn c h.node v ∙ h.meaning w
    ∙ ap (λ (x : Bool). apply k x (holds_in (newest_first new) b w)) (old_meaning order e io ro a first v)
    ∙ ap (λ (x : Bool). apply k (holds (seen order old) a v) x) (old_meaning order e io ro b second v)
meaning_of_answer k order old new a b (Err x) io ro rn e first second h = tt

-- what a complement means to a caller
pub meaning_of_complement : (order : Order) (old new : Nodes) (a : Cond) (r : Result Cond AllocError)
    → IsOrder old.variables order → IsReduced old → IsReduced new → Extends old new
    → IsNode (seen order old) a → IfOk r (IsComplement (newest_first new) a)
    → IfOk r (λ c. (v : List Bool) → holds (seen order new) c v ≡ not (holds (seen order old) a v))
meaning_of_complement order old new a (Ok c) io ro rn e first h =
    λ v.
    let w = by_position order.variables.items v in
    holds-seen order new (order_of_new order e io) rn c h.node v ∙ h.meaning w ∙ ap not (old_meaning order e io ro a first v)
meaning_of_complement order old new a (Err x) io ro rn e first h = tt

-- a variable may stand in the table
pub var_may_branch : (old : Nodes) (i : ℕ) → i < old.variables → MayBranch old (record { variable = i; low = record { index = 0 }; high = record { index = 1 } })
var_may_branch old i l =
    let low = level-terminal old.variables (newest_first old) (record { index = 0 }) (omega arith) in
    let high = level-terminal old.variables (newest_first old) (record { index = 1 }) (omega arith) in
    record { in_range = l; low_node = omega arith; high_node = omega arith; low_later = omega arith; high_later = omega arith }

choice_of_truth : (b t f : Bool) → t ≡ true → f ≡ false → cond b t f ≡ b
choice_of_truth true t f p q = p
choice_of_truth false t f p q = q

-- what a variable means to a caller
pub meaning_of_var : (order : Order) (old new : Nodes) (i k : ℕ) (r : Result Cond AllocError)
    → IsOrder old.variables order → IsReduced new → Extends old new → i < old.variables → k ≡ get_or order.positions.items i 0
    → IfOk r (λ c. c.index < top (newest_first new))
    → IfOk r (λ c. (v : List Bool) → holds_in (newest_first new) c v
    ≡ choice (newest_first old) (record { variable = k; low = record { index = 0 }; high = record { index = 1 } }) v)
    → IfOk r (λ c. (v : List Bool) → holds (seen order new) c v ≡ value_of v i)
meaning_of_var order old new i k (Ok c) io rn e l at node h =
    λ v.
    let w = by_position order.variables.items v in
    let all = io.all in
    let here = io.position i l in
    holds-seen order new (order_of_new order e io) rn c node v ∙ h w
    ∙ choice_of_truth (value_of w k) _ _ (truth_holds (newest_first old) w) (falsity_fails (newest_first old) w)
    ∙ value-by_position order.variables.items v k (omega arith)
    ∙ ap (λ (j : ℕ). value_of v (get_or order.variables.items j 0)) at
    ∙ ap (value_of v) (io.variable_at i l)
meaning_of_var order old new i k (Err x) io rn e l at node h = tt

-- what is answered is a node to a caller
pub IsNode-result : (k : Connective) (order : Order) (new : Nodes) (a b : Cond) (r : Result Cond AllocError)
    → IfOk r (IsAnswer k (newest_first new) a b) → IfOk r (IsNode (seen order new))
IsNode-result k order new a b (Ok c) h = IsNode-out order new c h.node
IsNode-result k order new a b (Err x) h = tt

pub IsNode-complement : (order : Order) (new : Nodes) (a : Cond) (r : Result Cond AllocError)
    → IfOk r (IsComplement (newest_first new) a) → IfOk r (IsNode (seen order new))
IsNode-complement order new a (Ok c) h = IsNode-out order new c h.node
IsNode-complement order new a (Err x) h = tt

pub IsNode-var : (order : Order) (new : Nodes) (r : Result Cond AllocError)
    → IfOk r (λ c. c.index < top (newest_first new)) → IfOk r (IsNode (seen order new))
IsNode-var order new (Ok c) h = IsNode-out order new c h
IsNode-var order new (Err x) h = tt

-- a branch below another tests a variable that stands later in the order
tests_later : (order : Order) (n : ℕ) (ds : List Decision) → IsOrder n order → IsOrdered n ds → (c : Cond) (k : ℕ)
    → c.index < top ds → k < level n ds c
    → TestsLater order.variables.items (get_or order.variables.items k 0) (numbered_node order.variables.items (node_in ds c))
tests_later order n ds io o c k l later =
    let name = numbered_node order.variables.items in
    let says = TestsLater order.variables.items (get_or order.variables.items k 0) in
    ⊎_elim (λ (t : c.index < 2). subst (λ (x : Node). says (name x)) (sym (node_in-terminal ds c t)) (terminal_tests (c.index == 1)))
    (λ (t : 2 ≤ c.index).
    let found = branch_of n ds o c l t in
    let f : IsBranch n ds c found.0 = found.1 in
    let level_is = f.level_is in
    let in_range = f.in_range in
    let all = io.all in
    let earlier : IsEarlier order.variables.items (get_or order.variables.items k 0) (get_or order.variables.items found.0.variable 0) =
    record { place = k; later_place = found.0.variable; before = omega arith; within = omega arith; here = refl; there = refl } in
    subst (λ (x : Node). says (name x)) (sym f.is) earlier)
    (cases_lt c.index 2)
  where
    terminal_tests : (b : Bool) → TestsLater order.variables.items (get_or order.variables.items k 0) (numbered_node order.variables.items (cond b Truth Falsity))
    terminal_tests true = tt
    terminal_tests false = tt

-- a node describes its condition
pub described : (order : Order) (old : Nodes) → IsOrder old.variables order → IsReduced old → (c : Cond)
    → IsNode (seen order old) c → Describes (seen order old) c (numbered_node order.variables.items (node_in (newest_first old) c))
described order old io r c node =
    let ds = newest_first old in
    let n = old.variables in
    let d = seen order old in
    let name = numbered_node order.variables.items in
    let l = IsNode-in order old c node in
    ⊎_elim (λ (t : c.index < 2).
    ⊎_elim (λ (one : c.index ≡ 1).
    let same : c ≡ record { index = 1 } = Cond-same _ _ one in
    let is : node_in ds c ≡ Truth = node_in-terminal ds c t ∙ cond-true _ _ _ (eq-eqb c.index 1 one) in
    subst (λ (x : Node). Describes d c (name x)) (sym is)
    (λ v. holds-seen order old io r c l v ∙ ap (λ (x : Cond). holds_in ds x (by_position order.variables.items v)) same ∙ truth_holds ds _))
    (λ (other : c.index ≡ 1 → ⊥).
    let same : c ≡ record { index = 0 } = Cond-same _ _ (omega arith) in
    let is : node_in ds c ≡ Falsity = node_in-terminal ds c t ∙ cond-false _ _ _ (ne_eqb c.index 1 other) in
    subst (λ (x : Node). Describes d c (name x)) (sym is)
    (λ v. holds-seen order old io r c l v ∙ ap (λ (x : Cond). holds_in ds x (by_position order.variables.items v)) same ∙ falsity_fails ds _))
    (cases_eq c.index 1))
    (λ (t : 2 ≤ c.index).
    let found = branch_of n ds r.ordered c l t in
    let e = found.0 in
    let f : IsBranch n ds c e = found.1 in
    let low : e.low.index < top ds = (let p = f.low_older in omega arith) in
    let high : e.high.index < top ds = (let p = f.high_older in omega arith) in
    let in_range = f.in_range in
    let all = io.all in
    let choice_is : IsChoice d c (get_or order.variables.items e.variable 0) e.low e.high = record {
      in_range = io.variable e.variable f.in_range;
      low_node = IsNode-out order old e.low low;
      high_node = IsNode-out order old e.high high;
      different = f.different;
      low_later = subst (TestsLater order.variables.items (get_or order.variables.items e.variable 0)) (sym (node-seen order old e.low)) (tests_later order n ds io r.ordered e.low e.variable low f.low_later);
      high_later = subst (TestsLater order.variables.items (get_or order.variables.items e.variable 0)) (sym (node-seen order old e.high)) (tests_later order n ds io r.ordered e.high e.variable high f.high_later);
      meaning = λ v.
          let w = by_position order.variables.items v in
          holds-seen order old io r c l v ∙ f.meaning w
          ∙ ap (λ (b : Bool). cond b (holds_in ds e.high w) (holds_in ds e.low w)) (value-by_position order.variables.items v e.variable (omega arith))
          ∙ ap (λ (b : Bool). cond (value_of v (get_or order.variables.items e.variable 0)) b (holds_in ds e.low w)) (sym (holds-seen order old io r e.high high v))
          ∙ ap (λ (b : Bool). cond (value_of v (get_or order.variables.items e.variable 0)) (holds d e.high v) b) (sym (holds-seen order old io r e.low low v));
    } in
    subst (λ (x : Node). Describes d c (name x)) (sym f.is) choice_is)
    (cases_lt c.index 2)

-- conditions of one meaning are one node
pub one_node : (order : Order) (old : Nodes) → IsOrder old.variables order → IsReduced old → (a b : Cond)
    → IsNode (seen order old) a → IsNode (seen order old) b → SameMeaning (seen order old) a b → a ≡ b
one_node order old io r a b first second same =
    let n = old.variables in
    let ds = newest_first old in
    let a_node = IsNode-in order old a first in
    let b_node = IsNode-in order old b second in
    canonical n ds r.ordered a b a_node b_node (λ w len.
    let v = by_number order w in
    let back = by_position-by_number n order io w len in
    ap (holds_in ds a) (sym back) ∙ sym (holds-seen order old io r a a_node v) ∙ same v (length-by_number n order io w)
    ∙ holds-seen order old io r b b_node v ∙ ap (holds_in ds b) back)

-- falsity never holds
pub falsity_seen : (order : Order) (old : Nodes) → IsOrder old.variables order → IsReduced old → (v : List Bool)
    → holds (seen order old) (record { index = 0 }) v ≡ false
falsity_seen order old io r v =
    holds-seen order old io r (record { index = 0 }) (omega arith) v ∙ falsity_fails (newest_first old) _

-- a condition that never holds is falsity
pub never_is_falsity : (order : Order) (old : Nodes) → IsOrder old.variables order → IsReduced old → (c : Cond)
    → IsNode (seen order old) c → IsNever (seen order old) c → c ≡ record { index = 0 }
never_is_falsity order old io r c l never =
    one_node order old io r c (record { index = 0 }) l (IsNode-out order old (record { index = 0 }) (omega arith)) (λ v len. never v len ∙ sym (falsity_seen order old io r v))

-- falsity's node says so
pub falsity_is : (order : Order) (old : Nodes) → node (seen order old) (record { index = 0 }) ≡ Falsity
falsity_is order old =
    node-seen order old (record { index = 0 })
    ∙ ap (numbered_node order.variables.items) (node_in-terminal (newest_first old) (record { index = 0 }) (omega arith))

-- only falsity's node says so
pub falsity_only : (order : Order) (old : Nodes) → IsOrder old.variables order → IsReduced old → (c : Cond)
    → IsNode (seen order old) c → node (seen order old) c ≡ Falsity → c ≡ record { index = 0 }
falsity_only order old io r c l is =
    let d = seen order old in
    let says = described order old io r c l in
    let never : Describes d c Falsity = subst (Describes d c) (sym (node-seen order old c) ∙ is) says in
    never_is_falsity order old io r c l (λ v len. never v)

terminal_is_none : (b : Bool) (k : ℕ) (low high : Cond) → cond b Truth Falsity ≡ Branch k low high → ⊥
terminal_is_none true k low high e = cc
terminal_is_none false k low high e = cc

-- a branch tests a variable
pub branch_in_range : (old : Nodes) → IsReduced old → (c : Cond) → c.index < top (newest_first old)
    → (k : ℕ) (low high : Cond) → node_in (newest_first old) c ≡ Branch k low high → k < old.variables
branch_in_range old r c l k low high is =
    ⊎_elim (λ (t : c.index < 2).
    absurd (terminal_is_none (c.index == 1) k low high (sym (node_in-terminal (newest_first old) c t) ∙ is)))
    (λ (t : 2 ≤ c.index).
    let found = branch_of old.variables (newest_first old) r.ordered c l t in
    let f : IsBranch old.variables (newest_first old) c found.0 = found.1 in
    let same : Branch found.0.variable found.0.low found.0.high ≡ Branch k low high = sym f.is ∙ is in
    let in_range = f.in_range in
    let variable : found.0.variable ≡ k = cc in
    omega arith)
    (cases_lt c.index 2)

-- what a caller is told of a node
pub node_told : (order : Order) (old : Nodes) (c : Cond) (x : Node) → x ≡ node_in (newest_first old) c
    → numbered_node order.variables.items x ≡ node (seen order old) c
node_told order old c x is = ap (numbered_node order.variables.items) is ∙ sym (node-seen order old c)

pub described_told : (order : Order) (old : Nodes) → IsOrder old.variables order → IsReduced old → (c : Cond)
    → IsNode (seen order old) c → (x : Node) → x ≡ node_in (newest_first old) c
    → Describes (seen order old) c (numbered_node order.variables.items x)
described_told order old io r c l x is =
    subst (λ (y : Node). Describes (seen order old) c (numbered_node order.variables.items y)) (sym is) (described order old io r c l)

------ answers that are forgotten

-- fewer answers are right, where all are
pub AreAnswers-fewer : (k : Connective) (ds : List Decision) (before after : Results)
    → ((x y c : Cond) → known after x y ≡ Some c → known before x y ≡ Some c)
    → AreAnswers k ds before → AreAnswers k ds after
AreAnswers-fewer k ds before after fewer right = record { each = λ a b c h. right.each a b c (fewer a b c h) }

pub AreComplements-fewer : (ds : List Decision) (before after : Complements)
    → ((x c : Cond) → complement_of after x ≡ Some c → complement_of before x ≡ Some c)
    → AreComplements ds before → AreComplements ds after
AreComplements-fewer ds before after fewer right = record { each = λ a c h. right.each a c (fewer a c h) }
