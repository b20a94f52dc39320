-- The table's branches seen under the store's order: what a condition means, what it is and what it reaches.
use Rattle.std.proofs.Common.{◌≡◌, ◌==◌, ◌+◌, ◌<◌, ℕ, Bool, true, false, cond, List, [], ◌∷◌, length, map, get_or, refl, sym, ap, ◌∙◌, ⊎_elim, arith}
use Rattle.std.proofs.lemmas.Bool.{cases_eq}
use Rattle.std.specs.List.{count_by, range_with_len}
use Rattle.std.proofs.lemmas.List.{ext_get_or, get_or-map, length-map}
use Rattle.std.proofs.lemmas.List.Sums.{sum_by-cons}
use Rattle.hv_cond.specs.declared.conditions.Cond.{Cond}
use Rattle.hv_cond.specs.declared.conditions.Node.{Node}
use Rattle.hv_cond.specs.declared.conditions.Node.TheVariants.{Truth, Falsity, Branch}
use Rattle.hv_cond.specs.declared.nodes.Decision.{Decision}
use Rattle.hv_cond.specs.declared.nodes.Nodes.{Nodes}
use Rattle.hv_cond.specs.declared.orders.Order.{Order}
use Rattle.hv_cond.specs.Diagram.{IsNode, top, value_of, node, node_in, nodes, holds, holds_in, reaches_in, size}
use Rattle.hv_cond.specs.working.Nodes.{newest_first, IsOrdered, IsReduced}
use Rattle.hv_cond.specs.working.Orders.{IsOrder, by_position, numbered, seen}
use Rattle.hv_cond.proofs.Branches.{holds_in-terminal, holds_in-top, holds_in-below}

-- as many branches
pub top-numbered : (order : List ℕ) (ds : List Decision) → top (map (numbered order) ds) ≡ top ds
top-numbered order ds = let e = length-map ds (numbered order) in omega arith

-- the value at a position is that of the variable there
pub value-by_position : (order : List ℕ) (v : List Bool) (k : ℕ) → k < length order
    → value_of (by_position order v) k ≡ value_of v (get_or order k 0)
value-by_position order v k l = get_or-map (value_of v) order k 0 false l

-- what a condition means
pub holds-numbered : (order : List ℕ) (n : ℕ) (ds : List Decision) → length order ≡ n → IsOrdered n ds
    → (c : Cond) → c.index < top ds → (v : List Bool)
    → holds_in (map (numbered order) ds) c v ≡ holds_in ds c (by_position order v)
holds-numbered order n [] len o c l v =
    holds_in-terminal [] c v (omega arith) ∙ sym (holds_in-terminal [] c (by_position order v) (omega arith))
holds-numbered order n (d ∷ older) len o c l v =
    let same = top-numbered order older in
    ⊎_elim
    (λ (here : c.index ≡ top older).
    let in_range = o.0.in_range in
    let value : value_of v (get_or order d.variable 0) ≡ value_of (by_position order v) d.variable =
    sym (value-by_position order v d.variable (omega arith)) in
    let low = holds-numbered order n older len o.1 d.low o.0.low_older v in
    let high = holds-numbered order n older len o.1 d.high o.0.high_older v in
    holds_in-top (numbered order d) (map (numbered order) older) c v (here ∙ sym same)
    ∙ rw (value, low, high) refl
    ∙ sym (holds_in-top d older c (by_position order v) here))
    (λ (ne : c.index ≡ top older → ⊥).
    let below : c.index < top older = omega arith in
    holds_in-below (numbered order d) (map (numbered order) older) c v (omega arith)
    ∙ holds-numbered order n older len o.1 c below v
    ∙ sym (holds_in-below d older c (by_position order v) below))
    (cases_eq c.index (top older))

-- a node with its variable by its number
abbrev pub numbered_node : List ℕ → Node → Node
numbered_node order Truth = Truth
numbered_node order Falsity = Falsity
numbered_node order (Branch k low high) = Branch (get_or order k 0) low high

-- what a condition is
pub node-numbered : (order : List ℕ) (ds : List Decision) (c : Cond)
    → node_in (map (numbered order) ds) c ≡ numbered_node order (node_in ds c)
unfolding node_in
node-numbered order [] c = terminal (c.index == 1)
  where
    terminal : (b : Bool) → cond b Truth Falsity ≡ numbered_node order (cond b Truth Falsity)
    terminal true = refl
    terminal false = refl
node-numbered order (d ∷ older) c =
    ap (λ (t : ℕ). cond (c.index == t) (Branch (get_or order d.variable 0) d.low d.high) (node_in (map (numbered order) older) c)) (top-numbered order older)
    ∙ ap (λ (x : Node). cond (c.index == top older) (Branch (get_or order d.variable 0) d.low d.high) x) (node-numbered order older c)
    ∙ either (c.index == top older) (Branch d.variable d.low d.high) (node_in older c)
  where
    either : (b : Bool) (x y : Node) → cond b (numbered_node order x) (numbered_node order y) ≡ numbered_node order (cond b x y)
    either true x y = refl
    either false x y = refl

-- what a condition reaches
pub reaches-numbered : (order : List ℕ) (ds : List Decision) (c : Cond) (i : ℕ)
    → reaches_in (map (numbered order) ds) c i ≡ reaches_in ds c i
unfolding reaches_in
reaches-numbered order [] c i = refl
reaches-numbered order (d ∷ older) c i =
    rw (top-numbered order older, reaches-numbered order older d.low i, reaches-numbered order older d.high i, reaches-numbered order older c i) refl

-- tests that agree pass as many
count_by-same : (p q : ℕ → Bool) → ((i : ℕ) → p i ≡ q i) → (is : List ℕ) → count_by p is ≡ count_by q is
count_by-same p q same [] = refl
count_by-same p q same (i ∷ is) =
    sum_by-cons (λ (x : ℕ). cond (p x) 1 0) i is
    ∙ ap (λ (b : Bool). cond b 1 0 + count_by p is) (same i)
    ∙ ap (λ (n : ℕ). cond (q i) 1 0 + n) (count_by-same p q same is)
    ∙ sym (sum_by-cons (λ (x : ℕ). cond (q x) 1 0) i is)

------ what contracts see of a table

pub IsNode-in : (order : Order) (t : Nodes) (c : Cond) → IsNode (seen order t) c → c.index < top (newest_first t)
unfolding IsNode
IsNode-in order t c l = let e = top-numbered order.variables.items (newest_first t) in omega arith

pub IsNode-out : (order : Order) (t : Nodes) (c : Cond) → c.index < top (newest_first t) → IsNode (seen order t) c
unfolding IsNode
IsNode-out order t c l = let e = top-numbered order.variables.items (newest_first t) in omega arith

pub holds-seen : (order : Order) (t : Nodes) → IsOrder t.variables order → IsReduced t
    → (c : Cond) → c.index < top (newest_first t) → (v : List Bool)
    → holds (seen order t) c v ≡ holds_in (newest_first t) c (by_position order.variables.items v)
unfolding holds
holds-seen order t io r c l v =
    holds-numbered order.variables.items t.variables (newest_first t) io.all r.ordered c l v

pub node-seen : (order : Order) (t : Nodes) (c : Cond)
    → node (seen order t) c ≡ numbered_node order.variables.items (node_in (newest_first t) c)
unfolding node
node-seen order t c = node-numbered order.variables.items (newest_first t) c

pub size-seen : (order : Order) (t : Nodes) → size (seen order t) ≡ length (newest_first t)
unfolding size
size-seen order t = length-map (newest_first t) (numbered order.variables.items)

pub nodes-seen : (order : Order) (t : Nodes) (c : Cond)
    → nodes (seen order t) c ≡ count_by (reaches_in (newest_first t) c) (range_with_len 2 (length (newest_first t)))
unfolding nodes size
nodes-seen order t c =
    count_by-same _ _ (reaches-numbered order.variables.items (newest_first t) c)
    (range_with_len 2 (length (map (numbered order.variables.items) (newest_first t))))
    ∙ ap (λ (n : ℕ). count_by (reaches_in (newest_first t) c) (range_with_len 2 n)) (length-map (newest_first t) (numbered order.variables.items))

-- the values by number that are these by position
abbrev pub by_number : Order → List Bool → List Bool
by_number order w = by_position order.positions.items w

pub length-by_number : (n : ℕ) (order : Order) → IsOrder n order → (w : List Bool) → length (by_number order w) ≡ n
length-by_number n order io w = length-map order.positions.items (value_of w) ∙ io.all_positions

pub by_position-by_number : (n : ℕ) (order : Order) → IsOrder n order → (w : List Bool) → length w ≡ n
    → by_position order.variables.items (by_number order w) ≡ w
by_position-by_number n order io w len =
    let v = by_number order w in
    let all = io.all in
    let length_is = length-map order.variables.items (value_of v) in
    ext_get_or false (by_position order.variables.items v) w (length_is ∙ io.all ∙ sym len) (λ k l.
    let below : k < n = omega arith in
    let at : ℕ = get_or order.variables.items k 0 in
    let at_below : at < n = io.variable k below in
    let all_positions = io.all_positions in
    value-by_position order.variables.items v k (omega arith)
    ∙ value-by_position order.positions.items w at (omega arith)
    ∙ ap (value_of w) (io.position_of k below))
