-- Lemmas on the table of nodes.
use Rattle.std.proofs.Common.{Result, Ok, Err, OnOk, OnErr, IfOk, ◌≡◌, ◌+◌, ◌-◌, ◌<◌, ◌≤◌, ℕ, Bool, List, [], ◌∷◌, ◌++◌, length, length-append, get_or, reverse, refl, sym, ap, ◌∙◌, subst, ⊎_elim, arith}
use Rattle.std.specs.declared.alloc.AllocError.{AllocError}
use Rattle.std.proofs.lemmas.Bool.{cond_both, cases_eq}
use Rattle.std.proofs.lemmas.List.{get_or-reverse, reverse-append, length-reverse, append_assoc}
use Rattle.std.proofs.Math.Seq.{get_or-append_seam}
use Rattle.std.proofs.lemmas.Grind.{get_or_head, get_or_tail}
use Rattle.hv_cond.specs.declared.conditions.Cond.{Cond}
use Rattle.hv_cond.specs.declared.conditions.Node.TheVariants.{Branch}
use Rattle.hv_cond.specs.declared.nodes.Decision.{Decision}
use Rattle.hv_cond.specs.declared.nodes.Nodes.{Nodes}
use Rattle.hv_cond.specs.Diagram.{top, value_of, node_in, holds_in}
use Rattle.hv_cond.specs.working.Nodes.{choice, newest_first, level, IsDecision, IsOrdered, IsBranch, IsHalves, IsReduced, IsClosed, Extends}
use Rattle.hv_cond.specs.working.Places.{IsPlaced}
use Rattle.hv_cond.proofs.Lifts.{node_lifts, holds_in-append, node_in-append, level-append, IsClosed-append}
use Rattle.hv_cond.proofs.Branches.{Decision-same, node_in-top, node_in-below, holds_in-top, branch_of}

-- a node that is no terminal is the branch at its place
pub node_in-get_or : (ds : List Decision) (c : Cond) (k : ℕ) (e : Decision) → 2 ≤ c.index → k + c.index ≡ length ds + 1 → let d = get_or ds k e in node_in ds c ≡ Branch d.variable d.low d.high
node_in-get_or [] c k e t at = absurd (omega arith)
node_in-get_or (d ∷ older) c k e t at =
    ⊎_elim (λ (here : c.index ≡ top older).
    let first : get_or (d ∷ older) k e ≡ d = get_or_head d older k e (omega arith) in
    node_in-top d older c here ∙ sym (ap (λ (x : Decision). Branch x.variable x.low x.high) first))
    (λ (ne : c.index ≡ top older → ⊥).
    let below : c.index < top older = omega arith in
    let next : get_or (d ∷ older) k e ≡ get_or older (k - 1) e = get_or_tail d older k e (omega arith) in
    node_in-below d older c below ∙ node_in-get_or older c (k - 1) e t (omega arith) ∙ sym (ap (λ (x : Decision). Branch x.variable x.low x.high) next))
    (cases_eq c.index (top older))

-- what stands at a node's place in the table is its branch
pub branch_at_place : (n : ℕ) (xs : List Decision) → IsOrdered n (reverse xs) → (c : Cond) → c.index < top (reverse xs) → 2 ≤ c.index → (r : Decision) → r ≡ get_or xs (c.index - 2) r → IsBranch n (reverse xs) c r
branch_at_place n xs o c node t r read =
    let found = branch_of n (reverse xs) o c node t in
    let d = found.0 in
    let f : IsBranch n (reverse xs) c d = found.1 in
    let len = length-reverse xs in
    let k = length xs + 1 - c.index in
    let at = node_in-get_or (reverse xs) c k r t (omega arith) in
    let back : get_or (reverse xs) k r ≡ get_or xs (length xs - 1 - k) r = get_or-reverse xs k r (omega arith) in
    let place : length xs - 1 - k ≡ c.index - 2 = omega arith in
    let got : get_or (reverse xs) k r ≡ r = back ∙ ap (λ (i : ℕ). get_or xs i r) place ∙ sym read in
    let is : Branch d.variable d.low d.high ≡ Branch r.variable r.low r.high = sym f.is ∙ at ∙ ap (λ (x : Decision). Branch x.variable x.low x.high) got in
    subst (IsBranch n (reverse xs) c) (Decision-same d r (cc) (cc) (cc)) f

-- the empty table
pub IsReduced-empty : (nodes : Nodes) → nodes.decisions.items ≡ [] → IsPlaced nodes.places [] → IsReduced nodes
IsReduced-empty nodes items placed = record { ordered = rw items tt; placed = rw items placed }

-- the table is the same, with other buckets
pub IsReduced-same : (old new : Nodes) → new.variables ≡ old.variables → new.decisions.items ≡ old.decisions.items → IsPlaced new.places (newest_first old) → IsReduced old → IsReduced new
IsReduced-same old new vars items placed r =
    record { ordered = rw (vars, items) r.ordered; placed = rw items placed }

-- the newest branch stands first
pub newest_first-push : (old new : Nodes) (d : Decision) → new.decisions.items ≡ old.decisions.items ++ d ∷ [] → newest_first new ≡ d ∷ newest_first old
newest_first-push old new d items = ap (λ (xs : List Decision). reverse xs) items ∙ reverse-append old.decisions.items (d ∷ [])

-- the table has one more branch
pub IsReduced-push : (old new : Nodes) (d : Decision) → new.variables ≡ old.variables → new.decisions.items ≡ old.decisions.items ++ d ∷ [] → IsDecision old.variables (newest_first old) d
    → IsPlaced new.places (d ∷ newest_first old) → IsReduced old → IsReduced new
IsReduced-push old new d vars items fresh placed r =
    let newest = newest_first-push old new d items in
    record { ordered = rw (vars, newest) (fresh, r.ordered); placed = rw newest placed }

-- what stands in the table at the place of one of its branches
pub at_index : (xs newer older : List Decision) (d r : Decision) → reverse xs ≡ newer ++ d ∷ older → r ≡ get_or xs (length older) r → r ≡ d
at_index xs newer older d r split read =
    let len : length (reverse xs) ≡ length newer + (length older + 1) = ap length split ∙ length-append newer (d ∷ older) ∙ omega arith in
    let all = length-reverse xs in
    let back : get_or (reverse xs) (length newer) r ≡ get_or xs (length xs - 1 - length newer) r = get_or-reverse xs (length newer) r (omega arith) in
    let place : length xs - 1 - length newer ≡ length older = omega arith in
    read ∙ ap (λ (i : ℕ). get_or xs i r) (sym place) ∙ sym back ∙ ap (λ (ys : List Decision). get_or ys (length newer) r) split ∙ get_or-append_seam newer d older r

-- a table with at most one more branch extends the old one
pub Extends-push : (old new : Nodes) (d : Decision) (r : Result Cond AllocError) → new.variables ≡ old.variables → OnOk r (newest_first new ≡ d ∷ newest_first old) → OnErr r (newest_first new ≡ newest_first old) → Extends old new
Extends-push old new d (Ok c) vars ok err = record { variables = vars; added = d ∷ []; decisions = ok }
Extends-push old new d (Err e) vars ok err = record { variables = vars; added = []; decisions = err }

-- what a new branch means
pub meaning-push : (old new : Nodes) (d : Decision) (r : Result Cond AllocError) → OnOk r (newest_first new ≡ d ∷ newest_first old) → IfOk r (λ c. c.index ≡ top (newest_first old)) → IfOk r (λ c. (v : List Bool) → holds_in (newest_first new) c v ≡ choice (newest_first old) d v)
meaning-push old new d (Ok c) ok at = λ v. ap (λ (ds : List Decision). holds_in ds c v) ok ∙ holds_in-top d (newest_first old) c v at
meaning-push old new d (Err e) ok at = tt

-- a condition that does not depend on a variable is both its halves
pub IsHalves-whole : (n : ℕ) (ds : List Decision) (c : Cond) (i : ℕ) → i < level n ds c → IsHalves n ds c i c c
IsHalves-whole n ds c i before =
    record {
      low_older = omega arith;
      high_older = omega arith;
      smaller = λ (e : level n ds c ≡ i). absurd (omega arith);
      low_later = before;
      high_later = before;
      meaning = λ v. cond_both (value_of v i) (holds_in ds c v) (holds_in ds c v) (λ (x : Bool). holds_in ds c v ≡ x) (λ _. refl) (λ _. refl);
      within = λ xs closed w. (w, w);
    }

-- what stays in a table that extends another
pub Extends-refl : (old : Nodes) → Extends old old
Extends-refl old = record { variables = refl; added = []; decisions = refl }

pub Extends-trans : (old mid new : Nodes) → Extends old mid → Extends mid new → Extends old new
Extends-trans old mid new e f =
    record {
      variables = f.variables ∙ e.variables;
      added = f.added ++ e.added;
      decisions = f.decisions ∙ ap (λ (ds : List Decision). f.added ++ ds) e.decisions ∙ sym (append_assoc f.added e.added (newest_first old));
    }

pub Extends-node : {old new : Nodes} → Extends old new → (c : Cond) → c.index < top (newest_first old) → c.index < top (newest_first new)
Extends-node {old} {new} e c l = rw e.decisions (node_lifts e.added (newest_first old) c l)

pub Extends-holds : {old new : Nodes} → Extends old new → (c : Cond) (v : List Bool) → c.index < top (newest_first old) → holds_in (newest_first new) c v ≡ holds_in (newest_first old) c v
Extends-holds {old} {new} e c v l = rw e.decisions (holds_in-append e.added (newest_first old) c v l)

pub Extends-node_in : {old new : Nodes} → Extends old new → (c : Cond) → c.index < top (newest_first old) → node_in (newest_first new) c ≡ node_in (newest_first old) c
Extends-node_in {old} {new} e c l = rw e.decisions (node_in-append e.added (newest_first old) c l)

pub Extends-level : {old new : Nodes} → Extends old new → (c : Cond) → c.index < top (newest_first old) → level new.variables (newest_first new) c ≡ level old.variables (newest_first old) c
Extends-level {old} {new} e c l = rw (e.decisions, e.variables) (level-append old.variables e.added (newest_first old) c l)

pub Extends-closed : {old new : Nodes} → Extends old new → (xs : List Cond) → IsClosed (newest_first old) xs → IsClosed (newest_first new) xs
Extends-closed {old} {new} e xs closed = rw e.decisions (IsClosed-append e.added (newest_first old) xs closed)
