-- What newer branches leave as it was among the older ones.
use Rattle.std.proofs.Common.{◌≡◌, ◌<◌, ℕ, Bool, List, [], ◌∷◌, ◌++◌, refl, sym, ◌∙◌, arith, length-append}
use Rattle.hv_cond.specs.declared.conditions.Cond.{Cond}
use Rattle.hv_cond.specs.declared.nodes.Decision.{Decision}
use Rattle.hv_cond.specs.Diagram.{top, node_in, holds_in}
use Rattle.hv_cond.specs.working.Nodes.{level, IsClosed}
use Rattle.hv_cond.proofs.Branches.{holds_in-below, node_in-below, level-below}

-- a node stays one
pub node_lifts : (added ds : List Decision) (c : Cond) → c.index < top ds → c.index < top (added ++ ds)
node_lifts added ds c l = let e = length-append added ds in omega arith

pub holds_in-append : (added ds : List Decision) (c : Cond) (v : List Bool) → c.index < top ds → holds_in (added ++ ds) c v ≡ holds_in ds c v
holds_in-append [] ds c v l = refl
holds_in-append (d ∷ added) ds c v l = holds_in-below d (added ++ ds) c v (node_lifts added ds c l) ∙ holds_in-append added ds c v l

pub node_in-append : (added ds : List Decision) (c : Cond) → c.index < top ds → node_in (added ++ ds) c ≡ node_in ds c
node_in-append [] ds c l = refl
node_in-append (d ∷ added) ds c l = node_in-below d (added ++ ds) c (node_lifts added ds c l) ∙ node_in-append added ds c l

pub level-append : (n : ℕ) (added ds : List Decision) (c : Cond) → c.index < top ds → level n (added ++ ds) c ≡ level n ds c
level-append n [] ds c l = refl
level-append n (d ∷ added) ds c l = level-below n d (added ++ ds) c (node_lifts added ds c l) ∙ level-append n added ds c l

-- a closed list of branches stays one
pub IsClosed-append : (added ds : List Decision) (xs : List Cond) → IsClosed ds xs → IsClosed (added ++ ds) xs
IsClosed-append added ds xs closed =
    record {
      nodes = λ c among. node_lifts added ds c (closed.nodes c among);
      children = λ c i low high among is. closed.children c i low high among (sym (node_in-append added ds c (closed.nodes c among)) ∙ is);
    }
