use Rattle.std.proofs.Common.{◌≡◌, ℕ, List, true, take}
use Rattle.hv_base.specs.Ascii.{is_among}
use Rattle.hv_model.specs.Name.{are_distinct}
use Rattle.hv_directives.proofs.NamesLemmas.{has}
use Rattle.hv_directives.proofs.parameter_set.distinct.Given as goal

-- the names so far are distinct, and the set has them
abbrev pub invariant-loop-name : goal.invariant-loop-name
invariant-loop-name l = record {
  distinct : are_distinct (take l.name-index l.names) ≡ true;
  members : (name : List ℕ) → has l.set name ≡ is_among name (take l.name-index l.names);
}
