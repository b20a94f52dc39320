use Rattle.std.proofs.Common.{◌≡◌, ◌+◌, ◌≤◌, min, drop}
use Rattle.hv_ctree.specs.types.Erasure.{parameters_of}
use Rattle.hv_ctypes.specs.Written.{written_all}
use Rattle.hv_ctypes.proofs.derived.+parts.Given as goal

abbrev pub invariant-parts_of_all-loop-t : goal.invariant-parts_of_all-loop-t
invariant-parts_of_all-loop-t l =
    record {
      same :
          min (l.count + written_all (parameters_of (drop l.t-index l.ts))) l.most
          ≡ min (written_all (parameters_of l.ts)) l.most;
      within : l.count ≤ l.most;
    }
