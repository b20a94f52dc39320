use Rattle.std.proofs.Common.{refl}
use Rattle.hv_ctypes.proofs.SettledLemmas.{one_more_settled}
use Rattle.hv_ctypes.proofs.compounds.declare_compound.Goals as goal

pub invariant_of-types : goal.invariant_of-types
invariant_of-types c =
    record {
      settled =
          one_more_settled c.args.types.now.compounds c.add.new.self _ c.add.result refl refl c.args.types.now.settled
          c.add.ensures.ok c.add.ensures.unchanged;
    }
