use Rattle.std.proofs.Common.{arith}
use Rattle.hv_mem.proofs.CellsLemmas.{seen-length, seen-put}
use Rattle.hv_mem.proofs.cells.Bytes.put.Goals as goal

pub put_kept-requires-clause-cells : goal.put_kept-requires-clause-cells
put_kept-requires-clause-cells c =
    omega (arith, seen-length c.self.inside.size c.self.inside.cells.items c.self.inside.numbers.items c.self.inside.offsets.items c.args.self.now c.self.view_is, c.self.invariant)

pub put_kept-requires-clause-numbers : goal.put_kept-requires-clause-numbers
put_kept-requires-clause-numbers c =
    omega (arith, seen-length c.self.inside.size c.self.inside.cells.items c.self.inside.numbers.items c.self.inside.offsets.items c.args.self.now c.self.view_is, c.self.invariant)

pub put_kept-requires-clause-offsets : goal.put_kept-requires-clause-offsets
put_kept-requires-clause-offsets c =
    omega (arith, seen-length c.self.inside.size c.self.inside.cells.items c.self.inside.numbers.items c.self.inside.offsets.items c.args.self.now c.self.view_is, c.self.invariant)

pub returns : goal.returns
returns c =
    seen-put c.self.inside.size c.self.inside.cells.items c.put_kept.new.cells.items c.self.inside.numbers.items c.put_kept.new.numbers.items c.self.inside.offsets.items c.put_kept.new.offsets.items c.args.k c.args.byte c.args.self.now c.self.view_is c.requires c.put_kept.ensures.here c.put_kept.ensures.elsewhere
