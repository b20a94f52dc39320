use Rattle.std.proofs.Common.{sym}
use Rattle.hv_mem.proofs.CellsLemmas.{seen-length}
use Rattle.hv_mem.proofs.cells.Bytes.len.Goals as goal

pub returns : goal.returns
returns c =
    sym (seen-length c.self.inside.size c.self.inside.cells.items c.self.inside.numbers.items c.self.inside.offsets.items c.args.self.now c.self.view_is)
