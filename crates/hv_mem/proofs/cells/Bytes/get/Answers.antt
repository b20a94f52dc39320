use Rattle.std.proofs.Common.{◌∙◌, rules, w64}
use Rattle.std.proofs.lemmas.Int.{to_z-of_z}
use mir.Val.{SFits}
use Rattle.hv_mem.proofs.CellsLemmas.{seen-at}
use Rattle.hv_mem.proofs.cells.Bytes.get.Goals as goal

pub returns : goal.returns
returns c =
    let fits : SFits w64 c.item_at-offset.result = search rules in
    let kept = simp to_z-of_z at c.kept_byte.ensures in
    kept
    ∙ rw (c.item_at-cell.ensures, c.item_at-number.ensures, c.item_at-offset.ensures)
    (seen-at c.self.inside.size c.self.inside.cells.items c.self.inside.numbers.items c.self.inside.offsets.items c.args.k c.args.self.now c.self.view_is c.requires)
