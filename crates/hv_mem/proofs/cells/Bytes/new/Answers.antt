use Rattle.std.proofs.Common.{refl}
use Rattle.hv_mem.proofs.ListsLemmas.{listed-same}
use Rattle.hv_mem.proofs.cells.Bytes.new.Goals as goal

pub returns : goal.returns
returns c =
    rw (c.in_ok-cells.ensures.items, c.in_ok-numbers.ensures.items, c.in_ok-offsets.ensures.items)
    (listed-same _ _ _ (λ j. refl))
