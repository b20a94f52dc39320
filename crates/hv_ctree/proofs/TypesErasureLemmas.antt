-- The parameters of a function as the declared type holds them are those of the list.
use Rattle.std.proofs.Common.{◌≡◌, List, refl, ap, ◌∙◌}
use Rattle.hv_ctree.specs.types.Plain.{parameter, plain}
use Rattle.hv_ctree.specs.types.Erasure.{shape_of, row_of, parameters_of}
use Rattle.hv_ctree.specs.declared.types.CType.{CType}
use Rattle.hv_ctree.specs.declared.types.Shape.TheBlock.{Row_of-CType, end_of-CType, more_of-CType, items-the_row-CType, hidden-the_row-CType-0, items_hidden-the_row-CType-0}

row_items : (n : _) (row : Row_of-CType n) → row_of row ≡ parameters_of (items-the_row-CType n row)
row_items _ end_of-CType = refl
row_items _ (more_of-CType constant shape rest) =
    ap (λ ps. parameter (plain constant (shape_of shape)) ps) (row_items _ rest)

pub row_hidden : (ts : List CType) → row_of (hidden-the_row-CType-0 ts) ≡ parameters_of ts
row_hidden ts = row_items _ (hidden-the_row-CType-0 ts) ∙ ap parameters_of (items_hidden-the_row-CType-0 ts)
