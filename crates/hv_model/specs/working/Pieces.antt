-- The pieces of a configuration's text that are not read yet.
use Rattle.std.specs.Prelude.{ℕ, ◌+◌, List, [], Option, Some, None, length}
use Rattle.std.specs.List.{slice_split}
use Rattle.std.specs.Borrow.{Bor}
use Rattle.hv_model.specs.Config.{is_comma}

-- the pieces of the rest; none where there is no rest
abbrev pub pieces_in : Option (Bor (List ℕ)) → List (List ℕ)
pieces_in None = []
pieces_in (Some text) = slice_split is_comma text.now

-- how many bytes are left, and one more for the piece that they begin
abbrev pub rest_len : Option (Bor (List ℕ)) → ℕ
rest_len None = 0
rest_len (Some text) = length text.now + 1
