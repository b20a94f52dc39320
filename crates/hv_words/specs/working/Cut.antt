-- The folders of a text that are not read yet.
use Rattle.std.specs.Prelude.{ℕ, ◌+◌, List, [], Option, Some, None, length}
use Rattle.std.specs.Borrow.{Bor}
use Rattle.hv_words.specs.Folders.{names_in}

-- the names in the rest; none where there is no rest
abbrev pub names_left : Option (Bor (List ℕ)) → List (List ℕ)
names_left None = []
names_left (Some text) = names_in text.now

-- how many bytes are left, and one more for the name that they begin
abbrev pub bytes_left : Option (Bor (List ℕ)) → ℕ
bytes_left None = 0
bytes_left (Some text) = length text.now + 1
