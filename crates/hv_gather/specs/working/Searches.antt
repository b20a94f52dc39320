-- What a search that goes on does to the names that were asked for.
use Rattle.std.specs.Prelude.{ℕ, ◌≡◌, List, ◌++◌}
use Rattle.hv_base.specs.declared.held.Held.{Held}
use Rattle.hv_plain.specs.gathering.Told.{Search}

-- names were asked for, after those before
pub record Extends (before now : Search) : Type 0 where
  pub more : List (List ℕ × Held)
  pub entries : now.entries ≡ before.entries ++ more
