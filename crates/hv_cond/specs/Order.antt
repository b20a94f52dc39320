-- In which order the branches of a store test the variables.
use Rattle.std.specs.Prelude.{◌==◌, ◌&&◌, not, ℕ, List, [], ◌∷◌, ◌++◌, nat_lt, if◌then◌else◌}
use Rattle.std.specs.List.{list_any, range_with_len}

-- an order with one more variable at its end, unless the variable stands in it or there is none of
-- that number
abbrev pub with : ℕ → List ℕ → ℕ → List ℕ
with vars order i =
    if nat_lt i vars && not (list_any (λ j. i == j) order) then order ++ i ∷ [] else order

-- an order with these variables after it, each once
abbrev pub with_all : ℕ → List ℕ → List ℕ → List ℕ
with_all vars order [] = order
with_all vars order (i ∷ is) = with_all vars (with vars order i) is

-- the variables of this list, each where it stands first in it, and then the others by number
abbrev pub order_from : ℕ → List ℕ → List ℕ
order_from vars first = with_all vars (with_all vars [] first) (range_with_len 0 vars)
