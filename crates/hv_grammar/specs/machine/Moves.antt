-- Steps over marked tokens.
use Rattle.std.specs.Prelude.{◌≡◌, Bool, true, false, List, ◌∷◌, Some}
use Rattle.hv_grammar.specs.Symbols.{inside, operator, Marked}
use Rattle.hv_grammar.specs.machine.Frames.{State}
use Rattle.hv_grammar.specs.machine.Steps.{step}

-- the machine takes the token with its marks. The truth values say that the `(` before the token,
-- and the token itself, is one directly after `sizeof` that counts, which the token after it shows.
-- No statement is open at a token of an expression
pub data Takes : State → Bool → Marked → State → Bool → Type 0 where
  taken : {m n : State} {x : Bool} {t : Marked} (sized : Bool) → t.statements ≡ 0
      → step m t.token
      ≡ Some (record { state = n; depth = t.depth; role = t.role; late = x; sized = sized })
      → Takes m x t n false
  taken_to_count : {m n : State} {x : Bool} {t : Marked} → t.role ≡ operator → t.statements ≡ 0
      → step m t.token
      ≡ Some (record { state = n; depth = t.depth; role = inside; late = x; sized = true })
      → Takes m x t n true

-- from one state, before these tokens, the machine comes to another, before those
pub data Moves : State → Bool → List Marked → State → Bool → List Marked → Type 0 where
  stays : {m : State} {x : Bool} {ts : List Marked} → Moves m x ts m x ts
  takes : {m n o : State} {x y z : Bool} {t : Marked} {ts us : List Marked} → Takes m x t n y
      → Moves n y ts o z us → Moves m x (t ∷ ts) o z us
