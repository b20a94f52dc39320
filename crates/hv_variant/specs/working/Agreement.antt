-- When two configurations are one.
use Rattle.std.specs.Prelude.{◌≡◌, Bool, true, false, not, ◌&&◌, List, [], ◌∷◌, length}
use Rattle.hv_cond.specs.Diagram.{Diagram, holds}
use Rattle.hv_cond.specs.declared.conditions.Cond.{Cond}

-- whether two values are one
abbrev pub same : Bool → Bool → Bool
same true b = b
same false b = not b

-- whether two configurations have the same values
abbrev pub agree : List Bool → List Bool → Bool
agree [] [] = true
agree [] (b ∷ others) = false
agree (a ∷ values) [] = false
agree (a ∷ values) (b ∷ others) = same a b && agree values others

-- a condition is that of this configuration alone
abbrev pub IsOnly : Diagram → Cond → List Bool → Type 0
IsOnly diagram c values = (others : List Bool) → length others ≡ length values
    → holds diagram c others ≡ agree values others
