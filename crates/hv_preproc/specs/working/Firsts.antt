-- The first configurations of conditions.
use Rattle.std.specs.Prelude.{List, [], ◌∷◌}
use Rattle.hv_base.specs.declared.config.Config.{Config}
use Rattle.hv_cond.specs.Diagram.{Diagram, IsLeast}
use Rattle.hv_cond.specs.declared.conditions.Cond.{Cond}

-- each is the first of the condition at its position
abbrev pub AreFirst : Diagram → List Cond → List Config → Type 0
AreFirst diagram [] [] = Unit {0}
AreFirst diagram [] (config ∷ configs) = ⊥
AreFirst diagram (c ∷ conds) [] = ⊥
AreFirst diagram (c ∷ conds) (config ∷ configs) =
    IsLeast diagram c config.on × AreFirst diagram conds configs
