-- What the alternatives of a name mean under one assignment of the options.
use Rattle.std.specs.Prelude.{◌≡◌, ◌≢◌, ◌++◌, Bool, List, [], ◌∷◌, map, if◌then◌else◌}
use Rattle.std.specs.List.{All, AllPairs}
use Rattle.hv_cond.specs.Diagram.{AllNodes, Diagram, holds}
use Rattle.hv_cond.specs.declared.conditions.Cond.{Cond}
use Rattle.hv_cond.specs.Parts.{NoneFalse}
use Rattle.hv_toks.specs.Macro.{Macro, macro_of, undefined}
use Rattle.hv_macros.specs.declared.alternatives.Alternative.{Alternative}

-- the conditions of alternatives
abbrev pub conditions : List Alternative → List Cond
conditions alternatives = map (λ a. a.cond) alternatives

-- the meaning of the first alternative whose condition holds, or this one where none does
abbrev pub meaning_or : Diagram → List Bool → List Alternative → Macro → Macro
meaning_or diagram values [] otherwise = otherwise
meaning_or diagram values (a ∷ alternatives) otherwise =
    if holds diagram a.cond values then macro_of a.meaning
    else meaning_or diagram values alternatives otherwise

-- the meanings of all alternatives whose condition holds
abbrev pub meanings : Diagram → List Bool → List Alternative → List Macro
meanings diagram values [] = []
meanings diagram values (a ∷ alternatives) =
    (if holds diagram a.cond values then macro_of a.meaning ∷ [] else [])
    ++ meanings diagram values alternatives

-- two alternatives have different meanings
abbrev pub MeansOther : Alternative → Alternative → Type 0
MeansOther a b = macro_of a.meaning ≢ macro_of b.meaning

-- no alternative has this meaning
abbrev pub NoneMeans : Macro → List Alternative → Type 0
NoneMeans macro alternatives = All (λ a. macro_of a.meaning ≢ macro) alternatives

-- the alternatives that a table keeps of a name: each is a macro, its condition is a node of the
-- diagram and not false, and no two have one meaning. Elsewhere the name is no macro
pub record AreAlternatives (diagram : Diagram) (alternatives : List Alternative) : Type 0 where
  pub nodes : AllNodes diagram (conditions alternatives)
  pub none_false : NoneFalse diagram (conditions alternatives)
  pub macros : NoneMeans undefined alternatives
  pub distinct : AllPairs MeansOther alternatives
