-- What a name means to the preprocessor in one configuration.
use Rattle.hv_base.specs.declared.place.Place.{Place}
use Rattle.hv_toks.specs.declared.macros.Body.{Body}
use Rattle.hv_toks.specs.declared.macros.Meaning.{Meaning}
use Rattle.hv_toks.specs.declared.macros.Meaning.TheVariants.{Undefined, Defined}

-- no macro, or the one that the definition at this place makes (6.10.3)
pub data Macro : Type 0 where
  undefined : Macro
  defined : Place → Body → Macro

-- what a value of the program says
abbrev pub macro_of : Meaning → Macro
macro_of Undefined = undefined
macro_of (Defined place body) = defined place body.value
