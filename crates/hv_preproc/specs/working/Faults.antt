-- What the walk says where it stops.
use Rattle.std.specs.Prelude.{List}
use Rattle.hv_base.specs.declared.place.Place.{Place}
use Rattle.hv_cond.specs.declared.conditions.Cond.{Cond}
use Rattle.hv_preproc.specs.declared.fault.WalkFault.{WalkFault}
use Rattle.hv_preproc.specs.declared.fault.WalkFault.TheVariants.{TooMany, Memory}
use Rattle.hv_texts.specs.declared.came.TextFault.{TextFault}
use Rattle.hv_texts.specs.declared.came.TextFault.TheVariants as text_fault

-- what is said of the place and the conditions of `TooMany`; nothing where memory ran out
abbrev pub IfStops : (Place → List Cond → Type 0) → WalkFault → Type 0
IfStops P (TooMany place conds) = P place conds
IfStops P Memory = Unit {0}

-- why the walk stops where a text or a controlling line doesn't come
abbrev pub passed_on : TextFault → WalkFault
passed_on (text_fault.TooMany place conds) = TooMany place conds
passed_on text_fault.Memory = Memory
