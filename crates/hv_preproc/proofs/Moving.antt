-- What a unit is before a place it is before a later one.
use Rattle.std.proofs.Common.{◌⊎◌, ℕ, List, inl, inr}
use Rattle.std.proofs.lemmas.List.Elements.{All-weaker}
use Rattle.hv_base.specs.declared.place.Place.{Place}
use Rattle.hv_cond.specs.Diagram.{Diagram}
use Rattle.hv_cond.specs.declared.conditions.Cond.{Cond}
use Rattle.hv_plainpp.specs.Reading.{Met}
use Rattle.hv_preproc.proofs.KeyOrder.{IsUntil-before}
use Rattle.hv_preproc.specs.declared.unit.Unit.{Unit as UnitSoFar}
use Rattle.hv_preproc.specs.working.Keys.{IsBefore, IsInitial, IsUntil, key}
use Rattle.hv_preproc.specs.working.Walk.{IsSound, IsUpTo, SoFar}

still : (place : Place) (here there : List ℕ) → IsUntil here there
    → IsInitial place ⊎ IsBefore (key place) here → IsInitial place ⊎ IsBefore (key place) there
still place here there p (inl i) = inl i
still place here there p (inr b) = inr (IsUntil-before (key place) here there b p)

pub IsSound-later : (diagram : Diagram) (u : UnitSoFar) (here there : List ℕ) → IsUntil here there
    → IsSound diagram u here → IsSound diagram u there
IsSound-later diagram u here there p s = record {
  unit = s.unit;
  defines_before = λ values name place body e.
      still place here there p (s.defines_before values name place body e);
}

pub IsUpTo-later : (diagram : Diagram) (valid : Cond) (u : UnitSoFar) (here there : List ℕ)
    (so_far : SoFar) → IsUntil here there → IsUpTo diagram valid u here so_far
    → IsUpTo diagram valid u there so_far
IsUpTo-later diagram valid u here there so_far p r = record {
  valid_node = r.valid_node;
  divides = r.divides;
  nodes = r.nodes;
  there = r.there;
  stands = r.stands;
  faces = r.faces;
  few = r.few;
  met_before = λ values v. All-weaker (λ (m : Met). IsBefore (key m.place) here)
      (λ (m : Met). IsBefore (key m.place) there)
      (λ m b. IsUntil-before (key m.place) here there b p) (so_far values).met
      (r.met_before values v);
}
