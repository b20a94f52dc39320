-- The end of a file where a group may be open.
use Rattle.std.proofs.Common.{◌≡◌, ℕ, Bool, List, [], ◌∷◌, map, Option, None, Some, refl, sym, ap, true, false, true≢false, Bor}
use Rattle.std.specs.Prelude.{slice_get}
use Rattle.std.specs.Option.{is_some, option_copied, option_map}
use Rattle.hv_base.specs.declared.place.Place.{Place}
use Rattle.hv_base.specs.declared.why.Why.TheVariants.{Unbalanced}
use Rattle.hv_cond.specs.Diagram.{Diagram, Keeps}
use Rattle.hv_cond.specs.Laws.{Keeps-refl}
use Rattle.hv_plainpp.specs.Preprocessing.{at_end}
use Rattle.hv_plainpp.specs.Reading.{Reading, refusal}
use Rattle.hv_preproc.proofs.Later.{nothing_reads, reads_same}
use Rattle.hv_preproc.specs.declared.groups.Groups.{Groups}
use Rattle.hv_preproc.specs.declared.groups.OpenGroup.{OpenGroup}
use Rattle.hv_preproc.specs.declared.unit.Unit.{Unit as UnitSoFar}
use Rattle.hv_preproc.specs.working.OpenGroups.{group_in, groups_in}
use Rattle.hv_preproc.specs.working.Walk.{IsSound, Reads}
use Rattle.hv_toks.specs.MacroState.{Entry}

-- where the innermost group was opened
abbrev pub opened_of : List OpenGroup → Option Place
opened_of gs = option_map (λ (g : OpenGroup). g.opened) (slice_get gs 0)

end_open : (d : Diagram) (values : List Bool) (gs : List OpenGroup) (place : Place)
    (macros : List Entry) → opened_of gs ≡ Some place
    → refusal Unbalanced place ≡ at_end (map (group_in d values) gs) macros
end_open d values [] place macros e = absurd (cc)
end_open d values (g ∷ gs) place macros e =
    let same : place ≡ g.opened = cc in
    ap (λ (p : Place). let r : Reading (List Entry) = refusal Unbalanced p in r) same

pub none_open : (gs : List OpenGroup) → opened_of gs ≡ None → gs ≡ []
none_open [] e = refl
none_open (g ∷ gs) e = absurd (cc)

pub some_open : (gs : List OpenGroup) (place : Place) → opened_of gs ≡ Some place → gs ≡ [] → ⊥
some_open [] place e is = cc
some_open (g ∷ gs) place e is = cc

-- a file that ends within a group is refused
pub end_refused : (old new : Diagram) (before now : UnitSoFar) (here : List ℕ) (groups : Groups)
    (place : Place) → Keeps old new → opened_of groups.groups ≡ Some place
    → Reads old new before now here here groups.cond (λ values macros. refusal Unbalanced place)
    → Reads old new before now here here groups.cond
    (λ values macros. at_end (groups_in old groups values) macros)
end_refused old new before now here groups place keeps e r =
    reads_same old new before now here here groups.cond (λ values macros. refusal Unbalanced place)
    (λ values macros. at_end (groups_in old groups values) macros) keeps
    (λ values macros w l same. end_open old values groups.groups place macros e) r

-- and one without an open group is read
pub end_read : (diagram : Diagram) (before : UnitSoFar) (here : List ℕ) (groups : Groups)
    → IsSound diagram before here → opened_of groups.groups ≡ None
    → Reads diagram diagram before before here here groups.cond
    (λ values macros. at_end (groups_in diagram groups values) macros)
end_read diagram before here groups sound e =
    nothing_reads diagram diagram before here groups.cond
    (λ values macros. at_end (groups_in diagram groups values) macros) (Keeps-refl diagram) sound
    (λ values macros w l same. ap (λ (gs : List OpenGroup). at_end (map (group_in diagram values)
    gs)
    macros) (none_open groups.groups e))

-- whether a group is open, by where it was opened
pub is_closed : (o : Option (Bor Place)) (gs : List OpenGroup) → option_copied o ≡ opened_of gs
    → is_some o ≡ false → gs ≡ []
is_closed None gs e is = none_open gs (sym e)
is_closed (Some p) gs e is = absurd (true≢false is)

pub is_open : (o : Option (Bor Place)) (gs : List OpenGroup) → option_copied o ≡ opened_of gs
    → is_some o ≡ true → gs ≡ [] → ⊥
is_open None gs e is = absurd (true≢false (sym is))
is_open (Some p) gs e is = some_open gs p.now (sym e)
