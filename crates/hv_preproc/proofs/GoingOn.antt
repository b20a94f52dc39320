-- What `#elif`, `#else` and `#endif` do to the open groups of a file.
use Rattle.std.proofs.Common.{◌≡◌, ◌&&◌, ℕ, Bool, true, false, not, cond, List, [], ◌∷◌, map, drop, Option, None, Some, refl, sym, ap, ◌∙◌, subst, inl, arith, ◌+◌}
use Rattle.std.specs.Prelude.{All, Err, Ok, OnOk, Result}
use Rattle.std.proofs.lemmas.Bool.{both_ways, true≢false}
use Rattle.std.proofs.lemmas.List.Elements.{All-head, All-tail}
use Rattle.hv_base.specs.declared.place.Place.{Place}
use Rattle.hv_base.specs.declared.why.Why.TheVariants.{Unbalanced}
use Rattle.hv_cond.specs.Diagram.{Diagram, IsNode, Keeps, holds}
use Rattle.hv_cond.specs.Laws.{Keeps-refl}
use Rattle.hv_cond.specs.declared.conditions.Cond.{Cond}
use Rattle.hv_macros.specs.Table.{meaning_in}
use Rattle.hv_macros.specs.declared.tables.MacroTable.{MacroTable}
use Rattle.hv_plainpp.specs.Directives.{Conditional, elif, else_, endif}
use Rattle.hv_plainpp.specs.Files.{Entered, place_of}
use Rattle.hv_plainpp.specs.Groups.{Group, Progress, elif_in, expression_truth, going_on, over, processing, progress_at, progress_at_else, regrouped, searching}
use Rattle.hv_plainpp.specs.Reading.{Ending, Reading, reaches, reading, refusal}
use Rattle.hv_preproc.proofs.Asking.{Rises-until, ends_then, reached_until}
use Rattle.hv_preproc.proofs.Chaining.{and_then-assoc}
use Rattle.hv_preproc.proofs.GroupsKept.{AreGroups-with, All-kept, all_groups_in-kept, progress_by, progress_over, truths_group}
use Rattle.hv_preproc.proofs.Later.{nothing_reads, reads_as, reads_later, reads_same}
use Rattle.hv_preproc.proofs.Moving.{IsSound-later}
use Rattle.hv_preproc.proofs.Stopped.{stops_as, stops_later}
use Rattle.hv_preproc.specs.declared.groups.Groups.{Groups}
use Rattle.hv_preproc.specs.declared.groups.OpenGroup.{OpenGroup}
use Rattle.hv_preproc.specs.declared.unit.Unit.{Unit as UnitSoFar}
use Rattle.hv_preproc.specs.working.Coming.{part_in}
use Rattle.hv_preproc.specs.working.Keys.{Rises, reached}
use Rattle.hv_preproc.specs.working.OpenGroups.{AreGroups, GoesOn, GoesOnAtElse, IsGroupOf, group_in, groups_in, progress_in, searching_of}
use Rattle.hv_preproc.specs.working.Parts.{AreRegrouped, AreTruths, group_part, keeping, tokens_on}
use Rattle.hv_preproc.specs.working.Walk.{IsSound, IsUnit, Part, Reads, Stops}
use Rattle.hv_texts.specs.Readings.{IsOriginOf}
use Rattle.hv_texts.specs.declared.came.Truths.{Truths}
use Rattle.hv_texts.specs.declared.origin.Origin.{Origin}
use Rattle.hv_toks.specs.Macro.{Macro}
use Rattle.hv_toks.specs.MacroState.{Entry, meaning_of}
use Rattle.hv_toks.specs.declared.token.PpTok.{PpTok}

------ the group that goes on

-- where an `#elif` or `#else` finds a group: the group and those around it
pub record IsOnTop (gs : List OpenGroup) (asked : Cond) : Type 0 where
  pub g : OpenGroup
  pub outer : List OpenGroup
  pub all : gs ≡ g ∷ outer
  pub before_else : g.after_else ≡ false
  pub is_asked : asked ≡ g.searching

some_asked : (b : Bool) (c asked : Cond)
    → elim b as (λ _. Option Cond) [ true ↦ None | false ↦ Some c ] ≡ Some asked
    → (b ≡ false) × (asked ≡ c)
some_asked true c asked e = absurd (cc)
some_asked false c asked e = (refl, cc)

pub on_top : (gs : List OpenGroup) (asked : Cond) → searching_of gs ≡ Some asked
    → IsOnTop gs asked
on_top [] asked e = absurd (cc)
on_top (g ∷ outer) asked e =
    let parts = some_asked g.after_else g.searching asked e in
    record { g = g; outer = outer; all = refl; before_else = parts.0; is_asked = parts.1 }

pub top_group : (d : Diagram) (groups : Groups) (asked : Cond) → AreGroups d groups
    → (t : IsOnTop groups.groups asked) → IsGroupOf d groups.cond t.g
top_group d groups asked r t = All-head (IsGroupOf d groups.cond) t.g t.outer
    (subst (λ (gs : List OpenGroup). All (IsGroupOf d groups.cond) gs) t.all r.each)

pub outer_groups : (d : Diagram) (groups : Groups) (asked : Cond) → AreGroups d groups
    → (t : IsOnTop groups.groups asked) → All (IsGroupOf d groups.cond) t.outer
outer_groups d groups asked r t = All-tail (IsGroupOf d groups.cond) t.g t.outer
    (subst (λ (gs : List OpenGroup). All (IsGroupOf d groups.cond) gs) t.all r.each)

-- the condition under which it is asked is a node, and holds only in the file
pub asked_node : (d : Diagram) (groups : Groups) (asked : Cond) → AreGroups d groups
    → (t : IsOnTop groups.groups asked) → IsNode d asked
asked_node d groups asked r t =
    subst (λ (c : Cond). IsNode d c) (sym t.is_asked) (top_group d groups asked r t).searching

pub asked_within : (d : Diagram) (groups : Groups) (asked : Cond) → AreGroups d groups
    → (t : IsOnTop groups.groups asked) → (values : List Bool)
    → holds d groups.cond values ≡ false → holds d asked values ≡ false
asked_within d groups asked r t values e =
    subst (λ (c : Cond). holds d c values ≡ false) (sym t.is_asked)
    ((top_group d groups asked r t).outside values e).1

------ `#elif`

-- how far a group has been read that is processed or searching where these hold
abbrev progress_if : (a s : Bool) → Progress
progress_if a s = cond a processing (cond s searching over)

-- the part of an `#elif` that finds this group: its expression, where the group is searching
elif_part : (a s : Bool) → (a ≡ true → s ≡ false) → (at : Entered) (hash : Place)
    (line : List PpTok) (g : Group) (outer : List Group) (macros : List Entry)
    → keeping (elif_in at (meaning_of macros) hash line g outer (progress_if a s)) macros
    ≡ cond s (keeping (expression_truth at (meaning_of macros) hash line) macros) (reading macros)
elif_part true true apart at hash line g outer macros = absurd (true≢false (apart refl))
elif_part true false apart at hash line g outer macros = refl
elif_part false true apart at hash line g outer macros =
    and_then-assoc (expression_truth at (meaning_of macros) hash line)
    (λ truth. going_on g (progress_at truth) outer) (λ value. reading macros)
elif_part false false apart at hash line g outer macros = refl

-- and how the group goes on
elif_ends : (a s : Bool) → (a ≡ true → s ≡ false) → (at : Entered) (macros : List ℕ → Macro)
    (hash : Place) (line : List PpTok) (g : Group) (outer : List Group) (progress : Progress)
    → (s ≡ true → (truth : Bool) × ((expression_truth at macros hash line).ending ≡ reaches truth)
    × (progress ≡ progress_at truth))
    → (s ≡ false → progress ≡ over)
    → (elif_in at macros hash line g outer (progress_if a s)).ending
    ≡ reaches (record g { progress = progress } ∷ outer)
elif_ends true true apart at macros hash line g outer progress there elsewhere =
    absurd (true≢false (apart refl))
elif_ends true false apart at macros hash line g outer progress there elsewhere =
    ap (λ (p : Progress). (going_on g p outer).ending) (sym (elsewhere refl))
elif_ends false true apart at macros hash line g outer progress there elsewhere =
    let t = there refl in
    ends_then (expression_truth at macros hash line) t.0
    (λ truth. going_on g (progress_at truth) outer) t.1
    ∙ ap (λ (p : Progress). (going_on g p outer).ending) (sym t.2)
elif_ends false false apart at macros hash line g outer progress there elsewhere =
    ap (λ (p : Progress). (going_on g p outer).ending) (sym (elsewhere refl))

-- before its `#else` an `#elif` or `#else` goes on with a group
not_refused : {A : Type 0} (b : Bool) (r s : A) → b ≡ false
    → elim b as (λ _. A) [ true ↦ r | false ↦ s ] ≡ s
not_refused true r s e = absurd (true≢false e)
not_refused false r s e = refl

-- what an `#elif` comes to at a group that goes on
elif_at : (at : Entered) (macros : List ℕ → Macro) (hash : Place) (line : List PpTok)
    (d : Diagram) (values : List Bool) (gs : List OpenGroup) (asked : Cond)
    → (t : IsOnTop gs asked)
    → regrouped at macros hash (elif line) (map (group_in d values) gs)
    ≡ elif_in at macros hash line (group_in d values t.g) (map (group_in d values) t.outer)
    (progress_in d values t.g)
elif_at at macros hash line d values gs asked t =
    ap (λ (hs : List OpenGroup). regrouped at macros hash (elif line) (map (group_in d values) hs))
    t.all
    ∙ not_refused t.g.after_else (refusal Unbalanced hash)
    (elif_in at macros hash line (group_in d values t.g) (map (group_in d values) t.outer)
    (progress_in d values t.g)) t.before_else

-- a condition that holds only in the file
only_in : (file s : Bool) (r other : Reading (List Entry)) → (file ≡ false → s ≡ false)
    → cond s r other ≡ cond file (cond s r other) other
only_in true s r other within = refl
only_in false s r other within = ap (λ (b : Bool). cond b r other) (within refl)

-- the part of the whole directive is the expression's where it is asked
pub elif_as : (d : Diagram) (groups : Groups) (asked : Cond) (at : Entered) (hash : PpTok)
    (line : List PpTok) → AreGroups d groups → IsOnTop groups.groups asked
    → (values : List Bool) (macros : List Entry)
    → part_in d asked (λ vs ms. keeping (expression_truth at (meaning_of ms) (place_of at hash)
    line)
    ms) values macros
    ≡ part_in d groups.cond (λ vs. group_part at (groups_in d groups vs) hash (elif line)) values
    macros
elif_as d groups asked at hash line r t values macros =
    let own : Reading (List Entry) =
    keeping (expression_truth at (meaning_of macros) (place_of at hash) line) macros in
    let top = top_group d groups asked r t in
    ap (λ (c : Cond). cond (holds d c values) own (reading macros)) t.is_asked
    ∙ only_in (holds d groups.cond values) (holds d t.g.searching values) own (reading macros)
    (λ e. (top.outside values e).1)
    ∙ ap (λ (x : Reading (List Entry)). cond (holds d groups.cond values) x (reading macros))
    (sym (ap (λ (x : Reading (List Group)). keeping x macros)
    (elif_at at (meaning_of macros) (place_of at hash) line d values groups.groups asked t)
    ∙ elif_part (holds d t.g.active values) (holds d t.g.searching values) (top.apart values) at
    (place_of at hash) line (group_in d values t.g) (map (group_in d values) t.outer) macros))

pub elif_reads : (old new : Diagram) (before now : UnitSoFar) (here there : List ℕ) (asked : Cond)
    (at : Entered) (groups : Groups) (place : Place) (hash : PpTok) (line : List PpTok)
    → Keeps old new → IsUnit old before → AreGroups old groups → IsOnTop groups.groups asked
    → place ≡ place_of at hash
    → Reads old new before now here there asked
    (λ values macros. keeping (expression_truth at (meaning_of macros) place line) macros)
    → Reads old new before now here there groups.cond
    (λ values. group_part at (groups_in old groups values) hash (elif line))
elif_reads old new before now here there asked at groups place hash line keeps unit r t is reads =
    reads_as old old new before now here there groups.cond asked
    (λ values macros. keeping (expression_truth at (meaning_of macros) (place_of at hash) line)
    macros)
    (λ values. group_part at (groups_in old groups values) hash (elif line)) (Keeps-refl old) keeps
    unit (λ values macros lives same. elif_as old groups asked at hash line r t values macros)
    (subst (λ (p : Place). Reads old new before now here there asked
    (λ values macros. keeping (expression_truth at (meaning_of macros) p line) macros)) is reads)

pub elif_stops : (old new : Diagram) (before : UnitSoFar) (here : List ℕ) (asked : Cond)
    (at : Entered) (groups : Groups) (place : Place) (hash : PpTok) (line : List PpTok)
    (spot : Place) (conds : List Cond)
    → Keeps old new → IsUnit old before → AreGroups old groups → IsOnTop groups.groups asked
    → place ≡ place_of at hash
    → Stops old new before here asked
    (λ values macros. keeping (expression_truth at (meaning_of macros) place line) macros) spot
    conds
    → Stops old new before here groups.cond
    (λ values. group_part at (groups_in old groups values) hash (elif line)) spot conds
elif_stops old new before here asked at groups place hash line spot conds keeps unit r t is stops =
    stops_as old old new before here groups.cond asked
    (λ values macros. keeping (expression_truth at (meaning_of macros) (place_of at hash) line)
    macros)
    (λ values. group_part at (groups_in old groups values) hash (elif line)) spot conds
    (Keeps-refl old) keeps unit
    (λ values macros lives same. elif_as old groups asked at hash line r t values macros)
    (subst (λ (p : Place). Stops old new before here asked
    (λ values macros. keeping (expression_truth at (meaning_of macros) p line) macros) spot conds)
    is stops)

-- the groups after it
pub elif_regrouped : (old new : Diagram) (asked live : Cond) (at : Entered) (groups now : Groups)
    (place : Place) (hash : PpTok) (line : List PpTok) (truths : Truths) (table : MacroTable)
    → Keeps old new → AreGroups old groups → IsOnTop groups.groups asked
    → place ≡ place_of at hash
    → AreTruths old new live asked truths
    (λ values. expression_truth at (meaning_in old table values) place line)
    → GoesOn groups now truths.holds truths.fails
    → AreRegrouped old new groups now live
    (λ values. regrouped at (meaning_in old table values) (place_of at hash) (elif line))
elif_regrouped old new asked live at groups now place hash line truths table keeps r t is asks goes
    =
    λ values w l.
    let top = top_group old groups asked r t in
    let g : Group = group_in old values t.g in
    let gs : List Group = map (group_in old values) t.outer in
    let next : OpenGroup = record t.g { active = truths.holds; searching = truths.fails } in
    let progress : Progress = progress_in new values next in
    let is_own : holds old asked values ≡ holds old t.g.searching values =
    ap (λ (c : Cond). holds old c values) t.is_asked in
    let ends : (elif_in at (meaning_in old table values) place line g gs
    (progress_in old values t.g)).ending ≡ reaches (record g { progress = progress } ∷ gs) =
    elif_ends (holds old t.g.active values) (holds old t.g.searching values) (top.apart values) at
    (meaning_in old table values) place line g gs progress
    (λ s. let u = asks.there values (is_own ∙ s) l in (
      u.0,
      u.1,
      progress_by (holds new truths.holds values) (holds new truths.fails values) u.0 u.2.0
          u.2.1,
    ))
    (λ s. let none = asks.within.outside values
    (keeps.meaning asked (asked_node old groups asked r t) values ∙ is_own ∙ s) in
    progress_over (holds new truths.holds values) (holds new truths.fails values) none.0 none.1) in
    ap (λ (p : Place). (regrouped at (meaning_in old table values) p (elif line)
    (groups_in old groups values)).ending) (sym is)
    ∙ ap (λ (x : Reading (List Group)). x.ending)
    (elif_at at (meaning_in old table values) place line old values groups.groups asked t)
    ∙ ends
    ∙ ap (λ (hs : List Group). reaches (record g { progress = progress } ∷ hs))
    (sym (all_groups_in-kept keeps groups.cond t.outer (outer_groups old groups asked r t) values))
    ∙ ap (λ (x : Groups). reaches (groups_in new x values)) (sym (goes t.g t.outer t.all))

pub elif_groups : (old new : Diagram) (asked live : Cond) (groups now : Groups) (truths : Truths)
    (read : List Bool → Reading Bool) → Keeps old new → AreGroups old groups
    → IsOnTop groups.groups asked → AreTruths old new live asked truths read
    → GoesOn groups now truths.holds truths.fails → AreGroups new now
elif_groups old new asked live groups now truths read keeps r t asks goes =
    AreGroups-with new groups.cond
    (record t.g { active = truths.holds; searching = truths.fails }) t.outer now
    (keeps.stays groups.cond r.file)
    (truths_group old new groups.cond asked live truths read t.g.opened t.g.after_else keeps r.file
    (asked_node old groups asked r t) (asked_within old groups asked r t) asks)
    (All-kept keeps groups.cond r.file t.outer (outer_groups old groups asked r t))
    (goes t.g t.outer t.all)

------ `#else`

else_progress : (a s n : Bool) → (a ≡ true → s ≡ false) → n ≡ false
    → progress_if s n ≡ progress_at_else (progress_if a s)
else_progress true true n apart e = absurd (true≢false (apart refl))
else_progress true false n apart e = ap (λ (b : Bool). cond b searching over) e
else_progress false true n apart e = refl
else_progress false false n apart e = ap (λ (b : Bool). cond b searching over) e

-- the group after its `#else`
abbrev else_group : Group → Group
else_group g = record {
  opened = g.opened;
  progress = progress_at_else g.progress;
  behind_else = true;
}

else_at : (at : Entered) (macros : List ℕ → Macro) (hash : Place) (d : Diagram)
    (values : List Bool) (gs : List OpenGroup) (asked : Cond) → (t : IsOnTop gs asked)
    → regrouped at macros hash else_ (map (group_in d values) gs)
    ≡ reading (else_group (group_in d values t.g) ∷ map (group_in d values) t.outer)
else_at at macros hash d values gs asked t =
    ap (λ (hs : List OpenGroup). regrouped at macros hash else_ (map (group_in d values) hs)) t.all
    ∙ not_refused t.g.after_else (refusal Unbalanced hash)
    (reading (else_group (group_in d values t.g) ∷ map (group_in d values) t.outer)) t.before_else

pub else_reads : (diagram : Diagram) (before : UnitSoFar) (here : List ℕ) (asked : Cond)
    (at : Entered) (groups : Groups) (hash : PpTok) → IsSound diagram before here
    → IsOnTop groups.groups asked
    → Reads diagram diagram before before here here groups.cond
    (λ values. group_part at (groups_in diagram groups values) hash else_)
else_reads diagram before here asked at groups hash sound t =
    nothing_reads diagram diagram before here groups.cond
    (λ values. group_part at (groups_in diagram groups values) hash else_) (Keeps-refl diagram)
    sound
    (λ values macros w l same. ap (λ (x : Reading (List Group)). keeping x macros)
    (else_at at (meaning_of macros) (place_of at hash) diagram values groups.groups asked t))

pub else_regrouped : (diagram : Diagram) (asked live : Cond) (at : Entered) (groups now : Groups)
    (hash : PpTok) (table : MacroTable) → AreGroups diagram groups → IsOnTop groups.groups asked
    → GoesOnAtElse diagram groups now
    → AreRegrouped diagram diagram groups now live
    (λ values. regrouped at (meaning_in diagram table values) (place_of at hash) else_)
else_regrouped diagram asked live at groups now hash table r t goes = λ values w l.
    let top = top_group diagram groups asked r t in
    let gs : List Group = map (group_in diagram values) t.outer in
    let after = goes t.g t.outer t.all in
    ap (λ (x : Reading (List Group)). x.ending)
    (else_at at (meaning_in diagram table values) (place_of at hash) diagram values groups.groups
    asked t)
    ∙ ap (λ (p : Progress). let made : Ending (List Group) = reaches (record {
      opened = t.g.opened;
      progress = p;
      behind_else = true;
    } ∷ gs) in made) (sym (else_progress (holds diagram t.g.active values)
    (holds diagram t.g.searching values) (holds diagram after.0 values) (top.apart values)
    (after.2 values)))
    ∙ ap (λ (x : Groups). reaches (groups_in diagram x values)) (sym after.3)

pub else_groups : (diagram : Diagram) (asked : Cond) (groups now : Groups) → AreGroups diagram
    groups
    → IsOnTop groups.groups asked → GoesOnAtElse diagram groups now → AreGroups diagram now
else_groups diagram asked groups now r t goes =
    let top = top_group diagram groups asked r t in
    let after = goes t.g t.outer t.all in
    AreGroups-with diagram groups.cond (record {
      opened = t.g.opened;
      active = t.g.searching;
      searching = after.0;
      after_else = true;
    }) t.outer now r.file (record {
      active = top.searching;
      searching = after.1;
      apart = λ values e. after.2 values;
      outside = λ values e. ((top.outside values e).1, after.2 values);
    }) (outer_groups diagram groups asked r t) after.3

------ `#endif`

endif_at : (at : Entered) (macros : List ℕ → Macro) (hash : Place) (d : Diagram)
    (values : List Bool) (gs : List OpenGroup) → (gs ≡ [] → ⊥)
    → regrouped at macros hash endif (map (group_in d values) gs)
    ≡ reading (map (group_in d values) (drop 1 gs))
endif_at at macros hash d values [] some = absurd (some refl)
endif_at at macros hash d values (g ∷ outer) some = refl

pub endif_reads : (diagram : Diagram) (before : UnitSoFar) (here : List ℕ) (at : Entered)
    (groups : Groups) (hash : PpTok) → IsSound diagram before here → (groups.groups ≡ [] → ⊥)
    → Reads diagram diagram before before here here groups.cond
    (λ values. group_part at (groups_in diagram groups values) hash endif)
endif_reads diagram before here at groups hash sound some =
    nothing_reads diagram diagram before here groups.cond
    (λ values. group_part at (groups_in diagram groups values) hash endif) (Keeps-refl diagram)
    sound
    (λ values macros w l same. ap (λ (x : Reading (List Group)). keeping x macros)
    (endif_at at (meaning_of macros) (place_of at hash) diagram values groups.groups some))

pub endif_regrouped : (diagram : Diagram) (live : Cond) (at : Entered) (groups now : Groups)
    (hash : PpTok) (table : MacroTable) → (groups.groups ≡ [] → ⊥)
    → now ≡ record { cond = groups.cond; groups = drop 1 groups.groups }
    → AreRegrouped diagram diagram groups now live
    (λ values. regrouped at (meaning_in diagram table values) (place_of at hash) endif)
endif_regrouped diagram live at groups now hash table some is = λ values w l.
    ap (λ (x : Reading (List Group)). x.ending)
    (endif_at at (meaning_in diagram table values) (place_of at hash) diagram values groups.groups
    some)
    ∙ ap (λ (x : Groups). reaches (groups_in diagram x values)) (sym is)

all_after : (diagram : Diagram) (file : Cond) (gs : List OpenGroup)
    → All (IsGroupOf diagram file) gs → All (IsGroupOf diagram file) (drop 1 gs)
all_after diagram file [] r = r
all_after diagram file (g ∷ outer) r = All-tail (IsGroupOf diagram file) g outer r

pub endif_groups : (diagram : Diagram) (groups now : Groups) → AreGroups diagram groups
    → now ≡ record { cond = groups.cond; groups = drop 1 groups.groups } → AreGroups diagram now
endif_groups diagram groups now r is =
    subst (λ (gs : Groups). AreGroups diagram gs) (sym is) (record {
      file = r.file;
      each = all_after diagram groups.cond groups.groups r.each;
    })

------ directives without a group

-- a directive is refused where these groups are open
abbrev pub IsUnbalanced : Diagram → (gs : List OpenGroup) → Conditional → Type 0
IsUnbalanced d gs c = (at : Entered) (macros : List ℕ → Macro) (hash : Place) (values : List Bool)
    → regrouped at macros hash c (map (group_in d values) gs) ≡ refusal Unbalanced hash

none_asked : {A : Type 0} (b : Bool) (c : Cond) (r s : A)
    → elim b as (λ _. Option Cond) [ true ↦ None | false ↦ Some c ] ≡ None
    → elim b as (λ _. A) [ true ↦ r | false ↦ s ] ≡ r
none_asked true c r s e = refl
none_asked false c r s e = absurd (cc)

pub elif_unbalanced : (d : Diagram) (gs : List OpenGroup) (line : List PpTok)
    → searching_of gs ≡ None → IsUnbalanced d gs (elif line)
elif_unbalanced d [] line e = λ at macros hash values. refl
elif_unbalanced d (g ∷ outer) line e = λ at macros hash values.
    none_asked g.after_else g.searching (refusal Unbalanced hash)
    (elif_in at macros hash line (group_in d values g) (map (group_in d values) outer)
    (progress_in d values g)) e

pub else_unbalanced : (d : Diagram) (gs : List OpenGroup) → searching_of gs ≡ None
    → IsUnbalanced d gs else_
else_unbalanced d [] e = λ at macros hash values. refl
else_unbalanced d (g ∷ outer) e = λ at macros hash values.
    none_asked g.after_else g.searching (refusal Unbalanced hash)
    (reading (else_group (group_in d values g) ∷ map (group_in d values) outer)) e

pub endif_unbalanced : (d : Diagram) (gs : List OpenGroup) → gs ≡ [] → IsUnbalanced d gs endif
endif_unbalanced d gs e = λ at macros hash values.
    ap (λ (hs : List OpenGroup). regrouped at macros hash endif (map (group_in d values) hs)) e

-- the file is refused for it
pub unbalanced_reads : (old new : Diagram) (before now : UnitSoFar) (here : List ℕ) (at : Entered)
    (groups : Groups) (place : Place) (hash : PpTok) (c : Conditional) → Keeps old new
    → IsUnbalanced old groups.groups c → place ≡ place_of at hash
    → Reads old new before now here here groups.cond (λ values macros. refusal Unbalanced place)
    → Reads old new before now here here groups.cond
    (λ values. group_part at (groups_in old groups values) hash c)
unbalanced_reads old new before now here at groups place hash c keeps unbalanced is reads =
    reads_same old new before now here here groups.cond
    (λ values macros. refusal Unbalanced (place_of at hash))
    (λ values. group_part at (groups_in old groups values) hash c) keeps
    (λ values macros w l same. ap (λ (x : Reading (List Group)). keeping x macros)
    (sym (unbalanced at (meaning_of macros) (place_of at hash) values)))
    (subst (λ (p : Place). Reads old new before now here here groups.cond
    (λ values macros. refusal Unbalanced p)) is reads)

-- after a refusal of the file none of its configurations lives
pub regrouped_nowhere : (old mid new : Diagram) (before now : Groups) (was live : Cond)
    (regroup : List Bool → List Group → Reading (List Group))
    → Keeps old mid → IsNode old before.cond
    → ((values : List Bool) → holds new live values
    ≡ (holds mid was values && not (holds mid before.cond values)))
    → AreRegrouped old new before now live regroup
regrouped_nowhere old mid new before now was live regroup keeps is_file lives = λ values w l.
    absurd (both_ways (holds new live values)
    (lives values ∙ none (holds mid was values) (holds mid before.cond values)
    (keeps.meaning before.cond is_file values ∙ w)) l)
  where
    none : (a b : Bool) → b ≡ true → (a && not b) ≡ false
    none true true e = refl
    none true false e = sym e
    none false b e = refl

-- the step of a directive that is refused
pub refused_step : (old new : Diagram) (before now : UnitSoFar) (origin : Origin) (groups : Groups)
    (place : Place) (hash : PpTok) (c : Conditional) → Keeps old new
    → IsUnbalanced old groups.groups c
    → ((at : Entered) → IsOriginOf origin at → place ≡ place_of at hash)
    → ((here : List ℕ) → IsSound old before here → Reads old new before now here here groups.cond
    (λ values macros. refusal Unbalanced place))
    → (at : Entered) (low high : ℕ) → IsOriginOf origin at → Rises low high (hash ∷ tokens_on c)
    → IsSound old before (reached at low)
    → Reads old new before now (reached at low) (reached at high) groups.cond
    (λ values. group_part at (groups_in old groups values) hash c)
refused_step old new before now origin groups place hash c keeps unbalanced is reads at low high
    stands rises sound =
    reads_later old new before now (reached at low) (reached at low) (reached at low)
    (reached at high) groups.cond (λ values. group_part at (groups_in old groups values) hash c)
    (inl refl) (reached_until at low high (Rises-until low high (hash ∷ tokens_on c) rises))
    (unbalanced_reads old new before now (reached at low) at groups place hash c keeps unbalanced
    (is at stands) (reads (reached at low) sound))

-- the same where it may have failed
pub refused_if_ok : {T E : Type 0} (result : Result T E) (old new : Diagram)
    (before now : UnitSoFar) (origin : Origin) (groups : Groups)
    (place : Place) (hash : PpTok) (c : Conditional) → Keeps old new
    → IsUnbalanced old groups.groups c
    → ((at : Entered) → IsOriginOf origin at → place ≡ place_of at hash)
    → OnOk result ((here : List ℕ) → IsSound old before here
    → Reads old new before now here here groups.cond (λ values macros. refusal Unbalanced place))
    → OnOk result ((at : Entered) (low high : ℕ) → IsOriginOf origin at
    → Rises low high (hash ∷ tokens_on c) → IsSound old before (reached at low)
    → Reads old new before now (reached at low) (reached at high) groups.cond
    (λ values. group_part at (groups_in old groups values) hash c))
refused_if_ok (Ok x) old new before now origin groups place hash c keeps unbalanced is reads =
    refused_step old new before now origin groups place hash c keeps unbalanced is reads
refused_if_ok (Err e) old new before now origin groups place hash c keeps unbalanced is reads = tt

-- a step that reads nothing, over the tokens of a directive
pub over_line : (diagram : Diagram) (u : UnitSoFar) (within : Cond) (part : Part) (at : Entered)
    (low high : ℕ) (tokens : List PpTok) → Rises low high tokens
    → Reads diagram diagram u u (reached at low) (reached at low) within part
    → Reads diagram diagram u u (reached at low) (reached at high) within part
over_line diagram u within part at low high tokens rises reads =
    reads_later diagram diagram u u (reached at low) (reached at low) (reached at low)
    (reached at high) within part (inl refl)
    (reached_until at low high (Rises-until low high tokens rises)) reads

------ over the tokens of an `#elif`

pub elif_step : (old mid : Diagram) (before now : UnitSoFar) (origin : Origin) (asked : Cond)
    (groups : Groups) (place : Place) (hash : PpTok) (line : List PpTok)
    → Keeps old mid → IsUnit old before → AreGroups old groups → IsOnTop groups.groups asked
    → ((at : Entered) → IsOriginOf origin at → place ≡ place_of at hash)
    → ((at : Entered) (low high : ℕ) → IsOriginOf origin at → Rises low high line
    → IsSound old before (reached at low)
    → Reads old mid before now (reached at low) (reached at high) asked
    (λ values macros. keeping (expression_truth at (meaning_of macros) place line) macros))
    → (at : Entered) (low high : ℕ) → IsOriginOf origin at → Rises low high (hash ∷ line)
    → IsSound old before (reached at low)
    → Reads old mid before now (reached at low) (reached at high) groups.cond
    (λ values. group_part at (groups_in old groups values) hash (elif line))
elif_step old mid before now origin asked groups place hash line keeps unit r t is reads at low high
    stands rises sound =
    let later = reached_until at low (hash.span.start + 1) (omega (arith, rises.0)) in
    reads_later old mid before now (reached at low) (reached at (hash.span.start + 1))
    (reached at high) (reached at high) groups.cond
    (λ values. group_part at (groups_in old groups values) hash (elif line)) later (inl refl)
    (elif_reads old mid before now (reached at (hash.span.start + 1)) (reached at high) asked at
    groups place hash line keeps unit r t (is at stands)
    (reads at (hash.span.start + 1) high stands rises.1
    (IsSound-later old before (reached at low) (reached at (hash.span.start + 1)) later sound)))

pub elif_stopped : (old mid : Diagram) (before : UnitSoFar) (origin : Origin) (asked : Cond)
    (groups : Groups) (place : Place) (hash : PpTok) (line : List PpTok)
    → Keeps old mid → IsUnit old before → AreGroups old groups → IsOnTop groups.groups asked
    → ((at : Entered) → IsOriginOf origin at → place ≡ place_of at hash)
    → (spot : Place) (conds : List Cond)
    → ((at : Entered) (low high : ℕ) → IsOriginOf origin at → Rises low high line
    → Stops old mid before (reached at low) asked
    (λ values macros. keeping (expression_truth at (meaning_of macros) place line) macros) spot
    conds)
    → (at : Entered) (low high : ℕ) → IsOriginOf origin at → Rises low high (hash ∷ line)
    → Stops old mid before (reached at low) groups.cond
    (λ values. group_part at (groups_in old groups values) hash (elif line)) spot conds
elif_stopped old mid before origin asked groups place hash line keeps unit r t is spot conds stops
    at
    low high stands rises =
    stops_later old mid before (reached at low) (reached at (hash.span.start + 1)) groups.cond
    (λ values. group_part at (groups_in old groups values) hash (elif line)) spot conds
    (reached_until at low (hash.span.start + 1) (omega (arith, rises.0)))
    (elif_stops old mid before (reached at (hash.span.start + 1)) asked at groups place hash line
    spot
    conds keeps unit r t (is at stands) (stops at (hash.span.start + 1) high stands rises.1))
