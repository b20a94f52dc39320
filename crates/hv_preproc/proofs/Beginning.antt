-- What `#if`, `#ifdef` and `#ifndef` do to the open groups of a file.
use Rattle.std.proofs.Common.{◌≡◌, ◌&&◌, ℕ, Bool, true, false, cond, List, ◌∷◌, map, length, nat_lt, refl, sym, ap, ap₂, ◌∙◌, subst, inl, arith, ◌+◌}
use Rattle.std.proofs.lemmas.Bool.{and_from, and_left, and_right}
use Rattle.std.proofs.lemmas.List.{length-map}
use Rattle.hv_base.specs.declared.limits.TheConstants.{MOST_GROUPS}
use Rattle.hv_base.specs.declared.place.Place.{Place}
use Rattle.hv_base.specs.declared.why.Why.TheVariants.{TooDeep}
use Rattle.hv_cond.specs.Diagram.{Diagram, IsNode, Keeps, holds}
use Rattle.hv_cond.specs.Laws.{Keeps-refl, Keeps-trans}
use Rattle.hv_cond.specs.declared.conditions.Cond.{Cond}
use Rattle.hv_macros.specs.Table.{meaning_in}
use Rattle.hv_macros.specs.declared.tables.MacroTable.{MacroTable}
use Rattle.hv_plainpp.specs.Directives.{Question, if_}
use Rattle.hv_plainpp.specs.Files.{Entered, place_of}
use Rattle.hv_plainpp.specs.Groups.{Group, Progress, answer, is_processed, over, progress_at, regrouped}
use Rattle.hv_plainpp.specs.Reading.{Reading, and_then, reaches, reading, refusal}
use Rattle.hv_preproc.proofs.Asking.{ends_then, reached_until}
use Rattle.hv_preproc.proofs.Chaining.{and_then-assoc, and_then-reading}
use Rattle.hv_preproc.proofs.GroupsKept.{All-kept, AreGroups-with, all_groups_in-kept, progress_by, progress_over, truths_group}
use Rattle.hv_preproc.proofs.Later.{reads_as, reads_later, reads_same, reads_then}
use Rattle.hv_preproc.proofs.Moving.{IsSound-later}
use Rattle.hv_preproc.proofs.Stopped.{stops_as, stops_first, stops_later, stops_same}
use Rattle.hv_preproc.specs.declared.groups.Groups.{Groups}
use Rattle.hv_preproc.specs.declared.groups.OpenGroup.{OpenGroup}
use Rattle.hv_preproc.specs.declared.unit.Unit.{Unit as UnitSoFar}
use Rattle.hv_preproc.specs.working.Keys.{Rises, reached}
use Rattle.hv_preproc.specs.working.OpenGroups.{AreGroups, group_in, groups_in, progress_in}
use Rattle.hv_preproc.specs.working.Parts.{AreRegrouped, AreTruths, group_part, keeping, tokens_asked}
use Rattle.hv_preproc.specs.working.Walk.{IsSound, IsUnit, Part, Reads, Stops}
use Rattle.hv_texts.specs.Readings.{IsOriginOf}
use Rattle.hv_texts.specs.declared.came.Truths.{Truths}
use Rattle.hv_texts.specs.declared.origin.Origin.{Origin}
use Rattle.hv_toks.specs.MacroState.{Entry, meaning_of}
use Rattle.hv_toks.specs.declared.token.PpTok.{PpTok}

------ in one configuration

-- the readings where a group is opened if there is room for it
abbrev opened_if : (room : Bool) → (hash : Place) → Progress → List Group → Reading (List Group)
opened_if room hash progress groups = elim room [
  | true ↦ reading (record { opened = hash; progress = progress; behind_else = false } ∷ groups)
  | false ↦ refusal TooDeep hash
]

-- where lines are processed, what a question comes to comes first
abbrev begun : (processed room : Bool) → Reading Bool → (hash : Place) → List Group
    → Reading (List Group)
begun processed room r hash groups = elim processed [
  | true ↦ and_then r (λ truth. opened_if room hash (progress_at truth) groups)
  | false ↦ opened_if room hash over groups
]

-- the question's own part, where lines are processed
abbrev asked_in : (processed : Bool) → Reading Bool → List Entry → Reading (List Entry)
asked_in processed r macros = cond processed (keeping r macros) (reading macros)

-- what comes after it
abbrev room_part : (room : Bool) → (hash : Place) → List Entry → Reading (List Entry)
room_part room hash macros = cond room (reading macros) (refusal TooDeep hash)

begun_part : (processed room : Bool) (r : Reading Bool) (hash : Place) (groups : List Group)
    (macros : List Entry) → keeping (begun processed room r hash groups) macros
    ≡ and_then (asked_in processed r macros) (room_part room hash)
begun_part true true r hash groups macros =
    and_then-assoc r (λ truth. opened_if true hash (progress_at truth) groups)
    (λ value. reading macros)
    ∙ sym (and_then-reading (keeping r macros))
begun_part true false r hash groups macros =
    and_then-assoc r (λ truth. opened_if false hash (progress_at truth) groups)
    (λ value. reading macros)
    ∙ sym (and_then-assoc r (λ value. reading macros) (λ after. refusal TooDeep hash))
begun_part false true r hash groups macros = refl
begun_part false false r hash groups macros = refl

-- the group that is opened
abbrev opened_at : (hash : Place) → Progress → Group
opened_at hash progress = record { opened = hash; progress = progress; behind_else = false }

begun_ends : (processed room : Bool) (r : Reading Bool) (hash : Place) (groups : List Group)
    (progress : Progress) → room ≡ true
    → (processed ≡ true
    → (truth : Bool) × (r.ending ≡ reaches truth) × (progress ≡ progress_at truth))
    → (processed ≡ false → progress ≡ over)
    → (begun processed room r hash groups).ending ≡ reaches (opened_at hash progress ∷ groups)
begun_ends true room r hash groups progress e there elsewhere =
    let t = there refl in
    ends_then r t.0 (λ truth. opened_if room hash (progress_at truth) groups) t.1
    ∙ ap₂ (λ (b : Bool) (p : Progress). (opened_if b hash p groups).ending) e (sym t.2)
begun_ends false room r hash groups progress e there elsewhere =
    ap₂ (λ (b : Bool) (p : Progress). (opened_if b hash p groups).ending) e (sym (elsewhere refl))

------ under all configurations

-- whether one more group may be opened
abbrev pub has_room : List OpenGroup → Bool
has_room gs = nat_lt (length gs) MOST_GROUPS

-- the question's own part in the configurations of a file
abbrev pub question_part : Diagram → Entered → Groups → (hash : Place) → Question → Part
question_part old at groups hash asked values macros =
    cond (is_processed (groups_in old groups values))
    (keeping (answer at (meaning_of macros) hash asked) macros) (reading macros)

-- what comes after it
abbrev pub opening_part : Groups → (hash : Place) → Part
opening_part groups hash values macros =
    cond (has_room groups.groups) (reading macros) (refusal TooDeep hash)

same_room : (old : Diagram) (values : List Bool) (gs : List OpenGroup)
    → nat_lt (length (map (group_in old values) gs)) MOST_GROUPS ≡ has_room gs
same_room old values gs =
    ap (λ (n : ℕ). nat_lt n MOST_GROUPS) (length-map gs (group_in old values))

-- the part of the whole directive is the question's own and what comes after it
pub if_part : (old : Diagram) (at : Entered) (groups : Groups) (hash : PpTok) (asked : Question)
    (values : List Bool) (macros : List Entry)
    → group_part at (groups_in old groups values) hash (if_ asked) macros
    ≡ and_then (question_part old at groups (place_of at hash) asked values macros)
    (opening_part groups (place_of at hash) values)
if_part old at groups hash asked values macros =
    begun_part (is_processed (groups_in old groups values))
    (nat_lt (length (groups_in old groups values)) MOST_GROUPS)
    (answer at (meaning_of macros) (place_of at hash) asked) (place_of at hash)
    (groups_in old groups values) macros
    ∙ ap (λ (b : Bool). and_then (question_part old at groups (place_of at hash) asked values
    macros)
    (room_part b (place_of at hash))) (same_room old values groups.groups)

-- a part that is read where lines of a file are processed
split_and : (file processed : Bool) (r s : Reading (List Entry))
    → cond (file && processed) r s ≡ cond file (cond processed r s) s
split_and true processed r s = refl
split_and false processed r s = refl

in_file : (own file processed : Bool) (r s : Reading (List Entry)) → own ≡ file && processed
    → cond own r s ≡ cond file (cond processed r s) s
in_file own file processed r s e =
    ap (λ (b : Bool). cond b r s) e ∙ split_and file processed r s

pub question_reads : (old new : Diagram) (before now : UnitSoFar) (here there : List ℕ)
    (own : Cond) (at : Entered) (groups : Groups) (place : Place) (hash : PpTok) (asked : Question)
    → Keeps old new → IsUnit old before → place ≡ place_of at hash
    → ((values : List Bool) → holds old own values
    ≡ (holds old groups.cond values && is_processed (groups_in old groups values)))
    → Reads old new before now here there own
    (λ values macros. keeping (answer at (meaning_of macros) place asked) macros)
    → Reads old new before now here there groups.cond
    (question_part old at groups (place_of at hash) asked)
question_reads old new before now here there own at groups place hash asked keeps unit is means r =
    reads_as old old new before now here there groups.cond own
    (λ values macros. keeping (answer at (meaning_of macros) (place_of at hash) asked) macros)
    (question_part old at groups (place_of at hash) asked) (Keeps-refl old) keeps unit
    (λ values macros lives same. in_file (holds old own values) (holds old groups.cond values)
    (is_processed (groups_in old groups values))
    (keeping (answer at (meaning_of macros) (place_of at hash) asked) macros) (reading macros)
    (means values))
    (subst (λ (p : Place). Reads old new before now here there own
    (λ values macros. keeping (answer at (meaning_of macros) p asked) macros)) is r)

pub question_stops : (old new : Diagram) (before : UnitSoFar) (here : List ℕ)
    (own : Cond) (at : Entered) (groups : Groups) (place : Place) (hash : PpTok) (asked : Question)
    (spot : Place) (conds : List Cond)
    → Keeps old new → IsUnit old before → place ≡ place_of at hash
    → ((values : List Bool) → holds old own values
    ≡ (holds old groups.cond values && is_processed (groups_in old groups values)))
    → Stops old new before here own
    (λ values macros. keeping (answer at (meaning_of macros) place asked) macros) spot conds
    → Stops old new before here groups.cond
    (λ values. group_part at (groups_in old groups values) hash (if_ asked)) spot conds
question_stops old new before here own at groups place hash asked spot conds keeps unit
    is means r =
    stops_same old new before here groups.cond
    (λ values macros. and_then (question_part old at groups (place_of at hash) asked values macros)
    (opening_part groups (place_of at hash) values))
    (λ values. group_part at (groups_in old groups values) hash (if_ asked)) spot conds keeps
    (λ values macros w l same. sym (if_part old at groups hash asked values macros))
    (stops_first old new before here groups.cond
    (question_part old at groups (place_of at hash) asked)
    (opening_part groups (place_of at hash)) spot conds
    (stops_as old old new before here groups.cond own
    (λ values macros. keeping (answer at (meaning_of macros) (place_of at hash) asked) macros)
    (question_part old at groups (place_of at hash) asked) spot conds (Keeps-refl old) keeps
    unit
    (λ values macros lives same. in_file (holds old own values) (holds old groups.cond values)
    (is_processed (groups_in old groups values))
    (keeping (answer at (meaning_of macros) (place_of at hash) asked) macros) (reading macros)
    (means values))
    (subst (λ (p : Place). Stops old new before here own
    (λ values macros. keeping (answer at (meaning_of macros) p asked) macros) spot conds) is r)))

-- where there is room
pub if_reads : (old new : Diagram) (before now : UnitSoFar) (here there : List ℕ) (at : Entered)
    (groups : Groups) (hash : PpTok) (asked : Question) → Keeps old new
    → has_room groups.groups ≡ true
    → Reads old new before now here there groups.cond
    (question_part old at groups (place_of at hash) asked)
    → Reads old new before now here there groups.cond
    (λ values. group_part at (groups_in old groups values) hash (if_ asked))
if_reads old new before now here there at groups hash asked keeps room r =
    reads_same old new before now here there groups.cond
    (question_part old at groups (place_of at hash) asked)
    (λ values. group_part at (groups_in old groups values) hash (if_ asked)) keeps
    (λ values macros w l same. sym (if_part old at groups hash asked values macros
    ∙ ap (λ (b : Bool). and_then (question_part old at groups (place_of at hash) asked values
    macros)
    (room_part b (place_of at hash))) room
    ∙ and_then-reading (question_part old at groups (place_of at hash) asked values macros))) r

-- where there is none
pub if_refused : (old mid new : Diagram) (before between now : UnitSoFar) (here there : List ℕ)
    (at : Entered) (groups : Groups) (place : Place) (hash : PpTok) (asked : Question)
    → Keeps old mid → Keeps mid new → IsNode old groups.cond → has_room groups.groups ≡ false
    → place ≡ place_of at hash
    → Reads old mid before between here there groups.cond
    (question_part old at groups (place_of at hash) asked)
    → Reads mid new between now there there groups.cond (λ values macros. refusal TooDeep place)
    → Reads old new before now here there groups.cond
    (λ values. group_part at (groups_in old groups values) hash (if_ asked))
if_refused old mid new before between now here there at groups place hash asked first second is_file
    room is r refuses =
    reads_same old new before now here there groups.cond
    (λ values macros. and_then (question_part old at groups (place_of at hash) asked values macros)
    (λ after. refusal TooDeep (place_of at hash)))
    (λ values. group_part at (groups_in old groups values) hash (if_ asked))
    (Keeps-trans first second)
    (λ values macros w l same. sym (if_part old at groups hash asked values macros
    ∙ ap (λ (b : Bool). and_then (question_part old at groups (place_of at hash) asked values
    macros)
    (room_part b (place_of at hash))) room))
    (reads_then old mid new before between now here there there groups.cond
    (question_part old at groups (place_of at hash) asked)
    (λ values macros. refusal TooDeep (place_of at hash)) first is_file r
    (subst (λ (p : Place). Reads mid new between now there there groups.cond
    (λ values macros. refusal TooDeep p)) is refuses))

-- the group that is opened so
abbrev pub opened_by : (opened : Place) → Truths → OpenGroup
opened_by opened truths = record {
  opened = opened;
  active = truths.holds;
  searching = truths.fails;
  after_else = false;
}

-- the groups after it
pub if_regrouped : (old new : Diagram) (own live : Cond) (at : Entered) (groups now : Groups)
    (place : Place) (hash : PpTok) (asked : Question) (truths : Truths) (table : MacroTable)
    → Keeps old new → AreGroups old groups → IsNode old own → has_room groups.groups ≡ true
    → place ≡ place_of at hash
    → ((values : List Bool) → holds old own values
    ≡ (holds old groups.cond values && is_processed (groups_in old groups values)))
    → AreTruths old new live own truths (λ values. answer at (meaning_in old table values) place
    asked)
    → now ≡ record { cond = groups.cond; groups = opened_by place truths ∷ groups.groups }
    → AreRegrouped old new groups now live
    (λ values. regrouped at (meaning_in old table values) (place_of at hash) (if_ asked))
if_regrouped old new own live at groups now place hash asked truths table keeps r is_own room is
    means asks is_now = λ values w l.
    let gs : List Group = groups_in old groups values in
    let progress : Progress = progress_in new values (opened_by place truths) in
    let first : (begun (is_processed gs) (nat_lt (length gs) MOST_GROUPS)
    (answer at (meaning_in old table values) place asked) place gs).ending
    ≡ reaches (opened_at place progress ∷ gs) =
    begun_ends (is_processed gs) (nat_lt (length gs) MOST_GROUPS)
    (answer at (meaning_in old table values) place asked) place gs progress
    (same_room old values groups.groups ∙ room)
    (λ p. let t = asks.there values (means values
    ∙ and_from (holds old groups.cond values) (is_processed gs) w p) l in (
      t.0,
      t.1,
      progress_by (holds new truths.holds values) (holds new truths.fails values) t.0 t.2.0
          t.2.1,
    ))
    (λ p. let none = asks.within.outside values (keeps.meaning own is_own values ∙ means values
    ∙ and_right (holds old groups.cond values) (is_processed gs) p) in
    progress_over (holds new truths.holds values) (holds new truths.fails values) none.0 none.1) in
    subst (λ (p : Place). (regrouped at (meaning_in old table values) p (if_ asked) gs).ending
    ≡ reaches (opened_at place progress ∷ gs)) is first
    ∙ ap (λ (hs : List Group). reaches (opened_at place progress ∷ hs))
    (sym (all_groups_in-kept keeps groups.cond groups.groups r.each values))
    ∙ ap (λ (g : Groups). reaches (groups_in new g values)) (sym is_now)

------ over the tokens of the directive

-- the question's own step, from the directive's `#` on
asked_step : (old mid : Diagram) (before between : UnitSoFar) (origin : Origin) (own : Cond)
    (groups : Groups) (place : Place) (hash : PpTok) (asked : Question)
    → Keeps old mid → IsUnit old before
    → ((at : Entered) → IsOriginOf origin at → place ≡ place_of at hash)
    → ((values : List Bool) → holds old own values
    ≡ (holds old groups.cond values && is_processed (groups_in old groups values)))
    → ((at : Entered) (low high : ℕ) → IsOriginOf origin at → Rises low high (tokens_asked asked)
    → IsSound old before (reached at low)
    → Reads old mid before between (reached at low) (reached at high) own
    (λ values macros. keeping (answer at (meaning_of macros) place asked) macros))
    → (at : Entered) (low high : ℕ) → IsOriginOf origin at
    → Rises low high (hash ∷ tokens_asked asked) → IsSound old before (reached at low)
    → Reads old mid before between (reached at low) (reached at high) groups.cond
    (question_part old at groups (place_of at hash) asked)
asked_step old mid before between origin own groups place hash asked keeps unit is means reads at
    low
    high stands rises sound =
    let later = reached_until at low (hash.span.start + 1) (omega (arith, rises.0)) in
    reads_later old mid before between (reached at low) (reached at (hash.span.start + 1))
    (reached at high) (reached at high) groups.cond
    (question_part old at groups (place_of at hash) asked) later (inl refl)
    (question_reads old mid before between (reached at (hash.span.start + 1)) (reached at high) own
    at
    groups place hash asked keeps unit (is at stands) means
    (reads at (hash.span.start + 1) high stands rises.1
    (IsSound-later old before (reached at low) (reached at (hash.span.start + 1)) later sound)))

-- where there is room for the group
pub room_step : (old mid : Diagram) (before between : UnitSoFar) (origin : Origin) (own : Cond)
    (groups : Groups) (place : Place) (hash : PpTok) (asked : Question)
    → Keeps old mid → IsUnit old before → has_room groups.groups ≡ true
    → ((at : Entered) → IsOriginOf origin at → place ≡ place_of at hash)
    → ((values : List Bool) → holds old own values
    ≡ (holds old groups.cond values && is_processed (groups_in old groups values)))
    → ((at : Entered) (low high : ℕ) → IsOriginOf origin at → Rises low high (tokens_asked asked)
    → IsSound old before (reached at low)
    → Reads old mid before between (reached at low) (reached at high) own
    (λ values macros. keeping (answer at (meaning_of macros) place asked) macros))
    → (at : Entered) (low high : ℕ) → IsOriginOf origin at
    → Rises low high (hash ∷ tokens_asked asked) → IsSound old before (reached at low)
    → Reads old mid before between (reached at low) (reached at high) groups.cond
    (λ values. group_part at (groups_in old groups values) hash (if_ asked))
room_step old mid before between origin own groups place hash asked keeps unit room is means reads
    at
    low high stands rises sound =
    if_reads old mid before between (reached at low) (reached at high) at groups hash asked keeps
    room
    (asked_step old mid before between origin own groups place hash asked keeps unit is means reads
    at
    low high stands rises sound)

-- where there is none the file is refused after it
pub full_step : (old mid new : Diagram) (before between now : UnitSoFar) (origin : Origin)
    (own : Cond) (groups : Groups) (place : Place) (hash : PpTok) (asked : Question)
    → Keeps old mid → Keeps mid new → IsUnit old before → IsNode old groups.cond
    → has_room groups.groups ≡ false
    → ((at : Entered) → IsOriginOf origin at → place ≡ place_of at hash)
    → ((values : List Bool) → holds old own values
    ≡ (holds old groups.cond values && is_processed (groups_in old groups values)))
    → ((at : Entered) (low high : ℕ) → IsOriginOf origin at → Rises low high (tokens_asked asked)
    → IsSound old before (reached at low)
    → Reads old mid before between (reached at low) (reached at high) own
    (λ values macros. keeping (answer at (meaning_of macros) place asked) macros))
    → ((here : List ℕ) → IsSound mid between here
    → Reads mid new between now here here groups.cond (λ values macros. refusal TooDeep place))
    → (at : Entered) (low high : ℕ) → IsOriginOf origin at
    → Rises low high (hash ∷ tokens_asked asked) → IsSound old before (reached at low)
    → Reads old new before now (reached at low) (reached at high) groups.cond
    (λ values. group_part at (groups_in old groups values) hash (if_ asked))
full_step old mid new before between now origin own groups place hash asked first second unit
    is_file
    room is means reads refuses at low high stands rises sound =
    let r = asked_step old mid before between origin own groups place hash asked first unit is means
    reads at low high stands rises sound in
    if_refused old mid new before between now (reached at low) (reached at high) at groups place
    hash
    asked first second is_file room (is at stands) r (refuses (reached at high) r.sound)

-- where the question stops the walk, the directive does
pub asked_stops : (old mid : Diagram) (before : UnitSoFar) (origin : Origin) (own : Cond)
    (groups : Groups) (place : Place) (hash : PpTok) (asked : Question)
    → Keeps old mid → IsUnit old before
    → ((at : Entered) → IsOriginOf origin at → place ≡ place_of at hash)
    → ((values : List Bool) → holds old own values
    ≡ (holds old groups.cond values && is_processed (groups_in old groups values)))
    → (spot : Place) (conds : List Cond)
    → ((at : Entered) (low high : ℕ) → IsOriginOf origin at → Rises low high (tokens_asked asked)
    → Stops old mid before (reached at low) own
    (λ values macros. keeping (answer at (meaning_of macros) place asked) macros) spot conds)
    → (at : Entered) (low high : ℕ) → IsOriginOf origin at
    → Rises low high (hash ∷ tokens_asked asked)
    → Stops old mid before (reached at low) groups.cond
    (λ values. group_part at (groups_in old groups values) hash (if_ asked)) spot conds
asked_stops old mid before origin own groups place hash asked keeps unit is means spot conds stops
    at
    low high stands rises =
    stops_later old mid before (reached at low) (reached at (hash.span.start + 1)) groups.cond
    (λ values. group_part at (groups_in old groups values) hash (if_ asked)) spot conds
    (reached_until at low (hash.span.start + 1) (omega (arith, rises.0)))
    (question_stops old mid before (reached at (hash.span.start + 1)) own at groups place hash asked
    spot conds keeps unit (is at stands) means
    (stops at (hash.span.start + 1) high stands rises.1))

-- the groups of the file after it
pub if_groups : (old new : Diagram) (own live : Cond) (groups now : Groups) (place : Place)
    (truths : Truths) (read : List Bool → Reading Bool) → Keeps old new → AreGroups old groups
    → IsNode old own
    → ((values : List Bool) → holds old own values
    ≡ (holds old groups.cond values && is_processed (groups_in old groups values)))
    → AreTruths old new live own truths read
    → now ≡ record { cond = groups.cond; groups = opened_by place truths ∷ groups.groups }
    → AreGroups new now
if_groups old new own live groups now place truths read keeps r is_own means asks is =
    AreGroups-with new groups.cond (opened_by place truths) groups.groups now
    (keeps.stays groups.cond r.file)
    (truths_group old new groups.cond own live truths read place false keeps r.file is_own
    (λ values e. means values
    ∙ and_left (holds old groups.cond values) (is_processed (groups_in old groups values)) e) asks)
    (All-kept keeps groups.cond r.file groups.groups r.each) is
