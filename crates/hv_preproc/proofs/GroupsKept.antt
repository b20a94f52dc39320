-- Open groups in a store that has grown, and a group that is opened or goes on.
use Rattle.std.proofs.Common.{◌≡◌, Bool, true, false, not, cond, List, [], ◌∷◌, map, refl, sym, ap, ap₂, ◌∙◌, subst}
use Rattle.std.specs.Prelude.{All}
use Rattle.std.proofs.lemmas.List.Elements.{All-cons, All-head, All-tail, All-weaker}
use Rattle.hv_base.specs.declared.place.Place.{Place}
use Rattle.hv_cond.specs.Diagram.{Diagram, IsNode, Keeps, holds}
use Rattle.hv_cond.specs.declared.conditions.Cond.{Cond}
use Rattle.hv_plainpp.specs.Groups.{Group, over, processing, progress_at, searching}
use Rattle.hv_plainpp.specs.Reading.{Reading}
use Rattle.hv_preproc.specs.declared.groups.Groups.{Groups}
use Rattle.hv_preproc.specs.declared.groups.OpenGroup.{OpenGroup}
use Rattle.hv_preproc.specs.working.OpenGroups.{AreGroups, IsGroupOf, group_in}
use Rattle.hv_preproc.specs.working.Parts.{AreTruths}
use Rattle.hv_texts.specs.declared.came.Truths.{Truths}

------ a store that grows

pub IsGroupOf-kept : {old new : Diagram} → Keeps old new → (file : Cond) → IsNode old file
    → (g : OpenGroup) → IsGroupOf old file g → IsGroupOf new file g
IsGroupOf-kept keeps file is_file g r = record {
  active = keeps.stays g.active r.active;
  searching = keeps.stays g.searching r.searching;
  apart = λ values e. keeps.meaning g.searching r.searching values
      ∙ r.apart values (sym (keeps.meaning g.active r.active values) ∙ e);
  outside = λ values e.
      let none = r.outside values (sym (keeps.meaning file is_file values) ∙ e) in (
        keeps.meaning g.active r.active values ∙ none.0,
        keeps.meaning g.searching r.searching values ∙ none.1,
      );
}

pub All-kept : {old new : Diagram} → Keeps old new → (file : Cond) → IsNode old file
    → (gs : List OpenGroup) → All (IsGroupOf old file) gs → All (IsGroupOf new file) gs
All-kept {old} {new} keeps file is_file gs r =
    All-weaker (IsGroupOf old file) (IsGroupOf new file)
    (λ g h. IsGroupOf-kept keeps file is_file g h) gs r

pub AreGroups-kept : {old new : Diagram} → Keeps old new → (groups : Groups)
    → AreGroups old groups → AreGroups new groups
AreGroups-kept keeps groups r = record {
  file = keeps.stays groups.cond r.file;
  each = All-kept keeps groups.cond r.file groups.groups r.each;
}

group_in-kept : {old new : Diagram} → Keeps old new → (file : Cond) (g : OpenGroup)
    → IsGroupOf old file g → (values : List Bool) → group_in new values g ≡ group_in old values g
group_in-kept keeps file g r values =
    ap₂ (λ (a s : Bool). (let made : Group = record {
      opened = g.opened;
      progress = cond a processing (cond s searching over);
      behind_else = g.after_else;
    } in made)) (keeps.meaning g.active r.active values) (keeps.meaning g.searching r.searching
    values)

pub all_groups_in-kept : {old new : Diagram} → Keeps old new → (file : Cond) (gs : List OpenGroup)
    → All (IsGroupOf old file) gs → (values : List Bool)
    → map (group_in new values) gs ≡ map (group_in old values) gs
all_groups_in-kept keeps file [] r values = refl
all_groups_in-kept {old} {new} keeps file (g ∷ gs) r values =
    ap₂ (λ (h : Group) (hs : List Group). h ∷ hs)
    (group_in-kept keeps file g (All-head (IsGroupOf old file) g gs r) values)
    (all_groups_in-kept keeps file gs (All-tail (IsGroupOf old file) g gs r) values)

------ a group by what was asked

-- the group whose line is true or not as two conditions say is one of the file
pub truths_group : (old new : Diagram) (file own live : Cond) (truths : Truths)
    (read : List Bool → Reading Bool) (opened : Place) (after_else : Bool)
    → Keeps old new → IsNode old file → IsNode old own
    → ((values : List Bool) → holds old file values ≡ false → holds old own values ≡ false)
    → AreTruths old new live own truths read
    → IsGroupOf new file (record {
      opened = opened;
      active = truths.holds;
      searching = truths.fails;
      after_else = after_else;
    })
truths_group old new file own live truths read opened after_else keeps is_file is_own within r =
    record {
      active = r.within.holds_node;
      searching = r.within.fails_node;
      apart = r.apart;
      outside = λ values e. r.within.outside values (keeps.meaning own is_own values
          ∙ within values (sym (keeps.meaning file is_file values) ∙ e));
    }

-- the groups of a file are groups of it after one is put on them
pub AreGroups-with : (diagram : Diagram) (file : Cond) (g : OpenGroup) (outer : List OpenGroup)
    (groups : Groups) → IsNode diagram file → IsGroupOf diagram file g
    → All (IsGroupOf diagram file) outer
    → groups ≡ record { cond = file; groups = g ∷ outer } → AreGroups diagram groups
AreGroups-with diagram file g outer groups is_file first rest e =
    subst (λ (gs : Groups). AreGroups diagram gs) (sym e) (record {
      file = is_file;
      each = All-cons (IsGroupOf diagram file) g outer first rest;
    })

-- how far it has been read where its line is true or not
pub progress_by : (a s truth : Bool) → a ≡ truth → s ≡ not truth
    → cond a processing (cond s searching over) ≡ progress_at truth
progress_by a s true p q = ap (λ (b : Bool). cond b processing (cond s searching over)) p
progress_by a s false p q = ap₂ (λ (b c : Bool). cond b processing (cond c searching over)) p q

-- and where neither condition holds
pub progress_over : (a s : Bool) → a ≡ false → s ≡ false
    → cond a processing (cond s searching over) ≡ over
progress_over a s p q = ap₂ (λ (b c : Bool). cond b processing (cond c searching over)) p q
