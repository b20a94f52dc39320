-- What the open groups of a file are in one configuration.
use Rattle.std.specs.Prelude.{◌≡◌, Bool, true, false, cond, List, [], ◌∷◌, All, map, Option, Some, None}
use Rattle.hv_cond.specs.Diagram.{Diagram, IsNode, holds}
use Rattle.hv_cond.specs.declared.conditions.Cond.{Cond}
use Rattle.hv_plainpp.specs.Groups.{Group, Progress, searching, processing, over}
use Rattle.hv_preproc.specs.declared.groups.Groups.{Groups}
use Rattle.hv_preproc.specs.declared.groups.OpenGroup.{OpenGroup}

-- how far a group has been read where the options have these values
abbrev pub progress_in : Diagram → List Bool → OpenGroup → Progress
progress_in diagram values g = cond (holds diagram g.active values) processing
    (cond (holds diagram g.searching values) searching over)

-- the group there
abbrev pub group_in : Diagram → List Bool → OpenGroup → Group
group_in diagram values g = record {
  opened = g.opened;
  progress = progress_in diagram values g;
  behind_else = g.after_else;
}

-- the open groups there, the innermost first
abbrev pub groups_in : Diagram → Groups → List Bool → List Group
groups_in diagram groups values = map (group_in diagram values) groups.groups

-- a group is processed, or may be, only in configurations of the file, and not both
pub record IsGroupOf (diagram : Diagram) (file : Cond) (g : OpenGroup) : Type 0 where
  pub active : IsNode diagram g.active
  pub searching : IsNode diagram g.searching
  pub apart : (values : List Bool) → holds diagram g.active values ≡ true
      → holds diagram g.searching values ≡ false
  pub outside : (values : List Bool) → holds diagram file values ≡ false
      → (holds diagram g.active values ≡ false) × (holds diagram g.searching values ≡ false)

-- the same of all groups that are open
pub record AreGroups (diagram : Diagram) (groups : Groups) : Type 0 where
  pub file : IsNode diagram groups.cond
  pub each : All (IsGroupOf diagram groups.cond) groups.groups

-- where an `#elif` or `#else` finds a group that goes on: the condition under which it is asked
abbrev pub searching_of : List OpenGroup → Option Cond
searching_of [] = None
searching_of (g ∷ groups) = elim g.after_else [ true ↦ None | false ↦ Some g.searching ]

-- the innermost group, where one is open, is processed and searching under these conditions from
-- now on
abbrev pub GoesOn : (before after : Groups) → (holds_in fails_in : Cond) → Type 0
GoesOn before after holds_in fails_in = (g : OpenGroup) (outer : List OpenGroup)
    → before.groups ≡ g ∷ outer
    → after ≡ record before {
      groups = record g { active = holds_in; searching = fails_in } ∷ outer;
    }

-- the innermost group, where one is open, is at its `#else`: it is processed where it was searching
abbrev pub GoesOnAtElse : Diagram → (before after : Groups) → Type 0
GoesOnAtElse diagram before after = (g : OpenGroup) (outer : List OpenGroup)
    → before.groups ≡ g ∷ outer
    → (never : Cond) × IsNode diagram never
    × ((values : List Bool) → holds diagram never values ≡ false)
    × (after ≡ record before {
      groups = record {
        opened = g.opened;
        active = g.searching;
        searching = never;
        after_else = true;
      } ∷ outer;
    })
