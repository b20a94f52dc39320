-- Open groups in one configuration.
use Rattle.std.proofs.Common.{◌≡◌, ◌&&◌, Bool, true, false, cond, List, [], ◌∷◌, map, Option, None, Some, refl, subst}
use Rattle.std.specs.Prelude.{All, slice_get}
use Rattle.std.proofs.lemmas.List.Elements.{All-head}
use Rattle.hv_cond.specs.Diagram.{Diagram, IsNode, holds}
use Rattle.hv_cond.specs.declared.conditions.Cond.{Cond}
use Rattle.hv_plainpp.specs.Groups.{is_processed, is_processing, over, processing, searching}
use Rattle.hv_preproc.specs.declared.groups.OpenGroup.{OpenGroup}
use Rattle.hv_preproc.specs.working.OpenGroups.{IsGroupOf, group_in, progress_in}

both : (a s file : Bool) → (file ≡ false → a ≡ false)
    → a ≡ file && is_processing (cond a processing (cond s searching over))
both true s true h = refl
both true s false h = h refl
both false true true h = refl
both false true false h = refl
both false false true h = refl
both false false false h = refl

-- a group is processed where it is active
pub group_processed : (diagram : Diagram) (file : Cond) (g : OpenGroup) (values : List Bool)
    → IsGroupOf diagram file g → holds diagram g.active values
    ≡ holds diagram file values && is_processing (progress_in diagram values g)
group_processed diagram file g values r =
    both (holds diagram g.active values) (holds diagram g.searching values)
    (holds diagram file values) (λ e. (r.outside values e).0)

-- where the innermost group is active, or the file is read where none is open
abbrev pub top_holds : Diagram → (file : Cond) → List Bool → Option OpenGroup → Bool
top_holds diagram file values None = holds diagram file values
top_holds diagram file values (Some g) = holds diagram g.active values

none_open : (b : Bool) → b ≡ b && true
none_open true = refl
none_open false = refl

-- lines are processed there
pub top_processed : (diagram : Diagram) (file : Cond) (values : List Bool) (gs : List OpenGroup)
    → All (IsGroupOf diagram file) gs → (o : Option OpenGroup) → slice_get gs 0 ≡ o
    → top_holds diagram file values o
    ≡ holds diagram file values && is_processed (map (group_in diagram values) gs)
top_processed diagram file values [] r o e =
    subst (λ (t : Option OpenGroup). top_holds diagram file values t
    ≡ holds diagram file values && is_processed []) e (none_open (holds diagram file values))
top_processed diagram file values (g ∷ gs) r o e =
    subst (λ (t : Option OpenGroup). top_holds diagram file values t
    ≡ holds diagram file values && is_processed (map (group_in diagram values) (g ∷ gs))) e
    (group_processed diagram file g values (All-head (IsGroupOf diagram file) g gs r))

-- the condition of the innermost group, or of the file where none is open
abbrev pub top_cond : (file : Cond) → Option OpenGroup → Cond
top_cond file None = file
top_cond file (Some g) = g.active

pub top_node : (diagram : Diagram) (file : Cond) (gs : List OpenGroup) → IsNode diagram file
    → All (IsGroupOf diagram file) gs → (o : Option OpenGroup) → slice_get gs 0 ≡ o
    → IsNode diagram (top_cond file o)
top_node diagram file [] n r o e =
    subst (λ (t : Option OpenGroup). IsNode diagram (top_cond file t)) e n
top_node diagram file (g ∷ gs) n r o e =
    subst (λ (t : Option OpenGroup). IsNode diagram (top_cond file t)) e
    (All-head (IsGroupOf diagram file) g gs r).active
