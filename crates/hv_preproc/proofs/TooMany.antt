-- Conditions whose configurations have too many faces show so many configurations.
use Rattle.std.proofs.Common.{◌≡◌, ◌<◌, ◌+◌, ◌++◌, zero, suc, ℕ, Bool, true, List, [], ◌∷◌, length, take, get_or, refl, sym, ◌∙◌, ap, subst, subst₂, arith, append-nil}
use Rattle.std.proofs.lemmas.List.{take_more}
use Rattle.std.specs.List.{All, AllPairs}
use Rattle.std.proofs.lemmas.List.Elements.{All-cons, All-head, All-nil, All-tail}
use Rattle.std.proofs.lemmas.List.Kept.{AllPairs-cons}
use Rattle.hv_base.specs.declared.config.Config.{Config}
use Rattle.hv_base.specs.declared.limits.TheConstants.{MOST_FACES}
use Rattle.hv_base.specs.declared.place.Place.{Place}
use Rattle.hv_cond.specs.Diagram.{AllNodes, Diagram, IsLeast, IsNever, IsNode, holds}
use Rattle.hv_cond.specs.Parts.{NoneFalse}
use Rattle.hv_cond.specs.declared.conditions.Cond.{Cond}
use Rattle.hv_ctoks.specs.declared.reserved.ReservedNames.{ReservedNames}
use Rattle.hv_faces.specs.Faces.{AllDiffer, AllWithin, DiffersFromAll}
use Rattle.hv_plainpp.specs.Laws.{DifferInPlace}
use Rattle.hv_preproc.specs.Plain.{Plain}
use Rattle.hv_preproc.specs.Preprocessed.{AreTooManyAt, IfTooMany, IsMetIn}
use Rattle.hv_preproc.specs.declared.fault.PreFault.{PreFault}
use Rattle.hv_preproc.specs.declared.fault.PreFault.TheVariants as pre
use Rattle.hv_preproc.specs.declared.fault.WalkFault.{WalkFault}
use Rattle.hv_preproc.specs.declared.fault.WalkFault.TheVariants as walk
use Rattle.hv_preproc.specs.working.Faults.{IfStops}
use Rattle.hv_preproc.specs.working.Firsts.{AreFirst}
use Rattle.hv_preproc.specs.working.Walk.{ShowsTooMany, SoFar}
use Rattle.hv_preproc.specs.working.Wholes.{CanHold, IsFaultOf, parts_in}
use Rattle.hv_texts.specs.Faces.{HasTooMany, HaveOneFaceAt, Meets}

------ the first configuration of each condition

pub AreFirst-length : (d : Diagram) (conds : List Cond) (configs : List Config)
    → AreFirst d conds configs → length configs ≡ length conds
AreFirst-length d [] [] p = refl
AreFirst-length d [] (config ∷ configs) p = absurd p
AreFirst-length d (c ∷ conds) [] p = absurd p
AreFirst-length d (c ∷ conds) (config ∷ configs) p = ap suc (AreFirst-length d conds configs p.1)

AreFirst-push : (d : Diagram) (conds : List Cond) (configs : List Config) (c : Cond)
    (config : Config) → AreFirst d conds configs → IsLeast d c config.on
    → AreFirst d (conds ++ c ∷ []) (configs ++ config ∷ [])
AreFirst-push d [] [] c config p least = (least, tt)
AreFirst-push d [] (other ∷ configs) c config p least = absurd p
AreFirst-push d (o ∷ conds) [] c config p least = absurd p
AreFirst-push d (o ∷ conds) (other ∷ configs) c config p least =
    (p.0, AreFirst-push d conds configs c config p.1 least)

pub AreFirst-more : (d : Diagram) (conds : List Cond) (i : ℕ) (c : Cond) → i < length conds
    → (configs after : List Config) (config : Config) → AreFirst d (take i conds) configs
    → IsLeast d (get_or conds i c) config.on → after ≡ configs ++ config ∷ []
    → AreFirst d (take (i + 1) conds) after
AreFirst-more d conds i c within configs after config p least e =
    subst₂ (λ (cs : List Cond) (xs : List Config). AreFirst d cs xs)
    (sym (take_more conds i c within)) (sym e)
    (AreFirst-push d (take i conds) configs (get_or conds i c) config p least)

pub cond_node : (d : Diagram) (conds : List Cond) (i : ℕ) (c : Cond) → AllNodes d conds
    → i < length conds → IsNode d (get_or conds i c)
cond_node d [] i c nodes l = absurd (omega arith)
cond_node d (x ∷ conds) zero c nodes l = nodes.0
cond_node d (x ∷ conds) (suc i) c nodes l = cond_node d conds i c nodes.1 (omega (arith, l))

pub cond_possible : (d : Diagram) (conds : List Cond) (i : ℕ) (c : Cond) → NoneFalse d conds
    → i < length conds → ¬ IsNever d (get_or conds i c)
cond_possible d [] i c none l = absurd (omega arith)
cond_possible d (x ∷ conds) zero c none l = none.0
cond_possible d (x ∷ conds) (suc i) c none l = cond_possible d conds i c none.1 (omega (arith, l))

pub within_nodes : (d : Diagram) (of : List Bool → Bool) (conds : List Cond) → AllWithin d of conds
    → AllNodes d conds
within_nodes d of [] p = tt
within_nodes d of (c ∷ conds) p = (p.0.node, within_nodes d of conds p.1)

pub within_possible : (d : Diagram) (of : List Bool → Bool) (conds : List Cond)
    → AllWithin d of conds → NoneFalse d conds
within_possible d of [] p = tt
within_possible d of (c ∷ conds) p = (p.0.possible, within_possible d of conds p.1)

module _ (plain : Plain) (d : Diagram) (valid : Cond) (place : Place) where
  -- each configuration of a condition meets an episode there
  abbrev AreMetThere : Cond → Type 0
  AreMetThere c = (values : List Bool) → holds d c values ≡ true → Meets plain place values

  each_met : (conds : List Cond) (configs : List Config) → AreFirst d conds configs
      → AllWithin d (λ values. holds d valid values) conds → All AreMetThere conds
      → All (IsMetIn plain d valid place) configs
  each_met [] [] first within there = All-nil (IsMetIn plain d valid place)
  each_met [] (config ∷ configs) first within there = absurd first
  each_met (c ∷ conds) [] first within there = absurd first
  each_met (c ∷ conds) (config ∷ configs) first within there =
      All-cons (IsMetIn plain d valid place) config configs
      (record {
        all_options = first.0.all_variables;
        is_valid = within.0.within config.on first.0.satisfies;
        meets = All-head AreMetThere c conds there config.on first.0.satisfies;
      })
      (each_met conds configs first.1 within.1 (All-tail AreMetThere c conds there))

  -- two configurations have different faces there
  abbrev Apart : Config → Config → Type 0
  Apart c o = ¬ HaveOneFaceAt plain place c.on o.on

  first_apart : (c : Cond) (config : Config) → holds d c config.on ≡ true
      → (conds : List Cond) (configs : List Config) → AreFirst d conds configs
      → DiffersFromAll d (HaveOneFaceAt plain place) c conds → All (Apart config) configs
  first_apart c config here [] [] first differs = All-nil (Apart config)
  first_apart c config here [] (other ∷ configs) first differs = absurd first
  first_apart c config here (o ∷ conds) [] first differs = absurd first
  first_apart c config here (o ∷ conds) (other ∷ configs) first differs =
      All-cons (Apart config) other configs
      (differs.0 config.on other.on here first.0.satisfies)
      (first_apart c config here conds configs first.1 differs.1)

  all_apart : (conds : List Cond) (configs : List Config) → AreFirst d conds configs
      → AllDiffer d (HaveOneFaceAt plain place) conds → AllPairs Apart configs
  all_apart [] [] first differ = λ i j e before within. absurd (omega arith)
  all_apart [] (config ∷ configs) first differ = absurd first
  all_apart (c ∷ conds) [] first differ = absurd first
  all_apart (c ∷ conds) (config ∷ configs) first differ =
      AllPairs-cons Apart config configs
      (first_apart c config first.0.satisfies conds configs first.1 differ.0)
      (all_apart conds configs first.1 differ.1)

  pub too_many_at : (conds : List Cond) (configs : List Config)
      → HasTooMany d valid plain place conds → AreFirst d conds configs
      → AreTooManyAt plain d valid place configs
  too_many_at conds configs many first = (
    AreFirst-length d conds configs first ∙ many.many.count,
    record {
      each = each_met conds configs first many.many.within many.there;
      differ = all_apart conds configs first many.many.differ;
    },
  )

------ a whole unit

-- what is shown of each reading that begins so is shown of these readings themselves
pub shows_itself : (d : Diagram) (valid : Cond) (so_far : SoFar) (place : Place) (conds : List Cond)
    → ((values : List Bool) → DifferInPlace (so_far values).met)
    → ShowsTooMany d valid so_far place conds → HasTooMany d valid so_far place conds
shows_itself d valid so_far place conds differ shows =
    shows so_far (λ values v. (([], sym (append-nil (so_far values).met)), differ values))

module _ (d : Diagram) (valid : Cond) (so_far : SoFar)
    (differ : (values : List Bool) → DifferInPlace (so_far values).met) where
  -- the conditions of a walk that stopped can hold
  pub stops_possible : (fault : WalkFault) → IfStops (ShowsTooMany d valid so_far) fault
      → IfStops (CanHold d) fault
  stops_possible (walk.TooMany place conds) shows =
      let many : HasTooMany d valid so_far place conds =
      shows_itself d valid so_far place conds differ shows in (
        within_nodes d (λ values. holds d valid values) conds many.many.within,
        within_possible d (λ values. holds d valid values) conds many.many.within,
      )
  stops_possible walk.Memory shows = tt

  -- and its fault shows configurations that have too many faces
  pub stops_too_many : (reserved : ReservedNames) (fault : WalkFault) (said : PreFault)
      → IfStops (ShowsTooMany d valid so_far) fault → IsFaultOf d fault said
      → IfTooMany (AreTooManyAt (parts_in reserved so_far) d valid) said
  stops_too_many reserved (walk.TooMany at conds) (pre.TooMany place configs) shows says =
      subst (λ (p : Place). AreTooManyAt (parts_in reserved so_far) d valid p configs) says.0
      (let many : HasTooMany d valid so_far at conds =
      shows_itself d valid so_far at conds differ shows in
      too_many_at (parts_in reserved so_far) d valid at conds configs
      (record { many = many.many; there = many.there }) says.1)
  stops_too_many reserved (walk.TooMany at conds) pre.Memory shows says = tt
  stops_too_many reserved walk.Memory (pre.TooMany place configs) shows says = absurd says
  stops_too_many reserved walk.Memory pre.Memory shows says = tt
