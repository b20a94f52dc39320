-- How refusals count, and how two answers divide the valid configurations together.
use Rattle.std.proofs.Common.{◌≡◌, ◌<◌, ◌≤◌, ◌+◌, ◌⊎◌, ◌||◌, zero, suc, ℕ, Bool, true, false, cond, List, [], ◌∷◌, length, refl, sym, ◌∙◌, ap, subst, inl, inr, arith}
use Rattle.std.specs.Prelude.{if◌then◌else◌}
use Rattle.std.specs.List.{All}
use Rattle.std.proofs.lemmas.Bool.{false≢true, true≢false}
use Rattle.std.proofs.lemmas.List.Elements.{All-head, All-tail}
use Rattle.std.proofs.lemmas.List.Sums.{sum_by-cons}
use Rattle.hv_base.specs.declared.place.Place.{Place}
use Rattle.hv_base.specs.declared.why.Why.{Why}
use Rattle.hv_cond.specs.Diagram.{AllNodes, Diagram, IsNode, Keeps, holds}
use Rattle.hv_cond.specs.Laws.{AllNodes-kept, NoneFalse-kept, count_satisfied-kept}
use Rattle.hv_cond.specs.Parts.{count_satisfied}
use Rattle.hv_cond.specs.declared.conditions.Cond.{Cond}
use Rattle.hv_given.specs.Refusals.{AreRefusals, IsRefusedAt, Refuses}
use Rattle.hv_preproc.specs.working.Taking.{any_holds}
use Rattle.hv_preproc.specs.working.Wholes.{CountsBoth}
use Rattle.hv_toks.specs.Division.{Divides, conditions}
use Rattle.hv_toks.specs.declared.parted.Failing.{Failing}

-- one where a test holds
abbrev pub one_if : Bool → ℕ
one_if b = cond b 1 0

pub count-cons : (d : Diagram) (c : Cond) (conds : List Cond) (values : List Bool)
    → count_satisfied d (c ∷ conds) values
    ≡ one_if (holds d c values) + count_satisfied d conds values
count-cons d c conds values = sum_by-cons (λ (x : Cond). cond (holds d x values) 1 0) c conds

one_from : (b : Bool) → b ≡ true → one_if b ≡ 1
one_from true e = refl
one_from false e = absurd (false≢true e)

true_from : (b : Bool) → 1 ≤ one_if b → b ≡ true
true_from true l = refl
true_from false l = absurd (omega arith)

pub most_one : (b : Bool) → one_if b ≤ 1
most_one true = omega arith
most_one false = omega arith

------ refusals

-- who is refused is counted
pub refused_counts : (d : Diagram) (failing : List Failing) (values : List Bool) (place : Place)
    (why : Why) → IsRefusedAt d failing values place why
    → 1 ≤ count_satisfied d (conditions failing) values
refused_counts d [] values place why r = absurd r
refused_counts d (f ∷ failing) values place why (inl r) =
    let all : count_satisfied d (conditions (f ∷ failing)) values
    ≡ one_if (holds d f.cond values) + count_satisfied d (conditions failing) values =
    count-cons d f.cond (conditions failing) values in
    let here : one_if (holds d f.cond values) ≡ 1 = one_from (holds d f.cond values) r.here in
    omega (arith, all, here)
refused_counts d (f ∷ failing) values place why (inr r) =
    let all : count_satisfied d (conditions (f ∷ failing)) values
    ≡ one_if (holds d f.cond values) + count_satisfied d (conditions failing) values =
    count-cons d f.cond (conditions failing) values in
    let rest : 1 ≤ count_satisfied d (conditions failing) values =
    refused_counts d failing values place why r in
    omega (arith, all, rest)

refused_twice : (d : Diagram) (f : Failing) (failing : List Failing) (values : List Bool)
    (place : Place) (why : Why) → count_satisfied d (conditions (f ∷ failing)) values ≤ 1
    → holds d f.cond values ≡ true → ¬ IsRefusedAt d failing values place why
refused_twice d f failing values place why most here rest =
    let all : count_satisfied d (conditions (f ∷ failing)) values
    ≡ one_if (holds d f.cond values) + count_satisfied d (conditions failing) values =
    count-cons d f.cond (conditions failing) values in
    let one : one_if (holds d f.cond values) ≡ 1 = one_from (holds d f.cond values) here in
    let more : 1 ≤ count_satisfied d (conditions failing) values =
    refused_counts d failing values place why rest in
    omega (arith, all, one, more, most)

-- who is refused once is refused at one place for one cause
pub refused_once : (d : Diagram) (failing : List Failing) (values : List Bool)
    → count_satisfied d (conditions failing) values ≤ 1
    → (place at : Place) (why cause : Why) → IsRefusedAt d failing values place why
    → IsRefusedAt d failing values at cause → (place ≡ at) × (why ≡ cause)
refused_once d [] values most place at why cause r s = absurd r
refused_once d (f ∷ failing) values most place at why cause (inl r) (inl s) =
    (sym r.same_place ∙ s.same_place, sym r.same_cause ∙ s.same_cause)
refused_once d (f ∷ failing) values most place at why cause (inl r) (inr s) =
    absurd (refused_twice d f failing values at cause most r.here s)
refused_once d (f ∷ failing) values most place at why cause (inr r) (inl s) =
    absurd (refused_twice d f failing values place why most s.here r)
refused_once d (f ∷ failing) values most place at why cause (inr r) (inr s) =
    let all : count_satisfied d (conditions (f ∷ failing)) values
    ≡ one_if (holds d f.cond values) + count_satisfied d (conditions failing) values =
    count-cons d f.cond (conditions failing) values in
    refused_once d failing values (omega (arith, all, most)) place at why cause r s

-- what is so of each entry is so of who is refused
pub refused_each : (d : Diagram) (P : List Bool → Place → Why → Type 0) (failing : List Failing)
    → All (λ (f : Failing). (values : List Bool) → holds d f.cond values ≡ true
    → P values f.place f.why) failing
    → (values : List Bool) (place : Place) (why : Why) → IsRefusedAt d failing values place why
    → P values place why
refused_each d P [] all values place why r = absurd r
refused_each d P (f ∷ failing) all values place why (inl r) =
    subst (λ (p : Place). P values p why) r.same_place
    (subst (λ (w : Why). P values f.place w) r.same_cause
    (All-head (λ (f : Failing). (values : List Bool) → holds d f.cond values ≡ true
    → P values f.place f.why) f failing all values r.here))
refused_each d P (f ∷ failing) all values place why (inr r) =
    refused_each d P failing
    (All-tail (λ (f : Failing). (values : List Bool) → holds d f.cond values ≡ true
    → P values f.place f.why) f failing all) values place why r

-- some entry holds where one is counted
pub any_counted : (d : Diagram) (failing : List Failing) (values : List Bool)
    → 1 ≤ count_satisfied d (conditions failing) values → any_holds d failing values ≡ true
any_counted d [] values l = absurd (omega arith)
any_counted d (f ∷ failing) values l =
    split (holds d f.cond values) (any_holds d failing values)
    (count_satisfied d (conditions failing) values)
    (count_satisfied d (conditions (f ∷ failing)) values)
    (count-cons d f.cond (conditions failing) values) l (any_counted d failing values)
  where
    split : (b rest : Bool) (n all : ℕ) → all ≡ one_if b + n → 1 ≤ all
        → (1 ≤ n → rest ≡ true) → (b || rest) ≡ true
    split true rest n all e l h = refl
    split false rest n all e l h = h (omega arith)

------ divisions

-- in a valid configuration: it is good, or is refused once
pub divides_at : (d : Diagram) (valid good : Cond) (failing : List Failing)
    → Divides d valid good failing → (values : List Bool)
    → one_if (holds d good values) + count_satisfied d (conditions failing) values
    ≡ one_if (holds d valid values)
divides_at d valid good failing r values =
    sym (count-cons d good (conditions failing) values) ∙ r.one values

-- who is good is valid
pub good_valid : (d : Diagram) (valid good : Cond) (failing : List Failing)
    → Divides d valid good failing → (values : List Bool) → holds d good values ≡ true
    → holds d valid values ≡ true
good_valid d valid good failing r values h =
    let all : one_if (holds d good values) + count_satisfied d (conditions failing) values
    ≡ one_if (holds d valid values) = divides_at d valid good failing r values in
    let one : one_if (holds d good values) ≡ 1 = one_from (holds d good values) h in
    true_from (holds d valid values) (omega (arith, all, one))

-- and who is refused is, and isn't good
pub refused_valid : (d : Diagram) (valid good : Cond) (failing : List Failing)
    → Divides d valid good failing → (values : List Bool) (place : Place) (why : Why)
    → IsRefusedAt d failing values place why
    → (holds d valid values ≡ true) × (holds d good values ≡ true → ⊥)
refused_valid d valid good failing r values place why is =
    let all : one_if (holds d good values) + count_satisfied d (conditions failing) values
    ≡ one_if (holds d valid values) = divides_at d valid good failing r values in
    let more : 1 ≤ count_satisfied d (conditions failing) values =
    refused_counts d failing values place why is in
    let most : one_if (holds d valid values) ≤ 1 = most_one (holds d valid values) in (
      true_from (holds d valid values) (omega (arith, all, more)),
      λ h. let one : one_if (holds d good values) ≡ 1 = one_from (holds d good values) h in
          omega (arith, all, more, most, one),
    )

-- who is valid and not good is refused by some entry
pub not_good : (d : Diagram) (valid good : Cond) (failing : List Failing)
    → Divides d valid good failing → (values : List Bool) → holds d valid values ≡ true
    → (holds d good values ≡ true → ⊥) → any_holds d failing values ≡ true
not_good d valid good failing r values v bad =
    any_counted d failing values
    (split (holds d good values) (holds d valid values) v bad
    (divides_at d valid good failing r values))
  where
    split : (g w : Bool) → w ≡ true → (g ≡ true → ⊥)
        → one_if g + count_satisfied d (conditions failing) values ≡ one_if w
        → 1 ≤ count_satisfied d (conditions failing) values
    split true w h bad e = absurd (bad refl)
    split false true h bad e = omega (arith, e)
    split false false h bad e = absurd (false≢true h)

-- where no entry is, each valid configuration is good
pub all_good : (d : Diagram) (valid good : Cond) → Divides d valid good [] → (values : List Bool)
    → holds d valid values ≡ true → holds d good values ≡ true
all_good d valid good r values v =
    let all : one_if (holds d good values) + count_satisfied d [] values
    ≡ one_if (holds d valid values) = divides_at d valid good [] r values in
    let one : one_if (holds d valid values) ≡ 1 = one_from (holds d valid values) v in
    let none : count_satisfied d [] values ≡ 0 = refl in
    true_from (holds d good values) (omega (arith, all, one, none))

pub Divides-kept : {old new : Diagram} → Keeps old new → (valid good : Cond)
    (failing : List Failing) → IsNode old valid → Divides old valid good failing
    → Divides new valid good failing
Divides-kept {old} {new} keeps valid good failing node r = record {
  nodes = AllNodes-kept keeps (good ∷ conditions failing) r.nodes;
  none_false = NoneFalse-kept keeps (conditions failing) r.nodes.1 r.none_false;
  one = λ values.
      count_satisfied-kept keeps (good ∷ conditions failing) r.nodes values
      ∙ (r.one values ∙ ap one_if (sym (keeps.meaning valid node values)));
  distinct = r.distinct;
}

-- who is refused in two steps, of which the second divides those that are good after the first
pub Divides-then : (old mid new : Diagram) (valid live good : Cond)
    (refusals failing all : List Failing) → Keeps old mid → Keeps mid new → IsNode old valid
    → Divides old valid live refusals → Divides mid live good failing → AreRefusals new all
    → CountsBoth mid new refusals failing all → Divides new valid good all
Divides-then old mid new valid live good refusals failing all first second node r s are counts =
    record {
      nodes = (second.stays good s.nodes.0, are.nodes);
      none_false = are.none_false;
      one = λ values. count-cons new good (conditions all) values ∙ one_at values;
      distinct = are.distinct;
    }
  where
    one_at : (values : List Bool)
        → one_if (holds new good values) + count_satisfied new (conditions all) values
        ≡ one_if (holds new valid values)
    one_at values =
        let a : one_if (holds old live values) + count_satisfied old (conditions refusals) values
        ≡ one_if (holds old valid values) = divides_at old valid live refusals r values in
        let b : one_if (holds mid good values) + count_satisfied mid (conditions failing) values
        ≡ one_if (holds mid live values) = divides_at mid live good failing s values in
        let c : one_if (holds mid live values) ≡ one_if (holds old live values) =
        ap one_if (first.meaning live r.nodes.0 values) in
        let e : count_satisfied mid (conditions refusals) values
        ≡ count_satisfied old (conditions refusals) values =
        count_satisfied-kept first (conditions refusals) r.nodes.1 values in
        let most : one_if (holds old valid values) ≤ 1 = most_one (holds old valid values) in
        let f : one_if (holds new good values) ≡ one_if (holds mid good values) =
        ap one_if (second.meaning good s.nodes.0 values) in
        let g : one_if (holds new valid values) ≡ one_if (holds old valid values) =
        ap one_if (second.meaning valid (first.stays valid node) values
        ∙ first.meaning valid node values) in
        let sum : count_satisfied new (conditions all) values
        ≡ count_satisfied mid (conditions refusals) values
        + count_satisfied mid (conditions failing) values =
        counts values (omega (arith, a, b, c, e, most)) in
        omega (arith, a, b, c, e, f, g, sum)
