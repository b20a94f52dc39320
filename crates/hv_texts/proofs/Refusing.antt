-- A line that is refused in each configuration.
use Rattle.std.proofs.Common.{◌≡◌, ◌+◌, ◌⊎◌, inl, inr, Bool, true, false, List, [], refl, ◌∙◌, ap, subst, arith}
use Rattle.std.proofs.lemmas.Bool.{both_ways}
use Rattle.hv_base.specs.declared.place.Place.{Place}
use Rattle.hv_base.specs.declared.why.Why.{Why}
use Rattle.hv_cond.specs.Diagram.{Diagram, IsNode, Keeps, holds}
use Rattle.hv_cond.specs.Parts.{count_satisfied}
use Rattle.hv_cond.specs.declared.conditions.Cond.{Cond}
use Rattle.hv_given.specs.Laws.{IsRefusedAt-each}
use Rattle.hv_given.specs.Refusals.{AreRefusals, CountsMore, IsRefusedAt, RefusesMore}
use Rattle.hv_plainpp.specs.Reading.{Ending, Reading, refusal, refused as ended}
use Rattle.hv_texts.proofs.Counting.{bit, count_cons, none_if}
use Rattle.hv_texts.specs.Readings.{Ends}
use Rattle.hv_toks.specs.Division.{conditions}
use Rattle.hv_toks.specs.declared.parted.Failing.{Failing}

pub all_refused : {A : Type 0} {old new : Diagram} → Keeps old new → (place : Place) (why : Why)
    (c never : Cond) (before failing : List Failing) (IsRight : List Bool → A → Type 0)
    (read : List Bool → Reading A)
    → ((values : List Bool) → read values ≡ refusal why place)
    → IsNode old c → IsNode old never → ((values : List Bool) → holds old never values ≡ false)
    → before ≡ [] → AreRefusals new failing
    → RefusesMore old new before failing place why c → CountsMore old new before failing c
    → Ends new c never failing IsRight read
all_refused {A} {old} {new} keeps place why c never before failing IsRight read reads node never_node
    is_never first refusals more counts =
    record {
      divides = record {
        nodes = (keeps.stays never never_node, refusals.nodes);
        none_false = refusals.none_false;
        one = λ values.
            let all = count_cons new never (conditions failing) values in
            let none = none_if (holds new never values) (nowhere values) in
            let same : bit (holds new c values) ≡ bit (holds old c values) =
            ap bit (keeps.meaning c node values) in
            let sum = counted values in
            omega arith;
        distinct = refusals.distinct;
      };
      right = λ values h. absurd (both_ways (holds new never values) (nowhere values) h);
      refused_there = IsRefusedAt-each new
          (λ values at cause. (read values).ending ≡ ended cause at) failing
          (λ values at cause r. which values at cause (refuses values at cause r));
    }
  where
    nowhere : (values : List Bool) → holds new never values ≡ false
    nowhere values = keeps.meaning never never_node values ∙ is_never values

    counted : (values : List Bool)
        → count_satisfied new (conditions failing) values ≡ 0 + bit (holds old c values)
    counted values = (subst (λ (fs : List Failing). CountsMore old new fs failing c) first counts)
        values (λ h. refl)

    refuses : (values : List Bool) (at : Place) (cause : Why)
        → IsRefusedAt new failing values at cause
        → ⊥ ⊎ ((place ≡ at) × (why ≡ cause) × (holds old c values ≡ true))
    refuses values at cause r = ((subst (λ (fs : List Failing).
        RefusesMore old new fs failing place why c) first more) values at cause).0 r

    which : (values : List Bool) (at : Place) (cause : Why)
        → ⊥ ⊎ ((place ≡ at) × (why ≡ cause) × (holds old c values ≡ true))
        → (read values).ending ≡ ended cause at
    which values at cause (inl r) = absurd r
    which values at cause (inr r) =
        ap (λ (x : Reading A). x.ending) (reads values)
        ∙ (ap (λ (w : Why). let x : Ending A = ended w place in x) r.1
        ∙ ap (λ (p : Place). let x : Ending A = ended cause p in x) r.0)
