-- Laws of refusals, for proofs above: a store that grows changes none, and what is so of each
-- refused configuration is so of each entry.
use Rattle.std.specs.Prelude.{◌≡◌, true, Bool, List, [], ◌∷◌, All}
use Rattle.std.proofs.Common.{sym, ◌∙◌, refl, inl, inr, arith}
use Rattle.std.proofs.lemmas.List.Elements.{All-cons}
use Rattle.hv_base.specs.declared.place.Place.{Place}
use Rattle.hv_base.specs.declared.why.Why.{Why}
use Rattle.hv_cond.specs.Diagram.{AllNodes, Diagram, Keeps, holds}
use Rattle.hv_cond.specs.Laws.{AllNodes-kept, NoneFalse-kept}
use Rattle.hv_given.specs.Refusals.{AreRefusals, IsRefusedAt}
use Rattle.hv_toks.specs.Division.{conditions}
use Rattle.hv_toks.specs.declared.parted.Failing.{Failing}

-- entries by place and cause stay so
pub AreRefusals-kept : {old new : Diagram} → Keeps old new → (failing : List Failing)
    → AreRefusals old failing → AreRefusals new failing
AreRefusals-kept keeps failing r =
    record {
      nodes = AllNodes-kept keeps (conditions failing) r.nodes;
      none_false = NoneFalse-kept keeps (conditions failing) r.nodes r.none_false;
      distinct = r.distinct;
    }

-- what is refused in a store that has grown was refused
pub IsRefusedAt-before : {old new : Diagram} → Keeps old new → (failing : List Failing)
    → AllNodes old (conditions failing) → (values : List Bool) (place : Place) (why : Why)
    → IsRefusedAt new failing values place why → IsRefusedAt old failing values place why
IsRefusedAt-before keeps [] nodes values place why r = r
IsRefusedAt-before keeps (f ∷ failing) nodes values place why (inl r) = inl (record {
  same_place = r.same_place;
  same_cause = r.same_cause;
  here = sym (keeps.meaning f.cond nodes.0 values) ∙ r.here;
})
IsRefusedAt-before keeps (f ∷ failing) nodes values place why (inr r) =
    inr (IsRefusedAt-before keeps failing nodes.1 values place why r)

-- and what was refused is refused
pub IsRefusedAt-kept : {old new : Diagram} → Keeps old new → (failing : List Failing)
    → AllNodes old (conditions failing) → (values : List Bool) (place : Place) (why : Why)
    → IsRefusedAt old failing values place why → IsRefusedAt new failing values place why
IsRefusedAt-kept keeps [] nodes values place why r = r
IsRefusedAt-kept keeps (f ∷ failing) nodes values place why (inl r) = inl (record {
  same_place = r.same_place;
  same_cause = r.same_cause;
  here = keeps.meaning f.cond nodes.0 values ∙ r.here;
})
IsRefusedAt-kept keeps (f ∷ failing) nodes values place why (inr r) =
    inr (IsRefusedAt-kept keeps failing nodes.1 values place why r)

-- what is so of each refused configuration is so of each entry
pub IsRefusedAt-each : (diagram : Diagram) (P : List Bool → Place → Why → Type 0)
    (failing : List Failing)
    → ((values : List Bool) (place : Place) (why : Why)
    → IsRefusedAt diagram failing values place why → P values place why)
    → All (λ f. (values : List Bool) → holds diagram f.cond values ≡ true
    → P values f.place f.why) failing
IsRefusedAt-each diagram P [] h = λ k d l. absurd (omega arith)
IsRefusedAt-each diagram P (f ∷ failing) h =
    All-cons (λ (f : Failing). (values : List Bool) → holds diagram f.cond values ≡ true
    → P values f.place f.why) f failing
    (λ values e. h values f.place f.why (inl (record {
      same_place = refl;
      same_cause = refl;
      here = e;
    })))
    (IsRefusedAt-each diagram P failing (λ values place why r. h values place why (inr r)))
