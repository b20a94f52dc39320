-- What the one configuration of a condition has of an answer that is divided.
use Rattle.std.proofs.Common.{◌≡◌, ◌+◌, ℕ, Bool, true, false, List, [], ◌∷◌, map, filter, length, refl, sym, ◌∙◌, ap, arith, subst}
use Rattle.std.specs.Prelude.{if◌then◌else◌}
use Rattle.std.specs.Prelude.{All, AllPairs}
use Rattle.std.proofs.lemmas.List.Elements.{All-head, All-tail}
use Rattle.std.proofs.lemmas.List.Sums.{sum_by-cons}
use Rattle.hv_base.specs.declared.config.Config.{Config}
use Rattle.hv_base.specs.declared.token.CTok.{CTok}
use Rattle.hv_base.specs.declared.place.Place.{Place}
use Rattle.hv_base.specs.declared.place.Start.{Start}
use Rattle.hv_cond.specs.Diagram.{Diagram, IsNode, Keeps, holds}
use Rattle.hv_cond.specs.Parts.{count_satisfied}
use Rattle.hv_cond.specs.declared.conditions.Cond.{Cond}
use Rattle.hv_cstream.specs.Streams.{stream_in}
use Rattle.hv_plainpp.specs.CTokens.{Identity}
use Rattle.hv_plainpp.specs.Plainpp.{HasFace}
use Rattle.hv_plainpp.specs.Reading.{refused}
use Rattle.hv_preproc.specs.Plain.{Plain}
use Rattle.hv_preproc.specs.Preprocessed.{AreTokens, AreTooManyAt, IsLeft, IsMetIn, IsRefusedBy}
use Rattle.hv_texts.specs.Faces.{HaveOneFaceAt}
use Rattle.hv_toks.specs.Division.{Divides, Sorts, conditions}
use Rattle.hv_toks.specs.Stream.{projected, unconditional, KeptTok}
use Rattle.hv_toks.specs.declared.parted.Failing.{Failing}
use Rattle.hv_toks.specs.declared.parted.Parted.{Parted}
use Rattle.hv_toks.specs.declared.stream.StreamTok.{StreamTok}
use Rattle.hv_variant.proofs.Literals.{agree-one, agree-refl}
use Rattle.hv_variant.specs.Variants.{HasTokens}
use Rattle.hv_variant.specs.working.Agreement.{IsOnly}

------ tokens

tokens_of : (xs : List StreamTok) → map (λ (t : KeptTok). t.tok) (map unconditional xs)
    ≡ map (λ (p : CTok × Start). p.0) (map (λ (t : StreamTok). (t.tok, t.start)) xs)
tokens_of [] = refl
tokens_of (x ∷ xs) = ap (λ (ts : List CTok). x.tok ∷ ts) (tokens_of xs)

firsts : (ts : List (CTok × Start)) (us : List (CTok × Identity)) → AreTokens ts us
    → map (λ (p : CTok × Start). p.0) ts ≡ map (λ (u : CTok × Identity). u.0) us
firsts [] [] e = refl
firsts [] (u ∷ us) e = cc
firsts (t ∷ ts) [] e = cc
firsts (t ∷ ts) (u ∷ us) e = both t u ts us (head_same t u ts us e) (firsts ts us (tail_same t u ts us e))
  where
    triples_same : (t : CTok × Start) (u : CTok × Identity) (ts : List (CTok × Start))
        (us : List (CTok × Identity)) → AreTokens (t ∷ ts) (u ∷ us)
        → ◌≡◌ {A = CTok × Place × ℕ} (t.0, t.1.place, t.1.index) (u.0, u.1.place, u.1.index)
    triples_same t u ts us e = cc

    head_same : (t : CTok × Start) (u : CTok × Identity) (ts : List (CTok × Start))
        (us : List (CTok × Identity)) → AreTokens (t ∷ ts) (u ∷ us) → t.0 ≡ u.0
    head_same t u ts us e = ap (λ (p : CTok × Place × ℕ). p.0) (triples_same t u ts us e)

    tail_same : (t : CTok × Start) (u : CTok × Identity) (ts : List (CTok × Start))
        (us : List (CTok × Identity)) → AreTokens (t ∷ ts) (u ∷ us) → AreTokens ts us
    tail_same t u ts us e = cc

    both : (t : CTok × Start) (u : CTok × Identity) (ts : List (CTok × Start))
        (us : List (CTok × Identity)) → t.0 ≡ u.0
        → map (λ (p : CTok × Start). p.0) ts ≡ map (λ (u : CTok × Identity). u.0) us
        → map (λ (p : CTok × Start). p.0) (t ∷ ts) ≡ map (λ (u : CTok × Identity). u.0) (u ∷ us)
    both t u ts us h e = cc

-- what a configuration keeps of a stream are the tokens that its plain reading has
pub projected_are : (diagram : Diagram) (stream : List StreamTok) (values : List Bool)
    (us : List (CTok × Identity)) → AreTokens (stream_in diagram stream values) us
    → projected diagram values stream ≡ map (λ (u : CTok × Identity). u.0) us
projected_are diagram stream values us e =
    tokens_of (filter (λ (t : StreamTok). holds diagram t.cond values) stream)
    ∙ firsts (stream_in diagram stream values) us e

------ the one configuration

count-first : (diagram : Diagram) (c : Cond) (conds : List Cond) (values : List Bool)
    → count_satisfied diagram (c ∷ conds) values
    ≡ (if holds diagram c values then 1 else 0) + count_satisfied diagram conds values
count-first diagram c conds values =
    sum_by-cons (λ (c : Cond). if holds diagram c values then 1 else 0) c conds

one_at_most : (g f v : Bool) (rest : ℕ)
    → (if g then 1 else 0) + ((if f then 1 else 0) + rest) ≡ (if v then 1 else 0)
    → f ≡ true → v ≡ true
one_at_most g f true rest e here = refl
one_at_most true true false rest e here = absurd (omega (arith, e))
one_at_most false true false rest e here = absurd (omega (arith, e))
one_at_most g false false rest e here = cc

only_good : (g v : Bool) → (if g then 1 else 0) + 0 ≡ (if v then 1 else 0) → v ≡ true → g ≡ true
only_good true v e here = refl
only_good false true e here = absurd (omega (arith, e))
only_good false false e here = cc

-- where there is an entry it has the configuration
pub refused_alone : (diagram : Diagram) (valid good : Cond) (f : Failing) (rest : List Failing)
    (values : List Bool) → length values ≡ diagram.variables → IsOnly diagram valid values
    → Divides diagram valid good (f ∷ rest) → holds diagram f.cond values ≡ true
refused_alone diagram valid good f rest values all only divides =
    by (holds diagram f.cond values) refl
  where
    there : (others : List Bool) → length others ≡ diagram.variables
        → holds diagram f.cond others ≡ true → values ≡ others
    there others len here = agree-one values others
        (sym (only others (len ∙ sym all))
        ∙ one_at_most (holds diagram good others) (holds diagram f.cond others)
        (holds diagram valid others) (count_satisfied diagram (conditions rest) others)
        (sym (count-first diagram good (f.cond ∷ conditions rest) others
        ∙ ap (λ (n : ℕ). (if holds diagram good others then 1 else 0) + n)
        (count-first diagram f.cond (conditions rest) others))
        ∙ divides.one others) here)

    never : holds diagram f.cond values ≡ false → (b : Bool) (others : List Bool)
        → length others ≡ diagram.variables → holds diagram f.cond others ≡ b → b ≡ false
    never off false others len is = refl
    never off true others len is =
        let same : values ≡ others = there others len is in cc

    by : (b : Bool) → holds diagram f.cond values ≡ b → holds diagram f.cond values ≡ true
    by true is = is
    by false off = absurd (divides.none_false.0 (λ others len.
        never off (holds diagram f.cond others) others len refl))

-- where there is none it is good
pub good_alone : (diagram : Diagram) (valid good : Cond) (values : List Bool)
    → IsOnly diagram valid values → Divides diagram valid good []
    → holds diagram good values ≡ true
good_alone diagram valid good values only divides =
    only_good (holds diagram good values) (holds diagram valid values)
    (sym (count-first diagram good [] values) ∙ divides.one values)
    (only values refl ∙ agree-refl values)

-- the answer of one configuration: refused where there is an entry
pub alone_is_refused : (diagram : Diagram) (values : List Bool) (plain : Plain) (valid : Cond)
    (parted : Parted (List StreamTok)) (f : Failing) (rest : List Failing)
    → parted.failing ≡ f ∷ rest → length values ≡ diagram.variables → IsOnly diagram valid values
    → Sorts diagram valid (IsLeft plain diagram) (IsRefusedBy plain) parted
    → (plain values).ending ≡ refused f.why f.place
alone_is_refused diagram values plain valid parted f rest is all only sorts =
    first_refused (rw is at sorts.refused) values all
    (refused_alone diagram valid parted.good f rest values all only (rw is at sorts.divides))
  where
    first_refused : All (λ (f : Failing). (values : List Bool) → length values ≡ diagram.variables
        → holds diagram f.cond values ≡ true → IsRefusedBy plain values f.place f.why) (f ∷ rest)
        → (values : List Bool) → length values ≡ diagram.variables
        → holds diagram f.cond values ≡ true → IsRefusedBy plain values f.place f.why
    first_refused each = All-head (λ (f : Failing). (values : List Bool)
        → length values ≡ diagram.variables
        → holds diagram f.cond values ≡ true → IsRefusedBy plain values f.place f.why) f rest each

-- and else its tokens
pub alone_is_left : (diagram : Diagram) (values : List Bool) (plain : Plain) (valid : Cond)
    (parted : Parted (List StreamTok)) → parted.failing ≡ []
    → length values ≡ diagram.variables → IsOnly diagram valid values
    → Sorts diagram valid (IsLeft plain diagram) (IsRefusedBy plain) parted
    → (toks : List CTok) → toks ≡ projected diagram values parted.value
    → HasTokens (plain values) toks
alone_is_left diagram values plain valid parted none all only sorts toks are =
    let left = sorts.right values all
    (good_alone diagram valid parted.good values only (rw none at sorts.divides)) in
    (left.0, left.1, are ∙ projected_are diagram parted.value values left.0 left.2)

-- a store that grows keeps that a condition is of one configuration alone
pub IsOnly-kept : {old new : Diagram} → Keeps old new → (c : Cond) → IsNode old c
    → (values : List Bool) → IsOnly old c values → IsOnly new c values
IsOnly-kept keeps c node values only = λ others len.
    keeps.meaning c node others ∙ only others len

-- one configuration hasn't two faces at a place
pub one_face : (plain : Plain) (diagram : Diagram) (valid : Cond) (place : Place)
    (configs : List Config) (values : List Bool) → length values ≡ diagram.variables
    → IsOnly diagram valid values → AreTooManyAt plain diagram valid place configs → ⊥
one_face plain diagram valid place [] values all only many = absurd (omega (arith, many.0))
one_face plain diagram valid place (c ∷ []) values all only many = absurd (omega (arith, many.0))
one_face plain diagram valid place (c ∷ d ∷ configs) values all only many =
    pair_differs c d configs many.1.differ (same c d (first c (d ∷ configs) many.1.each)
    (first d configs (others c d configs many.1.each)))
  where
    first : (c : Config) (configs : List Config) → All (IsMetIn plain diagram valid place) (c ∷ configs)
        → IsMetIn plain diagram valid place c
    first c configs each = All-head (IsMetIn plain diagram valid place) c configs each

    others : (c d : Config) (configs : List Config)
        → All (IsMetIn plain diagram valid place) (c ∷ d ∷ configs)
        → All (IsMetIn plain diagram valid place) (d ∷ configs)
    others c d configs each = All-tail (IsMetIn plain diagram valid place) c (d ∷ configs) each

    there : (c : Config) → IsMetIn plain diagram valid place c → values ≡ c.on
    there c met = agree-one values c.on
        (sym (only c.on (met.all_options ∙ sym all)) ∙ met.is_valid)

    same : (c d : Config) → IsMetIn plain diagram valid place c → IsMetIn plain diagram valid place d
        → HaveOneFaceAt plain place c.on d.on
    same c d m n = (
      m.meets.0,
      m.meets.1,
      subst (λ (on : List Bool). HasFace (plain on) place m.meets.0) (sym (there c m) ∙ there d n)
          m.meets.1,
    )

    pair_differs : (c d : Config) (configs : List Config)
        → AllPairs (λ (c d : Config). ¬ HaveOneFaceAt plain place c.on d.on) (c ∷ d ∷ configs)
        → ¬ HaveOneFaceAt plain place c.on d.on
    pair_differs c d configs differ = differ 0 1 c (omega arith) (omega arith)

-- a list without elements
pub none_left : {X : Type 0} (xs : List X) → length xs ≡ 0 → xs ≡ []
none_left [] e = refl
none_left (x ∷ xs) e = absurd (omega (arith, e))
