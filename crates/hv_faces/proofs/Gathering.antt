-- Classes that are gathered by one run after another.
use Rattle.std.proofs.Common.{ℕ, ◌≡◌, ◌+◌, ◌<◌, ◌≤◌, ◌↔◌, refl, sym, ap, ◌∙◌, Bool, true, false, ◌&&◌, not, List, [], ◌∷◌, ◌++◌, length, arith}
use Rattle.std.specs.Prelude.{cond}
use Rattle.std.proofs.lemmas.Bool.{false≢true}
use Rattle.std.proofs.lemmas.List.{map-append, length-map}
use Rattle.std.proofs.lemmas.List.Sums.{sum_by-cons}
use Rattle.hv_base.specs.declared.limits.TheConstants.{MOST_FACES}
use Rattle.hv_cond.specs.Diagram.{Diagram, AllNodes, IsNode, Keeps, holds}
use Rattle.hv_cond.specs.Laws.{Keeps-refl, Keeps-trans, IsNever-before, count_satisfied-kept, count_satisfied-append}
use Rattle.hv_cond.specs.Parts.{NoneFalse, count_satisfied}
use Rattle.hv_cond.specs.declared.conditions.Cond.{Cond}
use Rattle.hv_faces.specs.Faces.{IsClass, DiffersFromAll, AllDiffer, AllWithin, IsClassWith, AllClasses, conditions, AreClasses, AreTooMany}
use Rattle.hv_faces.specs.declared.class.Class.{Class}

------ counts

abbrev pub one : Bool → ℕ
one b = cond b 1 0

one_true : (b : Bool) → b ≡ true → one b ≡ 1
one_true true e = refl
one_true false e = absurd (false≢true e)

one_false : (b : Bool) → b ≡ false → one b ≡ 0
one_false true e = absurd (false≢true (sym e))
one_false false e = refl

true_one : (b : Bool) → 0 < one b → b ≡ true
true_one true l = refl
true_one false l = absurd (omega arith)

at_most : (b : Bool) → one b ≤ 1
at_most true = omega arith
at_most false = omega arith

either_way : {P : Type 0} (b : Bool) → (b ≡ true → P) → (b ≡ false → P) → P
either_way true f g = f refl
either_way false f g = g refl

split : (r o : Bool) → (o ≡ true → r ≡ true) → one o + one (r && not o) ≡ one r
split true true h = omega arith
split true false h = omega arith
split false true h = absurd (false≢true (h refl))
split false false h = omega arith

count_cons : (d : Diagram) (c : Cond) (conds : List Cond) (values : List Bool)
    → count_satisfied d (c ∷ conds) values ≡ one (holds d c values) + count_satisfied d conds values
count_cons d c conds values = sum_by-cons (λ (x : Cond). cond (holds d x values) 1 0) c conds

------ classes of a store that has grown

-- a class stays one, also of a test that says the same
class_kept : {V : Type 0} {mid now : Diagram} → Keeps mid now → (of others : List Bool → Bool)
    → ((values : List Bool) → others values ≡ of values)
    → (same : List Bool → List Bool → Type 0) (is_right : V → List Bool → Type 0)
    (found : Class V) → IsClassWith mid of same is_right found
    → IsClassWith now others same is_right found
class_kept {V} {mid} {now} keeps of others alike same is_right found i =
    let node = i.class.lies.node in
    let stays : (values : List Bool) → holds now found.cond values ≡ holds mid found.cond values =
    keeps.meaning found.cond node in
    record {
      class = record {
        lies = record {
          node = keeps.stays found.cond node;
          possible = λ never. i.class.lies.possible (IsNever-before keeps found.cond node never);
          within = λ v h. alike v ∙ i.class.lies.within v (sym (stays v) ∙ h);
        };
        exact = λ v w h k.
            let there : of w ≡ true = sym (alike w) ∙ k in (
              λ p. (i.class.exact v w (sym (stays v) ∙ h) there).0 (sym (stays w) ∙ p),
              λ q. stays w ∙ (i.class.exact v w (sym (stays v) ∙ h) there).1 q,
            );
      };
      right = λ v h. i.right v (sym (stays v) ∙ h);
    }

all_kept : {V : Type 0} {mid now : Diagram} → Keeps mid now → (of others : List Bool → Bool)
    → ((values : List Bool) → others values ≡ of values)
    → (same : List Bool → List Bool → Type 0) (is_right : V → List Bool → Type 0)
    (classes : List (Class V)) → AllClasses mid of same is_right classes
    → AllClasses now others same is_right classes
all_kept keeps of others alike same is_right [] all = tt
all_kept keeps of others alike same is_right (found ∷ classes) all = (
  class_kept keeps of others alike same is_right found all.0,
  all_kept keeps of others alike same is_right classes all.1,
)

module _ {V : Type 0} (d : Diagram) (of : List Bool → Bool)
    (same : List Bool → List Bool → Type 0) (is_right : V → List Bool → Type 0) where
  all_nodes : (classes : List (Class V)) → AllClasses d of same is_right classes
      → AllNodes d (conditions classes)
  all_nodes [] all = tt
  all_nodes (found ∷ classes) all = (all.0.class.lies.node, all_nodes classes all.1)

  none_false : (classes : List (Class V)) → AllClasses d of same is_right classes
      → NoneFalse d (conditions classes)
  none_false [] all = tt
  none_false (found ∷ classes) all = (all.0.class.lies.possible, none_false classes all.1)

  all_within : (classes : List (Class V)) → AllClasses d of same is_right classes
      → AllWithin d of (conditions classes)
  all_within [] all = tt
  all_within (found ∷ classes) all = (all.0.class.lies, all_within classes all.1)

  all_append : (classes : List (Class V)) (found : Class V)
      → AllClasses d of same is_right classes
      → IsClassWith d of same is_right found
      → AllClasses d of same is_right (classes ++ found ∷ [])
  all_append [] found all i = (i, tt)
  all_append (x ∷ classes) found all i = (all.0, all_append classes found all.1 i)

  -- a configuration of an earlier class has another face than one that is in no class
  earlier : (classes : List (Class V)) → AllClasses d of same is_right classes
      → (v w : List Bool)
      → of v ≡ true → same w v
      → 0 < count_satisfied d (conditions classes) w
      → count_satisfied d (conditions classes) v ≡ 0 → ⊥
  earlier [] all v w inside e some none = omega arith
  earlier (found ∷ classes) all v w inside e some none =
      let there = count_cons d found.cond (conditions classes) w in
      let here = count_cons d found.cond (conditions classes) v in
      either_way (holds d found.cond w)
      (λ h. let mine = one_true (holds d found.cond v) ((all.0.class.exact w v h inside).1 e) in
      omega (arith, mine, here, none))
      (λ h. let not_mine = one_false (holds d found.cond w) h in
      earlier classes all.1 v w inside e (omega (arith, not_mine, there, some))
      (omega (arith, here, none)))

  -- a class differs in face from all with which it shares no configuration
  differs : (found : Class V) → IsClassWith d of same is_right found → (classes : List (Class V))
      → AllClasses d of same is_right classes
      → ((w : List Bool) → holds d found.cond w ≡ true
      → count_satisfied d (conditions classes) w ≡ 0)
      → DiffersFromAll d same found.cond (conditions classes)
  differs found i [] all apart = tt
  differs found i (other ∷ classes) all apart = (
    λ v w h k e.
        let inside : of w ≡ true = all.0.class.lies.within w k in
        let both : holds d found.cond w ≡ true = (i.class.exact v w h inside).1 e in
        let none = apart w both in
        let there = count_cons d other.cond (conditions classes) w in
        let mine = one_true (holds d other.cond w) k in
        omega (arith, none, there, mine),
    differs found i classes all.1 (λ w h.
        let none = apart w h in
        let there = count_cons d other.cond (conditions classes) w in
        omega (arith, none, there)),
  )

  all_differ : (classes : List (Class V)) → AllClasses d of same is_right classes
      → ((w : List Bool) → count_satisfied d (conditions classes) w ≤ 1)
      → AllDiffer d same (conditions classes)
  all_differ [] all most = tt
  all_differ (found ∷ classes) all most = (
    differs found all.0 classes all.1 (λ w h.
        let there = count_cons d found.cond (conditions classes) w in
        let mine = one_true (holds d found.cond w) h in
        let few = most w in
        omega (arith, there, mine, few)),
    all_differ classes all.1 (λ w.
        let there = count_cons d found.cond (conditions classes) w in
        let few = most w in
        omega (arith, there, few)),
  )

------ the loop

-- the classes so far, and the condition that is left
pub record IsGathered {V : Type 0} (old now : Diagram) (c rest : Cond)
    (same : List Bool → List Bool → Type 0) (is_right : V → List Bool → Type 0)
    (classes : List (Class V)) : Type 0 where
  pub keeps : Keeps old now
  pub node : IsNode old c
  pub rest_node : IsNode now rest
  pub each : AllClasses now (λ values. holds old c values) same is_right classes
  pub once : (values : List Bool)
      → count_satisfied now (conditions classes) values + one (holds now rest values)
      ≡ one (holds old c values)

pub gathered_start : {V : Type 0} (d : Diagram) (c : Cond)
    (same : List Bool → List Bool → Type 0) (is_right : V → List Bool → Type 0)
    (classes : List (Class V)) → IsNode d c → classes ≡ []
    → IsGathered d d c c same is_right classes
gathered_start {V} d c same is_right classes n e =
    record {
      keeps = Keeps-refl d;
      node = n;
      rest_node = n;
      each = rw e tt;
      once = λ v. ap (λ (xs : List (Class V)). count_satisfied d (conditions xs) v + one
          (holds d c v)) e ∙ omega arith;
    }

-- one run more
module _ {V : Type 0} (old mid now later : Diagram) (c rest left : Cond)
    (same mid_same : List Bool → List Bool → Type 0)
    (is_right mid_right : V → List Bool → Type 0)
    (classes more : List (Class V)) (found : Class V)
    (symmetric : (values others : List Bool) → same values others → same others values)
    (face_kept : (values others : List Bool) → mid_same values others ↔ same values others)
    (right_kept : (values : List Bool) → mid_right found.value values
    → is_right found.value values)
    (g : IsGathered old mid c rest same is_right classes)
    (grows : Keeps mid now)
    (class : IsClass now (λ values. holds mid rest values) mid_same found.cond)
    (right : (values : List Bool) → holds now found.cond values ≡ true
    → mid_right found.value values)
    (keeps : Keeps now later) (node : IsNode later left)
    (outside : (values : List Bool)
    → holds later left values ≡ (holds now rest values && not (holds now found.cond values)))
    (pushed : more ≡ classes ++ found ∷ []) where
  of_rest : (v : List Bool) → holds mid rest v ≡ true
      → (count_satisfied mid (conditions classes) v ≡ 0) × (holds old c v ≡ true)
  of_rest v h =
      let some = one_true (holds mid rest v) h in
      let count = g.once v in
      let most = at_most (holds old c v) in
      (omega (arith, some, count, most), true_one (holds old c v) (omega (arith, some, count)))

  others : (v w : List Bool) → holds now found.cond v ≡ true → holds old c w ≡ true
      → same v w → holds now found.cond w ≡ true
  others v w h inside e =
      either_way (holds mid rest w)
      (λ r. (class.exact v w h r).1 ((face_kept v w).1 e))
      (λ r.
      let none = one_false (holds mid rest w) r in
      let all = one_true (holds old c w) inside in
      let count = g.once w in
      let mine = of_rest v (class.lies.within v h) in
      absurd (earlier mid (λ x. holds old c x) same is_right classes g.each v w mine.1
      (symmetric v w e)
      (omega (arith, none, all, count)) mine.0))

  new_class : IsClassWith now (λ values. holds old c values) same is_right found
  new_class =
      record {
        class = record {
          lies = record {
            node = class.lies.node;
            possible = class.lies.possible;
            within = λ v h. (of_rest v (class.lies.within v h)).1;
          };
          exact = λ v w h inside. (
            λ k. (face_kept v w).0 ((class.exact v w h (class.lies.within w k)).0 k),
            λ e. others v w h inside e,
          );
        };
        right = λ v h. right_kept v (right v h);
      }

  pub gathered_more : IsGathered old later c left same is_right more
  gathered_more =
      record {
        keeps = Keeps-trans g.keeps (Keeps-trans grows keeps);
        node = g.node;
        rest_node = node;
        each = rw pushed (all_append later (λ x. holds old c x) same is_right classes found
            (all_kept (Keeps-trans grows keeps) (λ x. holds old c x) (λ x. holds old c x)
            (λ v. refl) same is_right classes g.each)
            (class_kept keeps (λ x. holds old c x) (λ x. holds old c x) (λ v. refl) same
            is_right found new_class));
        once = λ v.
            let parts =
            ap (λ (xs : List (Class V)). count_satisfied later (conditions xs) v) pushed in
            let both_parts =
            ap (λ (xs : List Cond). count_satisfied later xs v)
            (map-append (λ (x : Class V). x.cond) classes (found ∷ [])) in
            let counts =
            count_satisfied-append later (conditions classes) (found.cond ∷ []) v in
            let single = count_cons later found.cond [] v in
            let before = count_satisfied-kept (Keeps-trans grows keeps) (conditions classes)
            (all_nodes mid (λ x. holds old c x) same is_right classes g.each) v in
            let mine = ap one (keeps.meaning found.cond class.lies.node v) in
            let others_left =
            ap one (outside v ∙ ap (λ (b : Bool). b &&
            not (holds now found.cond v)) (grows.meaning rest g.rest_node v)) in
            let halves =
            split (holds mid rest v) (holds now found.cond v) (class.lies.within v) in
            let count = g.once v in
            omega (
              arith,
              parts,
              both_parts,
              counts,
              single,
              before,
              mine,
              others_left,
              halves,
              count,
            );
      }

pub gathered_all : {V : Type 0} (old now : Diagram) (c rest : Cond)
    (same : List Bool → List Bool → Type 0) (is_right : V → List Bool → Type 0)
    (classes : List (Class V)) → IsGathered old now c rest same is_right classes
    → ((values : List Bool) → holds now rest values ≡ false)
    → AreClasses now c same is_right classes
gathered_all old now c rest same is_right classes g never =
    record {
      each = all_kept (Keeps-refl now) (λ x. holds old c x) (λ x. holds now c x)
          (λ v. g.keeps.meaning c g.node v) same is_right classes g.each;
      parts = record {
        nodes = all_nodes now (λ x. holds old c x) same is_right classes g.each;
        none_false = none_false now (λ x. holds old c x) same is_right classes g.each;
        one = λ v.
            let none = one_false (holds now rest v) (never v) in
            let count = g.once v in
            let here = ap one (g.keeps.meaning c g.node v) in
            omega (arith, none, count, here);
      };
    }

pub gathered_many : {V : Type 0} (old now : Diagram) (c rest : Cond)
    (same : List Bool → List Bool → Type 0) (is_right : V → List Bool → Type 0)
    (classes : List (Class V)) → IsGathered old now c rest same is_right classes
    → length classes ≡ MOST_FACES + 1 → AreTooMany now c same (conditions classes)
gathered_many {V} old now c rest same is_right classes g n =
    let here : AllClasses now (λ x. holds now c x) same is_right classes =
    all_kept (Keeps-refl now) (λ x. holds old c x) (λ x. holds now c x)
    (λ v. g.keeps.meaning c g.node v) same is_right classes g.each in
    record {
      count = length-map classes (λ (x : Class V). x.cond) ∙ n;
      within = all_within now (λ x. holds now c x) same is_right classes here;
      differ = all_differ now (λ x. holds now c x) same is_right classes here (λ v.
          let count = g.once v in
          let most = at_most (holds old c v) in
          omega (arith, count, most));
    }
