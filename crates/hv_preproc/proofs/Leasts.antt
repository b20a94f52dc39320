-- The first of configurations.
use Rattle.std.proofs.Common.{◌≡◌, ◌↔◌, ◌⊎◌, ◌<◌, ◌≤◌, ◌+◌, ◌++◌, ◌||◌, zero, suc, ℕ, Bool, true, false, List, [], ◌∷◌, length, refl, sym, ◌∙◌, ap, subst, inl, inr, arith}
use Rattle.std.specs.Cmp.Lexicographic.{slice_partial_cmp}
use Rattle.std.specs.Ordering.{bool_cmp, is_lt, is_some_and}
use Rattle.std.specs.Prelude.{Decides, IfNone, IfSome, Option, Some, None}
use Rattle.std.specs.List.{Contains}
use Rattle.std.proofs.lemmas.Bool.{false≢true, or_cases, or_left, or_right}
use Rattle.std.proofs.lemmas.List.Elements.{All-contains, Contains-append_left, Contains-push}
use Rattle.hv_base.specs.declared.config.Config.{Config}
use Rattle.hv_cond.specs.Diagram.{AllNodes, Diagram, IsBefore, IsLeast, IsNever, IsNode, holds, value_of}
use Rattle.hv_cond.specs.Parts.{NoneFalse}
use Rattle.hv_base.specs.declared.place.Place.{Place}
use Rattle.hv_base.specs.declared.token.CTok.{CTok}
use Rattle.hv_base.specs.declared.why.Why.{Why}
use Rattle.hv_cond.specs.declared.conditions.Cond.{Cond}
use Rattle.hv_given.specs.Refusals.{IsRefusedAt}
use Rattle.hv_plainpp.specs.CTokens.{Identity}
use Rattle.hv_plainpp.specs.Reading.{Ending, reaches, refused}
use Rattle.hv_preproc.proofs.Divisions.{not_good, refused_valid}
use Rattle.hv_preproc.specs.Plain.{Plain}
use Rattle.hv_preproc.specs.Preprocessed.{IsFirstRefused, IsLeft, IsRefusedBy}
use Rattle.hv_preproc.specs.working.Leasts.{IsFirstOf, IsLeastOf}
use Rattle.hv_preproc.specs.working.Taking.{any_holds}
use Rattle.hv_toks.specs.Division.{Sorts, conditions}
use Rattle.hv_toks.specs.declared.parted.Failing.{Failing}
use Rattle.hv_toks.specs.declared.parted.Parted.{Parted}
use Rattle.hv_toks.specs.declared.stream.StreamTok.{StreamTok}

------ the order of configurations

pub before_here : (xs ys : List Bool) → IsBefore (false ∷ xs) (true ∷ ys)
before_here xs ys = record {
  place = zero;
  same_until = λ i l. absurd (omega (arith, l));
  left_false = refl;
  right_true = refl;
}

pub before_later : (b : Bool) (xs ys : List Bool) → IsBefore xs ys → IsBefore (b ∷ xs) (b ∷ ys)
before_later b xs ys r = record {
  place = suc r.place;
  same_until = same;
  left_false = r.left_false;
  right_true = r.right_true;
}
  where
    same : (i : ℕ) → i < suc r.place → value_of (b ∷ xs) i ≡ value_of (b ∷ ys) i
    same zero l = refl
    same (suc i) l = r.same_until i (omega (arith, l))

first_cases : (x y : Bool) (xs ys : List Bool) (r : IsBefore (x ∷ xs) (y ∷ ys)) (place : ℕ)
    → ((i : ℕ) → i < place → value_of (x ∷ xs) i ≡ value_of (y ∷ ys) i)
    → value_of (x ∷ xs) place ≡ false → value_of (y ∷ ys) place ≡ true
    → ((x ≡ false) × (y ≡ true)) ⊎ ((x ≡ y) × IsBefore xs ys)
first_cases x y xs ys r zero same f t = inl (f, t)
first_cases x y xs ys r (suc place) same f t = inr (
  same zero (omega arith),
  record {
    place = place;
    same_until = λ i l. same (suc i) (omega (arith, l));
    left_false = f;
    right_true = t;
  },
)

pub before_first : (x y : Bool) (xs ys : List Bool) → IsBefore (x ∷ xs) (y ∷ ys)
    → ((x ≡ false) × (y ≡ true)) ⊎ ((x ≡ y) × IsBefore xs ys)
before_first x y xs ys r =
    first_cases x y xs ys r r.place r.same_until r.left_false r.right_true

nothing_before : (xs ys : List Bool) → length xs ≡ length ys → length ys ≡ 0 → ¬ IsBefore xs ys
nothing_before [] [] e n r = false≢true (r.right_true)
nothing_before [] (y ∷ ys) e n r = absurd (omega (arith, n))
nothing_before (x ∷ xs) [] e n r = absurd (omega (arith, e))
nothing_before (x ∷ xs) (y ∷ ys) e n r = absurd (omega (arith, n))

pub before_trans : (xs ys zs : List Bool) → length xs ≡ length ys → length ys ≡ length zs
    → IsBefore xs ys → IsBefore ys zs → IsBefore xs zs
before_trans [] ys zs e f r s =
    absurd (nothing_before [] ys e (omega (arith, e)) r)
before_trans (x ∷ xs) [] zs e f r s = absurd (omega (arith, e))
before_trans (x ∷ xs) (y ∷ ys) [] e f r s = absurd (omega (arith, f))
before_trans (x ∷ xs) (y ∷ ys) (z ∷ zs) e f r s =
    cases (before_first x y xs ys r) (before_first y z ys zs s)
    (before_trans xs ys zs (omega (arith, e)) (omega (arith, f)))
  where
    cases : ((x ≡ false) × (y ≡ true)) ⊎ ((x ≡ y) × IsBefore xs ys)
        → ((y ≡ false) × (z ≡ true)) ⊎ ((y ≡ z) × IsBefore ys zs)
        → (IsBefore xs ys → IsBefore ys zs → IsBefore xs zs)
        → IsBefore (x ∷ xs) (z ∷ zs)
    cases (inl p) (inl q) rest = absurd (false≢true (sym q.0 ∙ p.1))
    cases (inl p) (inr q) rest =
        subst (λ (b : Bool). IsBefore (b ∷ xs) (z ∷ zs)) (sym p.0)
        (subst (λ (b : Bool). IsBefore (false ∷ xs) (b ∷ zs)) (sym p.1 ∙ q.0)
        (before_here xs zs))
    cases (inr p) (inl q) rest =
        subst (λ (b : Bool). IsBefore (b ∷ xs) (z ∷ zs)) (sym (p.0 ∙ q.0))
        (subst (λ (b : Bool). IsBefore (false ∷ xs) (b ∷ zs)) (sym q.1)
        (before_here xs zs))
    cases (inr p) (inr q) rest =
        subst (λ (b : Bool). IsBefore (x ∷ xs) (b ∷ zs)) (p.0 ∙ q.0)
        (before_later x xs zs (rest p.1 q.1))

same_first : (b : Bool) (xs ys : List Bool) → (xs ≡ ys) ⊎ (IsBefore xs ys ⊎ IsBefore ys xs)
    → (b ∷ xs ≡ b ∷ ys) ⊎ (IsBefore (b ∷ xs) (b ∷ ys) ⊎ IsBefore (b ∷ ys) (b ∷ xs))
same_first b xs ys (inl e) = inl (ap (λ (l : List Bool). b ∷ l) e)
same_first b xs ys (inr (inl r)) = inr (inl (before_later b xs ys r))
same_first b xs ys (inr (inr r)) = inr (inr (before_later b ys xs r))

-- of two configurations one is before the other, or they are one
pub before_total : (xs ys : List Bool) → length xs ≡ length ys
    → (xs ≡ ys) ⊎ (IsBefore xs ys ⊎ IsBefore ys xs)
before_total [] [] e = inl refl
before_total [] (y ∷ ys) e = absurd (omega (arith, e))
before_total (x ∷ xs) [] e = absurd (omega (arith, e))
before_total (false ∷ xs) (true ∷ ys) e = inr (inl (before_here xs ys))
before_total (true ∷ xs) (false ∷ ys) e = inr (inr (before_here ys xs))
before_total (true ∷ xs) (true ∷ ys) e = same_first true xs ys (before_total xs ys (omega (arith, e)))
before_total (false ∷ xs) (false ∷ ys) e =
    same_first false xs ys (before_total xs ys (omega (arith, e)))

-- what isn't before a configuration isn't before a later one
pub not_before : (others values least : List Bool) → length others ≡ length values
    → length values ≡ length least → ¬ IsBefore others values → ¬ IsBefore values least
    → ¬ IsBefore others least
not_before others values least e f apart not r = cases (before_total values least f)
  where
    cases : (values ≡ least) ⊎ (IsBefore values least ⊎ IsBefore least values) → ⊥
    cases (inl same) = apart (subst (λ (l : List Bool). IsBefore others l) (sym same) r)
    cases (inr (inl s)) = not s
    cases (inr (inr s)) =
        apart (before_trans others least values (e ∙ f) (sym f) r s)

-- the comparison of two lists of options
abbrev pub less : List Bool → List Bool → Bool
less xs ys = is_some_and is_lt (slice_partial_cmp (λ x y. Some (bool_cmp x y)) xs ys)

first_true : (xs ys : List Bool) → ¬ IsBefore (true ∷ xs) (false ∷ ys)
first_true xs ys r = cases (before_first true false xs ys r)
  where
    cases : ((true ≡ false) × (false ≡ true)) ⊎ ((true ≡ false) × IsBefore xs ys) → ⊥
    cases (inl p) = false≢true p.1
    cases (inr p) = false≢true (sym p.0)

rest_before : (b : Bool) (xs ys : List Bool) → IsBefore (b ∷ xs) (b ∷ ys) → IsBefore xs ys
rest_before b xs ys r = cases (before_first b b xs ys r)
  where
    cases : ((b ≡ false) × (b ≡ true)) ⊎ ((b ≡ b) × IsBefore xs ys) → IsBefore xs ys
    cases (inl p) = absurd (false≢true (sym p.0 ∙ p.1))
    cases (inr p) = p.1

pub before_decides : (xs ys : List Bool) → length xs ≡ length ys
    → Decides (less xs ys) (IsBefore xs ys)
before_decides [] [] e = (
  λ t. absurd (false≢true t),
  λ r. absurd (nothing_before [] [] refl refl r),
)
before_decides [] (y ∷ ys) e = absurd (omega (arith, e))
before_decides (x ∷ xs) [] e = absurd (omega (arith, e))
before_decides (false ∷ xs) (true ∷ ys) e = (λ t. before_here xs ys, λ r. refl)
before_decides (true ∷ xs) (false ∷ ys) e =
    (λ t. absurd (false≢true t), λ r. absurd (first_true xs ys r))
before_decides (true ∷ xs) (true ∷ ys) e = (
  λ t. before_later true xs ys ((before_decides xs ys (omega (arith, e))).0 t),
  λ r. (before_decides xs ys (omega (arith, e))).1 (rest_before true xs ys r),
)
before_decides (false ∷ xs) (false ∷ ys) e = (
  λ t. before_later false xs ys ((before_decides xs ys (omega (arith, e))).0 t),
  λ r. (before_decides xs ys (omega (arith, e))).1 (rest_before false xs ys r),
)

------ entries one after the other

any_last : (d : Diagram) (xs : List Failing) (f : Failing) (values : List Bool)
    → any_holds d (xs ++ f ∷ []) values ≡ true
    → (any_holds d xs values ≡ true) ⊎ (holds d f.cond values ≡ true)
any_last d [] f values e = cases (or_cases (holds d f.cond values) false e)
  where
    cases : (holds d f.cond values ≡ true) ⊎ (false ≡ true)
        → (any_holds d [] values ≡ true) ⊎ (holds d f.cond values ≡ true)
    cases (inl h) = inr h
    cases (inr h) = absurd (false≢true h)
any_last d (x ∷ xs) f values e =
    cases (or_cases (holds d x.cond values) (any_holds d (xs ++ f ∷ []) values) e)
    (any_last d xs f values)
  where
    more : (any_holds d xs values ≡ true) ⊎ (holds d f.cond values ≡ true)
        → (any_holds d (x ∷ xs) values ≡ true) ⊎ (holds d f.cond values ≡ true)
    more (inl h) = inl (or_right (holds d x.cond values) (any_holds d xs values) h)
    more (inr h) = inr h

    cases : (holds d x.cond values ≡ true) ⊎ (any_holds d (xs ++ f ∷ []) values ≡ true)
        → (any_holds d (xs ++ f ∷ []) values ≡ true
        → (any_holds d xs values ≡ true) ⊎ (holds d f.cond values ≡ true))
        → (any_holds d (x ∷ xs) values ≡ true) ⊎ (holds d f.cond values ≡ true)
    cases (inl h) rest = inl (or_left (holds d x.cond values) (any_holds d xs values) h)
    cases (inr h) rest = more (rest h)

-- the first entry
pub least_one : (d : Diagram) (done : List Failing) (f : Failing) (values : List Bool) → done ≡ []
    → IsLeast d f.cond values → IsFirstOf d (done ++ f ∷ []) values f
least_one d done f values none least = record {
  among = Contains-push done f;
  all_options = least.all_variables;
  here = least.satisfies;
  first = λ others len any. cases others len (any_last d done f others any);
}
  where
    nobody : (others : List Bool) → any_holds d done others ≡ true → ⊥
    nobody others h =
        false≢true (subst (λ (xs : List Failing). any_holds d xs others ≡ true) none h)

    cases : (others : List Bool) → length others ≡ d.variables
        → (any_holds d done others ≡ true) ⊎ (holds d f.cond others ≡ true)
        → ¬ IsBefore others values
    cases others len (inl h) = absurd (nobody others h)
    cases others len (inr h) = least.first others len h

-- an entry whose first configuration is before the least so far
pub least_new : (d : Diagram) (done : List Failing) (old f : Failing) (was values : List Bool)
    → IsFirstOf d done was old → IsLeast d f.cond values → IsBefore values was
    → IsFirstOf d (done ++ f ∷ []) values f
least_new d done old f was values first least before = record {
  among = Contains-push done f;
  all_options = least.all_variables;
  here = least.satisfies;
  first = λ others len any. cases others len (any_last d done f others any);
}
  where
    cases : (others : List Bool) → length others ≡ d.variables
        → (any_holds d done others ≡ true) ⊎ (holds d f.cond others ≡ true)
        → ¬ IsBefore others values
    cases others len (inl h) = λ r. first.first others len h
        (before_trans others values was (len ∙ sym least.all_variables)
        (least.all_variables ∙ sym first.all_options) r before)
    cases others len (inr h) = least.first others len h

-- and one whose isn't
pub least_same : (d : Diagram) (done : List Failing) (old f : Failing) (was values : List Bool)
    → IsFirstOf d done was old → IsLeast d f.cond values → ¬ IsBefore values was
    → IsFirstOf d (done ++ f ∷ []) was old
least_same d done old f was values first least before = record {
  among = Contains-append_left done (f ∷ []) old first.among;
  all_options = first.all_options;
  here = first.here;
  first = λ others len any. cases others len (any_last d done f others any);
}
  where
    cases : (others : List Bool) → length others ≡ d.variables
        → (any_holds d done others ≡ true) ⊎ (holds d f.cond others ≡ true)
        → ¬ IsBefore others was
    cases others len (inl h) = first.first others len h
    cases others len (inr h) = not_before others values was (len ∙ sym least.all_variables)
        (least.all_variables ∙ sym first.all_options) (least.first others len h) before

------ the loop

pub less_asked : (d : Diagram) (done : List Failing) (least : Option (Config × Failing))
    (values : List Bool) → IsLeastOf d done least → length values ≡ d.variables
    → IfSome least (λ (found : Config × Failing). length values ≡ length found.0.on)
less_asked d done None values is len = tt
less_asked d done (Some found) values is len = len ∙ sym is.all_options

pub least_then : (d : Diagram) (done : List Failing) (least : Option (Config × Failing))
    (f : Failing) (values : List Bool) (b : Bool) → IsLeastOf d done least
    → IsLeast d f.cond values
    → IfSome least (λ (found : Config × Failing). Decides b (IsBefore values found.0.on))
    → b ≡ true → IsFirstOf d (done ++ f ∷ []) values f
least_then d done None f values b is first decides t = least_one d done f values is first
least_then d done (Some found) f values b is first decides t =
    least_new d done found.1 f found.0.on values is first (decides.0 t)

pub least_else : (d : Diagram) (done : List Failing) (least : Option (Config × Failing))
    (f : Failing) (values : List Bool) (b : Bool) → IsLeastOf d done least
    → IsLeast d f.cond values
    → IfSome least (λ (found : Config × Failing). Decides b (IsBefore values found.0.on))
    → IfNone least (b ≡ true) → b ≡ false → IsLeastOf d (done ++ f ∷ []) least
least_else d done None f values b is first decides none e =
    absurd (false≢true (sym e ∙ none))
least_else d done (Some found) f values b is first decides none e =
    least_same d done found.1 f found.0.on values is first
    (λ r. false≢true (sym e ∙ decides.1 r))

pub least_all : (d : Diagram) (done failing : List Failing) (least : Option (Config × Failing))
    → done ≡ failing → IsLeastOf d done least → IsLeastOf d failing least
least_all d done failing least e is =
    subst (λ (fs : List Failing). IsLeastOf d fs least) e is

-- an entry of a list can hold
pub entry_can_hold : (d : Diagram) (fs : List Failing) (f : Failing)
    → AllNodes d (conditions fs) → NoneFalse d (conditions fs) → Contains fs f
    → IsNode d f.cond × (¬ IsNever d f.cond)
entry_can_hold d [] f nodes none c = absurd (omega (arith, c.1))
entry_can_hold d (x ∷ fs) f nodes none (zero, l, e) =
    subst (λ (y : Failing). IsNode d y.cond × (¬ IsNever d y.cond)) e (nodes.0, none.0)
entry_can_hold d (x ∷ fs) f nodes none (suc k, l, e) =
    entry_can_hold d fs f nodes.1 none.1 (k, omega (arith, l), e)

-- the refusal of an entry that holds
pub entry_refuses : (d : Diagram) (fs : List Failing) (f : Failing) (values : List Bool)
    → Contains fs f → holds d f.cond values ≡ true → IsRefusedAt d fs values f.place f.why
entry_refuses d [] f values c here = absurd (omega (arith, c.1))
entry_refuses d (x ∷ fs) f values (zero, l, e) here = inl (record {
  same_place = ap (λ (y : Failing). y.place) e;
  same_cause = ap (λ (y : Failing). y.why) e;
  here = subst (λ (y : Failing). holds d y.cond values ≡ true) (sym e) here;
})
entry_refuses d (x ∷ fs) f values (suc k, l, e) here =
    inr (entry_refuses d fs f values (k, omega (arith, l), e) here)

-- the entry with the first of all failing configurations is the first refusal
pub first_refused : (plain : Plain) (d : Diagram) (valid : Cond)
    (parted : Parted (List StreamTok)) (values : List Bool) (f : Failing)
    → Sorts d valid (IsLeft plain d) (IsRefusedBy plain) parted
    → IsFirstOf d parted.failing values f
    → IsFirstRefused plain d valid values f.place f.why
first_refused plain d valid parted values f sorts first = record {
  all_options = first.all_options;
  is_valid = (refused_valid d valid parted.good parted.failing sorts.divides values f.place f.why
      (entry_refuses d parted.failing f values first.among first.here)).0;
  is_refused = All-contains (λ (f : Failing). (values : List Bool) → length values ≡ d.variables
      → holds d f.cond values ≡ true → IsRefusedBy plain values f.place f.why) parted.failing f
      sorts.refused first.among values first.all_options first.here;
  first = λ others at cause len v refused.
      first.first others len (not_good d valid parted.good parted.failing sorts.divides others v
      (λ good. left_or_refused others at cause (sorts.right others len good) refused));
}
  where
    neither : (o : Ending (List (CTok × Identity))) (tokens : List (CTok × Identity)) (at : Place)
        (cause : Why) → o ≡ reaches tokens → o ≡ refused cause at → ⊥
    neither o tokens at cause e r = cc

    left_or_refused : (others : List Bool) (at : Place) (cause : Why)
        → IsLeft plain d others parted.value → IsRefusedBy plain others at cause → ⊥
    left_or_refused others at cause left is =
        neither (plain others).ending left.0 at cause left.1 is
