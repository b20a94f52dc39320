-- The machine under the limits, and the height of its stack.
use Rattle.std.proofs.Common.{◌≡◌, ℕ, zero, suc, ◌+◌, ◌-◌, ◌*◌, ◌<◌, ◌≤◌, Bool, true, false, ◌&&◌, List, [], ◌∷◌, cond, refl, sym, ◌∙◌, ap, subst, arith, length, Option, Some, None, add-one}
use Rattle.std.specs.Prelude.{nat_lt, option_and_then}
use Rattle.std.proofs.lemmas.Bool.Decides.{nat_tests}
use Rattle.hv_model.specs.Grammar.{IsRule, is_shallow, place_of}
use Rattle.hv_model.specs.working.Machine.{Machine, frame, want, have, start, negated_times, completed, run, or_done, expr_done, limited_step, limited_run}
use Rattle.hv_model.specs.Name.{is_name}
use Rattle.hv_model.specs.Rule.{Rule, option}
use Rattle.hv_model.specs.working.Steps.{Item, value, conjoined, disjoined, negated, supposed, supposed_too, closed}
use Rattle.hv_model.specs.Token.{Token, implies, either, both, negate, open_, close, word, other}
use Rattle.hv_model.specs.declared.parser.Frame.{Frame}
use Rattle.hv_model.proofs.Completeness.{run_derived}
use Rattle.hv_model.proofs.Soundness.{derived_run}

cond_same : {A : Type 0} (b : Bool) (o : Option A) → o ≡ cond b o o
cond_same true o = refl
cond_same false o = refl

mutual
  limited_want : (names : List (List ℕ)) (ts : List Token) (f : Frame) (outer : List Frame)
      (items : List Item)
      → limited_run names (want f outer items) ts
      ≡ cond (is_shallow (length outer) f.negations ts) (run names (want f outer items) ts) None
  limited_want names [] f outer items = refl
  limited_want names (open_ ∷ ts) f outer items =
      elim (nat_lt (length outer) 256) as (λ b. option_and_then (λ next. limited_run names next ts)
      (cond b (Some (want (frame 0 false false false) (f ∷ outer) items)) None)
      ≡ cond (b && is_shallow (length outer + 1) 0 ts)
      (run names (want (frame 0 false false false) (f ∷ outer) items) ts) None) [
        | true ↦
            limited_want names ts (frame 0 false false false) (f ∷ outer) items
            ∙ ap (λ k. cond (is_shallow k 0 ts)
            (run names (want (frame 0 false false false) (f ∷ outer) items) ts) None)
            (sym (add-one (length outer)))
        | false ↦ refl
      ]
  limited_want names (negate ∷ ts) f outer items =
      elim (nat_lt f.negations 256) as (λ b. option_and_then (λ next. limited_run names next ts)
      (cond b (Some (want (frame (f.negations + 1) f.conjunct f.disjunct f.premise) outer items))
      None) ≡ cond (b && is_shallow (length outer) (f.negations + 1) ts)
      (run names (want (frame (f.negations + 1) f.conjunct f.disjunct f.premise) outer items) ts)
      None) [
        | true ↦ limited_want names ts (frame (f.negations + 1) f.conjunct f.disjunct f.premise)
            outer items
        | false ↦ refl
      ]
  limited_want names (word name ∷ ts) f outer items =
      elim (is_name name) as (λ b. option_and_then (λ next. limited_run names next ts)
      (cond b (Some (completed f outer (value (option (place_of names name)) ∷ items))) None)
      ≡ cond (is_shallow (length outer) 0 ts)
      (option_and_then (λ next. run names next ts)
      (cond b (Some (completed f outer (value (option (place_of names name)) ∷ items))) None))
      None) [
        | true ↦ limited_have names ts f.disjunct f.premise outer
            (completed f outer (value (option (place_of names name)) ∷ items)).items
        | false ↦ cond_same (is_shallow (length outer) 0 ts) None
      ]
  limited_want names (close ∷ ts) f outer items =
      cond_same (is_shallow (length outer - 1) 0 ts) None
  limited_want names (implies ∷ ts) f outer items = cond_same (is_shallow (length outer) 0 ts) None
  limited_want names (either ∷ ts) f outer items = cond_same (is_shallow (length outer) 0 ts) None
  limited_want names (both ∷ ts) f outer items = cond_same (is_shallow (length outer) 0 ts) None
  limited_want names (other ∷ ts) f outer items = cond_same (is_shallow (length outer) 0 ts) None

  limited_have : (names : List (List ℕ)) (ts : List Token) (d p : Bool) (outer : List Frame)
      (items : List Item)
      → limited_run names (have (frame 0 false d p) outer items) ts
      ≡ cond (is_shallow (length outer) 0 ts) (run names (have (frame 0 false d p) outer items) ts)
      None
  limited_have names [] d p outer items = refl
  limited_have names (both ∷ ts) d p outer items =
      limited_want names ts (frame 0 true d p) outer items
  limited_have names (either ∷ ts) d p outer items =
      limited_want names ts (frame 0 false true p) outer (or_done (frame 0 false d p) items)
  limited_have names (implies ∷ ts) d p outer items =
      limited_want names ts (frame 0 false false true) outer
      (cond p (supposed_too (or_done (frame 0 false d p) items))
      (supposed (or_done (frame 0 false d p) items)))
  limited_have names (close ∷ ts) d p [] items = cond_same (is_shallow 0 0 ts) None
  limited_have names (close ∷ ts) d p (g ∷ outer) items =
      limited_have names ts g.disjunct g.premise outer
      (completed g outer (expr_done (frame 0 false d p) items)).items
      ∙ (let e : length outer ≡ suc (length outer) - 1 = omega arith in
      ap (λ k. cond (is_shallow k 0 ts)
      (run names (completed g outer (expr_done (frame 0 false d p) items)) ts) None) e)
  limited_have names (open_ ∷ ts) d p outer items =
      elim (nat_lt (length outer) 256) as (λ b. option_and_then (λ next. limited_run names next ts)
      (cond b None None) ≡ cond (b && is_shallow (length outer + 1) 0 ts) None None) [
        | true ↦ cond_same (is_shallow (length outer + 1) 0 ts) None
        | false ↦ refl
      ]
  limited_have names (negate ∷ ts) d p outer items = cond_same (is_shallow (length outer) 1 ts) None
  limited_have names (word name ∷ ts) d p outer items =
      cond_same (is_shallow (length outer) 0 ts) None
  limited_have names (other ∷ ts) d p outer items = cond_same (is_shallow (length outer) 0 ts) None

taken : {A : Type 0} (b : Bool) (o : Option A) (x : A) → cond b o None ≡ Some x → (b ≡ true)
    × (o ≡ Some x)
taken true o x e = (refl, e)
taken false o x e = cc

pub IsRule-from_run : (names : List (List ℕ)) (ts : List Token) (r : Rule)
    → limited_run names start ts ≡ Some r → IsRule names ts r
IsRule-from_run names ts r e =
    let parts =
    taken (is_shallow 0 0 ts) (run names start ts) r
    (sym (limited_want names ts (frame 0 false false false) [] []) ∙ e) in
    record { derived = derived_run names ts r parts.1; shallow = parts.0 }

pub run-from_IsRule : (names : List (List ℕ)) (ts : List Token) (r : Rule) → IsRule names ts r
    → limited_run names start ts ≡ Some r
run-from_IsRule names ts r h =
    limited_want names ts (frame 0 false false false) [] []
    ∙ (ap (λ b. cond b (run names start ts) None) h.shallow ∙ run_derived names ts r h.derived)

none-some : {A : Type 0} (o : Option A) (x : A) → o ≡ None → o ≡ Some x → ⊥
none-some o x e f = cc

pub no_rule-from_run : (names : List (List ℕ)) (ts : List Token) → limited_run names start ts ≡ None
    → (r : Rule) → IsRule names ts r → ⊥
no_rule-from_run names ts e r h =
    none-some (limited_run names start ts) r e (run-from_IsRule names ts r h)

-- how many operators in a frame have their left side on the stack
bit : Bool → ℕ
bit b = cond b 1 0

abbrev count : Frame → ℕ
count f = cond f.conjunct 1 0 + (cond f.disjunct 1 0 + cond f.premise 1 0)

abbrev counts : List Frame → ℕ
counts [] = 0
counts (f ∷ outer) = count f + counts outer

abbrev weight : Machine → ℕ
weight m = cond m.wants 0 1 + (count m.top + counts m.outer)

-- the stack is no higher than the operators that wait make it, and the limits were kept
pub record IsBounded (m : Machine) : Type 0 where
  pub height : length m.items ≤ weight m
  pub depth : length m.outer ≤ 256
  pub settled : m.wants ≡ false → m.top.conjunct ≡ false

bit-le : (b : Bool) → cond b 1 0 ≤ 1
bit-le true = omega arith
bit-le false = omega arith

counts-le : (outer : List Frame) → counts outer ≤ 3 * length outer
counts-le [] = omega arith
counts-le (f ∷ outer) =
    omega (arith, counts-le outer, bit-le f.conjunct, bit-le f.disjunct, bit-le f.premise)

pub room : (m : Machine) → IsBounded m → length m.items < 1024
room m h =
    omega (
      arith,
      h.height,
      h.depth,
      counts-le m.outer,
      bit-le m.top.conjunct,
      bit-le
          m.top.disjunct,
      bit-le m.top.premise,
      wants-le m.wants,
    )
  where
    wants-le : (b : Bool) → cond b 0 1 ≤ 1
    wants-le true = omega arith
    wants-le false = omega arith

pub bounded_start : IsBounded start
bounded_start = record { height = omega arith; depth = omega arith; settled = λ e. cc }

lower_conjoined : (items : List Item) (w : ℕ) → 1 ≤ w → length items ≤ w + 1
    → length (conjoined items) ≤ w
lower_conjoined [] w h e = omega arith
lower_conjoined (s ∷ []) w h e = omega arith
lower_conjoined (s ∷ r ∷ items) w h e = omega arith

lower_disjoined : (items : List Item) (w : ℕ) → 1 ≤ w → length items ≤ w + 1
    → length (disjoined items) ≤ w
lower_disjoined [] w h e = omega arith
lower_disjoined (s ∷ []) w h e = omega arith
lower_disjoined (s ∷ r ∷ items) w h e = omega arith

lower_supposed_too : (items : List Item) (w : ℕ) → 1 ≤ w → length items ≤ w + 1
    → length (supposed_too items) ≤ w
lower_supposed_too [] w h e = omega arith
lower_supposed_too (s ∷ []) w h e = omega arith
lower_supposed_too (s ∷ r ∷ items) w h e = omega arith

lower_closed : (items : List Item) (w : ℕ) → 1 ≤ w → length items ≤ w + 1
    → length (closed items) ≤ w
lower_closed [] w h e = omega arith
lower_closed (s ∷ []) w h e = omega arith
lower_closed (s ∷ r ∷ items) w h e = omega arith

length-supposed : (items : List Item) → length (supposed items) ≡ length items
length-supposed [] = refl
length-supposed (s ∷ items) = refl

length-negated_times : (n : ℕ) (items : List Item) → length (negated_times n items) ≡ length items
length-negated_times zero items = refl
length-negated_times (suc n) items = length-negated_times n (negated items) ∙ one items
  where
    one : (items : List Item) → length (negated items) ≡ length items
    one [] = refl
    one (r ∷ items) = refl

lower_completed : (a : Bool) (n : ℕ) (items : List Item) (w : ℕ) → 1 ≤ w
    → length items ≤ cond a 1 0 + w
    → length (cond a (conjoined (negated_times n items)) (negated_times n items)) ≤ w
lower_completed true n items w h e =
    lower_conjoined (negated_times n items) w h (omega (arith, length-negated_times n items))
lower_completed false n items w h e = omega (arith, length-negated_times n items)

lower_or : (d : Bool) (items : List Item) (w : ℕ) → 1 ≤ w → length items ≤ cond d 1 0 + w
    → length (cond d (disjoined items) items) ≤ w
lower_or true items w h e = lower_disjoined items w h (omega arith)
lower_or false items w h e = omega arith

lower_implies : (p : Bool) (items : List Item) (w : ℕ) → 1 ≤ w → length items ≤ cond p 1 0 + w
    → length (cond p (supposed_too items) (supposed items)) ≤ w
lower_implies true items w h e = lower_supposed_too items w h (omega arith)
lower_implies false items w h e = omega (arith, length-supposed items)

lower_expr : (p : Bool) (items : List Item) (w : ℕ) → 1 ≤ w → length items ≤ cond p 1 0 + w
    → length (cond p (closed items) items) ≤ w
lower_expr true items w h e = lower_closed items w h (omega arith)
lower_expr false items w h e = omega arith

bounded_completed : (f : Frame) (outer : List Frame) (items : List Item)
    → length items ≤ count f + counts outer + 1 → length outer ≤ 256
    → IsBounded (completed f outer items)
bounded_completed f outer items h d =
    record {
      height =
          lower_completed f.conjunct f.negations items
          (1 + ((0 + (cond f.disjunct 1 0 + cond f.premise 1 0)) + counts outer)) (omega arith)
          (omega arith);
      depth = d;
      settled = λ e. refl;
    }

same : (m n : Machine) → Some m ≡ Some n → IsBounded m → IsBounded n
same m n e h = let k : m ≡ n = cc in subst IsBounded k h

no_conjunct : (f : Frame) → (false ≡ false → f.conjunct ≡ false) → cond {A = ℕ} f.conjunct 1 0 ≡ 0
no_conjunct f h = let e = h refl in rw e refl

never : {A : Type 0} (b : Bool) (n : Machine) → cond b None None ≡ Some n → A
never true n e = cc
never false n e = cc

pub bounded_step : (names : List (List ℕ)) (wants : Bool) (f : Frame) (outer : List Frame)
    (items : List Item) (t : Token) (n : Machine)
    → limited_step names (record { wants = wants; top = f; outer = outer; items = items }) t
    ≡ Some n → IsBounded (record { wants = wants; top = f; outer = outer; items = items })
    → IsBounded n
bounded_step names true f outer items (word name) n e h =
    same _ n (taken (is_name name)
    (Some (completed f outer (value (option (place_of names name)) ∷ items))) n e).1
    (bounded_completed f outer (value (option (place_of names name)) ∷ items)
    (omega (arith, h.height)) h.depth)
bounded_step names true f outer items negate n e h =
    same (want (frame (f.negations + 1) f.conjunct f.disjunct f.premise) outer items) n
    (taken (nat_lt f.negations 256)
    (Some (want (frame (f.negations + 1) f.conjunct f.disjunct f.premise) outer items)) n e).1
    (record { height = h.height; depth = h.depth; settled = λ w. cc })
bounded_step names true f outer items open_ n e h =
    let parts =
    taken (nat_lt (length outer) 256)
    (Some (want (frame 0 false false false) (f ∷ outer) items)) n e in
    let lt : length outer < 256 = below (length outer) parts.0 in
    same (want (frame 0 false false false) (f ∷ outer) items) n parts.1
    (record { height = omega (arith, h.height); depth = omega arith; settled = λ w. cc })
  where
    below : (k : ℕ) → nat_lt k 256 ≡ true → k < 256
    below k e = grind (arith, nat_tests)
bounded_step names true f outer items implies n e h = cc
bounded_step names true f outer items either n e h = cc
bounded_step names true f outer items both n e h = cc
bounded_step names true f outer items close n e h = cc
bounded_step names true f outer items other n e h = cc
bounded_step names false f outer items both n e h =
    same (want (frame 0 true f.disjunct f.premise) outer items) n e
    (record {
      height = omega (arith, h.height, no_conjunct f h.settled);
      depth = h.depth;
      settled = λ w. cc;
    })
bounded_step names false f outer items either n e h =
    let lower =
    lower_or f.disjunct items (1 + (cond f.premise 1 0 + counts outer)) (omega arith)
    (omega (arith, h.height, no_conjunct f h.settled)) in
    same (want (frame 0 false true f.premise) outer (or_done f items)) n e
    (record { height = omega (arith, lower); depth = h.depth; settled = λ w. cc })
bounded_step names false f outer items implies n e h =
    let lower =
    lower_or f.disjunct items (1 + (cond f.premise 1 0 + counts outer)) (omega arith)
    (omega (arith, h.height, no_conjunct f h.settled)) in
    let lowest =
    lower_implies f.premise (or_done f items) (1 + counts outer) (omega arith)
    (omega (arith, lower)) in
    same (want (frame 0 false false true) outer
    (cond f.premise (supposed_too (or_done f items)) (supposed (or_done f items)))) n e
    (record { height = omega (arith, lowest); depth = h.depth; settled = λ w. cc })
bounded_step names false f [] items close n e h = cc
bounded_step names false f (g ∷ outer) items close n e h =
    let lower =
    lower_or f.disjunct items (1 + (cond f.premise 1 0 + counts (g ∷ outer))) (omega arith)
    (omega (arith, h.height, no_conjunct f h.settled)) in
    let lowest =
    lower_expr f.premise (or_done f items) (1 + counts (g ∷ outer)) (omega arith)
    (omega (arith, lower)) in
    same (completed g outer (expr_done f items)) n e
    (bounded_completed g outer (expr_done f items) (omega (arith, lowest)) (omega (arith, h.depth)))
bounded_step names false f outer items open_ n e h = never (nat_lt (length outer) 256) n e
bounded_step names false f outer items negate n e h = never (nat_lt f.negations 256) n e
bounded_step names false f outer items (word name) n e h = cc
bounded_step names false f outer items other n e h = cc
