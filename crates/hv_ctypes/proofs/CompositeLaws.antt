-- A composite is compatible with both types, keeps the lengths that either knows, and is as large.
use Rattle.std.proofs.Common.{◌≡◌, ℕ, ◌+◌, true, Option, None, Some, refl, ap, ◌∙◌}
use Rattle.hv_base.proofs.Booleans.{and_both, and_left, and_right}
use Rattle.hv_ctree.specs.types.Plain.{PlainType, plain, PlainShape, void, integer, enumeration, compound, pointer, array, function, Parameters, no_parameter, parameter}
use Rattle.hv_ctree.specs.types.Compatible.{same_length, lengths_agree, alike, shapes_alike, parameters_alike, shapes_compatible, compatible}
use Rattle.hv_ctree.specs.types.Composite.{composite, composite_shape, composite_parameters, known_length}
use Rattle.hv_ctree.specs.types.Knowledge.{keeps, keeps_shape, keeps_parameters, keeps_length}
use Rattle.hv_ctypes.specs.Written.{written, written_within, written_all}
use Rattle.hv_ctypes.proofs.CompatibleLaws.{eqb_same, same_truth_itself, shapes_alike_itself}

------ compatible with the first

first_length : (m n : Option ℕ) → same_length m n ≡ true → same_length (known_length m n) m ≡ true
first_length None None h = refl
first_length None (Some n) h = h
first_length (Some m) n h = eqb_same m

outer_first : (m n : Option ℕ) → lengths_agree (known_length m n) m ≡ true
outer_first None None = refl
outer_first None (Some n) = refl
outer_first (Some m) n = eqb_same m

mutual
  alike_first : (t u : PlainType) → alike t u ≡ true → alike (composite t u) t ≡ true
  alike_first (plain constant shape) (plain constant' shape') h =
      and_both _ _ (same_truth_itself constant) (shapes_first shape shape' (and_right _ _ h))

  shapes_first : (s u : PlainShape) → shapes_alike s u ≡ true → shapes_alike (composite_shape s u) s ≡ true
  shapes_first (pointer t) (pointer u) h = alike_first t u h
  shapes_first (array t m) (array u n) h =
      and_both _ _ (first_length m n (and_left _ _ h)) (alike_first t u (and_right _ _ h))
  shapes_first (function r ps variadic) (function q us variadic') h =
      and_both _ _ (and_both _ _ (alike_first r q (and_left _ _ (and_left _ _ h))) (same_truth_itself variadic))
      (parameters_first ps us (and_right _ _ h))
  shapes_first void u h = refl
  shapes_first (integer kind) u h = shapes_alike_itself (integer kind)
  shapes_first (enumeration number) u h = shapes_alike_itself (enumeration number)
  shapes_first (compound number) u h = shapes_alike_itself (compound number)
  shapes_first s _ h = shapes_alike_itself s

  parameters_first : (ps us : Parameters) → parameters_alike ps us ≡ true →
      parameters_alike (composite_parameters ps us) ps ≡ true
  parameters_first no_parameter us h = refl
  parameters_first (parameter (plain constant shape) ps) (parameter (plain constant' shape') us) h =
      and_both _ _ (shapes_first shape shape' (and_left _ _ h)) (parameters_first ps us (and_right _ _ h))
  parameters_first (parameter (plain constant shape) ps) no_parameter h = cc

compatible_shapes_first : (s u : PlainShape) → shapes_compatible s u ≡ true →
    shapes_compatible (composite_shape s u) s ≡ true
compatible_shapes_first (array t m) (array u n) h =
    and_both _ _ (outer_first m n) (alike_first t u (and_right _ _ h))
compatible_shapes_first (array t m) void h = cc
compatible_shapes_first (array t m) (integer kind) h = cc
compatible_shapes_first (array t m) (enumeration number) h = cc
compatible_shapes_first (array t m) (compound number) h = cc
compatible_shapes_first (array t m) (pointer u) h = cc
compatible_shapes_first (array t m) (function q us variadic) h = cc
compatible_shapes_first void u h = refl
compatible_shapes_first (integer kind) u h = shapes_alike_itself (integer kind)
compatible_shapes_first (enumeration number) u h = shapes_alike_itself (enumeration number)
compatible_shapes_first (compound number) u h = shapes_alike_itself (compound number)
compatible_shapes_first (pointer t) void h = shapes_first (pointer t) void h
compatible_shapes_first (pointer t) (integer kind) h = shapes_first (pointer t) (integer kind) h
compatible_shapes_first (pointer t) (enumeration number) h = shapes_first (pointer t) (enumeration number) h
compatible_shapes_first (pointer t) (compound number) h = shapes_first (pointer t) (compound number) h
compatible_shapes_first (pointer t) (pointer u) h = shapes_first (pointer t) (pointer u) h
compatible_shapes_first (pointer t) (array u n) h = shapes_first (pointer t) (array u n) h
compatible_shapes_first (pointer t) (function q us w) h = shapes_first (pointer t) (function q us w) h
compatible_shapes_first (function r ps v) void h = shapes_first (function r ps v) void h
compatible_shapes_first (function r ps v) (integer kind) h = shapes_first (function r ps v) (integer kind) h
compatible_shapes_first (function r ps v) (enumeration number) h = shapes_first (function r ps v) (enumeration number) h
compatible_shapes_first (function r ps v) (compound number) h = shapes_first (function r ps v) (compound number) h
compatible_shapes_first (function r ps v) (pointer u) h = shapes_first (function r ps v) (pointer u) h
compatible_shapes_first (function r ps v) (array u n) h = shapes_first (function r ps v) (array u n) h
compatible_shapes_first (function r ps v) (function q us w) h = shapes_first (function r ps v) (function q us w) h

pub compatible_first : (t u : PlainType) → compatible t u ≡ true → compatible (composite t u) t ≡ true
compatible_first (plain constant shape) (plain constant' shape') h =
    and_both _ _ (same_truth_itself constant) (compatible_shapes_first shape shape' (and_right _ _ h))

------ compatible with the second

second_length : (m n : Option ℕ) → same_length m n ≡ true → same_length (known_length m n) n ≡ true
second_length None None h = refl
second_length None (Some n) h = eqb_same n
second_length (Some m) n h = h

outer_second : (m n : Option ℕ) → lengths_agree m n ≡ true → lengths_agree (known_length m n) n ≡ true
outer_second None None h = refl
outer_second None (Some n) h = eqb_same n
outer_second (Some m) n h = h

mutual
  alike_second : (t u : PlainType) → alike t u ≡ true → alike (composite t u) u ≡ true
  alike_second (plain constant shape) (plain constant' shape') h =
      and_both _ _ (and_left _ _ h) (shapes_second shape shape' (and_right _ _ h))

  shapes_second : (s u : PlainShape) → shapes_alike s u ≡ true → shapes_alike (composite_shape s u) u ≡ true
  shapes_second (pointer t) (pointer u) h = alike_second t u h
  shapes_second (array t m) (array u n) h =
      and_both _ _ (second_length m n (and_left _ _ h)) (alike_second t u (and_right _ _ h))
  shapes_second (function r ps variadic) (function q us variadic') h =
      and_both _ _
      (and_both _ _ (alike_second r q (and_left _ _ (and_left _ _ h))) (and_right _ _ (and_left _ _ h)))
      (parameters_second ps us (and_right _ _ h))
  shapes_second _ _ h = h

  parameters_second : (ps us : Parameters) → parameters_alike ps us ≡ true →
      parameters_alike (composite_parameters ps us) us ≡ true
  parameters_second (parameter (plain constant shape) ps) (parameter (plain constant' shape') us) h =
      and_both _ _ (shapes_second shape shape' (and_left _ _ h)) (parameters_second ps us (and_right _ _ h))
  parameters_second no_parameter no_parameter h = refl
  parameters_second no_parameter (parameter u us) h = cc
  parameters_second (parameter (plain constant shape) ps) no_parameter h = cc

compatible_shapes_second : (s u : PlainShape) → shapes_compatible s u ≡ true →
    shapes_compatible (composite_shape s u) u ≡ true
compatible_shapes_second (array t m) (array u n) h =
    and_both _ _ (outer_second m n (and_left _ _ h)) (alike_second t u (and_right _ _ h))
compatible_shapes_second (pointer t) (pointer u) h = alike_second t u h
compatible_shapes_second (function r ps v) (function q us w) h = shapes_second (function r ps v) (function q us w) h
compatible_shapes_second _ _ h = h

pub compatible_second : (t u : PlainType) → compatible t u ≡ true → compatible (composite t u) u ≡ true
compatible_second (plain constant shape) (plain constant' shape') h =
    and_both _ _ (and_left _ _ h) (compatible_shapes_second shape shape' (and_right _ _ h))

------ what either knows

keeps_length_itself : (m : Option ℕ) → keeps_length m m ≡ true
keeps_length_itself None = refl
keeps_length_itself (Some m) = eqb_same m

keeps_length_first : (m n : Option ℕ) → keeps_length (known_length m n) m ≡ true
keeps_length_first None None = refl
keeps_length_first None (Some n) = refl
keeps_length_first (Some m) n = eqb_same m

keeps_length_second : (m n : Option ℕ) → lengths_agree m n ≡ true → keeps_length (known_length m n) n ≡ true
keeps_length_second None None h = refl
keeps_length_second None (Some n) h = eqb_same n
keeps_length_second (Some m) None h = refl
keeps_length_second (Some m) (Some n) h = h

agreeing : (m n : Option ℕ) → same_length m n ≡ true → lengths_agree m n ≡ true
agreeing None None h = refl
agreeing None (Some n) h = refl
agreeing (Some m) None h = refl
agreeing (Some m) (Some n) h = h

mutual
  keeps_itself : (t : PlainType) → keeps t t ≡ true
  keeps_itself (plain constant shape) = keeps_shape_itself shape

  keeps_shape_itself : (s : PlainShape) → keeps_shape s s ≡ true
  keeps_shape_itself void = refl
  keeps_shape_itself (integer kind) = refl
  keeps_shape_itself (enumeration number) = refl
  keeps_shape_itself (compound number) = refl
  keeps_shape_itself (pointer t) = keeps_itself t
  keeps_shape_itself (array t m) = and_both _ _ (keeps_length_itself m) (keeps_itself t)
  keeps_shape_itself (function r ps variadic) = and_both _ _ (keeps_itself r) (keeps_parameters_itself ps)

  keeps_parameters_itself : (ps : Parameters) → keeps_parameters ps ps ≡ true
  keeps_parameters_itself no_parameter = refl
  keeps_parameters_itself (parameter t ts) = and_both _ _ (keeps_itself t) (keeps_parameters_itself ts)

mutual
  pub keeps_first : (t u : PlainType) → keeps (composite t u) t ≡ true
  keeps_first (plain constant shape) (plain constant' shape') = keeps_shape_first shape shape'

  keeps_shape_first : (s u : PlainShape) → keeps_shape (composite_shape s u) s ≡ true
  keeps_shape_first (pointer t) (pointer u) = keeps_first t u
  keeps_shape_first (array t m) (array u n) = and_both _ _ (keeps_length_first m n) (keeps_first t u)
  keeps_shape_first (function r ps variadic) (function q us variadic') =
      and_both _ _ (keeps_first r q) (keeps_parameters_first ps us)
  keeps_shape_first s _ = keeps_shape_itself s

  keeps_parameters_first : (ps us : Parameters) → keeps_parameters (composite_parameters ps us) ps ≡ true
  keeps_parameters_first (parameter (plain constant shape) ps) (parameter (plain constant' shape') us) =
      and_both _ _ (keeps_shape_first shape shape') (keeps_parameters_first ps us)
  keeps_parameters_first no_parameter us = refl
  keeps_parameters_first (parameter (plain constant shape) ps) no_parameter = refl

mutual
  keeps_alike : (t u : PlainType) → alike t u ≡ true → keeps (composite t u) u ≡ true
  keeps_alike (plain constant shape) (plain constant' shape') h = keeps_shapes shape shape' (and_right _ _ h)

  keeps_shapes : (s u : PlainShape) → shapes_alike s u ≡ true → keeps_shape (composite_shape s u) u ≡ true
  keeps_shapes (pointer t) (pointer u) h = keeps_alike t u h
  keeps_shapes (array t m) (array u n) h =
      and_both _ _ (keeps_length_second m n (agreeing m n (and_left _ _ h))) (keeps_alike t u (and_right _ _ h))
  keeps_shapes (function r ps variadic) (function q us variadic') h =
      and_both _ _ (keeps_alike r q (and_left _ _ (and_left _ _ h))) (keeps_all ps us (and_right _ _ h))
  keeps_shapes _ _ h = refl

  keeps_all : (ps us : Parameters) → parameters_alike ps us ≡ true →
      keeps_parameters (composite_parameters ps us) us ≡ true
  keeps_all (parameter (plain constant shape) ps) (parameter (plain constant' shape') us) h =
      and_both _ _ (keeps_shapes shape shape' (and_left _ _ h)) (keeps_all ps us (and_right _ _ h))
  keeps_all no_parameter no_parameter h = refl
  keeps_all no_parameter (parameter u us) h = refl
  keeps_all (parameter (plain constant shape) ps) no_parameter h = refl

keeps_compatible : (s u : PlainShape) → shapes_compatible s u ≡ true → keeps_shape (composite_shape s u) u ≡ true
keeps_compatible (array t m) (array u n) h =
    and_both _ _ (keeps_length_second m n (and_left _ _ h)) (keeps_alike t u (and_right _ _ h))
keeps_compatible (pointer t) (pointer u) h = keeps_alike t u h
keeps_compatible (function r ps v) (function q us w) h = keeps_shapes (function r ps v) (function q us w) h
keeps_compatible _ _ h = refl

pub keeps_second : (t u : PlainType) → compatible t u ≡ true → keeps (composite t u) u ≡ true
keeps_second (plain constant shape) (plain constant' shape') h =
    keeps_compatible shape shape' (and_right _ _ h)

------ as large

both_sums : (a b c d : ℕ) → a ≡ b → c ≡ d → a + c ≡ b + d
both_sums a b c d e f = ap (λ x. x + c) e ∙ ap (λ x. b + x) f

mutual
  written_alike : (t u : PlainType) → alike t u ≡ true → written (composite t u) ≡ written t
  written_alike (plain constant shape) (plain constant' shape') h =
      ap (λ n. 1 + n) (written_shapes shape shape' (and_right _ _ h))

  written_shapes : (s u : PlainShape) → shapes_alike s u ≡ true →
      written_within (composite_shape s u) ≡ written_within s
  written_shapes (pointer t) (pointer u) h = written_alike t u h
  written_shapes (array t m) (array u n) h = written_alike t u (and_right _ _ h)
  written_shapes (function r ps variadic) (function q us variadic') h =
      both_sums _ _ _ _ (written_alike r q (and_left _ _ (and_left _ _ h))) (written_parameters ps us (and_right _ _ h))
  written_shapes _ _ h = refl

  written_parameters : (ps us : Parameters) → parameters_alike ps us ≡ true →
      written_all (composite_parameters ps us) ≡ written_all ps
  written_parameters (parameter (plain constant shape) ps) (parameter (plain constant' shape') us) h =
      both_sums _ _ _ _ (ap (λ n. 1 + n) (written_shapes shape shape' (and_left _ _ h)))
      (written_parameters ps us (and_right _ _ h))
  written_parameters no_parameter no_parameter h = refl
  written_parameters no_parameter (parameter u us) h = refl
  written_parameters (parameter (plain constant shape) ps) no_parameter h = cc

written_compatible : (s u : PlainShape) → shapes_compatible s u ≡ true →
    written_within (composite_shape s u) ≡ written_within s
written_compatible (array t m) (array u n) h = written_alike t u (and_right _ _ h)
written_compatible (pointer t) (pointer u) h = written_alike t u h
written_compatible (function r ps v) (function q us w) h = written_shapes (function r ps v) (function q us w) h
written_compatible _ _ h = refl

pub written_composite : (t u : PlainType) → compatible t u ≡ true → written (composite t u) ≡ written t
written_composite (plain constant shape) (plain constant' shape') h =
    ap (λ n. 1 + n) (written_compatible shape shape' (and_right _ _ h))
