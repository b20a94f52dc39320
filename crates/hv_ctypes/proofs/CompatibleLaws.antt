-- A type is compatible with itself, and compatibility is symmetric.
use Rattle.std.proofs.Common.{◌≡◌, ℕ, Bool, true, false, ◌&&◌, Option, None, Some, nat_eq, refl, ap, sym, ◌∙◌, inl, inr}
use Rattle.std.proofs.lemmas.Bool.Decides.{eqb_tells}
use Rattle.hv_base.proofs.Booleans.{and_both}
use Rattle.hv_ctree.specs.types.Kinds.{kind_number}
use Rattle.hv_ctree.specs.types.Plain.{PlainType, plain, PlainShape, void, integer, enumeration, compound, pointer, array, function, Parameters, no_parameter, parameter}
use Rattle.hv_ctree.specs.types.Compatible.{same_truth, same_length, lengths_agree, alike, shapes_alike, parameters_alike, shapes_compatible, compatible}

------ itself

pub eqb_same : (n : ℕ) → nat_eq n n ≡ true
eqb_same n = elim (eqb_tells n n) [ inl (is, e) ↦ is | inr (isnt, differs) ↦ absurd (differs refl) ]

pub same_truth_itself : (a : Bool) → same_truth a a ≡ true
same_truth_itself true = refl
same_truth_itself false = refl

pub same_length_itself : (m : Option ℕ) → same_length m m ≡ true
same_length_itself None = refl
same_length_itself (Some n) = eqb_same n

lengths_agree_itself : (m : Option ℕ) → lengths_agree m m ≡ true
lengths_agree_itself None = refl
lengths_agree_itself (Some n) = eqb_same n

mutual
  pub alike_itself : (t : PlainType) → alike t t ≡ true
  alike_itself (plain constant shape) =
      and_both (same_truth constant constant) (shapes_alike shape shape)
      (same_truth_itself constant) (shapes_alike_itself shape)

  pub shapes_alike_itself : (s : PlainShape) → shapes_alike s s ≡ true
  shapes_alike_itself void = refl
  shapes_alike_itself (integer kind) = eqb_same (kind_number kind)
  shapes_alike_itself (enumeration number) = eqb_same number
  shapes_alike_itself (compound number) = eqb_same number
  shapes_alike_itself (pointer t) = alike_itself t
  shapes_alike_itself (array t m) =
      and_both (same_length m m) (alike t t) (same_length_itself m) (alike_itself t)
  shapes_alike_itself (function r ps variadic) =
      and_both (alike r r && same_truth variadic variadic) (parameters_alike ps ps)
      (and_both (alike r r) (same_truth variadic variadic) (alike_itself r) (same_truth_itself variadic))
      (parameters_alike_itself ps)

  pub parameters_alike_itself : (ps : Parameters) → parameters_alike ps ps ≡ true
  parameters_alike_itself no_parameter = refl
  parameters_alike_itself (parameter (plain constant shape) ps) =
      and_both (shapes_alike shape shape) (parameters_alike ps ps)
      (shapes_alike_itself shape) (parameters_alike_itself ps)

shapes_compatible_itself : (s : PlainShape) → shapes_compatible s s ≡ true
shapes_compatible_itself (array t m) =
    and_both (lengths_agree m m) (alike t t) (lengths_agree_itself m) (alike_itself t)
shapes_compatible_itself void = shapes_alike_itself void
shapes_compatible_itself (integer kind) = shapes_alike_itself (integer kind)
shapes_compatible_itself (enumeration number) = shapes_alike_itself (enumeration number)
shapes_compatible_itself (compound number) = shapes_alike_itself (compound number)
shapes_compatible_itself (pointer t) = shapes_alike_itself (pointer t)
shapes_compatible_itself (function r ps variadic) = shapes_alike_itself (function r ps variadic)

pub compatible_itself : (t : PlainType) → compatible t t ≡ true
compatible_itself (plain constant shape) =
    and_both (same_truth constant constant) (shapes_compatible shape shape)
    (same_truth_itself constant) (shapes_compatible_itself shape)

------ symmetry

eqb_swap : (m n : ℕ) → nat_eq m n ≡ nat_eq n m
eqb_swap m n =
    elim (eqb_tells m n) [
      | inl (is, e) ↦ is ∙ (sym (eqb_same n) ∙ ap (λ x. nat_eq n x) (sym e))
      | inr (isnt, differs) ↦
          elim (eqb_tells n m) [
            | inl (is, e) ↦ absurd (differs (sym e))
            | inr (no_more, other) ↦ isnt ∙ sym no_more
          ]
    ]

same_truth_swap : (a b : Bool) → same_truth a b ≡ same_truth b a
same_truth_swap true true = refl
same_truth_swap true false = refl
same_truth_swap false true = refl
same_truth_swap false false = refl

same_length_swap : (m n : Option ℕ) → same_length m n ≡ same_length n m
same_length_swap None None = refl
same_length_swap None (Some n) = refl
same_length_swap (Some m) None = refl
same_length_swap (Some m) (Some n) = eqb_swap m n

lengths_agree_swap : (m n : Option ℕ) → lengths_agree m n ≡ lengths_agree n m
lengths_agree_swap None None = refl
lengths_agree_swap None (Some n) = refl
lengths_agree_swap (Some m) None = refl
lengths_agree_swap (Some m) (Some n) = eqb_swap m n

both_swap : (a b c d : Bool) → a ≡ b → c ≡ d → (a && c) ≡ (b && d)
both_swap a b c d e f = ap (λ x. x && c) e ∙ ap (λ x. b && x) f

mutual
  pub alike_swap : (t u : PlainType) → alike t u ≡ alike u t
  alike_swap (plain constant shape) (plain constant' shape') =
      both_swap _ _ _ _ (same_truth_swap constant constant') (shapes_alike_swap shape shape')

  pub shapes_alike_swap : (s u : PlainShape) → shapes_alike s u ≡ shapes_alike u s
  shapes_alike_swap void void = refl
  shapes_alike_swap (integer kind) (integer kind') = eqb_swap (kind_number kind) (kind_number kind')
  shapes_alike_swap (integer kind) (enumeration number) = eqb_swap (kind_number kind) 6
  shapes_alike_swap (enumeration number) (integer kind) = eqb_swap 6 (kind_number kind)
  shapes_alike_swap (enumeration number) (enumeration number') = eqb_swap number number'
  shapes_alike_swap (compound number) (compound number') = eqb_swap number number'
  shapes_alike_swap (pointer t) (pointer u) = alike_swap t u
  shapes_alike_swap (array t m) (array u n) =
      both_swap _ _ _ _ (same_length_swap m n) (alike_swap t u)
  shapes_alike_swap (function r ps variadic) (function q us variadic') =
      both_swap _ _ _ _ (both_swap _ _ _ _ (alike_swap r q) (same_truth_swap variadic variadic'))
      (parameters_alike_swap ps us)
  shapes_alike_swap _ _ = refl

  pub parameters_alike_swap : (ps us : Parameters) → parameters_alike ps us ≡ parameters_alike us ps
  parameters_alike_swap (parameter (plain constant shape) ps) (parameter (plain constant' shape') us) =
      both_swap _ _ _ _ (shapes_alike_swap shape shape') (parameters_alike_swap ps us)
  parameters_alike_swap no_parameter no_parameter = refl
  parameters_alike_swap no_parameter (parameter (plain constant shape) us) = refl
  parameters_alike_swap (parameter (plain constant shape) ps) no_parameter = refl

shapes_compatible_swap : (s u : PlainShape) → shapes_compatible s u ≡ shapes_compatible u s
shapes_compatible_swap (array t m) (array u n) =
    both_swap _ _ _ _ (lengths_agree_swap m n) (alike_swap t u)
shapes_compatible_swap void void = refl
shapes_compatible_swap (integer kind) (integer kind') = eqb_swap (kind_number kind) (kind_number kind')
shapes_compatible_swap (integer kind) (enumeration number) = eqb_swap (kind_number kind) 6
shapes_compatible_swap (enumeration number) (integer kind) = eqb_swap 6 (kind_number kind)
shapes_compatible_swap (enumeration number) (enumeration number') = eqb_swap number number'
shapes_compatible_swap (compound number) (compound number') = eqb_swap number number'
shapes_compatible_swap (pointer t) (pointer u) = alike_swap t u
shapes_compatible_swap (function r ps variadic) (function q us variadic') =
    shapes_alike_swap (function r ps variadic) (function q us variadic')
shapes_compatible_swap _ _ = refl

pub compatible_swap : (t u : PlainType) → compatible t u ≡ compatible u t
compatible_swap (plain constant shape) (plain constant' shape') =
    both_swap _ _ _ _ (same_truth_swap constant constant') (shapes_compatible_swap shape shape')
