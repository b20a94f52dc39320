-- Booleans in general: what std's lemmas leave out.
use Rattle.std.proofs.Common.{◌≡◌, Bool, true, false, ◌&&◌, ◌||◌, not, refl}

------ and

pub and_true : (a : Bool) → (a && true) ≡ a
and_true true = refl
and_true false = refl

pub and_false : (a : Bool) → (a && false) ≡ false
and_false true = refl
and_false false = refl

pub and_same : (a : Bool) → (a && a) ≡ a
and_same true = refl
and_same false = refl

pub and_comm : (a b : Bool) → (a && b) ≡ (b && a)
and_comm true true = refl
and_comm true false = refl
and_comm false true = refl
and_comm false false = refl

pub and_assoc : (a b c : Bool) → ((a && b) && c) ≡ (a && (b && c))
and_assoc true b c = refl
and_assoc false b c = refl

pub and_swap : (a b c : Bool) → ((a && b) && c) ≡ (b && (a && c))
and_swap true b c = refl
and_swap false true c = refl
and_swap false false c = refl

pub and_both : (a b : Bool) → a ≡ true → b ≡ true → (a && b) ≡ true
and_both true true p q = refl
and_both true false p q = q
and_both false b p q = p

pub and_parts : (a b : Bool) → (a && b) ≡ true → (a ≡ true) × (b ≡ true)
and_parts true b p = (refl, p)
and_parts false b p = cc

pub and_left : (a b : Bool) → (a && b) ≡ true → a ≡ true
and_left a b p = (and_parts a b p).0

pub and_right : (a b : Bool) → (a && b) ≡ true → b ≡ true
and_right a b p = (and_parts a b p).1

------ or

pub or_false : (a : Bool) → (a || false) ≡ a
or_false true = refl
or_false false = refl

pub or_true : (a : Bool) → (a || true) ≡ true
or_true true = refl
or_true false = refl

pub or_same : (a : Bool) → (a || a) ≡ a
or_same true = refl
or_same false = refl

pub or_comm : (a b : Bool) → (a || b) ≡ (b || a)
or_comm true true = refl
or_comm true false = refl
or_comm false true = refl
or_comm false false = refl

pub or_assoc : (a b c : Bool) → ((a || b) || c) ≡ (a || (b || c))
or_assoc true b c = refl
or_assoc false b c = refl

pub or_left : (a b : Bool) → (a || b) ≡ false → a ≡ false
or_left true b p = cc
or_left false b p = refl

pub or_right : (a b : Bool) → (a || b) ≡ false → b ≡ false
or_right true b p = cc
or_right false b p = p

pub or_first : (a b : Bool) → a ≡ true → (a || b) ≡ true
or_first true b p = refl
or_first false b p = cc

pub or_second : (a b : Bool) → b ≡ true → (a || b) ≡ true
or_second true b p = refl
or_second false b p = p

------ not

pub not_not : (a : Bool) → not (not a) ≡ a
not_not true = refl
not_not false = refl

pub not_true : (a : Bool) → not a ≡ true → a ≡ false
not_true true p = cc
not_true false p = refl

pub not_false : (a : Bool) → not a ≡ false → a ≡ true
not_false true p = refl
not_false false p = cc

-- a Boolean is not true and false
pub contrary {ℓ} : {X : Type ℓ} (a : Bool) → a ≡ true → a ≡ false → X
contrary a p q = absurd (cc)

-- two Booleans that are true together are equal
pub same_truth : (a b : Bool) → (a ≡ true → b ≡ true) → (b ≡ true → a ≡ true) → a ≡ b
same_truth true true p q = refl
same_truth true false p q = cc (p refl)
same_truth false true p q = cc (q refl)
same_truth false false p q = refl
