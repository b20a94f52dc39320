-- Tests of several bytes.
use Rattle.std.proofs.Common.{◌≡◌, ℕ, Bool, true, false, refl, arith}
use Rattle.std.specs.Prelude.{◌==◌, ◌&&◌, ◌||◌}
use Rattle.std.proofs.lemmas.Bool.Decides.{nat_tests}

pub not_both : (a : Bool) → (a && false) ≡ true → ⊥
not_both true e = cc
not_both false e = cc

pub never_both : (a : Bool) → (a && false) ≡ false
never_both true = refl
never_both false = refl

pub not_three : (a b : Bool) → (a && (b && false)) ≡ true → ⊥
not_three true true e = cc
not_three true false e = cc
not_three false b e = cc

pub two : (p q b c : ℕ) → ((p == b) && ((q == c) && true)) ≡ true → (b ≡ p) × (c ≡ q)
two p q b c e = (grind (arith, nat_tests), grind (arith, nat_tests))

pub three : (p q r b c d : ℕ) → ((p == b) && ((q == c) && ((r == d) && true))) ≡ true → (b ≡ p)
    × (c ≡ q) × (d ≡ r)
three p q r b c d e = (grind (arith, nat_tests), grind (arith, nat_tests), grind (arith, nat_tests))

pub or-left : (a b : Bool) → a ≡ true → (a || b) ≡ true
or-left a b e = rw e refl

pub or-right : (a b : Bool) → b ≡ true → (a || b) ≡ true
or-right true b e = refl
or-right false b e = e

pub first_fails : (a b : Bool) → ((a && true) || b) ≡ false → a ≡ false
first_fails true b e = cc
first_fails false b e = refl

pub other_way : (a b : ℕ) → (a == b) ≡ false → (b == a) ≡ false
other_way a b e = grind (arith, nat_tests)
