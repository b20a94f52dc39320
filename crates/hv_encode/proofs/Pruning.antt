-- What a pruned list of statements keeps of the whole list.
use Rattle.std.proofs.Common.{◌≡◌, ℕ, ◌≤◌, Bool, true, false, List, ◌∷◌, ◌++◌, length, cond, refl, ◌∙◌, arith}
use Rattle.std.specs.List.{AllByRecursion, list_all}
use Rattle.hv_model.specs.Rule.{Features, IsValid}
use Rattle.hv_plain.specs.Program.{Statement}
use Rattle.hv_plain.specs.Run.{IsReached, literal_holds, output_of, start}
use Rattle.hv_encode.specs.working.Presence.{Prunes, none, keep, leave}

module _ (model : Features) where
  pub Prunes-append : {all kept more others : List Statement} → Prunes model all kept
      → Prunes model more others → Prunes model (all ++ more) (kept ++ others)
  Prunes-append none q = q
  Prunes-append (keep statement reached p) q = keep statement reached (Prunes-append p q)
  Prunes-append (leave statement never p) q = leave statement never (Prunes-append p q)

  pub Prunes-all : (P : Statement → Type 0) {all kept : List Statement} → Prunes model all kept
      → AllByRecursion P all → AllByRecursion P kept
  Prunes-all P none h = tt
  Prunes-all P (keep statement reached p) h = (h.0, Prunes-all P p h.1)
  Prunes-all P (leave statement never p) h = Prunes-all P p h.1

  pub Prunes-reached : {all kept : List Statement} → Prunes model all kept
      → AllByRecursion (IsReached model) kept
  Prunes-reached none = tt
  Prunes-reached (keep statement reached p) = (reached, Prunes-reached p)
  Prunes-reached (leave statement never p) = Prunes-reached p

  pub Prunes-length : {all kept : List Statement} → Prunes model all kept → length kept ≤ length all
  Prunes-length none = omega arith
  Prunes-length (keep statement reached p) = let l = Prunes-length p in omega arith
  Prunes-length (leave statement never p) = let l = Prunes-length p in omega arith

  not_run : (runs : Bool) (statement : Statement) (more : List ℕ) → (runs ≡ true → ⊥)
      → cond runs (statement.byte ∷ more) more ≡ more
  not_run true statement more never = absurd (never refl)
  not_run false statement more never = refl

  -- in a valid configuration both have the same output
  pub Prunes-output : (values : List Bool) → IsValid model values → {all kept : List Statement}
      → Prunes model all kept → output_of (start model.names values) all
      ≡ output_of (start model.names values) kept
  Prunes-output values valid none = refl
  Prunes-output values valid (keep statement reached p) = rw (Prunes-output values valid p) refl
  Prunes-output values valid (leave statement {all} {kept} never p) =
      not_run (list_all (literal_holds (start model.names values)) statement.test) statement
      (output_of (start model.names values) all) (never values valid)
      ∙ Prunes-output values valid p
