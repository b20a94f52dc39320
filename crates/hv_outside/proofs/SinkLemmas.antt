-- What writes in a row add.
use Rattle.std.proofs.Common.{◌≤◌, ℕ, List, Option, Some, None, Result, Ok, Err, OnErr, length, ◌≡◌, ◌-◌, take, drop, [], ◌++◌, Bool, subst, ap, ◌∙◌, append_assoc, append-nil, length-drop}
use Rattle.std.proofs.Math.Seq.{take-append_seam, take-length}
use Rattle.std.proofs.lemmas.List.{take-append-drop}
use Rattle.hv_outside.specs.Count.{RoseIf}
use Rattle.hv_outside.specs.Sink.{Adds, AddsPrefix}

-- two writes add their pieces together
pub Adds-append : (before middle now : Option (List ℕ)) (xs ys : List ℕ) → Adds before middle xs
    → Adds middle now ys → Adds before now (xs ++ ys)
Adds-append None middle now xs ys p q = rw p at q
Adds-append (Some zs) middle now xs ys p q = (rw p at q) ∙ ap Some (append_assoc zs xs ys)

-- a write that adds nothing leaves what was added
pub Adds-nil : (before middle now : Option (List ℕ)) (xs : List ℕ) → Adds before middle xs
    → Adds middle now [] → Adds before now xs
Adds-nil before middle now xs p q = rw (append-nil xs) at (Adds-append before middle now xs [] p q)

-- what was added and the rest make the bytes, so what was added is a prefix of them
pub AddsPrefix-from_rest : (before middle now : Option (List ℕ)) (bytes rest : List ℕ)
    → (so_far : List ℕ) × (so_far ++ rest ≡ bytes) × Adds before middle so_far → Adds middle now []
    → AddsPrefix before now bytes
AddsPrefix-from_rest before middle now bytes rest h q =
    (length h.0, rw (← h.1, take-append_seam h.0 rest) (Adds-nil before middle now h.0 h.2 q))

-- the same is so after one more piece, and the rest behind it
pub rest_after_piece : (before middle now : Option (List ℕ)) (bytes rest : List ℕ) (n m : ℕ)
    → m ≡ length rest → n ≤ length rest → (so_far : List ℕ) × (so_far ++ rest ≡ bytes)
    × Adds before middle so_far → Adds middle now (take n rest) → (x : List ℕ)
    × (x ++ take (m - n) (drop n rest) ≡ bytes) × Adds before now x
rest_after_piece before middle now bytes rest n m e le h q =
    let whole : take (m - n) (drop n rest) ≡ drop n rest = rw (e, ← length-drop n rest, take-length)
    in (
      h.0 ++ take n rest,
      rw (whole, append_assoc, take-append-drop) h.1,
      Adds-append before middle now h.0 (take n rest) h.2 q,
    )

-- a fact that holds holds on a fault
pub OnErr-from_all : {T E P : Type 0} (r : Result T E) → P → OnErr r P
OnErr-from_all (Ok _) p = tt
OnErr-from_all (Err _) p = p

-- calls that left a count as it was, and one more
pub RoseIf-from_same : (is_fault : Bool) (before middle now : ℕ) → middle ≡ before
    → RoseIf is_fault middle now → RoseIf is_fault before now
RoseIf-from_same is_fault before middle now same rose =
    subst (λ (count : ℕ). RoseIf is_fault count now) same rose
