-- Blocks by their numbers.
use Rattle.std.proofs.Common.{◌≡◌, ◌≢◌, ℕ, zero, suc, ◌+◌, Bool, true, false, ◌&&◌, cond, List, [], ◌∷◌, ◌++◌, length, take, drop, Option, None, Some, refl, sym, ap, ◌∙◌, arith}
use Rattle.std.specs.Prelude.{pos, slice_get, slice_set}
use Rattle.std.proofs.lemmas.List.{length-set}
use Rattle.std.proofs.lemmas.Option.{none-some}
use Rattle.hv_mem.specs.declared.access.Spot.{Spot}
use Rattle.hv_mem.specs.declared.access.Way.{Way}
use Rattle.hv_mem.specs.declared.address.Address.{Address}
use Rattle.hv_mem.specs.declared.address.BlockId.{BlockId}
use Rattle.hv_mem.specs.declared.block.Block.{Block}
use Rattle.hv_mem.specs.declared.block.Contents.{Contents}
use Rattle.hv_mem.specs.declared.block.Contents.TheVariants.{Live}
use Rattle.hv_mem.specs.declared.value.Byte.{Byte}
use Rattle.hv_mem.specs.Memory.{Blocks, allocation_count, block_bytes, bytes_at, bytes_in, changed, changed_in, has_allocation_name, live_in, rewritten, spliced, with_bytes, with_bytes_in}
use Rattle.hv_mem.specs.Access.{contents_event, event, is_write}
use Rattle.hv_mem.specs.working.Spots.{IsOffset, IsSpot}

------ changed

-- a block that is there is changed
pub changed-at : (f : Block → Block) (i : ℕ) (blocks : Blocks) (b : Block) → slice_get blocks i ≡ Some b
    → changed f i blocks ≡ slice_set blocks i (f b)
changed-at f i blocks b e = rw e refl

pub changed-tail : (f : Block → Block) (i : ℕ) (x : Block) (xs : Blocks) → changed f (suc i) (x ∷ xs) ≡ x ∷ changed f i xs
changed-tail f i x xs =
    elim (slice_get xs i) as (λ o. changed_in o f (suc i) (x ∷ xs) ≡ x ∷ changed_in o f i xs) [
      | None ↦ refl
      | Some b ↦ refl
    ]

pub changed-get : (f : Block → Block) (i : ℕ) (blocks : Blocks) (b : Block) → slice_get blocks i ≡ Some b
    → slice_get (changed f i blocks) i ≡ Some (f b)
changed-get f i [] b e = absurd (nothing i b e)
  where
    nothing : (i : ℕ) (b : Block) → slice_get [] i ≡ Some b → ⊥
    nothing zero b e = none-some b e
    nothing (suc i) b e = none-some b e
changed-get f zero (x ∷ xs) b e = let same : x ≡ b = cc in ap (λ y. Some (f y)) same
changed-get f (suc i) (x ∷ xs) b e = ap (λ m. slice_get m (suc i)) (changed-tail f i x xs) ∙ changed-get f i xs b e

pub changed-get_other : (f : Block → Block) (i j : ℕ) (blocks : Blocks) → j ≢ i
    → slice_get (changed f i blocks) j ≡ slice_get blocks j
changed-get_other f zero j [] ne = refl
changed-get_other f (suc i) j [] ne = refl
changed-get_other f zero zero (x ∷ xs) ne = absurd (ne refl)
changed-get_other f zero (suc j) (x ∷ xs) ne = refl
changed-get_other f (suc i) zero (x ∷ xs) ne = ap (λ m. slice_get m zero) (changed-tail f i x xs)
changed-get_other f (suc i) (suc j) (x ∷ xs) ne =
    ap (λ m. slice_get m (suc j)) (changed-tail f i x xs) ∙ changed-get_other f i j xs (λ e. ne (ap suc e))

pub length-changed : (f : Block → Block) (i : ℕ) (blocks : Blocks) → length (changed f i blocks) ≡ length blocks
length-changed f i blocks =
    elim (slice_get blocks i) as (λ o. length (changed_in o f i blocks) ≡ length blocks) [
      | None ↦ refl
      | Some b ↦ length-set blocks i (f b)
    ]

pub length-with_bytes : (blocks : Blocks) (at : Address) (new : List Byte) → length (with_bytes blocks at new) ≡ length blocks
length-with_bytes blocks at new =
    elim at.block as (λ o. length (with_bytes_in o at.offset new blocks) ≡ length blocks) [
      | None ↦ refl
      | Some id ↦ length-changed (rewritten at.offset new) id.index blocks
    ]

-- a change that keeps names keeps the number of allocations
pub count-changed : (f : Block → Block) → ((b : Block) → has_allocation_name (f b) ≡ has_allocation_name b) → (i : ℕ) (blocks : Blocks)
    → allocation_count (changed f i blocks) ≡ allocation_count blocks
count-changed f same zero [] = refl
count-changed f same (suc i) [] = refl
count-changed f same zero (x ∷ xs) = ap (λ t. cond t (1 + allocation_count xs) (allocation_count xs)) (same x)
count-changed f same (suc i) (x ∷ xs) =
    ap allocation_count (changed-tail f i x xs)
    ∙ ap (λ n. cond (has_allocation_name x) (1 + n) n) (count-changed f same i xs)

pub count-with_bytes : (blocks : Blocks) (at : Address) (new : List Byte)
    → allocation_count (with_bytes blocks at new) ≡ allocation_count blocks
count-with_bytes blocks at new =
    elim at.block as (λ o. allocation_count (with_bytes_in o at.offset new blocks) ≡ allocation_count blocks) [
      | None ↦ refl
      | Some id ↦ count-changed (rewritten at.offset new) (λ b. refl) id.index blocks
    ]

pub count-push : (blocks : Blocks) (b : Block)
    → allocation_count (blocks ++ b ∷ []) ≡ cond (has_allocation_name b) (allocation_count blocks + 1) (allocation_count blocks)
count-push [] b = refl
count-push (x ∷ xs) b =
    elim (has_allocation_name x) as (λ t. cond t (1 + allocation_count (xs ++ b ∷ [])) (allocation_count (xs ++ b ∷ [])) ≡ cond (has_allocation_name b) (cond t (1 + allocation_count xs) (allocation_count xs) + 1) (cond t (1 + allocation_count xs) (allocation_count xs))) [
      | true ↦ ap (λ n. 1 + n) (count-push xs b) ∙ shifted (has_allocation_name b) (allocation_count xs)
      | false ↦ count-push xs b
    ]
  where
    shifted : (t : Bool) (n : ℕ) → 1 + cond t (n + 1) n ≡ cond t (1 + n + 1) (1 + n)
    shifted true n = omega arith
    shifted false n = refl

-- of an allocation, and of another block
pub count-push_yes : (blocks : Blocks) (b : Block) → has_allocation_name b ≡ true → allocation_count (blocks ++ b ∷ []) ≡ allocation_count blocks + 1
count-push_yes blocks b e = count-push blocks b ∙ ap (λ t. cond t (allocation_count blocks + 1) (allocation_count blocks)) e

pub count-push_no : (blocks : Blocks) (b : Block) → has_allocation_name b ≡ false → allocation_count (blocks ++ b ∷ []) ≡ allocation_count blocks
count-push_no blocks b e = count-push blocks b ∙ ap (λ t. cond t (allocation_count blocks + 1) (allocation_count blocks)) e

------ accesses

pub event-found : (blocks : Blocks) (at : Address) (id : BlockId) (b : Block) (count align : ℕ) (way : Way)
    → at.block ≡ Some id → slice_get blocks id.index ≡ Some b
    → event blocks at count align way ≡ contents_event b.contents at.offset count align (is_write way && b.sealed)
event-found blocks at id b count align way e f = rw (e, f) refl

pub spot-found : (blocks : Blocks) (at : Address) (id : BlockId) (b : Block) (count index : ℕ)
    → at.block ≡ Some id → slice_get blocks id.index ≡ Some b → IsOffset b.contents at.offset count index
    → IsSpot blocks at count (record { block = id.index; offset = index })
spot-found blocks at id b count index e f o =
    record { block = e; same = o.same; live = rw f o.live; within = rw f o.within }

pub bytes_at-spot : (blocks : Blocks) (at : Address) (count : ℕ) (spot : Spot) → IsSpot blocks at count spot
    → bytes_at blocks at count ≡ take count (drop spot.offset (block_bytes (slice_get blocks spot.block)))
bytes_at-spot blocks at count spot s = let e = s.block in let f = s.same in rw (e, f) refl

pub with_bytes-spot : (blocks : Blocks) (at : Address) (count : ℕ) (spot : Spot) (new : List Byte) → IsSpot blocks at count spot
    → with_bytes blocks at new ≡ changed (rewritten (pos spot.offset) new) spot.block blocks
with_bytes-spot blocks at count spot new s = let e = s.block in let f = s.same in rw (e, f) refl

------ a block that is taken out, and put back with other bytes

pub live-found : (o : Option Block) → live_in o ≡ true → (b : Block) × (o ≡ Some b)
live-found None e = absurd (true-false (sym e))
  where
    true-false : true ≡ false → ⊥
    true-false e = cc
live-found (Some b) e = (b, refl)

changed-twice : (f g : Block → Block) (i : ℕ) (blocks : Blocks) → changed g i (changed f i blocks) ≡ changed (λ b. g (f b)) i blocks
changed-twice f g zero [] = refl
changed-twice f g (suc i) [] = refl
changed-twice f g zero (x ∷ xs) = refl
changed-twice f g (suc i) (x ∷ xs) =
    ap (changed g (suc i)) (changed-tail f i x xs)
    ∙ changed-tail g i x (changed f i xs)
    ∙ ap (λ ys. x ∷ ys) (changed-twice f g i xs)
    ∙ sym (changed-tail (λ b. g (f b)) i x xs)

changed-alike : (f g : Block → Block) (i : ℕ) (blocks : Blocks) (b : Block) → slice_get blocks i ≡ Some b → f b ≡ g b
    → changed f i blocks ≡ changed g i blocks
changed-alike f g i blocks b e same =
    changed-at f i blocks b e ∙ ap (slice_set blocks i) same ∙ sym (changed-at g i blocks b e)

pub across : (blocks : Blocks) (s t count from to : ℕ) (b x : Block) (taken new left : Contents) → s ≢ t
    → slice_get blocks t ≡ Some b → slice_get (changed (λ (c : Block). record c { contents = left }) t blocks) s ≡ Some x
    → taken ≡ b.contents
    → new ≡ Live (spliced (pos to) (take count (drop from (bytes_in x.contents))) (bytes_in taken))
    → changed (λ (c : Block). record c { contents = new }) t (changed (λ (c : Block). record c { contents = left }) t blocks)
    ≡ changed (rewritten (pos to) (take count (drop from (block_bytes (slice_get blocks s))))) t blocks
across blocks s t count from to b x taken new left apart found there same e =
    let emptied : Block → Block = λ (c : Block). record c { contents = left } in
    let filled : Block → Block = λ (c : Block). record c { contents = new } in
    let source : slice_get blocks s ≡ Some x = sym (changed-get_other emptied t s blocks apart) ∙ there in
    let put : new ≡ Live (spliced (pos to) (take count (drop from (block_bytes (slice_get blocks s)))) (bytes_in b.contents)) =
    e
    ∙ ap (λ (c : Contents). Live (spliced (pos to) (take count (drop from (bytes_in x.contents))) (bytes_in c))) same
    ∙ ap (λ (o : Option Block). Live (spliced (pos to) (take count (drop from (block_bytes o))) (bytes_in b.contents))) (sym source) in
    changed-twice emptied filled t blocks
    ∙ changed-alike (λ (c : Block). filled (emptied c)) (rewritten (pos to) (take count (drop from (block_bytes (slice_get blocks s))))) t blocks b found
    (ap (λ (c : Contents). record b { contents = c }) put)
