-- The laws of memory.
use Rattle.std.proofs.Common.{◌≡◌, ◌⊎◌, ℕ, zero, suc, ◌+◌, ◌%◌, ◌<◌, ◌≤◌, Bool, true, false, not, ◌&&◌, ◌==◌, cond, List, [], ◌∷◌, ◌++◌, length, take, drop, get_or, Option, None, Some, refl, sym, ap, ◌∙◌, arith, subst, inl, inr, eq-eqb}
use Rattle.std.specs.Prelude.{ℤ, pos, negsuc, ◌<ℤ◌, ◌≤ℤ◌, ◌+ℤ◌, slice_get, nat_le, Result, Ok, Err, OnOk, OnErr}
use Rattle.std.proofs.lemmas.Bool.{cases_eq, eqb-true, leb-true, le-leb}
use Rattle.std.proofs.lemmas.Int.{ints}
use Rattle.std.proofs.lemmas.Option.{none-some}
use Rattle.hv_mem.specs.declared.access.Way.{Way}
use Rattle.hv_mem.specs.declared.access.Way.TheVariants.{Read, Write}
use Rattle.hv_mem.specs.declared.address.Address.{Address}
use Rattle.hv_mem.specs.declared.address.BlockId.{BlockId}
use Rattle.hv_mem.specs.declared.block.Block.{Block}
use Rattle.hv_mem.specs.declared.block.Contents.{Contents}
use Rattle.hv_mem.specs.declared.block.Contents.TheVariants.{Live, Ended}
use Rattle.hv_mem.specs.declared.kind.Kind.{Kind}
use Rattle.hv_mem.specs.declared.kind.Kind.TheVariants.{OutsideObject, DeadObject, NullAccess, Misaligned, ReadOnly}
use Rattle.hv_mem.specs.declared.value.Byte.{Byte}
use Rattle.hv_mem.specs.declared.value.Byte.TheVariants as forms
use Rattle.hv_mem.specs.declared.value.Value.{Value}
use Rattle.hv_mem.specs.Memory.{Blocks, allocation_count, block_bytes, bytes_at, bytes_in, changed, is_live, rewritten, spliced, with_bytes, with_bytes_in}
use Rattle.hv_mem.specs.Scalars.{bytes_of, read, scalar_of, scalar_size}
use Rattle.hv_mem.specs.Access.{block_event, contents_event, copied, copy_event, either, event, event_in, is_write, live_event, store_event, stored, unless}
use Rattle.hv_mem.specs.Laws.{Becomes, BlockKeeps, GivesBack, IsOutside, SameOutside, StillKeeps, byte_at}
use Rattle.hv_mem.proofs.BlocksLemmas.{changed-get, changed-get_other, count-with_bytes, length-with_bytes}
use Rattle.hv_mem.proofs.SplicedLemmas.{part-length, spliced-after, spliced-before, spliced-length, spliced-part}
use Rattle.hv_mem.proofs.ValuesLemmas.{length-bytes_of, value-back}

------ accesses that meet no event

-- what is known where an access meets none
pub record Allowed (block : Option BlockId) (offset : ℤ) (count align : ℕ) (blocks : Blocks) : Type 0 where
  pub id : BlockId
  pub index : ℕ
  pub found : Block
  pub bytes : List Byte
  pub block_is : block ≡ Some id
  pub offset_is : offset ≡ pos index
  pub found_is : slice_get blocks id.index ≡ Some found
  pub live : found.contents ≡ Live bytes
  pub within : index + count ≤ length bytes
  pub aligned : index % align ≡ 0

tests : (inside aligned forbidden : Bool)
    → cond (not inside) (Some OutsideObject) (cond (not aligned) (Some Misaligned) (cond forbidden (Some ReadOnly) None)) ≡ None
    → (inside ≡ true) × (aligned ≡ true)
tests true true false e = (refl, refl)
tests true true true e = absurd (none-some ReadOnly (sym e))
tests true false f e = absurd (none-some Misaligned (sym e))
tests false a f e = absurd (none-some OutsideObject (sym e))

live-allowed : (offset : ℤ) (count align size : ℕ) (forbidden : Bool) → live_event offset count align size forbidden ≡ None
    → (index : ℕ) × (offset ≡ pos index) × (index + count ≤ size) × (index % align ≡ 0)
live-allowed (negsuc n) count align size forbidden e = absurd (none-some OutsideObject (sym e))
live-allowed (pos o) count align size forbidden e =
    let t = tests (nat_le (o + count) size) (o % align == 0) forbidden e in
    (o, refl, leb-true (o + count) size t.0, eqb-true (o % align) 0 t.1)

allowed_contents : (id : BlockId) (offset : ℤ) (count align : ℕ) (blocks : Blocks) (found : Block) (forbidden : Bool) (contents : Contents)
    → slice_get blocks id.index ≡ Some found → found.contents ≡ contents
    → contents_event contents offset count align forbidden ≡ None → Allowed (Some id) offset count align blocks
allowed_contents id offset count align blocks found forbidden (Ended size) f c e = absurd (none-some DeadObject (sym e))
allowed_contents id offset count align blocks found forbidden (Live bytes) f c e =
    let t = live-allowed offset count align (length bytes) forbidden e in
    record {
      id = id;
      index = t.0;
      found = found;
      bytes = bytes;
      block_is = refl;
      offset_is = t.1;
      found_is = f;
      live = c;
      within = t.2;
      aligned = t.3;
    }

allowed_block : (id : BlockId) (offset : ℤ) (count align : ℕ) (way : Way) (blocks : Blocks) (o : Option Block)
    → slice_get blocks id.index ≡ o → block_event o offset count align way ≡ None → Allowed (Some id) offset count align blocks
allowed_block id offset count align way blocks None f e = absurd (none-some OutsideObject (sym e))
allowed_block id offset count align way blocks (Some b) f e =
    allowed_contents id offset count align blocks b (is_write way && b.sealed) b.contents f refl e

pub allowed : (block : Option BlockId) (offset : ℤ) (count align : ℕ) (way : Way) (blocks : Blocks)
    → event_in block offset count align way blocks ≡ None → Allowed block offset count align blocks
allowed None offset count align way blocks e = absurd (none-some NullAccess (sym e))
allowed (Some id) offset count align way blocks e =
    allowed_block id offset count align way blocks (slice_get blocks id.index) refl e

------ what blocks keep

keeps-itself : (b : Block) → BlockKeeps b b
keeps-itself b = record { name = refl; size = refl; stays_sealed = λ e. e; stays_ended = λ e. e }

still-itself : (o : Option Block) → StillKeeps o o
still-itself None = tt
still-itself (Some b) = keeps-itself b

pub becomes-itself : (blocks new : Blocks) → new ≡ blocks → Becomes blocks new
becomes-itself blocks new e = λ number. rw e (still-itself (slice_get blocks number))

pub becomes-changed : (f : Block → Block) (i : ℕ) (blocks : Blocks)
    → ((b : Block) → slice_get blocks i ≡ Some b → BlockKeeps b (f b)) → Becomes blocks (changed f i blocks)
becomes-changed f i blocks keeps number =
    elim (cases_eq number i) [
      | inl e ↦ subst (λ (n : ℕ). StillKeeps (slice_get blocks n) (slice_get (changed f i blocks) n)) (sym e) (here (slice_get blocks i) refl)
      | inr ne ↦ rw (changed-get_other f i number blocks ne) (still-itself (slice_get blocks number))
    ]
  where
    here : (o : Option Block) → slice_get blocks i ≡ o → StillKeeps o (slice_get (changed f i blocks) i)
    here None e = tt
    here (Some b) e = rw (changed-get f i blocks b e) (keeps b e)

pub becomes-push : (blocks : Blocks) (b : Block) → Becomes blocks (blocks ++ b ∷ [])
becomes-push [] b zero = tt
becomes-push [] b (suc n) = tt
becomes-push (x ∷ xs) b zero = keeps-itself x
becomes-push (x ∷ xs) b (suc n) = becomes-push xs b n

-- a splice within a live block keeps what the block keeps
rewritten-keeps : (o : ℕ) (new bytes : List Byte) (b : Block) → b.contents ≡ Live bytes → o + length new ≤ length bytes
    → BlockKeeps b (rewritten (pos o) new b)
rewritten-keeps o new bytes b live within =
    record {
      name = refl;
      size = rw live (spliced-length o new bytes within);
      stays_sealed = λ e. e;
      stays_ended = λ e. absurd (false-true (sym e ∙ ap is_live live));
    }
  where
    false-true : false ≡ true → ⊥
    false-true e = cc

pub becomes-with_bytes : (block : Option BlockId) (offset : ℤ) (count align : ℕ) (new : List Byte) (blocks : Blocks)
    → Allowed block offset count align blocks → length new ≡ count → Becomes blocks (with_bytes_in block offset new blocks)
becomes-with_bytes block offset count align new blocks a n =
    let eb = a.block_is in
    let eo = a.offset_is in
    rw (eb, eo)
    (becomes-changed (rewritten (pos a.index) new) a.id.index blocks
    (λ b e.
    let same : a.found ≡ b = some-same (sym a.found_is ∙ e) in
    rewritten-keeps a.index new a.bytes b (ap (λ (x : Block). x.contents) (sym same) ∙ a.live) (omega (arith, a.within, n))))
  where
    some-same : {x y : Block} → Some x ≡ Some y → x ≡ y
    some-same e = cc

------ no other byte is written

outside-of : (block : Option BlockId) (offset : ℤ) (count number k : ℕ) (id : BlockId) (index : ℕ) → block ≡ Some id → offset ≡ pos index
    → number ≡ id.index → IsOutside (record { block = block; offset = offset }) count number k → (k < index) ⊎ (index + count ≤ k)
outside-of block offset count number k id index eb eo e (inl ne) =
    let numbered : ℕ → Option BlockId = λ n. Some (record { index = n }) in
    absurd (ne (eb ∙ ap numbered (sym e)))
outside-of block offset count number k id index eb eo e (inr (inl lt)) =
    let h : pos k <ℤ pos index = rw eo at lt in inl (omega (arith, ints))
outside-of block offset count number k id index eb eo e (inr (inr le)) =
    let h : (pos index +ℤ pos count) ≤ℤ pos k = rw eo at le in inr (omega (arith, ints))

bytes-of-found : (id : BlockId) (blocks : Blocks) (found : Block) (bytes : List Byte) → slice_get blocks id.index ≡ Some found → found.contents ≡ Live bytes
    → block_bytes (slice_get blocks id.index) ≡ bytes
bytes-of-found id blocks found bytes f l = ap block_bytes f ∙ ap bytes_in l

bytes-of-changed : (id : BlockId) (o : ℕ) (new : List Byte) (blocks : Blocks) (found : Block) (bytes : List Byte) → slice_get blocks id.index ≡ Some found → found.contents ≡ Live bytes
    → block_bytes (slice_get (changed (rewritten (pos o) new) id.index blocks) id.index) ≡ spliced (pos o) new bytes
bytes-of-changed id o new blocks found bytes f l =
    ap block_bytes (changed-get (rewritten (pos o) new) id.index blocks found f)
    ∙ ap (λ (c : Contents). spliced (pos o) new (bytes_in c)) l

spliced-outside : (o count k : ℕ) (new bytes : List Byte) → length new ≡ count → o + count ≤ length bytes → (k < o) ⊎ (o + count ≤ k)
    → get_or (spliced (pos o) new bytes) k forms.Indeterminate ≡ get_or bytes k forms.Indeterminate
spliced-outside o count k new bytes n h (inl lt) = spliced-before o new bytes k forms.Indeterminate (omega arith) lt
spliced-outside o count k new bytes n h (inr le) = spliced-after o new bytes k forms.Indeterminate (omega arith) (omega arith)

outside-changed : (id : BlockId) (o count number k : ℕ) (new : List Byte) (blocks : Blocks) (found : Block) (bytes : List Byte)
    → slice_get blocks id.index ≡ Some found → found.contents ≡ Live bytes → length new ≡ count → o + count ≤ length bytes
    → (number ≡ id.index → (k < o) ⊎ (o + count ≤ k))
    → byte_at (changed (rewritten (pos o) new) id.index blocks) number k ≡ byte_at blocks number k
outside-changed id o count number k new blocks found bytes f l n h outside =
    elim (cases_eq number id.index) [
      | inl e ↦ ap (λ m. byte_at (changed (rewritten (pos o) new) id.index blocks) m k) e
          ∙ ap (λ bs. get_or bs k forms.Indeterminate) (bytes-of-changed id o new blocks found bytes f l)
          ∙ spliced-outside o count k new bytes n h (outside e)
          ∙ ap (λ bs. get_or bs k forms.Indeterminate) (sym (bytes-of-found id blocks found bytes f l))
          ∙ ap (λ m. byte_at blocks m k) (sym e)
      | inr ne ↦ ap (λ o. get_or (block_bytes o) k forms.Indeterminate) (changed-get_other (rewritten (pos o) new) id.index number blocks ne)
    ]

pub same_outside : (at : Address) (count align : ℕ) (new : List Byte) (blocks : Blocks)
    → Allowed at.block at.offset count align blocks → length new ≡ count
    → SameOutside blocks (with_bytes blocks at new) at count
same_outside at count align new blocks a n number k outside =
    let eb = a.block_is in
    let eo = a.offset_is in
    rw (eb, eo)
    (outside-changed a.id a.index count number k new blocks a.found a.bytes a.found_is a.live n a.within
    (λ e. outside-of at.block at.offset count number k a.id a.index a.block_is a.offset_is e outside))

------ what was written is read

pub part-back : (at : Address) (count align : ℕ) (new : List Byte) (blocks : Blocks)
    → Allowed at.block at.offset count align blocks → length new ≡ count
    → bytes_at (with_bytes blocks at new) at count ≡ new
part-back at count align new blocks a n =
    let eb = a.block_is in
    let eo = a.offset_is in
    rw (eb, eo)
    (ap (λ bs. take count (drop a.index bs)) (bytes-of-changed a.id a.index new blocks a.found a.bytes a.found_is a.live)
    ∙ ap (λ m. take m (drop a.index (spliced (pos a.index) new a.bytes))) (sym n)
    ∙ spliced-part a.index new a.bytes (omega (arith, a.within)))

live-none : (i count align n : ℕ) → i + count ≤ n → i % align ≡ 0 → live_event (pos i) count align n false ≡ None
live-none i count align n h e =
    let inside : nat_le (i + count) n ≡ true = le-leb (i + count) n h in
    let aligned : (i % align == 0) ≡ true = eq-eqb (i % align) 0 e in
    rw (inside, aligned) refl

pub read-back : (at : Address) (count align : ℕ) (new : List Byte) (blocks : Blocks)
    → Allowed at.block at.offset count align blocks → length new ≡ count
    → event (with_bytes blocks at new) at count align Read ≡ None
read-back at count align new blocks a n =
    let eb = a.block_is in
    let eo = a.offset_is in
    rw (eb, eo)
    (ap (λ o. block_event o (pos a.index) count align Read) (changed-get (rewritten (pos a.index) new) a.id.index blocks a.found a.found_is)
    ∙ ap (λ (c : Contents). contents_event (Live (spliced (pos a.index) new (bytes_in c))) (pos a.index) count align false) a.live
    ∙ live-none a.index count align (length (spliced (pos a.index) new a.bytes))
    (let l : length (spliced (pos a.index) new a.bytes) ≡ length a.bytes = spliced-length a.index new a.bytes (omega (arith, a.within, n)) in omega (arith, a.within)) a.aligned)

------ the laws of the calls

pub store-gives-back : (blocks : Blocks) (at : Address) (v : Value) → store_event blocks at v ≡ None
    → GivesBack (stored blocks at v) at v
store-gives-back blocks at v e valid =
    let size : ℕ = scalar_size (scalar_of v) in
    let a : Allowed at.block at.offset size size blocks = allowed at.block at.offset size size Write blocks e in
    let n : length (bytes_of v) ≡ size = length-bytes_of v in
    ap (λ o. unless o (read (scalar_of v) (bytes_at (stored blocks at v) at size))) (read-back at size size (bytes_of v) blocks a n)
    ∙ ap (read (scalar_of v)) (part-back at size size (bytes_of v) blocks a n)
    ∙ value-back v valid

pub store-outside : (blocks : Blocks) (at : Address) (v : Value) → store_event blocks at v ≡ None
    → SameOutside blocks (stored blocks at v) at (scalar_size (scalar_of v))
store-outside blocks at v e =
    same_outside at (scalar_size (scalar_of v)) (scalar_size (scalar_of v)) (bytes_of v) blocks
    (allowed at.block at.offset (scalar_size (scalar_of v)) (scalar_size (scalar_of v)) Write blocks e) (length-bytes_of v)

pub store-becomes : (blocks : Blocks) (at : Address) (v : Value) → store_event blocks at v ≡ None
    → Becomes blocks (stored blocks at v)
store-becomes blocks at v e =
    becomes-with_bytes at.block at.offset (scalar_size (scalar_of v)) (scalar_size (scalar_of v)) (bytes_of v) blocks
    (allowed at.block at.offset (scalar_size (scalar_of v)) (scalar_size (scalar_of v)) Write blocks e) (length-bytes_of v)

either-none : (a b : Option Kind) → either a b ≡ None → (a ≡ None) × (b ≡ None)
either-none None b e = (refl, e)
either-none (Some k) b e = absurd (none-some k (sym e))

length-bytes_at : (at : Address) (count align : ℕ) (blocks : Blocks) → Allowed at.block at.offset count align blocks
    → length (bytes_at blocks at count) ≡ count
length-bytes_at at count align blocks a =
    let eb = a.block_is in
    let eo = a.offset_is in
    rw (eb, eo)
    (ap (λ bs. length (take count (drop a.index bs))) (bytes-of-found a.id blocks a.found a.bytes a.found_is a.live)
    ∙ part-length a.index count a.bytes a.within)

pub copy-moves : (blocks : Blocks) (from to : Address) (count align : ℕ) → copy_event blocks from to count align ≡ None
    → bytes_at (copied blocks from to count) to count ≡ bytes_at blocks from count
copy-moves blocks from to count align e =
    let t = either-none (event blocks from count align Read) (event blocks to count align Write) e in
    part-back to count align (bytes_at blocks from count) blocks (allowed to.block to.offset count align Write blocks t.1)
    (length-bytes_at from count align blocks (allowed from.block from.offset count align Read blocks t.0))

pub copy-outside : (blocks : Blocks) (from to : Address) (count align : ℕ) → copy_event blocks from to count align ≡ None
    → SameOutside blocks (copied blocks from to count) to count
copy-outside blocks from to count align e =
    let t = either-none (event blocks from count align Read) (event blocks to count align Write) e in
    same_outside to count align (bytes_at blocks from count) blocks (allowed to.block to.offset count align Write blocks t.1)
    (length-bytes_at from count align blocks (allowed from.block from.offset count align Read blocks t.0))

pub copy-becomes : (blocks : Blocks) (from to : Address) (count align : ℕ) → copy_event blocks from to count align ≡ None
    → Becomes blocks (copied blocks from to count)
copy-becomes blocks from to count align e =
    let t = either-none (event blocks from count align Read) (event blocks to count align Write) e in
    becomes-with_bytes to.block to.offset count align (bytes_at blocks from count) blocks (allowed to.block to.offset count align Write blocks t.1)
    (length-bytes_at from count align blocks (allowed from.block from.offset count align Read blocks t.0))

------ all that holds after a call

pub after-store : {A E : Type 0} (r : Result A E) (blocks new : Blocks) (at : Address) (v : Value)
    → OnOk r ((store_event blocks at v ≡ None) × (new ≡ stored blocks at v)) → OnErr r (new ≡ blocks)
    → Becomes blocks new × OnOk r (SameOutside blocks new at (scalar_size (scalar_of v))) × OnOk r (GivesBack new at v)
    × (length new ≡ length blocks) × (allocation_count new ≡ allocation_count blocks)
after-store (Ok x) blocks new at v ok err =
    let e = ok.1 in
    rw e
    (store-becomes blocks at v ok.0, store-outside blocks at v ok.0, store-gives-back blocks at v ok.0, length-with_bytes blocks at (bytes_of v), count-with_bytes blocks at (bytes_of v))
after-store (Err x) blocks new at v ok err =
    (becomes-itself blocks new err, tt, tt, ap length err, ap allocation_count err)

pub after-copy : {A E : Type 0} (r : Result A E) (blocks new : Blocks) (from to : Address) (count align : ℕ)
    → OnOk r ((copy_event blocks from to count align ≡ None) × (new ≡ copied blocks from to count)) → OnErr r (new ≡ blocks)
    → Becomes blocks new × OnOk r (SameOutside blocks new to count) × OnOk r (bytes_at new to count ≡ bytes_at blocks from count)
    × (length new ≡ length blocks) × (allocation_count new ≡ allocation_count blocks)
after-copy (Ok x) blocks new from to count align ok err =
    let e = ok.1 in
    rw e
    (copy-becomes blocks from to count align ok.0, copy-outside blocks from to count align ok.0, copy-moves blocks from to count align ok.0, length-with_bytes blocks to (bytes_at blocks from count), count-with_bytes blocks to (bytes_at blocks from count))
after-copy (Err x) blocks new from to count align ok err =
    (becomes-itself blocks new err, tt, tt, ap length err, ap allocation_count err)
