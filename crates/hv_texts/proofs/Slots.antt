-- A condition is put with those of a position, or is refused.
use Rattle.std.proofs.Common.{◌≡◌, ◌+◌, ◌<◌, ◌||◌, ℕ, List, length, drop, sym, ◌∙◌, ap, subst, arith}
use Rattle.std.specs.Prelude.{slice_index_or, slice_set}
use Rattle.std.proofs.lemmas.List.{drop-set-add, get_or-drop, length-drop, length-set}
use Rattle.hv_base.specs.declared.place.Place.{Place}
use Rattle.hv_base.specs.declared.why.Why.{Why}
use Rattle.hv_cond.specs.Diagram.{AllNodes, Diagram, IsNode, holds}
use Rattle.hv_cond.specs.declared.conditions.Cond.{Cond}
use Rattle.hv_given.specs.Refusals.{AreRefusals, CountsMore, RefusesMore}
use Rattle.hv_texts.proofs.Counting.{node_at}
use Rattle.hv_texts.specs.working.Sorting.{IsInSlot, IsRefusedMore}
use Rattle.hv_toks.specs.declared.parted.Failing.{Failing}

-- the positions from one on
pub slot_from : (old new : Diagram) (before mid after : List Cond) (refused now later : List Failing)
    (c : Cond) (m k n : ℕ) → n ≡ m + k
    → IsInSlot old new before mid refused now c n → after ≡ mid → later ≡ now
    → IsInSlot old new (drop m before) (drop m after) refused later c k
slot_from old new before mid after refused now later c m k n e s same kept =
    record {
      within = let l = length-drop m before in let w = s.within in omega arith;
      slot = s.slot;
      put = ap (λ (xs : List Cond). drop m xs) (same ∙ s.put)
          ∙ (ap (λ (i : ℕ). drop m (slice_set before i s.slot)) e
          ∙ drop-set-add m before k s.slot);
      node = s.node;
      meaning = λ values. s.meaning values
          ∙ ap (λ (x : Cond). holds old x values || holds old c values)
          (ap (λ (i : ℕ). slice_index_or before i c) e ∙ sym (get_or-drop m before k c));
      unchanged = kept ∙ s.unchanged;
    }

pub slot_long : (old new : Diagram) (before mid after : List Cond) (refused now : List Failing)
    (c : Cond) (n : ℕ) → IsInSlot old new before mid refused now c n → after ≡ mid
    → length after ≡ length before
slot_long old new before mid after refused now c n s same =
    ap length (same ∙ s.put) ∙ length-set before n s.slot

pub slot_node : (old : Diagram) (before : List Cond) (c : Cond) (m k n : ℕ) → n ≡ m + k
    → n < length before → AllNodes old (drop m before) → IsNode old (slice_index_or before n c)
slot_node old before c m k n e within nodes =
    subst (λ (x : Cond). IsNode old x)
    (get_or-drop m before k c ∙ ap (λ (i : ℕ). slice_index_or before i c) (sym e))
    (node_at old (drop m before) k c nodes (let l = length-drop m before in omega arith))

pub refused_from : (old new : Diagram) (before after : List Cond) (refused now later : List Failing)
    (c : Cond) (why : Why) (place : Place) (m : ℕ) → AreRefusals new now
    → RefusesMore old new refused now place why c → CountsMore old new refused now c
    → after ≡ before → later ≡ now
    → IsRefusedMore old new (drop m before) (drop m after) refused later c why place
refused_from old new before after refused now later c why place m refusals more counted same kept =
    subst (λ (fs : List Failing). IsRefusedMore old new (drop m before) (drop m after) refused fs c
    why place) (sym kept) (record {
      unchanged = ap (λ (xs : List Cond). drop m xs) same;
      refusals = refusals;
      more = more;
      counted = counted;
    })
