use Rattle.std.proofs.Common.{◌∙◌, sym, ap, ◌+◌}
use Rattle.hv_mem.proofs.BlocksLemmas.{count-push_no, count-push_yes}
use Rattle.hv_mem.proofs.LawsLemmas.{becomes-push}
use Rattle.hv_mem.proofs.blocks.Blocks.add.Goals as goal

pub invariant_of-self-then-is_allocation : goal.invariant_of-self-then-is_allocation
invariant_of-self-then-is_allocation c =
    rw c.in_ok-push.ensures.items
    (ap (λ n. n + 1) c.self.invariant
    ∙ sym (count-push_yes c.self.inside.blocks.items _ (sym c.is_allocation.ensures ∙ c.if-is_allocation.true)))

pub invariant_of-self-else-is_allocation : goal.invariant_of-self-else-is_allocation
invariant_of-self-else-is_allocation c =
    rw c.in_ok-push.ensures.items
    (c.self.invariant ∙ sym (count-push_no c.self.inside.blocks.items _ (sym c.is_allocation.ensures ∙ c.if-is_allocation.false)))

pub returns-then-is_allocation-clause-becomes : goal.returns-then-is_allocation-clause-becomes
returns-then-is_allocation-clause-becomes c =
    rw (c.in_ok-push.ensures.items, ← c.self.view_is) (becomes-push c.self.inside.blocks.items _)

pub returns-else-is_allocation-clause-becomes : goal.returns-else-is_allocation-clause-becomes
returns-else-is_allocation-clause-becomes c =
    rw (c.in_ok-push.ensures.items, ← c.self.view_is) (becomes-push c.self.inside.blocks.items _)
