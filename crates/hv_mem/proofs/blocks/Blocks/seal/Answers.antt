use Rattle.std.proofs.Common.{sym, ap, ◌∙◌, refl, true}
use Rattle.hv_mem.specs.declared.block.Block.{Block}
use Rattle.hv_mem.specs.Memory.{allocation_count}
use Rattle.hv_mem.proofs.BlocksLemmas.{count-changed, length-changed}
use Rattle.hv_mem.proofs.LawsLemmas.{becomes-changed}
use Rattle.hv_mem.proofs.blocks.Blocks.seal.Goals as goal

pub invariant_of-self : goal.invariant_of-self
invariant_of-self c =
    c.self.invariant
    ∙ sym (ap allocation_count c.seal_in.ensures ∙ count-changed (λ (b : Block). record b { sealed = true }) (λ b. refl) c.args.block.index c.self.inside.blocks.items)

pub returns-clause-number : goal.returns-clause-number
returns-clause-number c =
    rw (c.seal_in.ensures, ← c.self.view_is)
    (length-changed (λ (b : Block). record b { sealed = true }) c.args.block.index c.self.inside.blocks.items)

pub returns-clause-becomes : goal.returns-clause-becomes
returns-clause-becomes c =
    rw (c.seal_in.ensures, ← c.self.view_is)
    (becomes-changed (λ (b : Block). record b { sealed = true }) c.args.block.index c.self.inside.blocks.items (λ b e. record { name = refl; size = refl; stays_sealed = λ s. refl; stays_ended = λ s. s }))
