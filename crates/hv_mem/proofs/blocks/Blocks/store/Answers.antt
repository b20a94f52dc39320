use Rattle.std.proofs.Common.{◌∙◌, sym}
use Rattle.hv_mem.proofs.LawsLemmas.{after-store}
use Rattle.hv_mem.proofs.blocks.Blocks.store.Goals as goal

pub invariant_of-self : goal.invariant_of-self
invariant_of-self c =
    let t = after-store c.store_in.result c.self.inside.blocks.items c.store_in.new.blocks.items c.args.at c.args.value c.store_in.ensures.ok c.store_in.ensures.unchanged in
    c.self.invariant ∙ sym t.4

pub returns-clause-number : goal.returns-clause-number
returns-clause-number c =
    let t = after-store c.store_in.result c.self.inside.blocks.items c.store_in.new.blocks.items c.args.at c.args.value c.store_in.ensures.ok c.store_in.ensures.unchanged in
    rw (← c.self.view_is) t.3

pub returns-clause-becomes : goal.returns-clause-becomes
returns-clause-becomes c =
    let t = after-store c.store_in.result c.self.inside.blocks.items c.store_in.new.blocks.items c.args.at c.args.value c.store_in.ensures.ok c.store_in.ensures.unchanged in
    rw (← c.self.view_is) t.0

pub returns-clause-elsewhere : goal.returns-clause-elsewhere
returns-clause-elsewhere c =
    let t = after-store c.store_in.result c.self.inside.blocks.items c.store_in.new.blocks.items c.args.at c.args.value c.store_in.ensures.ok c.store_in.ensures.unchanged in
    rw (← c.self.view_is) t.1

pub returns-clause-loads : goal.returns-clause-loads
returns-clause-loads c =
    let t = after-store c.store_in.result c.self.inside.blocks.items c.store_in.new.blocks.items c.args.at c.args.value c.store_in.ensures.ok c.store_in.ensures.unchanged in
    t.2
