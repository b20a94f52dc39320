use Rattle.std.proofs.Common.{◌∙◌, sym}
use Rattle.hv_mem.proofs.LawsLemmas.{after-copy}
use Rattle.hv_mem.proofs.blocks.Blocks.copy.Goals as goal

pub invariant_of-self : goal.invariant_of-self
invariant_of-self c =
    let t = after-copy c.copy_in.result c.self.inside.blocks.items c.copy_in.new.blocks.items c.args.from c.args.to c.args.bytes c.args.align c.copy_in.ensures.ok c.copy_in.ensures.unchanged in
    c.self.invariant ∙ sym t.4

pub returns-clause-number : goal.returns-clause-number
returns-clause-number c =
    let t = after-copy c.copy_in.result c.self.inside.blocks.items c.copy_in.new.blocks.items c.args.from c.args.to c.args.bytes c.args.align c.copy_in.ensures.ok c.copy_in.ensures.unchanged in
    rw (← c.self.view_is) t.3

pub returns-clause-becomes : goal.returns-clause-becomes
returns-clause-becomes c =
    let t = after-copy c.copy_in.result c.self.inside.blocks.items c.copy_in.new.blocks.items c.args.from c.args.to c.args.bytes c.args.align c.copy_in.ensures.ok c.copy_in.ensures.unchanged in
    rw (← c.self.view_is) t.0

pub returns-clause-elsewhere : goal.returns-clause-elsewhere
returns-clause-elsewhere c =
    let t = after-copy c.copy_in.result c.self.inside.blocks.items c.copy_in.new.blocks.items c.args.from c.args.to c.args.bytes c.args.align c.copy_in.ensures.ok c.copy_in.ensures.unchanged in
    rw (← c.self.view_is) t.1

pub returns-clause-moved : goal.returns-clause-moved
returns-clause-moved c =
    let t = after-copy c.copy_in.result c.self.inside.blocks.items c.copy_in.new.blocks.items c.args.from c.args.to c.args.bytes c.args.align c.copy_in.ensures.ok c.copy_in.ensures.unchanged in
    rw (← c.self.view_is) t.2
