use Rattle.hv_macros.specs.Table.{meaning_in}
use Rattle.hv_macros.proofs.TableLemmas.{alternatives_of, meaning_if, meanings_if, partition_if}
use Rattle.hv_macros.proofs.tables.MacroTable.alternatives.Goals as goal

pub split-requires-clause-alternatives : goal.split-requires-clause-alternatives
split-requires-clause-alternatives c =
    alternatives_of _ c.args.self.now c.args.name.now c.find.result.now c.requires.nodes c.find.ensures

pub returns-clause-meanings : goal.returns-clause-meanings
returns-clause-meanings c =
    meanings_if c.split.result _ c.split.new.store c.args.self.now c.args.name.now c.args.cond
    c.find.result.now c.find.ensures c.split.ensures.meanings

pub returns-clause-partition : goal.returns-clause-partition
returns-clause-partition c =
    partition_if c.split.result c.args.store.now c.split.new.store c.args.cond
    (λ values. meaning_in c.args.store.now c.args.self.now values c.args.name.now) c.split.ensures.keeps
    c.requires.cond
    c.split.ensures.nodes c.split.ensures.none_false
    (meanings_if c.split.result _ c.split.new.store c.args.self.now c.args.name.now c.args.cond
    c.find.result.now c.find.ensures c.split.ensures.meanings)

pub returns-clause-meaning : goal.returns-clause-meaning
returns-clause-meaning c =
    meaning_if c.split.result c.args.store.now c.split.new.store c.args.cond
    (λ values. meaning_in c.args.store.now c.args.self.now values c.args.name.now)
    (meanings_if c.split.result _ c.split.new.store c.args.self.now c.args.name.now c.args.cond
    c.find.result.now c.find.ensures c.split.ensures.meanings)
