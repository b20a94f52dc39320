use Rattle.std.proofs.Common.{refl}
use Rattle.hv_macros.specs.Laws.{IsTableOf-kept, meaning_in-kept}
use Rattle.hv_macros.proofs.TableLemmas.{alternatives_of, always, set_meaning, set_nodes, unset_meaning}
use Rattle.hv_macros.proofs.tables.MacroTable.set.Goals as goal

pub overridden-requires-clause-alternatives : goal.overridden-requires-clause-alternatives
overridden-requires-clause-alternatives c =
    alternatives_of _ c.args.self.now c.args.name.now c.find.result.now c.requires.nodes c.find.ensures

pub returns-in_err-alternatives-clause-nodes : goal.returns-in_err-alternatives-clause-nodes
returns-in_err-alternatives-clause-nodes c =
    IsTableOf-kept c.overridden.ensures.keeps c.args.self.now c.requires.nodes

pub returns-in_err-alternatives-clause-unchanged : goal.returns-in_err-alternatives-clause-unchanged
returns-in_err-alternatives-clause-unchanged c =
    always c.from_residual.result
    (meaning_in-kept c.overridden.ensures.keeps c.args.self.now c.requires.nodes)

pub returns-clause-nodes : goal.returns-clause-nodes
returns-clause-nodes c =
    set_nodes c.put.result c.overridden.ensures.keeps c.args.self.now c.put.new.self c.args.name.now
    c.in_ok-alternatives.alternatives c.requires.nodes c.in_ok-alternatives.ensures.alternatives
    c.put.ensures.put c.put.ensures.unchanged

pub returns-clause-set : goal.returns-clause-set
returns-clause-set c =
    set_meaning c.put.result c.overridden.ensures.keeps c.args.self.now c.put.new.self c.args.name.now
    c.args.cond _ c.find.result.now c.in_ok-alternatives.alternatives c.requires.nodes c.find.ensures
    c.in_ok-alternatives.ensures.meaning
    c.put.ensures.put

pub returns-clause-unchanged : goal.returns-clause-unchanged
returns-clause-unchanged c =
    unset_meaning c.put.result c.overridden.ensures.keeps c.args.self.now c.put.new.self c.requires.nodes
    c.put.ensures.unchanged
