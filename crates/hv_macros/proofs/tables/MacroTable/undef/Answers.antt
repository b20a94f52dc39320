use Rattle.hv_macros.proofs.TableLemmas.{removed_one_body}
use Rattle.hv_macros.proofs.tables.MacroTable.undef.Goals as goal

pub returns-clause-one_body : goal.returns-clause-one_body
returns-clause-one_body c =
    removed_one_body c.set.result c.args.store.now c.set.new.store c.args.self.now c.set.new.self
    c.args.name.now c.args.cond c.set.ensures.set c.set.ensures.unchanged
