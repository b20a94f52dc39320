use Rattle.hv_macros.proofs.TableLemmas.{defined_one_body}
use Rattle.hv_macros.proofs.tables.MacroTable.define.Goals as goal

pub returns-clause-one_body : goal.returns-clause-one_body
returns-clause-one_body c =
    defined_one_body c.set.result c.args.store.now c.set.new.store c.args.self.now c.set.new.self
    c.args.name.now c.args.cond c.args.place c.args.body.value c.set.ensures.set c.set.ensures.unchanged
