use Rattle.hv_macros.proofs.BeginningLemmas.{begins_with_one_body, begun, empty_nodes}
use Rattle.hv_macros.proofs.tables.MacroTable.new.Goals as goal

pub define_options-requires-clause-nodes : goal.define_options-requires-clause-nodes
define_options-requires-clause-nodes c = empty_nodes _ _ c.empty-table.ensures

pub returns-clause-begins : goal.returns-clause-begins
returns-clause-begins c =
    begun c.args.store.now _ _ c.empty-table.result _ _ _ c.empty-table.ensures
    c.in_ok-define_options.ensures.defined c.in_ok-define_predefined.ensures.defined

pub returns-clause-one_body : goal.returns-clause-one_body
returns-clause-one_body c =
    begins_with_one_body _ _ c.args.model.now.names
    (begun c.args.store.now _ _ c.empty-table.result _ _ _ c.empty-table.ensures
    c.in_ok-define_options.ensures.defined c.in_ok-define_predefined.ensures.defined)
