use Rattle.std.proofs.Common.{arith, ◌∙◌, sym, ap}
use Rattle.std.specs.Prelude.{Some}
use Rattle.std.proofs.lemmas.Option.{get_or_from_slice_get}
use Rattle.hv_macros.proofs.BeginningLemmas.{opening_nodes, opening_step}
use Rattle.hv_macros.proofs.beginnings.define_options.Goals as goal

pub returns-in_err-on-clause-nodes : goal.returns-in_err-on-clause-nodes
returns-in_err-on-clause-nodes c = opening_nodes c.loop-i.invariant c.var.ensures.keeps

pub define_number-requires-clause-nodes : goal.define_number-requires-clause-nodes
define_number-requires-clause-nodes c = opening_nodes c.loop-i.invariant c.var.ensures.keeps

pub loop-i-preserved : goal.loop-i-preserved
loop-i-preserved c =
    opening_step c.args.store.now c.loop-i.store c.var.new.self c.define_number.new.store
    c.args.table.now c.loop-i.table c.define_number.new.table c.args.model.now.names c.loop-i.i
    c.as_bytes-name.result.now c.in_ok-on.on
    c.loop-i.invariant (omega arith)
    (sym (get_or_from_slice_get c.args.model.now.names c.loop-i.i c.as_bytes-name.result.now
    c.as_bytes-name.result.now (c.name.ensures ∙ ap Some (sym c.as_bytes-name.ensures.value))))
    c.in_ok-on.ensures.keeps c.in_ok-define_number.ensures.keeps c.in_ok-define_number.ensures.nodes
    c.in_ok-on.ensures.meaning c.in_ok-define_number.ensures.defined
