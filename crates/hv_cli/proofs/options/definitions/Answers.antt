use Rattle.std.proofs.Common.{arith}
use Rattle.hv_cli.proofs.DefinitionsLemmas.{definitions-add}
use Rattle.hv_cli.proofs.options.definitions.Goals as goal

pub loop-i-preserved : goal.loop-i-preserved
loop-i-preserved c =
    definitions-add c.args.model.now.names c.args.config.now.on c.loop-i.i c.name.result.now
    c.loop-i.text c.add_definition.new.text c.is_on.result c.loop-i.invariant
    (omega (arith, c.options-i-end.ensures.count, c.loop-i-test.true)) c.requires c.is_on.ensures
    c.name.ensures c.in_ok-add_definition.ensures
