use Rattle.hv_rescan.specs.Values.{state_of}
use Rattle.hv_rescan.proofs.machine.Machine.stop.Goals as goal

pub returns-clause-stops : goal.returns-clause-stops
unfolding state_of
returns-clause-stops c macros t s fs e =
    c.stopped-state.ensures macros c.args.self.run.tokens.now c.args.self.run.ends t s fs e
