use Rattle.hv_rescan.specs.Values.{open_names, state_of}
use Rattle.hv_rescan.proofs.machine.Machine.settle.Goals as goal

pub returns-clause-settles : goal.returns-clause-settles
unfolding state_of open_names
returns-clause-settles c name names e macros d =
    c.in_ok-state.ensures.settles name names e macros c.args.self.run.tokens.now d
