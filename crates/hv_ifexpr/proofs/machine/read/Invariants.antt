use Rattle.std.proofs.Common.{◌≡◌, [], drop}
use Rattle.hv_plain.specs.controlling.Grammar.{symbols}
use Rattle.hv_ifexpr.specs.working.Machine.{run, state_of, want}
use Rattle.hv_ifexpr.proofs.machine.read.Given as goal

abbrev pub invariant-loop-token : goal.invariant-loop-token
invariant-loop-token l =
    run (want []) (symbols l.tokens)
    ≡ run (state_of l.machine) (symbols (drop l.token-index l.tokens))
