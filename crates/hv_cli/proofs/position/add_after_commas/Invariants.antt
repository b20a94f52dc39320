use Rattle.std.proofs.Common.{◌≡◌, ◌++◌, take}
use Rattle.hv_cli.specs.Positions.{after_commas}
use Rattle.hv_cli.proofs.position.add_after_commas.Given as goal

abbrev pub invariant-loop-number : goal.invariant-loop-number
invariant-loop-number l =
    l.text ≡ l.initial.text ++ after_commas (take l.number-index l.numbers)
