use Rattle.std.proofs.Common.{◌≡◌, take}
use Rattle.hv_cli.specs.Definitions.{definitions_of}
use Rattle.hv_cli.proofs.options.definitions.Given as goal

abbrev pub invariant-loop-i : goal.invariant-loop-i
invariant-loop-i l = l.text ≡ definitions_of (take l.i l.model.names) (take l.i l.config.on)
