use Rattle.std.proofs.Common.{◌≡◌, ◌++◌, take}
use Rattle.std.specs.List.{flat_map}
use Rattle.hv_plain.specs.Program.{shown, declaration_tokens}
use Rattle.hv_plain.specs.Run.{variables_of}
use Rattle.hv_encode.proofs.small.print.write_declarations.Given as goal

abbrev pub invariant-loop-option : goal.invariant-loop-option
invariant-loop-option l =
    l.text ≡ l.fn.text ++ shown (flat_map declaration_tokens
    (variables_of (take l.option l.model.names)))
