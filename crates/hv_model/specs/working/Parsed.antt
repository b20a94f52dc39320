-- The reader of rules as the machine.
use Rattle.hv_model.specs.working.Machine.{Machine}
use Rattle.hv_model.specs.working.Steps.{items_of}
use Rattle.hv_model.specs.declared.parser.Parser.{Parser}

-- the machine that a reader of rules is
abbrev pub machine_of : Parser → Machine
machine_of p = record { wants = p.wants; top = p.top; outer = p.outer; items = items_of p.code }
