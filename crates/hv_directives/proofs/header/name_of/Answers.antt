use Rattle.std.proofs.Common.{◌-◌, length}
use Rattle.hv_directives.proofs.HeadersLemmas.{IsUtf8-within}
use Rattle.hv_directives.proofs.header.name_of.Goals as goal

pub unreachable-requires : goal.unreachable-requires
unreachable-requires c =
    c.in-Err.ensures.cases.0
    (IsUtf8-within (length c.args.text.now - 1 - 1) 1 c.args.text.now c.requires)
