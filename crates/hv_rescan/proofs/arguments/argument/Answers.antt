use Rattle.hv_rescan.proofs.ArgumentLists.{argument_at, argument_past}
use Rattle.std.proofs.Common.{◌<◌, ◌≤◌, ap, ◌∙◌, arith, length}
use Rattle.hv_rescan.specs.Values.{tokens_of}
use Rattle.hv_rescan.proofs.arguments.argument.Goals as goal

pub returns-then-index-arguments : goal.returns-then-index-arguments
returns-then-index-arguments c macros =
    let h : length c.args.arguments.now ≤ c.args.index = omega arith in
    ap (tokens_of macros) c.none.ensures
    ∙ argument_past macros c.args.arguments.now c.args.index h

pub returns : goal.returns
returns c macros =
    let h : c.args.index < length c.args.arguments.now = omega arith in
    ap (tokens_of macros) c.in_ok-copy.ensures
    ∙ argument_at macros c.args.arguments.now c.args.index c.index-arguments-index.result h
    c.index-arguments-index.is
