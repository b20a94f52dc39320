use Rattle.std.proofs.Common.{sym}
use Rattle.hv_encode.proofs.GroupsLemmas.{top_cond, no_top}
use Rattle.hv_encode.proofs.small.group.cond_within.Goals as goal

pub returns-in-Some : goal.returns-in-Some
returns-in-Some c =
    top_cond c.args.store.now c.args.open_groups.now c.in-Some.innermost.now c.requires.conds
    (sym c.in-Some.ensures)

pub returns-in-None : goal.returns-in-None
returns-in-None c =
    no_top c.args.store.now c.args.open_groups.now c.truth.result (sym c.in-None.ensures)
    c.truth.ensures.node c.truth.ensures.meaning
