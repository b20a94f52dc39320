use Rattle.std.proofs.Common.{drop}
use Rattle.hv_preproc.proofs.FileWalk.{IsWalked}
use Rattle.hv_preproc.proofs.walk.+read_file.Given as goal

-- the pieces so far are read, and each inclusion leaves one fewer
abbrev pub invariant-loop-piece : goal.invariant-loop-piece
invariant-loop-piece l =
    IsWalked l.fn.store l.store l.fn.unit l.unit l.pages.bundle.now l.page l.fn.stack l.fn.cond l.left
    l.file (drop l.piece-index l.piece-items)

abbrev pub decreases-read_file : goal.decreases-read_file
decreases-read_file l = l.left
