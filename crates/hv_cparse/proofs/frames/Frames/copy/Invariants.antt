use Rattle.std.proofs.Common.{◌≡◌, reverse, take}
use Rattle.hv_cparse.proofs.frames.Frames.copy.Given as goal

abbrev pub invariant-loop-frame : goal.invariant-loop-frame
invariant-loop-frame l = l.copy ≡ reverse (take l.frame-index l.frames)
