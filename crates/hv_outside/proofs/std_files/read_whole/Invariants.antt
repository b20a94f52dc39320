use Rattle.std.proofs.Common.{◌≤◌, length}
use Rattle.hv_base.specs.declared.limits.TheConstants.{MOST_FILE_BYTES}
use Rattle.hv_outside.proofs.std_files.read_whole.Given as goal

-- what was read so far is no more than a file may have
abbrev pub invariant-chunks : goal.invariant-chunks
invariant-chunks g l = length l.bytes ≤ MOST_FILE_BYTES
