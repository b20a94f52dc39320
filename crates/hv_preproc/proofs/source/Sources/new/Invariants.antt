use Rattle.std.proofs.Common.{◌≡◌, length}
use Rattle.hv_preproc.proofs.SourceLemmas.{AreFilesOf}
use Rattle.hv_preproc.proofs.source.Sources.new.Given as goal

-- the files so far
abbrev pub invariant-loop-number : goal.invariant-loop-number
invariant-loop-number l = record {
  count : length l.files.items ≡ l.number;
  made : AreFilesOf l.bundle l.files.items;
}
