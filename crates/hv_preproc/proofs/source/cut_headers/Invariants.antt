use Rattle.std.proofs.Common.{◌-◌, ◌≤◌, take}
use Rattle.hv_plainpp.specs.Files.{header_names}
use Rattle.hv_preproc.specs.working.Sources.{AreHeadersOf}
use Rattle.hv_preproc.proofs.source.cut_headers.Given as goal

-- the headers so far
abbrev pub invariant-loop-name : goal.invariant-loop-name
invariant-loop-name l = record {
  made : AreHeadersOf l.headers.items (take l.row header_names);
  within : l.row ≤ 7;
}

abbrev pub decreases-loop-name : goal.decreases-loop-name
decreases-loop-name l = 7 - l.row
