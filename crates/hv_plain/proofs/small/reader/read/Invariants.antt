use Rattle.std.proofs.Common.{◌≡◌, length, drop}
use Rattle.std.specs.List.{slice_split}
use Rattle.hv_plain.specs.Bytes.{is_gap}
use Rattle.hv_plain.specs.working.SmallReader.{run_from, answer, wanted_of}
use Rattle.hv_plain.proofs.small.reader.read.Given as goal

-- what is left of the tokens has the answer of them all
abbrev pub invariant-loop-token : goal.invariant-loop-token
invariant-loop-token l = record {
  each_option : length l.known.items ≡ length l.model.names;
  same_answer : run_from l.model.names l.config.on (wanted_of l.due) l.known.items l.output
      (drop (length l.yielded) (slice_split is_gap l.text))
      ≡ answer l.model.names l.config.on l.text;
}
