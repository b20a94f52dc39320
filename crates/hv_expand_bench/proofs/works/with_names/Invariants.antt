use Rattle.hv_expand_bench.specs.Families.{IsFamily}
use Rattle.hv_expand_bench.proofs.works.with_names.Given as goal

abbrev pub invariant-loop-i : goal.invariant-loop-i
invariant-loop-i l = IsFamily l.family
