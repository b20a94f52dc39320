use Rattle.hv_macros.proofs.SplitLemmas.{IsSplitting}
use Rattle.hv_macros.proofs.alternatives.split.Given as goal

abbrev pub invariant-loop-alternative : goal.invariant-loop-alternative
invariant-loop-alternative l = IsSplitting l.initial.store l.store l.fn.cond l.rest l.alternatives l.alternative-index l.parts
