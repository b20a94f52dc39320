use Rattle.hv_base.specs.Bundles.{HasMain}
use Rattle.hv_preproc.proofs.tests.limits.chain.Given as goal

abbrev pub invariant-loop-i : goal.invariant-loop-i
invariant-loop-i l = HasMain l.bundle
