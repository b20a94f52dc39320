use Rattle.hv_base.specs.Bundles.{HasMain}
use Rattle.hv_preproc.proofs.tests.bundle_of.Given as goal

abbrev pub invariant-loop-name : goal.invariant-loop-name
invariant-loop-name l = HasMain l.bundle
