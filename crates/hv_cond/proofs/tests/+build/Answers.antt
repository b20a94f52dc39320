use Rattle.hv_cond.specs.Laws.{Keeps-trans}
use Rattle.hv_cond.proofs.tests.+build.Goals as goal

pub returns-in_err-high-clause-keeps : goal.returns-in_err-high-clause-keeps
returns-in_err-high-clause-keeps t c = Keeps-trans c.build.ensures.keeps c.build-2.ensures.keeps

pub returns-clause-keeps : goal.returns-clause-keeps
returns-clause-keeps t c = Keeps-trans (Keeps-trans c.build.ensures.keeps c.build-2.ensures.keeps) c.choose.ensures.keeps
