use Rattle.hv_cond.specs.Laws.{Keeps-trans}
use Rattle.hv_cond_bench.proofs.works.same.Goals as goal

pub returns-in_err-half-clause-keeps : goal.returns-in_err-half-clause-keeps
returns-in_err-half-clause-keeps c = Keeps-trans c.pairs.ensures.keeps c.pairs-2.ensures.keeps

pub returns-clause-keeps : goal.returns-clause-keeps
returns-clause-keeps c = Keeps-trans (Keeps-trans c.pairs.ensures.keeps c.pairs-2.ensures.keeps) c.repeat.ensures.keeps
