use Rattle.hv_cond.specs.Laws.{Keeps-trans}
use Rattle.hv_cond_bench.proofs.pairs_and_chains.either.Goals as goal

pub returns-in_err-other-clause-keeps : goal.returns-in_err-other-clause-keeps
returns-in_err-other-clause-keeps c = Keeps-trans c.var.ensures.keeps c.var-2.ensures.keeps

pub returns-clause-keeps : goal.returns-clause-keeps
returns-clause-keeps c = Keeps-trans (Keeps-trans c.var.ensures.keeps c.var-2.ensures.keeps) c.or.ensures.keeps
