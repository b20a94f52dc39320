use Rattle.hv_cond.specs.Laws.{Keeps-trans}
use Rattle.hv_cond_bench.proofs.queens.not_both.Goals as goal

pub returns-in_err-other-clause-keeps : goal.returns-in_err-other-clause-keeps
returns-in_err-other-clause-keeps c = Keeps-trans c.var.ensures.keeps c.var-2.ensures.keeps

pub returns-in_err-both-clause-keeps : goal.returns-in_err-both-clause-keeps
returns-in_err-both-clause-keeps c = Keeps-trans (Keeps-trans c.var.ensures.keeps c.var-2.ensures.keeps) c.and.ensures.keeps

pub returns-clause-keeps : goal.returns-clause-keeps
returns-clause-keeps c = Keeps-trans (Keeps-trans (Keeps-trans c.var.ensures.keeps c.var-2.ensures.keeps) c.and.ensures.keeps) c.not.ensures.keeps
