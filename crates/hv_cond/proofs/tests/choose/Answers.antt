use Rattle.hv_cond.specs.Laws.{Keeps-trans}
use Rattle.hv_cond.proofs.tests.choose.Goals as goal

pub returns-in_err-when_true-clause-keeps : goal.returns-in_err-when_true-clause-keeps
returns-in_err-when_true-clause-keeps c = Keeps-trans c.var.ensures.keeps c.and.ensures.keeps

pub returns-in_err-opposite-clause-keeps : goal.returns-in_err-opposite-clause-keeps
returns-in_err-opposite-clause-keeps c = Keeps-trans (Keeps-trans c.var.ensures.keeps c.and.ensures.keeps) c.not.ensures.keeps

pub returns-in_err-when_false-clause-keeps : goal.returns-in_err-when_false-clause-keeps
returns-in_err-when_false-clause-keeps c = Keeps-trans (Keeps-trans (Keeps-trans c.var.ensures.keeps c.and.ensures.keeps) c.not.ensures.keeps) c.and-2.ensures.keeps

pub returns-clause-keeps : goal.returns-clause-keeps
returns-clause-keeps c = Keeps-trans (Keeps-trans (Keeps-trans (Keeps-trans c.var.ensures.keeps c.and.ensures.keeps) c.not.ensures.keeps) c.and-2.ensures.keeps) c.or.ensures.keeps
