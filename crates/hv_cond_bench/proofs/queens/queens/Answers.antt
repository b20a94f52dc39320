use Rattle.hv_cond.specs.Laws.{Keeps-trans}
use Rattle.hv_cond_bench.proofs.queens.queens.Goals as goal

pub returns-in_err-peaceful-clause-keeps : goal.returns-in_err-peaceful-clause-keeps
returns-in_err-peaceful-clause-keeps c = Keeps-trans c.rows.ensures.keeps c.no_attacks.ensures.keeps

pub returns-clause-keeps : goal.returns-clause-keeps
returns-clause-keeps c = Keeps-trans (Keeps-trans c.rows.ensures.keeps c.no_attacks.ensures.keeps) c.and.ensures.keeps
