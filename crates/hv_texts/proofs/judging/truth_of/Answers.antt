use Rattle.hv_texts.proofs.Evaluating.{no_truth, truth_is}
use Rattle.hv_texts.proofs.judging.truth_of.Goals as goal

pub returns-in-Ok : goal.returns-in-Ok
returns-in-Ok c = truth_is c.args.tokens.now c.in-Ok.truth c.in-Ok.ensures.ok c.in-Ok.ensures.only

pub returns-in-Err-Bad : goal.returns-in-Err-Bad
returns-in-Err-Bad c = no_truth c.args.tokens.now (c.in-Err-Bad.ensures.bad c.in-Err-Bad.field-0-is)
