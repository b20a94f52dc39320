use Rattle.hv_grammar.proofs.ControlElements.{step_alike, ends_alike_too}
use Rattle.hv_grammar.proofs.ControlItself.{same_state, names_alike}
use Rattle.hv_grammar.proofs.laws.decides_by_control.Goals as goal

pub returns-clause-itself : goal.returns-clause-itself
returns-clause-itself c = same_state

pub returns-clause-steps : goal.returns-clause-steps
returns-clause-steps c = step_alike

pub returns-clause-ends : goal.returns-clause-ends
returns-clause-ends c = ends_alike_too

pub returns-clause-types : goal.returns-clause-types
returns-clause-types c = names_alike
