use Rattle.hv_model.specs.Lines.{says_nothing, bad}
use Rattle.hv_model.proofs.model.Model.add_line.Goals as goal

pub returns-in-Nothing-clause-added : goal.returns-in-Nothing-clause-added
returns-in-Nothing-clause-added c = λ more o h. says_nothing c.in-Nothing.ensures h

pub returns-in-Bad-clause-refused : goal.returns-in-Bad-clause-refused
returns-in-Bad-clause-refused c = rw c.bad.ensures (λ more. bad c.in-Bad.ensures)
