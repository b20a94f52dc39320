use Rattle.hv_ctoks.proofs.Images.{image}
use Rattle.hv_ctoks.proofs.conversion.convert.Goals as goal

pub returns-clause-token : goal.returns-clause-token
returns-clause-token c = λ kind text i h tok e. image c.args.reserved tok kind text i h e
