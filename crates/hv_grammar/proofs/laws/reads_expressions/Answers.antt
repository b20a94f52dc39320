use Rattle.hv_grammar.proofs.OneTree.{complete}
use Rattle.hv_grammar.proofs.Soundness.{sound}
use Rattle.hv_grammar.proofs.laws.reads_expressions.Goals as goal

pub returns-clause-sound : goal.returns-clause-sound
returns-clause-sound c = λ ts us n y a h e. sound h e

pub returns-clause-complete : goal.returns-clause-complete
returns-clause-complete c = λ ts us a r. let h = complete r in (h.there, h.moves, h.ends)
