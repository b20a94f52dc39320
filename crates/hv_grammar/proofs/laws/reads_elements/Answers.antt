use Rattle.hv_grammar.proofs.ArrivingStatements.{read_element}
use Rattle.hv_grammar.proofs.Languages.{sound_element}
use Rattle.hv_grammar.proofs.laws.reads_elements.Goals as goal

pub returns-clause-sound : goal.returns-clause-sound
returns-clause-sound c = λ s ts us n y k h e. sound_element s h e

pub returns-clause-complete : goal.returns-clause-complete
returns-clause-complete c = λ s ts us k r. let h = read_element r in (h.there, h.moves, h.ends)
