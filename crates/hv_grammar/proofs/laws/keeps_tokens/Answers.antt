use Rattle.hv_grammar.proofs.Spelling.{whole_expression_read}
use Rattle.hv_grammar.proofs.SpellingElements.{whole_element_read}
use Rattle.hv_grammar.proofs.laws.keeps_tokens.Goals as goal

pub returns-clause-expressions : goal.returns-clause-expressions
returns-clause-expressions c = λ d k ts a r. whole_expression_read r

pub returns-clause-elements : goal.returns-clause-elements
returns-clause-elements c = λ s ts k r. whole_element_read r
