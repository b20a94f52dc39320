use Rattle.hv_grammar.proofs.OneTree.{one_tree}
use Rattle.hv_grammar.proofs.Verdict.{element_tree}
use Rattle.hv_grammar.proofs.laws.has_one_tree.Goals as goal

pub returns-clause-expressions : goal.returns-clause-expressions
returns-clause-expressions c = one_tree

pub returns-clause-elements : goal.returns-clause-elements
returns-clause-elements c = element_tree
