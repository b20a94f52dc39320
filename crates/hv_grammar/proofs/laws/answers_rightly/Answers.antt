use Rattle.std.proofs.Common.{None}
use Rattle.hv_grammar.proofs.OneRefusal.{refused_answer}
use Rattle.hv_grammar.proofs.Verdict.{answered, derived_answer, says_expression, derived_expression}
use Rattle.hv_grammar.proofs.laws.answers_rightly.Goals as goal

pub returns-clause-exact : goal.returns-clause-exact
returns-clause-exact c = λ l ts. says_expression l ts _ (answered None l ts)

pub returns-clause-only : goal.returns-clause-only
returns-clause-only c = λ l ts a d. derived_answer None l ts a (derived_expression d)

pub returns-clause-only_refusal : goal.returns-clause-only_refusal
returns-clause-only_refusal c = λ l ts i why h. refused_answer None l h
