use Rattle.std.proofs.Common.{Some}
use Rattle.hv_grammar.proofs.OneRefusal.{refused_answer}
use Rattle.hv_grammar.proofs.Verdict.{answered, derived_answer, says_element, derived_element}
use Rattle.hv_grammar.proofs.laws.answers_elements_rightly.Goals as goal

pub returns-clause-exact : goal.returns-clause-exact
returns-clause-exact c = λ l s ts. says_element s l ts _ (answered (Some s) l ts)

pub returns-clause-only : goal.returns-clause-only
returns-clause-only c = λ l s ts k d. derived_answer (Some s) l ts k (derived_element d)

pub returns-clause-only_refusal : goal.returns-clause-only_refusal
returns-clause-only_refusal c = λ l s ts i why h. refused_answer (Some s) l h
