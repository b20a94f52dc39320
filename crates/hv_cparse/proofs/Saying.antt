-- What an answer to tokens says of them, by the law on the machine's answers.
use Rattle.std.proofs.Common.{List, Result, Ok, Err, IfOk, IfErr, subst}
use Rattle.hv_ctree.specs.tree.Expressions.{Expr}
use Rattle.hv_grammar.specs.Symbols.{Token}
use Rattle.hv_grammar.specs.Refusal.{Limits}
use Rattle.hv_grammar.specs.Grammar.{DerivesExpression}
use Rattle.hv_grammar.specs.Laws.{AnswersAreRight, Says}
use Rattle.hv_cparse.specs.declared.fault.ParseFault.{ParseFault}
use Rattle.hv_cparse.specs.declared.fault.ParseFault.TheVariants.{Plain, Memory}
use Rattle.hv_cparse.specs.Control.{IsRefusal}
use Rattle.hv_cparse.specs.working.Given.{IsFault, IsGiven}

pub derived_so : AnswersAreRight → (r : Result (Unit {0}) ParseFault) (l : Limits)
    (ts : List Token) → IsGiven l ts r
    → IfOk r (λ u. (tree : Expr) × DerivesExpression l ts tree)
derived_so right (Ok u) l ts h = (h.0, subst (Says l ts) h.1 (right l ts))
derived_so right (Err fault) l ts h = tt

fault_so : AnswersAreRight → (fault : ParseFault) (l : Limits) (ts : List Token)
    → IsFault l ts fault → IsRefusal l ts fault
fault_so right (Plain at why) l ts h = subst (Says l ts) h (right l ts)
fault_so right Memory l ts h = tt

pub refused_so : AnswersAreRight → (r : Result (Unit {0}) ParseFault) (l : Limits)
    (ts : List Token) → IsGiven l ts r → IfErr r (λ fault. IsRefusal l ts fault)
refused_so right (Ok u) l ts h = tt
refused_so right (Err fault) l ts h = fault_so right fault l ts h
