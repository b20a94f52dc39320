-- What is answered to tokens, but for the tree.
use Rattle.std.specs.Prelude.{◌≡◌, List, [], Result, Ok, Err}
use Rattle.hv_ctree.specs.tree.Expressions.{Expr}
use Rattle.hv_grammar.specs.Symbols.{Token}
use Rattle.hv_grammar.specs.Refusal.{Limits}
use Rattle.hv_grammar.specs.machine.Steps.{want}
use Rattle.hv_grammar.specs.machine.Answers.{Accepted, Refused, answer}
use Rattle.hv_cparse.specs.declared.fault.ParseFault.{ParseFault}
use Rattle.hv_cparse.specs.declared.fault.ParseFault.TheVariants.{Plain, Memory}

-- the fault is the machine's answer, or memory ran out
abbrev pub IsFault : Limits → List Token → ParseFault → Type 0
IsFault l ts (Plain at why) = answer l (want []) 0 0 ts ≡ Refused at why
IsFault l ts Memory = Unit {0}

-- what the machine answers to the tokens
abbrev pub IsGiven : Limits → List Token → Result Unit ParseFault → Type 0
IsGiven l ts (Ok u) = (tree : Expr) × (answer l (want []) 0 0 ts ≡ Accepted tree)
IsGiven l ts (Err fault) = IsFault l ts fault
