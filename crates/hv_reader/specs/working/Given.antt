-- What is answered to an element's own tokens, but for the tree.
use Rattle.std.specs.Prelude.{◌≡◌, List, Result, Ok, Err}
use Rattle.hv_ctree.specs.tree.Statements.{Skeleton}
use Rattle.hv_grammar.specs.Symbols.{Token}
use Rattle.hv_grammar.specs.Elements.{Standing}
use Rattle.hv_grammar.specs.Refusal.{Limits}
use Rattle.hv_grammar.specs.machine.Answers.{Accepted, Refused, element_answer}
use Rattle.hv_cparse.specs.declared.fault.ParseFault.{ParseFault}
use Rattle.hv_cparse.specs.declared.fault.ParseFault.TheVariants.{Plain, Memory}

-- the fault is the machine's answer, or memory ran out
abbrev pub IsFault : Limits → Standing → List Token → ParseFault → Type 0
IsFault l s ts (Plain at why) = element_answer l s ts ≡ Refused at why
IsFault l s ts Memory = Unit {0}

-- what the machine answers to the tokens
abbrev pub IsGiven : Limits → Standing → List Token → Result Unit ParseFault → Type 0
IsGiven l s ts (Ok u) = (tree : Skeleton) × (element_answer l s ts ≡ Accepted tree)
IsGiven l s ts (Err fault) = IsFault l s ts fault
