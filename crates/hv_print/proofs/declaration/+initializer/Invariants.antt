-- What is printed, with what is left of the list, is the list.
use Rattle.std.proofs.Common.{◌≡◌, ◌++◌, drop}
use Rattle.hv_ctree.specs.tree.EraseStatements.{initializers_of}
use Rattle.hv_grammar.specs.Tokens.{initializers_tokens}
use Rattle.hv_print.specs.working.Printed.{printed}
use Rattle.hv_print.proofs.StatementListsLemmas.{initializers_left}
use Rattle.hv_print.proofs.declaration.+initializer.Given as goal

abbrev pub invariant-print_initializers-loop-index : goal.invariant-print_initializers-loop-index
invariant-print_initializers-loop-index l =
    l.out ++ printed (initializers_left l.index (drop l.index l.item-items))
    ≡ l.initial.out ++ printed (initializers_tokens (initializers_of l.item-items))
