-- What is printed, with what is left of the list, is the list.
use Rattle.std.proofs.Common.{◌≡◌, ◌++◌, drop}
use Rattle.hv_ctree.specs.tree.EraseStatements.{init_declarators_after}
use Rattle.hv_ctree.specs.tree.Statements.{no_init_declarators}
use Rattle.hv_grammar.specs.Tokens.{init_declarators_tokens}
use Rattle.hv_print.specs.working.Printed.{printed}
use Rattle.hv_print.proofs.StatementListsLemmas.{init_declarators_left}
use Rattle.hv_print.proofs.declaration.print_init_declarators.Given as goal

abbrev pub invariant-loop-index : goal.invariant-loop-index
invariant-loop-index l =
    l.out ++ printed (init_declarators_left l.index (drop l.index l.declarator-items))
    ≡ l.initial.out ++ printed (init_declarators_tokens (init_declarators_after no_init_declarators l.declarator-items))
