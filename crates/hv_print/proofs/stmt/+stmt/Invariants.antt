-- What is printed, with what is left of the list, is the list.
use Rattle.std.proofs.Common.{◌≡◌, ◌++◌, drop}
use Rattle.hv_ctree.specs.tree.EraseStatements.{items_of}
use Rattle.hv_print.specs.ProgramTokens.{items_tokens}
use Rattle.hv_print.specs.working.Printed.{printed}
use Rattle.hv_print.proofs.StatementListsLemmas.{items_left}
use Rattle.hv_print.proofs.stmt.+stmt.Given as goal

abbrev pub invariant-print_items-loop-item : goal.invariant-print_items-loop-item
invariant-print_items-loop-item l =
    l.out ++ printed (items_left (drop l.item-index l.item-items))
    ≡ l.initial.out ++ printed (items_tokens (items_of l.item-items))
