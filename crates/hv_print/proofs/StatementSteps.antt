-- What a printer of declarations, statements and programs rewrites by.
use Rattle.hv_ctree.proofs.EraseStatementLemmas.{erasing_statements}
use Rattle.hv_print.proofs.StatementListsLemmas.{lists}
use Rattle.hv_print.proofs.PrintedLemmas.{printing}

-- lists of children, and terminals one after another
pub ruleset statement_steps = (printing, erasing_statements, lists)
