use Rattle.std.proofs.Common.{◌≡◌, arith, ap}
use Rattle.hv_ctree.specs.tree.EraseStatements.{stmt_of}
use Rattle.hv_ctree.specs.tree.Statements as plain
use Rattle.hv_ctree.proofs.EraseStatementLemmas.{items_hidden}
use Rattle.hv_print.specs.ProgramTokens.{statement_tokens}
use Rattle.hv_print.specs.working.Printed.{printed}
use Rattle.hv_print.proofs.PrintedLemmas.{printing}
use Rattle.hv_print.proofs.stmt.+stmt.Goals as goal

pub print_stmt-returns-in_ok-print_items-in-Compound : goal.print_stmt-returns-in_ok-print_items-in-Compound
print_stmt-returns-in_ok-print_items-in-Compound t c =
    grind (arith, printing, ap (λ x. printed (statement_tokens (stmt_of x))) c.in-Compound.is, items_hidden plain.no_items c.in-Compound.items)

pub print_stmt-returns-in_ok-print_for-in-For : goal.print_stmt-returns-in_ok-print_for-in-For
print_stmt-returns-in_ok-print_for-in-For t c =
    grind (arith, printing, ap (λ x. printed (statement_tokens (stmt_of x))) c.in-For.is)

pub print_stmt-returns-in_ok-print_for_declaration-in-ForDeclaration : goal.print_stmt-returns-in_ok-print_for_declaration-in-ForDeclaration
print_stmt-returns-in_ok-print_for_declaration-in-ForDeclaration t c =
    grind (arith, printing, ap (λ x. printed (statement_tokens (stmt_of x))) c.in-ForDeclaration.is)
