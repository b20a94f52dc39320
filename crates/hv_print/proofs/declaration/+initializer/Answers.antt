use Rattle.std.proofs.Common.{◌≡◌, arith, ap}
use Rattle.hv_ctree.specs.tree.EraseStatements.{initializer_of}
use Rattle.hv_ctree.specs.tree.Statements as plain
use Rattle.hv_ctree.proofs.EraseStatementLemmas.{initializers_hidden}
use Rattle.hv_grammar.specs.Tokens.{initializer_tokens}
use Rattle.hv_print.specs.working.Printed.{printed}
use Rattle.hv_print.proofs.PrintedLemmas.{printing}
use Rattle.hv_print.proofs.declaration.+initializer.Goals as goal

pub print_initializer-returns-in_ok-print_initializers-in-List : goal.print_initializer-returns-in_ok-print_initializers-in-List
print_initializer-returns-in_ok-print_initializers-in-List t c =
    grind (arith, printing, ap (λ x. printed (initializer_tokens (initializer_of x))) c.in-List.is, initializers_hidden plain.no_initializers c.in-List.items)

pub print_initializer-returns-in_ok-put_punct-in-ListComma-2 : goal.print_initializer-returns-in_ok-put_punct-in-ListComma-2
print_initializer-returns-in_ok-put_punct-in-ListComma-2 t c =
    grind (arith, printing, ap (λ x. printed (initializer_tokens (initializer_of x))) c.in-ListComma.is, initializers_hidden plain.no_initializers c.in-ListComma.items)
