-- What is printed, with what is left of the list, is the list.
use Rattle.std.proofs.Common.{◌≡◌, ◌++◌, drop}
use Rattle.hv_ctree.specs.tree.Erase.{qualifiers_of}
use Rattle.hv_grammar.specs.Tokens.{qualifiers_tokens}
use Rattle.hv_print.specs.working.Printed.{printed}
use Rattle.hv_print.proofs.ListsLemmas.{qualifiers_left}
use Rattle.hv_print.proofs.declarator.put_qualifiers.Given as goal

abbrev pub invariant-loop-qualifier : goal.invariant-loop-qualifier
invariant-loop-qualifier l =
    l.out ++ printed (qualifiers_left (drop l.qualifier-index l.qualifier-items))
    ≡ l.initial.out ++ printed (qualifiers_tokens (qualifiers_of l.qualifier-items))
