-- What is printed, with what is left of the list, is the list.
use Rattle.std.proofs.Common.{◌≡◌, ◌++◌, drop}
use Rattle.hv_ctree.specs.tree.Erase.{pointers_of}
use Rattle.hv_grammar.specs.Tokens.{pointers_tokens}
use Rattle.hv_print.specs.working.Printed.{printed}
use Rattle.hv_print.proofs.ListsLemmas.{pointers_left}
use Rattle.hv_print.proofs.declarator.put_pointers.Given as goal

abbrev pub invariant-loop-pointer : goal.invariant-loop-pointer
invariant-loop-pointer l =
    l.out ++ printed (pointers_left (drop l.pointer-index l.pointer-items))
    ≡ l.initial.out ++ printed (pointers_tokens (pointers_of l.pointer-items))
