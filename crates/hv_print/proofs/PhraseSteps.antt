-- What a printer of expressions, specifiers and declarators rewrites by.
use Rattle.hv_ctree.proofs.EraseLemmas.{erasing}
use Rattle.hv_print.proofs.ListsLemmas.{lists}
use Rattle.hv_print.proofs.PrintedLemmas.{printing}

-- lists and options of children, and terminals one after another
pub ruleset phrase_steps = (printing, erasing, lists)
