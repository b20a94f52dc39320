-- The external declarations so far are printed.
use Rattle.std.proofs.Common.{◌≡◌, ◌++◌, drop, map}
use Rattle.std.specs.declared.rc.Rc.{Rc}
use Rattle.std.specs.declared.alloc.Global.{Global}
use Rattle.hv_ctree.specs.declared.tree.stmt.ExternalDeclaration.{ExternalDeclaration}
use Rattle.hv_ctree.specs.tree.EraseStatements.{external_of}
use Rattle.hv_print.specs.working.Printed.{printed}
use Rattle.hv_print.proofs.StatementListsLemmas.{externals_left}
use Rattle.hv_print.proofs.program.print.Given as goal

abbrev pub invariant-loop-external : goal.invariant-loop-external
invariant-loop-external l =
    l.text ++ printed (externals_left (drop l.external-index l.external-items))
    ≡ printed (externals_left l.external-items)
