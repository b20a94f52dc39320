use Rattle.std.proofs.Common.{sym, ap, ◌∙◌, length, Option}
use Rattle.hv_rescan.specs.Values.{unread_of}
use Rattle.hv_rescan.specs.declared.scan.Unread.{Unread}
use Rattle.hv_rescan.proofs.Ends.{unread_length}
use Rattle.hv_rescan.proofs.machine.left.Goals as goal

pub returns-then-unread-run-clause-count : goal.returns-then-unread-run-clause-count
returns-then-unread-run-clause-count c =
    sym (ap (λ (u : Option Unread). length (unread_of c.args.run.now u)) c.in-Some.is
    ∙ unread_length c.args.run.now c.in-Some.unread)
