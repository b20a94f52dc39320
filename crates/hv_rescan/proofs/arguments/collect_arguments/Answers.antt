use Rattle.hv_rescan.proofs.ArgumentLists.{none_left}
use Rattle.hv_rescan.specs.Values.{unread_of}
use Rattle.hv_rescan.specs.working.Drafts.{nothing}
use Rattle.hv_rescan.proofs.arguments.collect_arguments.Goals as goal

pub returns-clause-left : goal.returns-clause-left
returns-clause-left c =
    none_left nothing c.in_ok-token.field-0 _ c.take.new.front
    (unread_of c.args.run.now c.take.new.unread) _ c.in_default.is
    (c.in_ok-token.ensures.takes nothing)
