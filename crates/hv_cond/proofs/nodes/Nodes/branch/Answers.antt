use Rattle.std.proofs.Common.{sym}
use Rattle.hv_cond.specs.working.Nodes.{newest_first}
use Rattle.hv_cond.proofs.Branches.{placed}
use Rattle.hv_cond.proofs.Tables.{Extends-push, meaning-push}
use Rattle.hv_cond.proofs.nodes.Nodes.branch.Goals as goal

pub returns-in-Some-clause-node : goal.returns-in-Some-clause-node
returns-in-Some-clause-node c =
    let s = c.args.self.now in
    (placed s.variables (newest_first s) c.requires.reduced.ordered c.args.decision c.in-Some.place (sym c.in-Some.ensures)).0

pub returns-in-Some-clause-meaning : goal.returns-in-Some-clause-meaning
returns-in-Some-clause-meaning c =
    let s = c.args.self.now in
    (placed s.variables (newest_first s) c.requires.reduced.ordered c.args.decision c.in-Some.place (sym c.in-Some.ensures)).1.meaning

pub returns-in-None-clause-extends : goal.returns-in-None-clause-extends
returns-in-None-clause-extends c =
    Extends-push c.args.self.now c.push.new.self c.args.decision c.push.result c.push.ensures.variables c.push.ensures.ok c.push.ensures.err

pub returns-in-None-clause-meaning : goal.returns-in-None-clause-meaning
returns-in-None-clause-meaning c =
    meaning-push c.args.self.now c.push.new.self c.args.decision c.push.result c.push.ensures.ok c.push.ensures.place
