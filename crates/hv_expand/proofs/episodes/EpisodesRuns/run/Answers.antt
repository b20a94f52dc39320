use Rattle.std.proofs.lemmas.Result.{IfOk-weaker}
use Rattle.hv_expand.proofs.Running.{class_of, right_of}
use Rattle.hv_expand.proofs.episodes.EpisodesRuns.run.Goals as goal

pub returns-clause-class : goal.returns-clause-class
returns-clause-class c =
    IfOk-weaker c.find.result _ _
    (λ found f. class_of c.args.store.now c.find.new.store c.args.self.now c.args.cond found f)
    c.find.ensures.found

pub returns-clause-right : goal.returns-clause-right
returns-clause-right c =
    IfOk-weaker c.find.result _ _
    (λ found f. right_of c.args.store.now c.find.new.store c.args.self.now c.args.cond found f)
    c.find.ensures.found
