use Rattle.hv_cparse.specs.Control.{limits_of}
use Rattle.hv_cparse.proofs.Counting.{take_cause, take_taken}
use Rattle.hv_cparse.proofs.control.Control.take.Goals as goal

pub returns-clause-cause : goal.returns-clause-cause
returns-clause-cause c =
    take_cause c.advance.result (limits_of c.args.limits) c.args.self.now.operators
    c.args.self.now.frames c.args.self.now.at c.args.class c.advance.ensures.cause

pub returns-clause-taken : goal.returns-clause-taken
returns-clause-taken c =
    take_taken c.advance.result c.args.self.now.operators c.args.self.now.frames
    c.args.self.now.at c.args.class c.advance.new.self.frames c.advance.new.self.at
    c.advance.new.self.operators c.advance.ensures.taken
