use Rattle.std.proofs.Common.{sym, subst}
use Rattle.hv_model.specs.working.ModelLine.{IsRead}
use Rattle.hv_model.proofs.OneReading.{says_one}
use Rattle.hv_model.proofs.ReadModel.{read_none, read_some}
use Rattle.hv_model.proofs.diagram.read_diagram.Goals as goal

pub returns-in_err-model-clause-one_reading : goal.returns-in_err-model-clause-one_reading
returns-in_err-model-clause-one_reading c = says_one c.args.bytes.now

pub returns-in_default-clause-one_reading : goal.returns-in_default-clause-one_reading
returns-in_default-clause-one_reading c = says_one c.args.bytes.now

pub returns-in-Ok-Some-clause-accepted : goal.returns-in-Ok-Some-clause-accepted
returns-in-Ok-Some-clause-accepted c =
    read_some c.args.bytes.now c.in-Ok.diagram.model
    (subst (IsRead c.args.bytes.now) (sym c.in-Ok.ensures.unchanged) c.in_ok-model.ensures.read)
    c.in-Ok-Some.field-0-0.on
    (rw c.in-Ok-Some.field-0-is at c.in-Ok-Some.ensures.least).valid

pub returns-in-Ok-Some-clause-one_reading : goal.returns-in-Ok-Some-clause-one_reading
returns-in-Ok-Some-clause-one_reading c = says_one c.args.bytes.now

pub returns-in-Ok-None-clause-refused : goal.returns-in-Ok-None-clause-refused
returns-in-Ok-None-clause-refused c =
    rw c.bad.ensures
    (read_none c.args.bytes.now c.in-Ok.diagram.model
    (subst (IsRead c.args.bytes.now) (sym c.in-Ok.ensures.unchanged) c.in_ok-model.ensures.read)
    (rw c.in-Ok-None.field-0-is at c.in-Ok-None.ensures.none))

pub returns-in-Ok-None-clause-one_reading : goal.returns-in-Ok-None-clause-one_reading
returns-in-Ok-None-clause-one_reading c = says_one c.args.bytes.now

pub returns-in-Err-clause-one_reading : goal.returns-in-Err-clause-one_reading
returns-in-Err-clause-one_reading c = says_one c.args.bytes.now
