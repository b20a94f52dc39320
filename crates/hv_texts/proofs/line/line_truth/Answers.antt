use Rattle.std.proofs.Common.{refl}
use Rattle.hv_texts.specs.working.Steps.{entered}
use Rattle.hv_texts.proofs.line.line_truth.Goals as goal

pub returns-in-Ok-Came-clause-met : goal.returns-in-Ok-Came-clause-met
returns-in-Ok-Came-clause-met c = λ at is.
    let f = rw c.in-Ok-Came.field-0-is at c.in-Ok-Came.ensures.found in (f at is).is_read.met

pub returns-in-Ok-Came-clause-faces : goal.returns-in-Ok-Came-clause-faces
returns-in-Ok-Came-clause-faces c = λ at is.
    let f = rw c.in-Ok-Came.field-0-is at c.in-Ok-Came.ensures.found in (f at is).is_read.faces

pub returns-in-Ok-Came-clause-few : goal.returns-in-Ok-Came-clause-few
returns-in-Ok-Came-clause-few c =
    let f = rw c.in-Ok-Came.field-0-is at c.in-Ok-Came.ensures.found in
    (f (entered c.args.origin.now) (record { file = refl; stack = refl })).is_read.few

pub returns-in-Ok-Came-clause-ends : goal.returns-in-Ok-Came-clause-ends
returns-in-Ok-Came-clause-ends c = λ at is.
    let f = rw c.in-Ok-Came.field-0-is at c.in-Ok-Came.ensures.found in (f at is).is_read.ends

pub returns-in-Ok-Came-clause-within : goal.returns-in-Ok-Came-clause-within
returns-in-Ok-Came-clause-within c =
    let f = rw c.in-Ok-Came.field-0-is at c.in-Ok-Came.ensures.found in
    (f (entered c.args.origin.now) (record { file = refl; stack = refl })).within

pub returns-in-Ok-TooMany-clause-too_many : goal.returns-in-Ok-TooMany-clause-too_many
returns-in-Ok-TooMany-clause-too_many c =
    rw c.in-Ok-TooMany.field-0-is at c.in-Ok-TooMany.ensures.found
