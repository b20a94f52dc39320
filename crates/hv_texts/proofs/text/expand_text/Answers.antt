use Rattle.std.proofs.Common.{Bool, List, subst}
use Rattle.hv_macros.specs.Table.{meaning_in}
use Rattle.hv_plainpp.specs.Reading.{Reading}
use Rattle.hv_texts.proofs.Passing.{reads_same}
use Rattle.hv_texts.specs.Faces.{HasTooMany}
use Rattle.hv_texts.specs.Readings.{AreByFace, AreMet, Ends}
use Rattle.hv_texts.proofs.text.expand_text.Goals as goal

pub returns-in-Ok-Came-clause-met : goal.returns-in-Ok-Came-clause-met
returns-in-Ok-Came-clause-met c = λ at is.
    let f = rw c.in-Ok-Came.field-0-is at c.in-Ok-Came.ensures.found in
    subst (λ (r : List Bool → Reading (Unit {0})). AreMet c.expand.new.store c.args.cond
    c.in-Ok-Came.came.given r) (reads_same c.args.origin.now at is c.args.ends
    (meaning_in c.args.store.now c.args.table.now) c.args.run.now) f.met

pub returns-in-Ok-Came-clause-faces : goal.returns-in-Ok-Came-clause-faces
returns-in-Ok-Came-clause-faces c = λ at is apart.
    let f = rw c.in-Ok-Came.field-0-is at c.in-Ok-Came.ensures.found in
    subst (λ (r : List Bool → Reading (Unit {0})). AreByFace c.expand.new.store c.args.cond
    c.in-Ok-Came.came.given r) (reads_same c.args.origin.now at is c.args.ends
    (meaning_in c.args.store.now c.args.table.now) c.args.run.now) (f.faces apart)

pub returns-in-Ok-Came-clause-few : goal.returns-in-Ok-Came-clause-few
returns-in-Ok-Came-clause-few c =
    let f = rw c.in-Ok-Came.field-0-is at c.in-Ok-Came.ensures.found in
    f.few

pub returns-in-Ok-Came-clause-ends : goal.returns-in-Ok-Came-clause-ends
returns-in-Ok-Came-clause-ends c = λ at is.
    let f = rw c.in-Ok-Came.field-0-is at c.in-Ok-Came.ensures.found in
    subst (λ (r : List Bool → Reading (Unit {0})). Ends c.expand.new.store c.args.cond
    c.in-Ok-Came.came.good c.in-Ok-Came.came.failing (λ values value. Unit {0}) r) (reads_same c.args.origin.now at is c.args.ends
    (meaning_in c.args.store.now c.args.table.now) c.args.run.now) f.ends

pub returns-in-Ok-TooMany-clause-too_many : goal.returns-in-Ok-TooMany-clause-too_many
returns-in-Ok-TooMany-clause-too_many c = λ at is apart.
    let f = rw c.in-Ok-TooMany.field-0-is at c.in-Ok-TooMany.ensures.found in
    subst (λ (r : List Bool → Reading (Unit {0})). HasTooMany c.expand.new.store c.args.cond
    r c.in-Ok-TooMany.field-0-0.place c.in-Ok-TooMany.field-0-0.conds) (reads_same c.args.origin.now at is c.args.ends
    (meaning_in c.args.store.now c.args.table.now) c.args.run.now) (f apart)
