use Rattle.hv_preproc.proofs.Leasts.{first_refused}
use Rattle.hv_preproc.specs.Plain.{plain_of}
use Rattle.hv_preproc.proofs.refusal.preprocess.Goals as goal

pub returns-in-Ok-Some-clause-refused : goal.returns-in-Ok-Some-clause-refused
returns-in-Ok-Some-clause-refused c = (
  first_refused (plain_of c.args.bundle.now c.args.model.now.names c.args.reserved)
      c.preprocess_all.new.store c.args.valid c.in-Ok.parted c.in-Ok-Some.config.on
      c.in-Ok-Some.entry c.in-Ok.ensures.sorted
      (rw c.in-Ok-Some.field-0-is at c.in-Ok-Some.ensures),
  c.in-Ok.ensures.few,
)
