use Rattle.std.proofs.Common.{◌∙◌, sym}
use Rattle.std.proofs.lemmas.Result.{IfOk-weaker}
use Rattle.hv_preproc.specs.Plain.{plain_of}
use Rattle.hv_variant.proofs.Alone.{IsOnly-kept, one_face}
use Rattle.hv_variant.proofs.variant.variant_of.Goals as goal

pub returns-in-Ok : goal.returns-in-Ok
returns-in-Ok c = IfOk-weaker c.alone.result _ _
    (λ v h. h (plain_of c.args.bundle.now c.args.model.now.names c.args.reserved) c.in_ok-valid.valid
    (IsOnly-kept c.in-Ok.ensures.keeps c.in_ok-valid.valid c.in_ok-valid.ensures.node
    c.args.config.now.on c.in_ok-valid.ensures.meaning) c.in-Ok.ensures.sorted)
    c.alone.ensures

pub unreachable-requires : goal.unreachable-requires
unreachable-requires c =
    one_face (plain_of c.args.bundle.now c.args.model.now.names c.args.reserved)
    c.preprocess_all.new.store c.in_ok-valid.valid c.in-Err-TooMany.field-0-0
    c.in-Err-TooMany.field-0-1 c.args.config.now.on
    (c.requires.config ∙ sym (c.in-Err-TooMany.ensures.keeps.variables
    ∙ c.in_ok-valid.ensures.keeps.variables ∙ c.in_ok-store.ensures.variables ∙ c.options.ensures.count))
    (IsOnly-kept c.in-Err-TooMany.ensures.keeps c.in_ok-valid.valid c.in_ok-valid.ensures.node
    c.args.config.now.on c.in_ok-valid.ensures.meaning)
    (rw c.in-Err-TooMany.field-0-is at c.in-Err-TooMany.ensures.too_many)
