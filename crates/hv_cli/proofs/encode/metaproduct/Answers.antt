use Rattle.std.proofs.Common.{◌≡◌, Option, Some, None, IfNone}
use Rattle.hv_cli.proofs.Finding.{left_out_made}
use Rattle.hv_model.specs.Laws.{valid-kept}
use Rattle.hv_cli.proofs.encode.metaproduct.Goals as goal

at_none : {A P : Type 0} (o : Option A) → o ≡ None → IfNone o P → P
at_none None e p = p
at_none (Some x) e p = cc

pub left_out-requires-clause-valid : goal.left_out-requires-clause-valid
left_out-requires-clause-valid c =
    rw (c.in_ok-text.ensures.model, c.in_ok-text.ensures.valid)
    (valid-kept c.in-Ok.diagram.model c.in-Ok.diagram.store c.encode_small.new.diagram.store
    c.in-Ok.diagram.valid c.in_ok-text.ensures.keeps c.in-Ok.ensures.valid)

pub left_out-requires-clause-configuration : goal.left_out-requires-clause-configuration
left_out-requires-clause-configuration c =
    rw c.in_ok-text.ensures.model c.in-Ok.ensures.configuration

pub returns : goal.returns
returns c =
    left_out_made c.left_out.result c.args.model_file.now c.args.source.now c.args.main.now
    c.in-Ok.diagram.model c.in-Ok.ensures.accepted
    (at_none c.in_ok-text.field-0 c.in-None.is c.in_ok-text.ensures.refused)
    (rw c.in_ok-text.ensures.model at c.left_out.ensures)
