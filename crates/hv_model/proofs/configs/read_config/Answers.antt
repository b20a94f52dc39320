use Rattle.std.proofs.Common.{◌∙◌, sym, ap}
use Rattle.std.proofs.lemmas.Result.{err_from_is_err_and}
use Rattle.hv_model.specs.Config.{config, config_from, pieces_of}
use Rattle.hv_model.proofs.ConfigLemmas.{all_off-replicate, fault_at}
use Rattle.hv_model.proofs.configs.read_config.Goals as goal

pub returns-in_err-read_pieces-clause-refused : goal.returns-in_err-read_pieces-clause-refused
returns-in_err-read_pieces-clause-refused c =
    let p = err_from_is_err_and c.from_residual.result c.from_residual.ensures.1 in
    rw (p.1, p.2)
    (fault_at _ _ c.in_err-read_pieces.field-0.0
    (ap (λ on. config_from c.args.model.now.names on 0 (pieces_of c.args.text.now))
    (all_off-replicate c.args.model.now.names c.options.result c.options.ensures.count
    ∙ sym c.in-Ok.ensures)
    ∙ ap (λ text. config_from c.args.model.now.names c.in-Ok.on.items 0 (pieces_of text))
    (sym c.as_bytes.ensures.value))
    c.in_err-read_pieces.ensures.refused)

pub returns-clause-accepted : goal.returns-clause-accepted
returns-clause-accepted c =
    ap (λ on. config_from c.args.model.now.names on 0 (pieces_of c.args.text.now))
    (all_off-replicate c.args.model.now.names c.options.result c.options.ensures.count
    ∙ sym c.in-Ok.ensures)
    ∙ (ap (λ text. config_from c.args.model.now.names c.in-Ok.on.items 0 (pieces_of text))
    (sym c.as_bytes.ensures.value)
    ∙ (c.in_ok-read_pieces.ensures.taken ∙ ap config (sym c.from_vec.ensures)))
