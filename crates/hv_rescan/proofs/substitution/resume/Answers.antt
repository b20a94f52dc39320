use Rattle.std.proofs.Common.{◌≡◌, Bool, List, ap, ◌∙◌}
use Rattle.hv_plain.specs.episode.Substitution.{fill}
use Rattle.hv_plain.specs.episode.Tokens.{Token, still_owed}
use Rattle.hv_rescan.proofs.Fillings.{fill_owed, owed_never, owed_where_none}
use Rattle.hv_rescan.specs.Values.{frame_of, givens_of, tokens_of}
use Rattle.hv_rescan.proofs.substitution.resume.Goals.{then-owed, else-owed}
use Rattle.hv_rescan.proofs.substitution.resume.Goals as goal

pub returns : goal.returns
returns c macros run =
    let f = frame_of macros run c.args.frame in
    let owed : c.if-owed.frame ≡ still_owed c.args.frame.owed (givens_of c.args.given) =
    elim c.if-owed.branch [
      | then-owed w ↦ owed_where_none c.args.given _ _ _ w.if-owed.true w.frame-is
          w.is_empty.ensures
      | else-owed w ↦ owed_never _ _ _ w.if-owed.false w.frame-is
    ] in
    c.in_ok-filled.ensures macros run
    ∙ fill_owed f c.if-owed.frame f.rest c.if-owed.frame f.built
    (tokens_of macros c.in_ok-last.last.items)
    ∙ ap (λ (b : Bool). fill f f.rest b f.built (tokens_of macros c.in_ok-last.last.items)) owed
    ∙ ap (λ (ts : List Token).
    fill f f.rest (still_owed f.owed (givens_of c.args.given)) f.built ts)
    (c.in_ok-last.ensures macros)
