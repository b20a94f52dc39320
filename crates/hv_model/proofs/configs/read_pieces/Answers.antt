use Rattle.std.proofs.Common.{◌∙◌, ◌∷◌, ap, arith}
use Rattle.std.proofs.lemmas.Result.{err_from_is_err_and}
use Rattle.hv_model.specs.Config.{config_from}
use Rattle.hv_model.specs.working.Pieces.{pieces_in}
use Rattle.hv_model.proofs.ConfigLemmas.{fault_at, rest_smaller}
use Rattle.hv_model.proofs.configs.read_pieces.Goals as goal

pub returns-in_err-take_piece-clause-refused : goal.returns-in_err-take_piece-clause-refused
returns-in_err-take_piece-clause-refused c =
    let p = err_from_is_err_and c.from_residual.result c.from_residual.ensures.1 in
    rw (p.1, p.2)
    (fault_at _ (config_from c.args.model.now.names c.loop-rest.on.items c.loop-rest.number
    (c.next_piece.result.0.now ∷ pieces_in c.next_piece.result.1)) c.in_err-take_piece.field-0.0
    (c.loop-rest.invariant.0 ∙ ap (config_from c.args.model.now.names c.loop-rest.on.items
    c.loop-rest.number) (ap pieces_in c.in-Some.is ∙ c.next_piece.ensures.cut))
    (c.in_err-take_piece.ensures.refused (pieces_in c.next_piece.result.1)))

pub loop-rest-smaller : goal.loop-rest-smaller
loop-rest-smaller c =
    rest_smaller c.loop-rest.rest c.next_piece.result.1 c.in-Some.pieces c.in-Some.is
    c.next_piece.ensures.shorter

pub loop-rest-preserved : goal.loop-rest-preserved
loop-rest-preserved c =
    let less =
    rest_smaller c.loop-rest.rest c.next_piece.result.1 c.in-Some.pieces c.in-Some.is
    c.next_piece.ensures.shorter in (
      c.loop-rest.invariant.0
          ∙ (ap (config_from c.args.model.now.names c.loop-rest.on.items c.loop-rest.number)
          (ap pieces_in c.in-Some.is ∙ c.next_piece.ensures.cut)
          ∙ c.in_ok-take_piece.ensures.taken (pieces_in c.next_piece.result.1)),
      c.take_piece.ensures.length ∙ c.loop-rest.invariant.1,
      omega (arith, less, c.loop-rest.invariant.2),
    )
