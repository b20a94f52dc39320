use Rattle.std.proofs.Common.{refl, arith}
use Rattle.std.proofs.lemmas.Result.{err_from_is_err_and}
use Rattle.hv_outside.proofs.SinkLemmas.{AddsPrefix-from_rest, RoseIf-from_same, rest_after_piece, OnErr-from_all}
use Rattle.hv_outside.proofs.sink.write_all.Goals as goal

pub returns-in_err-count-clause-prefix : goal.returns-in_err-count-clause-prefix
returns-in_err-count-clause-prefix g c =
    OnErr-from_all c.from_residual.result
    (AddsPrefix-from_rest _ _ _ _ _ c.loop-rest.invariant.0 c.in_err-count.ensures.added)

pub returns-in_err-count-clause-faults : goal.returns-in_err-count-clause-faults
returns-in_err-count-clause-faults g c =
    let e = err_from_is_err_and c.from_residual.result c.from_residual.ensures.1 in
    rw (e.1, e.2) (RoseIf-from_same _ _ _ _ c.loop-rest.invariant.1 c.in_err-count.ensures.faults)

pub loop-rest-preserved : goal.loop-rest-preserved
loop-rest-preserved g c = (
  rest_after_piece _ _ _ _ _ _ _ refl c.in_ok-count.ensures.some_taken.1 c.loop-rest.invariant.0
      c.in_ok-count.ensures.added,
  omega (arith, c.in_ok-count.ensures.faults),
)
