use Rattle.hv_model.specs.Config.{is_comma}
use Rattle.hv_base.proofs.Lists.{take-rest, slice_split_front, slice_split_whole}
use Rattle.hv_model.proofs.configs.next_piece.Goals as goal

pub returns-then-end-text-clause-cut : goal.returns-then-end-text-clause-cut
returns-then-end-text-clause-cut c =
    rw (take-rest, c.piece_len-end.ensures.value)
    (slice_split_front is_comma c.args.text.now
    (rw (c.piece_len-end.ensures.value) at c.if-end-text.true))

pub returns-else-end-text-clause-cut : goal.returns-else-end-text-clause-cut
returns-else-end-text-clause-cut c =
    slice_split_whole is_comma c.args.text.now
    (rw (c.piece_len-end.ensures.value) at c.if-end-text.false)
