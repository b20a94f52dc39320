use Rattle.hv_ctoks.proofs.ListsReadBack.{are_read_back}
use Rattle.hv_ctoks.proofs.ReadBack.{is_spelled, read_back}
use Rattle.hv_ctoks.proofs.WholeTokens.{whole_spelling}
use Rattle.hv_ctoks.proofs.spelling.spell.Goals as goal

pub returns-clause-read_back : goal.returns-clause-read_back
returns-clause-read_back c = λ reserved e.
    (whole_spelling _ _ (is_spelled reserved c.args.tok.now e), read_back reserved c.args.tok.now e)

pub returns-clause-are_read_back : goal.returns-clause-are_read_back
returns-clause-are_read_back c = λ reserved file printed all. are_read_back reserved file printed all
