use Rattle.hv_base.proofs.Lists.{take-rest}
use Rattle.hv_model.proofs.TokenLemmas.{tokens_word}
use Rattle.hv_model.proofs.scan.word.Goals as goal

pub returns-clause-cut : goal.returns-clause-cut
returns-clause-cut c =
    rw take-rest (tokens_word c.args.text.now c.word_len-end.result c.word_len-end.ensures.value
    c.requires.some c.requires.word)
