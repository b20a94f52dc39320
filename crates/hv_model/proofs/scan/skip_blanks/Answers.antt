use Rattle.hv_base.proofs.Lists.{take-rest}
use Rattle.hv_model.proofs.TokenLemmas.{skipped, skipped_blanks, tokens-skipped}
use Rattle.hv_model.proofs.scan.skip_blanks.Goals as goal

pub returns-clause-same : goal.returns-clause-same
returns-clause-same c =
    rw take-rest (tokens-skipped c.args.text.now c.blank_len.result c.blank_len.ensures.value)

pub returns-clause-first : goal.returns-clause-first
returns-clause-first c =
    rw take-rest (skipped c.args.text.now c.blank_len.result c.blank_len.ensures.value)

pub returns-clause-value : goal.returns-clause-value
returns-clause-value c =
    rw take-rest (skipped_blanks c.args.text.now c.blank_len.result c.blank_len.ensures.value)
