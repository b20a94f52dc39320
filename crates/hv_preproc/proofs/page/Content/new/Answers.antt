use Rattle.hv_preproc.proofs.PageLemmas.{content_of_tokens}
use Rattle.hv_preproc.proofs.page.Content.new.Goals as goal

pub returns-in_ok-pieces-in-Tokens : goal.returns-in_ok-pieces-in-Tokens
returns-in_ok-pieces-in-Tokens c = λ file cuts.
    content_of_tokens file c.args.cut.now c.in-Tokens.tokens c.as_slice.result.now _ c.in-Tokens.is
    c.as_slice.ensures c.in_ok-pieces-in-Tokens.ensures.meaning cuts
