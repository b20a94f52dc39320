use Rattle.std.proofs.Common.{◌∙◌, ◌-◌, arith, length}
use Rattle.hv_directives.proofs.DefinitionsLemmas.{ends_with_paste-last}
use Rattle.hv_directives.proofs.replacement.ends_with_paste.Goals as goal

pub returns-in-len1-up : goal.returns-in-len1-up
returns-in-len1-up c =
    let tokens = c.args.tokens.now in
    c.is_paste.ensures
    ∙ ends_with_paste-last tokens (length tokens - 1) c.token-item.result (omega arith)
    c.token-item.is
