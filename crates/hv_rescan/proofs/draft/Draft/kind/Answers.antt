use Rattle.hv_rescan.proofs.Texts.{whole_as_nothing}
use Rattle.std.proofs.Common.{ap, ◌∙◌}
use Rattle.hv_toks.specs.Cutting.{whole_token}
use Rattle.hv_rescan.proofs.draft.Draft.kind.Goals as goal

pub returns : goal.returns
returns c macros =
    whole_as_nothing macros c.args.self.now c.whole_token.result
    (c.whole_token.ensures.value ∙ ap whole_token (c.as_slice.ensures ∙ c.in_ok-text.ensures))
