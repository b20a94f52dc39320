use Rattle.std.proofs.Common.{◌∙◌, rules, tests, ap, length}
use Rattle.std.specs.Prelude.{unwrap_or}
use Rattle.std.proofs.lemmas.Iterator.{YieldsList-from_slice}
use Rattle.std.proofs.lemmas.Iterator.Search.{position_from_yields_List}
use Rattle.hv_base.proofs.Lists.{unwrap_or-position}
use Rattle.hv_plainpp.specs.Lines.{begins_directive}
use Rattle.hv_directives.proofs.piece.text_len.Goals as goal

pub returns : goal.returns
returns c =
    let tokens = c.args.tokens.now in
    let found =
    position_from_yields_List begins_directive _ _ c.position.result
    c.position.ensures.ran (YieldsList-from_slice tokens cc) (λ x b q k. search (rules, tests)) in
    c.unwrap_or.ensures ∙ ap (λ o. unwrap_or o (length tokens)) found
    ∙ unwrap_or-position begins_directive tokens
