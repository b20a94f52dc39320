use Rattle.hv_ctoks.proofs.StringKinds.{string_kind}
use Rattle.hv_ctoks.proofs.conversion.is_string_literal.Goals as goal

pub returns : goal.returns
returns c =
    string_kind c.args.text.now _ _ c.whole_token.ensures.value c.is_string_kind.ensures
