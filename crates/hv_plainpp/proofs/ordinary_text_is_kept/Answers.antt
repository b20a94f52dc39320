use Rattle.hv_plainpp.proofs.OrdinaryText.{ordinary_text}
use Rattle.hv_plainpp.proofs.ordinary_text_is_kept.Goals as goal

pub returns : goal.returns
returns c = ordinary_text
