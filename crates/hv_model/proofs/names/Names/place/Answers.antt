use Rattle.std.proofs.Common.{◌∙◌, ap}
use Rattle.std.specs.Prelude.{unwrap_or, position}
use Rattle.std.specs.Str.{bytes_eq}
use Rattle.hv_base.proofs.Lists.{unwrap_or-position}
use Rattle.hv_model.proofs.names.Names.place.Goals as goal

pub returns : goal.returns
returns c =
    c.unwrap_or-place.ensures
    ∙ (ap (λ o. unwrap_or o c.len.result) c.position.ensures
    ∙ (ap (unwrap_or (position (bytes_eq c.args.name.now) c.args.self.now)) c.len.ensures.count
    ∙ unwrap_or-position (bytes_eq c.args.name.now) c.args.self.now))
