use Rattle.std.proofs.Common.{sym, ◌∙◌}
use Rattle.std.specs.Str.{bytes_eq}
use Rattle.hv_base.proofs.Lists.{list_any-map}
use Rattle.hv_base.proofs.ascii.is_among.Goals as goal

pub returns : goal.returns
returns c = c.is_one_of.ensures
    ∙ sym (list_any-map (bytes_eq c.args.text.now) (λ word. word.now) c.args.words.now)
