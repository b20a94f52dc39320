use Rattle.std.proofs.Common.{rules, tests, ◌∙◌, sym}
use Rattle.std.specs.Str.{bytes_eq}
use Rattle.std.specs.String.{string_bytes}
use Rattle.std.proofs.lemmas.Iterator.{YieldsList-from_slice}
use Rattle.std.proofs.lemmas.Iterator.Search.{position_from_yields_List}
use Rattle.hv_base.proofs.Lists.{position-map}
use Rattle.hv_model.proofs.names.Names.position.Goals as goal

pub returns : goal.returns
returns c =
    let names = c.self.inside.names.items in
    let found =
    position_from_yields_List (λ n. bytes_eq c.args.name.now (string_bytes n)) _ _ _
    c.position.ensures.ran (YieldsList-from_slice names cc) (λ x b q k. search (rules, tests))
    in
    rw (← c.self.view_is) (found ∙ sym (position-map (bytes_eq c.args.name.now) string_bytes names))
