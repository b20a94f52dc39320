use Rattle.std.proofs.Common.{◌≡◌, ◌∙◌, Option, None, sym, ap}
use Rattle.std.specs.Map.{lookup}
use Rattle.std.specs.Option.{option_copied}
use Rattle.std.specs.Str.{bytes_eq}
use Rattle.hv_gather.specs.Plain.{bytes_in}
use Rattle.hv_gather.proofs.SearchLemmas.{ask-read}
use Rattle.hv_gather.proofs.search.Search.ask_among.Goals as goal

pub returns-clause-found : goal.returns-clause-found
returns-clause-found c = λ go_on.
    let unasked : lookup (bytes_eq c.args.name.now) c.args.self.now.bundle.entries ≡ None = sym c.get.ensures ∙ ap option_copied c.in-None.is in
    ask-read c.find.result c.args.name.now (bytes_in c.args.all.now c.args.name.now) _ go_on _ _ unasked c.find.ensures.found
