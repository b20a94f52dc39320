use Rattle.std.proofs.Common.{◌≡◌, ◌∙◌, Option, None, sym, ap}
use Rattle.std.specs.Map.{lookup}
use Rattle.std.specs.Option.{option_copied}
use Rattle.std.specs.Str.{bytes_eq}
use Rattle.hv_gather.specs.working.Steps.{search_of}
use Rattle.hv_gather.proofs.AnswersLemmas.{NamesThis-asked}
use Rattle.hv_gather.proofs.SearchLemmas.{ask-read}
use Rattle.hv_gather.proofs.search.Search.ask.Goals as goal

pub returns-clause-found : goal.returns-clause-found
returns-clause-found g c = λ held go_on tells.
    let unasked : lookup (bytes_eq c.args.name.now) c.args.self.now.bundle.entries ≡ None = sym c.get.ensures ∙ ap option_copied c.in-None.is in
    ask-read c.read.result c.args.name.now (held c.args.name.now) _ go_on _ _ unasked (c.read.ensures.found held tells)

pub returns-clause-too_big : goal.returns-clause-too_big
returns-clause-too_big g c = λ held go_on tells.
    let unasked : lookup (bytes_eq c.args.name.now) c.args.self.now.bundle.entries ≡ None = sym c.get.ensures ∙ ap option_copied c.in-None.is in
    NamesThis-asked c.read.result c.args.name.now (held c.args.name.now) _ go_on (search_of c.args.self.now) unasked (c.read.ensures.too_big held tells)
