use Rattle.std.proofs.Common.{sym, ap, ◌∙◌, Some}
use Rattle.std.specs.Option.{option_map}
use Rattle.std.specs.String.{string_bytes}
use Rattle.hv_base.specs.Bundles as bundles
use Rattle.hv_base.proofs.BundlesLemmas.{name-seen}
use Rattle.hv_base.proofs.bundle.Bundle.name_of.Goals as goal

pub returns-in-Some : goal.returns-in-Some
returns-in-Some c =
    ap Some c.as_str.ensures.value
    ∙ ap (option_map (λ e. string_bytes e.0)) c.in-Some.ensures.entry
    ∙ sym (name-seen (λ k. string_bytes k) c.self.inside.files.entries c.args.file)
    ∙ ap (λ b. bundles.name_at b c.args.file) c.self.view_is

pub returns-in-None : goal.returns-in-None
returns-in-None c =
    ap (option_map (λ e. string_bytes e.0)) c.in-None.ensures.entry
    ∙ sym (name-seen (λ k. string_bytes k) c.self.inside.files.entries c.args.file)
    ∙ ap (λ b. bundles.name_at b c.args.file) c.self.view_is
