use Rattle.std.proofs.Common.{sym, ap, ◌∙◌}
use Rattle.std.specs.String.{string_bytes}
use Rattle.hv_base.specs.Bundles as bundles
use Rattle.hv_base.proofs.BundlesLemmas.{position-seen}
use Rattle.hv_base.proofs.bundle.Bundle.number_of.Goals as goal

pub returns-in-Some : goal.returns-in-Some
returns-in-Some c =
    c.in-Some.ensures.index
    ∙ sym (position-seen (λ k. string_bytes k) c.args.name.now c.self.inside.files.entries)
    ∙ ap (λ b. bundles.number_at b c.args.name.now) c.self.view_is

pub returns-in-None : goal.returns-in-None
returns-in-None c =
    c.in-None.ensures.index
    ∙ sym (position-seen (λ k. string_bytes k) c.args.name.now c.self.inside.files.entries)
    ∙ ap (λ b. bundles.number_at b c.args.name.now) c.self.view_is
