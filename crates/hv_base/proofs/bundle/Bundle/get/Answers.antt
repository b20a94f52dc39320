use Rattle.std.proofs.Common.{sym, ap, ◌∙◌}
use Rattle.std.specs.String.{string_bytes}
use Rattle.hv_base.specs.Bundles as bundles
use Rattle.hv_base.proofs.BundlesLemmas.{lookup-seen}
use Rattle.hv_base.proofs.bundle.Bundle.get.Goals as goal

pub returns : goal.returns
returns c =
    c.get.ensures.value
    ∙ sym (lookup-seen (λ k. string_bytes k) c.args.name.now c.self.inside.files.entries)
    ∙ ap (λ b. bundles.held_at b c.args.name.now) c.self.view_is
