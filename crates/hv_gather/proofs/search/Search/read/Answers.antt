use Rattle.std.proofs.Common.{◌∙◌, ap, arith, inl, sym}
use Rattle.hv_base.specs.Bundles.{NamedFiles}
use Rattle.hv_gather.proofs.AnswersLemmas.{IsWithin-absent, NamesFirst-file}
use Rattle.hv_gather.proofs.search.Search.read.Goals as goal

pub returns-in_ok-add-in-Ok-Absent-clause-within : goal.returns-in_ok-add-in-Ok-Absent-clause-within
returns-in_ok-add-in-Ok-Absent-clause-within g c =
    IsWithin-absent c.args.self.now.bundle.entries c.add.new.self.bundle.entries c.args.name.now c.args.self.now.total c.add.new.self.total
    c.requires.within c.add.ensures.others.2 (ap (λ (bundle : NamedFiles). bundle.entries) c.in_ok-add-in-Ok-Absent.ensures.ok)

pub returns-in_ok-copy-in-Ok-TooBig-clause-too_big : goal.returns-in_ok-copy-in-Ok-TooBig-clause-too_big
returns-in_ok-copy-in-Ok-TooBig-clause-too_big g c = λ held tells.
    let found = rw c.in-Ok-TooBig.field-0-is at (c.in-Ok-TooBig.ensures.as_held tells.0) in
    let large = rw c.in-Ok-TooBig.field-0-is at c.in-Ok-TooBig.ensures.within_limit in (
      found.0,
      sym (tells.1 c.args.name.now) ∙ found.1,
      NamesFirst-file c.args.self.now.bundle.entries c.in_ok-copy-in-Ok-TooBig.field-0 c.args.name.now found.0 c.args.self.now.total c.in-Ok-TooBig.length
          c.saturating_add.result c.requires.within c.in_ok-copy-in-Ok-TooBig.ensures found.2 c.saturating_add.ensures (inl large),
    )
