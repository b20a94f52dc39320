use Rattle.std.proofs.Common.{◌≡◌, ◌∷◌, ◌++◌, [], refl, sym, arith, inr}
use Rattle.hv_base.specs.declared.held.Held.TheVariants.{Bytes}
use Rattle.hv_gather.proofs.AnswersLemmas.{IsWithin-file, NamesFirst-file}
use Rattle.hv_gather.proofs.search.Search.keep.Goals as goal

pub returns-then-total-gt-MOST_BUNDLE_BYTES-clause-too_big : goal.returns-then-total-gt-MOST_BUNDLE_BYTES-clause-too_big
returns-then-total-gt-MOST_BUNDLE_BYTES-clause-too_big c = (
  c.in_ok-copy.ensures,
  c.len-length.ensures,
  omega arith,
  NamesFirst-file c.args.self.now.bundle.entries c.in_ok-copy.field-0 c.args.name.now c.args.bytes c.args.self.now.total c.len-length.result
      c.saturating_add-total.result c.requires.within c.in_ok-copy.ensures (sym c.len-length.ensures) c.saturating_add-total.ensures (inr (omega arith)),
)

pub returns-clause-within : goal.returns-clause-within
returns-clause-within c =
    let now : c.add.new.self.bundle.entries ≡ c.args.self.now.bundle.entries ++ (c.args.name.now, Bytes c.args.bytes) ∷ [] =
    rw (c.in_ok-add.ensures.ok, c.reach.ensures.others.1) refl in
    IsWithin-file c.args.self.now.bundle.entries c.add.new.self.bundle.entries c.args.name.now c.args.bytes c.args.self.now.total c.len-length.result
    c.saturating_add-total.result c.requires.within (sym c.len-length.ensures) (omega arith) c.saturating_add-total.ensures (omega arith) now
