use Rattle.std.proofs.Common.{◌≡◌, true, false, refl}
use Rattle.hv_cond.specs.Laws.{holds-falsity}
use Rattle.hv_macros.proofs.AddedLemmas.{added_if, skipped}
use Rattle.hv_macros.proofs.alternatives.add.Goals as goal

pub returns-then-is_false : goal.returns-then-is_false
returns-then-is_false c = skipped _ _ _ _ (holds-falsity _ _ (c.if-is_false.ensures.falsity.0 refl))

pub returns : goal.returns
returns c =
    added_if _ _ _ _ _ _ c.add.ensures.ok c.in_ok-meaning.ensures c.requires
    (λ never. let h : false ≡ true = c.if-is_false.ensures.meaning.1 never in cc)
