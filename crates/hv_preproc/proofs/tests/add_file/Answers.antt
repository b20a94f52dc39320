use Rattle.std.proofs.Common.{ℕ, List, [], ◌∷◌, ◌++◌, ap, subst, sym}
use Rattle.hv_base.specs.Bundles.{HasMain, NamedFiles}
use Rattle.hv_base.specs.declared.held.Held.{Held}
use Rattle.hv_preproc.proofs.tests.add_file.Goals as goal

main_stays : (bundle : NamedFiles) (entry : List ℕ × Held) → HasMain bundle
    → HasMain (record bundle { entries = bundle.entries ++ entry ∷ [] })
main_stays bundle entry has = record {
  bytes = has.bytes;
  others = has.others ++ entry ∷ [];
  first = ap (λ (es : List (List ℕ × Held)). es ++ entry ∷ []) has.first;
}

pub returns : goal.returns
returns c = λ has. subst HasMain (sym c.in_ok-add.ensures.ok)
    (main_stays c.args.bundle.now _ has)
