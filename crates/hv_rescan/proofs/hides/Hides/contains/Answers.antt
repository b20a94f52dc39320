use Rattle.hv_base.proofs.Lists.{list_any-map}
use Rattle.std.proofs.Common.{sym, ap, ◌∙◌, List, ℕ}
use Rattle.std.specs.List.{list_any}
use Rattle.std.specs.Str.{bytes_eq}
use Rattle.std.specs.Global.{Global}
use Rattle.std.specs.declared.rc.Rc.{Rc}
use Rattle.hv_rescan.proofs.hides.Hides.contains.Goals as goal

pub returns : goal.returns
returns c =
    c.is_in.ensures
    ∙ sym (list_any-map (bytes_eq c.args.name.now) (λ (own : Rc (List ℕ) Global). own.value)
    c.as_slice.result.now)
    ∙ ap (λ (names : List (List ℕ)). list_any (bytes_eq c.args.name.now) names) c.as_slice.ensures
