use Rattle.std.proofs.Common.{◌≡◌, Bool, false, List, set, ap, sym, ◌∙◌, ⊎_elim, arith}
use Rattle.std.proofs.lemmas.Bool.{cases_eq}
use Rattle.std.proofs.lemmas.List.Elements.{same_from_all_zip}
use Rattle.std.proofs.lemmas.List.{get_or-set_same, get_or-set_other}
use Rattle.hv_cond.specs.Diagram.{value_of}
use Rattle.hv_cond.proofs.paths.lower.Goals as goal

pub returns-else-search-clause-least : goal.returns-else-search-clause-least
returns-else-search-clause-least c =
    let values = c.args.values.now.items in
    let all = c.requires.all_variables in
    let in_range = c.requires.in_range in
    let cases = c.in_ok-trial.ensures.cases in
    let same : c.in_ok-trial.trial.items ≡ values = same_from_all_zip _ values c.in_ok-trial.trial.items cases.0 (λ x y h. h) in
    let trial : c.deref_mut.result.now ≡ set values c.args.variable false =
    c.deref_mut.ensures.value ∙ ap (λ (xs : List Bool). set xs c.args.variable false) same in
    λ is others agrees low.
    c.search.ensures.none c.if-search.false others (λ i l.
    ⊎_elim
    (λ (e : i ≡ c.args.variable).
    ap (value_of others) e ∙ low ∙ sym (get_or-set_same values c.args.variable false false (omega arith))
    ∙ ap (value_of (set values c.args.variable false)) (sym e) ∙ ap (λ (xs : List Bool). value_of xs i) (sym trial))
    (λ (ne : i ≡ c.args.variable → ⊥).
    agrees i (omega arith) ∙ sym (get_or-set_other values c.args.variable i false false ne)
    ∙ ap (λ (xs : List Bool). value_of xs i) (sym trial))
    (cases_eq i c.args.variable))
