-- What is computed of a controlling expression is its truth.
use Rattle.std.proofs.Common.{◌≡◌, Bool, List, Option, Some, None, refl, sym, ◌∙◌}
use Rattle.hv_plain.specs.controlling.Grammar.{IsExpression, IsTruth, Tree, truth}
use Rattle.hv_plainpp.proofs.ExpressionTrees.{truth_is_derived}
use Rattle.hv_plainpp.specs.Expressions.{truth_of}
use Rattle.hv_toks.specs.Spelled.{all_spelled}
use Rattle.hv_toks.specs.declared.token.PpTok.{PpTok}

-- a truth that is the only one
pub truth_is : (tokens : List PpTok) (b : Bool) → IsTruth tokens b
    → ((tree : Tree) → IsExpression tokens tree → truth tree ≡ Some b)
    → Some b ≡ truth_of (all_spelled tokens)
truth_is tokens b t only =
    let found = (truth_is_derived tokens b).1 t in
    let other = (truth_is_derived tokens found.0).0 found.1 in
    sym (only other.tree other.derived) ∙ (other.holds ∙ sym found.1)

-- no truth where no tree has a value
pub no_truth : (tokens : List PpTok)
    → ((tree : Tree) → IsExpression tokens tree → truth tree ≡ None)
    → None ≡ truth_of (all_spelled tokens)
no_truth tokens never = step (truth_of (all_spelled tokens)) refl
  where
    step : (t : Option Bool) → truth_of (all_spelled tokens) ≡ t
        → None ≡ truth_of (all_spelled tokens)
    step None e = sym e
    step (Some b) e =
        let t = (truth_is_derived tokens b).0 e in
        sym (never t.tree t.derived) ∙ (t.holds ∙ sym e)
