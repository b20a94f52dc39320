-- The answer to what the machine makes of an expression is its truth.
use Rattle.std.proofs.Common.{◌≡◌, ℕ, Bool, List, [], refl, sym, ap, ◌∙◌, subst, Option, Some, None}
use Rattle.std.specs.Prelude.{option_and_then, IfOk, IfErr, Result}
use Rattle.hv_toks.specs.declared.token.PpTok.{PpTok}
use Rattle.hv_ifexpr.specs.working.Answer.{decided, decided_by}
use Rattle.hv_plain.specs.controlling.Grammar.{Tree, IsExpression, IsTruth, symbols, truth, truth_of, value}
use Rattle.hv_ifexpr.specs.working.Machine.{run, want}
use Rattle.hv_plain.specs.controlling.Values.{is_nonzero}
use Rattle.hv_ifexpr.specs.declared.fault.IfFault.{IfFault}
use Rattle.hv_ifexpr.specs.declared.fault.IfFault.TheVariants.{Bad}
use Rattle.hv_plain.specs.declared.controlling.Operand.{Operand}
use Rattle.hv_ifexpr.proofs.Completeness.{run_derived}
use Rattle.hv_ifexpr.proofs.Soundness.{Derived, derived_run}

abbrev truth_by : Option ℕ → Option Bool
truth_by bits = option_and_then (λ n. Some (is_nonzero n)) bits

ok_bits : (tokens : List PpTok) (v : Operand) (bits : Option ℕ) → v.bits ≡ bits
    → Derived (symbols tokens) v → IfOk (decided_by bits) (IsTruth tokens)
ok_bits tokens v None e d = tt
ok_bits tokens v (Some n) e d =
    record { tree = d.tree; derived = d.derives; holds = ap truth_of (sym d.is) ∙ ap truth_by e }

ok_at : (tokens : List PpTok) (o : Option Operand) → o ≡ run (want []) (symbols tokens)
    → IfOk (decided o) (IsTruth tokens)
ok_at tokens None e = tt
ok_at tokens (Some v) e = ok_bits tokens v v.bits refl (derived_run (symbols tokens) v (sym e))

-- an expression of these tokens has the value that the machine gives
the_value : (tokens : List PpTok) (v : Operand) (tree : Tree)
    → Some v ≡ run (want []) (symbols tokens) → IsExpression tokens tree → value tree ≡ v
the_value tokens v tree e d = let same : Some v ≡ Some (value tree) = e ∙ run_derived d in cc

abbrev IsOnly : List PpTok → Bool → Type 0
IsOnly tokens b = (tree : Tree) → IsExpression tokens tree → truth tree ≡ Some b

only_bits : (tokens : List PpTok) (v : Operand) (bits : Option ℕ) → v.bits ≡ bits
    → Some v ≡ run (want []) (symbols tokens) → IfOk (decided_by bits) (IsOnly tokens)
only_bits tokens v None e r = tt
only_bits tokens v (Some n) e r = λ tree d. ap truth_of (the_value tokens v tree r d)
    ∙ ap truth_by e

only_at : (tokens : List PpTok) (o : Option Operand) → o ≡ run (want []) (symbols tokens)
    → IfOk (decided o) (IsOnly tokens)
only_at tokens None e = tt
only_at tokens (Some v) e = only_bits tokens v v.bits refl e

abbrev IsBad : List PpTok → IfFault → Type 0
IsBad tokens fault = fault ≡ Bad → (tree : Tree) → IsExpression tokens tree → truth tree ≡ None

bad_bits : (tokens : List PpTok) (v : Operand) (bits : Option ℕ) → v.bits ≡ bits
    → Some v ≡ run (want []) (symbols tokens) → IfErr (decided_by bits) (IsBad tokens)
bad_bits tokens v None e r = λ f tree d. ap truth_of (the_value tokens v tree r d) ∙ ap truth_by e
bad_bits tokens v (Some n) e r = tt

no_value : (tokens : List PpTok) (tree : Tree) → None ≡ run (want []) (symbols tokens)
    → IsExpression tokens tree → truth tree ≡ None
no_value tokens tree e d = let none : None ≡ Some (value tree) = e ∙ run_derived d in cc

bad_at : (tokens : List PpTok) (o : Option Operand) → o ≡ run (want []) (symbols tokens)
    → IfErr (decided o) (IsBad tokens)
bad_at tokens None e = λ f tree d. no_value tokens tree e d
bad_at tokens (Some v) e = bad_bits tokens v v.bits refl e

pub truth_ok : (tokens : List PpTok) (o : Option Operand) (r : Result Bool IfFault)
    → o ≡ run (want []) (symbols tokens) → r ≡ decided o → IfOk r (IsTruth tokens)
truth_ok tokens o r e is =
    subst (λ (q : Result Bool IfFault). IfOk q (IsTruth tokens)) (sym is) (ok_at tokens o e)

pub truth_only : (tokens : List PpTok) (o : Option Operand) (r : Result Bool IfFault)
    → o ≡ run (want []) (symbols tokens) → r ≡ decided o
    → IfOk r (λ b. (tree : Tree) → IsExpression tokens tree → truth tree ≡ Some b)
truth_only tokens o r e is =
    subst (λ (q : Result Bool IfFault). IfOk q (IsOnly tokens)) (sym is) (only_at tokens o e)

pub truth_bad : (tokens : List PpTok) (o : Option Operand) (r : Result Bool IfFault)
    → o ≡ run (want []) (symbols tokens) → r ≡ decided o
    → IfErr r (λ fault. fault ≡ Bad → (tree : Tree) → IsExpression tokens tree → truth tree ≡ None)
truth_bad tokens o r e is =
    subst (λ (q : Result Bool IfFault). IfErr q (IsBad tokens)) (sym is) (bad_at tokens o e)
