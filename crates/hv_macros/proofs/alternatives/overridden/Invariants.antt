use Rattle.hv_toks.specs.Macro.{macro_of}
use Rattle.hv_macros.proofs.OverriddenLemmas.{IsOverriding}
use Rattle.hv_macros.proofs.alternatives.overridden.Given as goal

abbrev pub invariant-loop-alternative : goal.invariant-loop-alternative
invariant-loop-alternative l = IsOverriding l.fn.store l.store l.fn.cond (macro_of l.meaning) l.alternatives l.alternative-index l.is_joined l.kept
