use Rattle.std.proofs.Common.{inl, inr, sym, ◌∙◌}
use Rattle.std.proofs.lemmas.Bool.{eqb-true}
use Rattle.hv_cond.proofs.Branches.{Cond-same}
use Rattle.hv_cond.proofs.Combining.{answer_first, answer_second}
use Rattle.hv_cond.proofs.connectives.Connective.shortcut.Goals as goal
use Rattle.hv_cond.proofs.connectives.Connective.shortcut.Goals.{then-eq, else-eq, then-eq-2, else-eq-2, then-eq-4, else-eq-4}

pub returns-then-eq-3-clause-answer : goal.returns-then-eq-3-clause-answer
returns-then-eq-3-clause-answer c = λ ds l m. answer_first c.args.self ds c.args.a c.args.b l m
    (elim c.if-eq-2.branch [
      | then-eq-2 w ↦ elim c.if-eq.branch [
        | then-eq u ↦ inl (Cond-same c.args.a c.args.b (eqb-true _ _ (sym c.eq.ensures ∙ u.if-eq.true)))
        | else-eq u ↦ inr (inl (Cond-same c.args.a _ (eqb-true _ _ (sym u.eq-else-eq.ensures ∙ sym u.value-is ∙ w.if-eq-2.true)) ∙ c.absorbing-absorbing.ensures))
      ]
      | else-eq-2 w ↦ inr (inr (Cond-same c.args.b _ (eqb-true _ _ (sym w.eq-else-eq-2.ensures ∙ sym w.value-is ∙ c.if-eq-3.true)) ∙ c.neutral-neutral.ensures))
    ])

pub returns-then-eq-5-clause-answer : goal.returns-then-eq-5-clause-answer
returns-then-eq-5-clause-answer c = λ ds l m. answer_second c.args.self ds c.args.a c.args.b l m
    (elim c.if-eq-4.branch [
      | then-eq-4 w ↦ inl (Cond-same c.args.b _ (eqb-true _ _ (sym c.eq-else-eq-3.ensures ∙ w.if-eq-4.true)) ∙ c.absorbing-absorbing.ensures)
      | else-eq-4 w ↦ inr (Cond-same c.args.a _ (eqb-true _ _ (sym w.eq-else-eq-4.ensures ∙ sym w.value-is ∙ c.if-eq-5.true)) ∙ c.neutral-neutral.ensures)
    ])
