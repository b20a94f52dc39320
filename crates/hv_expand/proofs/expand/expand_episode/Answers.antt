use Rattle.std.proofs.Common.{◌≤◌, ℕ, List, sym, subst, length, All}
use Rattle.hv_base.specs.declared.limits.TheConstants.{MOST_FACES}
use Rattle.hv_cond.specs.Parts.{IsPartition}
use Rattle.hv_cond.specs.declared.conditions.Cond.{Cond}
use Rattle.hv_faces.specs.Faces.{AreTooMany}
use Rattle.hv_expand.specs.declared.outcome.ExpandFault.{ExpandFault}
use Rattle.hv_expand.specs.Outcomes.{AreNumbered, HaveOneFace, IfTooMany, IsOfOneFace, IsRight, conditions}
use Rattle.hv_expand.proofs.LoneEpisodes.{lone_by_face, lone_right}
use Rattle.hv_expand.proofs.Numbering.{are_numbered, conditions_of, from_classes, length_of, too_many_of}
use Rattle.hv_expand.proofs.expand.expand_episode.Goals as goal

pub returns-in-Some-clause-right : goal.returns-in-Some-clause-right
returns-in-Some-clause-right c =
    lone_right c.args.store.now c.args.ends c.args.run.now c.args.at c.args.table.now c.args.cond
    c.in-Some.token.now c.in-Ok.outcomes c.requires.cond c.in-Some.ensures c.in-Ok.ensures

pub returns-in-Some-clause-by_face : goal.returns-in-Some-clause-by_face
returns-in-Some-clause-by_face c =
    lone_by_face c.args.store.now c.args.ends c.args.run.now c.args.at c.args.table.now c.args.cond
    c.in-Some.token.now c.in-Ok.outcomes c.requires.cond c.in-Some.ensures c.in-Ok.ensures

pub returns-in-Ok-number-clause-partition : goal.returns-in-Ok-number-clause-partition
returns-in-Ok-number-clause-partition c =
    subst (λ os. IsPartition c.find_classes.new.store c.args.cond (conditions os))
    (sym c.in-Ok-number.ensures)
    (subst (λ cs. IsPartition c.find_classes.new.store c.args.cond cs)
    (sym (conditions_of 0 c.in-Ok-find_classes.classes)) c.in-Ok-find_classes.ensures.classes.parts)

pub returns-in-Ok-number-clause-right : goal.returns-in-Ok-number-clause-right
returns-in-Ok-number-clause-right c =
    subst (λ os. All (IsRight c.args.ends c.args.run.now c.args.at c.args.store.now
    c.args.table.now c.find_classes.new.store) os)
    (sym c.in-Ok-number.ensures)
    (from_classes _ _ _ _ (IsRight c.args.ends c.args.run.now c.args.at c.args.store.now
    c.args.table.now c.find_classes.new.store) (λ n x i. i.right) c.in-Ok-find_classes.classes
    c.in-Ok-find_classes.ensures.classes.each)

pub returns-in-Ok-number-clause-by_face : goal.returns-in-Ok-number-clause-by_face
returns-in-Ok-number-clause-by_face c =
    subst (λ os. All (IsOfOneFace c.args.ends c.args.run.now c.args.at c.args.store.now
    c.args.table.now c.find_classes.new.store c.args.cond) os)
    (sym c.in-Ok-number.ensures)
    (from_classes _ _ _ _ (IsOfOneFace c.args.ends c.args.run.now c.args.at c.args.store.now
    c.args.table.now c.find_classes.new.store c.args.cond) (λ n x i. i.class.exact)
    c.in-Ok-find_classes.classes c.in-Ok-find_classes.ensures.classes.each)

pub returns-in-Ok-number-clause-numbers : goal.returns-in-Ok-number-clause-numbers
returns-in-Ok-number-clause-numbers c =
    subst (λ os. AreNumbered 0 os) (sym c.in-Ok-number.ensures) (are_numbered 0 c.in-Ok-find_classes.classes)

pub returns-in-Ok-number-clause-few : goal.returns-in-Ok-number-clause-few
returns-in-Ok-number-clause-few c =
    subst (λ os. length os ≤ MOST_FACES) (sym c.in-Ok-number.ensures)
    (subst (λ (k : ℕ). k ≤ MOST_FACES) (sym (length_of 0 c.in-Ok-find_classes.classes)) c.in-Ok-find_classes.ensures.few)

pub returns-in-Err-clause-too_many : goal.returns-in-Err-clause-too_many
returns-in-Err-clause-too_many c =
    let P : List Cond → Type 0 = AreTooMany c.find_classes.new.store c.args.cond
    (HaveOneFace c.args.ends c.args.run.now c.args.at c.args.store.now c.args.table.now) in
    subst (λ (f : ExpandFault). IfTooMany P f) (sym c.fault_of.ensures)
    (too_many_of P c.in-Err.fault c.in-Err.ensures.too_many)
