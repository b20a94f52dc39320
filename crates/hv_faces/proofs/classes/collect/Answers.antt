use Rattle.std.proofs.Common.{◌≡◌, ◌+◌, ◌∷◌, [], length, ap, sym, subst, ◌∙◌, arith, length-append, refl}
use Rattle.hv_base.specs.declared.limits.TheConstants.{MOST_FACES}
use Rattle.hv_cond.specs.Laws.{Keeps-trans}
use Rattle.hv_faces.proofs.Gathering.{gathered_all, gathered_many, gathered_more, gathered_start}
use Rattle.hv_faces.specs.Faces.{AreTooMany, conditions}
use Rattle.hv_faces.proofs.classes.collect.Goals as goal

pub gather-init : goal.gather-init
gather-init g c =
    let none = ap length c.new-classes.ensures in
    record {
      good = c.requires.good;
      gathered = gathered_start _ _ _ _ _ c.requires.node c.new-classes.ensures;
      few = omega (arith, none);
    }

pub gather-preserved : goal.gather-preserved
gather-preserved g c =
    record {
      good = g.met.R.Runs.good_kept _ _ c.args.runs.now
          (Keeps-trans c.run.ensures.keeps c.without.ensures.keeps) c.gather.invariant.good;
      gathered = gathered_more _ _ _ _ _ _ _ _
          (g.R.Runs.same_face c.gather.store c.args.runs.now) _
          (g.R.Runs.is_right c.gather.store c.args.runs.now) _ _ c.in_ok-found.found
          (λ v w. g.met.R.Runs.symmetric _ c.args.runs.now v w)
          (λ v w. g.met.R.Runs.face_kept _ _ c.args.runs.now v w
          c.gather.invariant.gathered.keeps c.requires.good)
          (λ v. g.met.R.Runs.right_kept _ _ c.args.runs.now c.in_ok-found.found.value v
          c.gather.invariant.gathered.keeps c.requires.good)
          c.gather.invariant.gathered c.run.ensures.keeps c.in_ok-found.ensures.class
          c.in_ok-found.ensures.right c.without.ensures.keeps c.in_ok-rest.ensures.node
          c.in_ok-rest.ensures.meaning c.in_ok-add.ensures.ok;
      few = omega (arith, c.if-are_too_many.ensures.few refl, c.len.ensures);
    }

pub returns-then-are_too_many-clause-gathered :
    goal.returns-then-are_too_many-clause-gathered
returns-then-are_too_many-clause-gathered g c =
    let count : length c.add.new.self ≡ MOST_FACES + 1 =
    let more = ap length c.in_ok-add.ensures.ok
    ∙ length-append c.gather.classes (c.in_ok-found.found ∷ []) in
    let few = c.gather.invariant.few in
    omega (arith, c.if-are_too_many.ensures.many refl, c.len.ensures, more, few) in
    subst (λ conds. AreTooMany c.without.new.self c.args.cond
    (g.R.Runs.same_face c.args.store.now c.args.runs.now) conds)
    (sym (c.in_ok-conds.ensures ∙ ap conditions c.as_slice.ensures))
    (gathered_many _ _ _ _ _ _ _
    (gathered_more _ _ _ _ _ _ _ _
    (g.R.Runs.same_face c.gather.store c.args.runs.now) _
    (g.R.Runs.is_right c.gather.store c.args.runs.now) _ _ c.in_ok-found.found
    (λ v w. g.met.R.Runs.symmetric _ c.args.runs.now v w)
    (λ v w. g.met.R.Runs.face_kept _ _ c.args.runs.now v w
    c.gather.invariant.gathered.keeps c.requires.good)
    (λ v. g.met.R.Runs.right_kept _ _ c.args.runs.now c.in_ok-found.found.value v
    c.gather.invariant.gathered.keeps c.requires.good)
    c.gather.invariant.gathered c.run.ensures.keeps c.in_ok-found.ensures.class
    c.in_ok-found.ensures.right c.without.ensures.keeps c.in_ok-rest.ensures.node
    c.in_ok-rest.ensures.meaning c.in_ok-add.ensures.ok)
    count)

pub returns-clause-gathered : goal.returns-clause-gathered
returns-clause-gathered g c = (
  gathered_all _ _ _ _ _ _ _ c.gather.invariant.gathered
      (c.gather-test.ensures.nowhere refl),
  c.gather.invariant.few,
)
