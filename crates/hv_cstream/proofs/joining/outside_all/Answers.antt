use Rattle.std.proofs.Common.{◌++◌, ◌∷◌, [], ◌&&◌, take, sym, ◌∙◌, ap}
use Rattle.std.proofs.lemmas.List.{take_all, take_more}
use Rattle.hv_cond.specs.Diagram.{holds}
use Rattle.hv_cond.specs.Laws.{Keeps-refl, Keeps-trans}
use Rattle.hv_cstream.proofs.Literals.{node_at, outside_more, outside_start}
use Rattle.hv_cstream.specs.working.Joining.{is_none, open_in}
use Rattle.hv_cstream.proofs.joining.outside_all.Goals as goal

pub without-requires-clause-first : goal.without-requires-clause-first
without-requires-clause-first c = c.loop-literal.invariant.node

pub without-requires-clause-second : goal.without-requires-clause-second
without-requires-clause-second c =
    c.loop-literal.invariant.keeps.stays c.literal-item.result.cond
    (node_at _ c.args.literals.now c.loop-literal.literal-index c.literal-item.result c.requires.nodes
    (c.loop-literal-test.true, c.literal-item.is))

pub loop-literal-init : goal.loop-literal-init
loop-literal-init c =
    record {
      keeps = Keeps-refl _;
      node = c.requires.cond;
      outside = λ v. outside_start (holds c.args.store.now c.args.cond v);
    }

pub loop-literal-preserved : goal.loop-literal-preserved
loop-literal-preserved c =
    record {
      keeps = Keeps-trans c.loop-literal.invariant.keeps c.without.ensures.keeps;
      node = c.in_ok-rest.ensures.node;
      outside = λ v.
          outside_more _ c.loop-literal.invariant.keeps c.args.cond c.loop-literal.rest
          c.in_ok-rest.rest (take c.loop-literal.literal-index c.args.literals.now)
          c.literal-item.result
          (node_at _ c.args.literals.now c.loop-literal.literal-index c.literal-item.result
          c.requires.nodes (c.loop-literal-test.true, c.literal-item.is))
          c.loop-literal.invariant.outside c.in_ok-rest.ensures.meaning v
          ∙ ap (λ xs. holds c.args.store.now c.args.cond v
          && is_none (open_in c.args.store.now xs v))
          (ap (λ x. take c.loop-literal.literal-index c.args.literals.now ++ x ∷ [])
          c.literal-item.is
          ∙ sym (take_more c.args.literals.now c.loop-literal.literal-index c.literal-item.result
          c.loop-literal-test.true));
    }

pub returns-clause-outside : goal.returns-clause-outside
returns-clause-outside c = λ v.
    c.loop-literal.invariant.outside v
    ∙ ap (λ xs. holds c.args.store.now c.args.cond v && is_none (open_in c.args.store.now xs v))
    (take_all c.loop-literal.literal-index c.args.literals.now c.loop-literal-test.false)
