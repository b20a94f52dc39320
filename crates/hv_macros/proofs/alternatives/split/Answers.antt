use Rattle.std.proofs.Common.{refl}
use Rattle.hv_cond.specs.Laws.{Keeps-trans, holds-falsity}
use Rattle.hv_macros.proofs.SplitLemmas.{splitting_start, splitting_step, split_meanings, split_distinct, split_done}
use Rattle.hv_macros.proofs.AddedLemmas.{node-of}
use Rattle.hv_macros.proofs.alternatives.split.Goals as goal

pub loop-alternative-init : goal.loop-alternative-init
loop-alternative-init c = splitting_start _ _ _ _ c.requires.cond c.new-parts.ensures

pub is_false-requires : goal.is_false-requires
is_false-requires c = c.loop-alternative.invariant.rest_node

pub parted-requires-clause-cond : goal.parted-requires-clause-cond
parted-requires-clause-cond c = c.loop-alternative.invariant.rest_node

pub parted-requires-clause-other : goal.parted-requires-clause-other
parted-requires-clause-other c =
    c.loop-alternative.invariant.keeps.stays c.alternative-item.result.cond
    (node-of _ c.args.alternatives.now c.loop-alternative.alternative-index c.alternative-item.result
    c.requires.alternatives.nodes c.loop-alternative-test.true c.alternative-item.is)

pub returns-in_err-inside-clause-keeps : goal.returns-in_err-inside-clause-keeps
returns-in_err-inside-clause-keeps c =
    Keeps-trans c.loop-alternative.invariant.keeps c.parted.ensures.keeps

pub returns-in_err-add-clause-keeps : goal.returns-in_err-add-clause-keeps
returns-in_err-add-clause-keeps c = Keeps-trans c.loop-alternative.invariant.keeps c.parted.ensures.keeps

pub loop-alternative-preserved : goal.loop-alternative-preserved
loop-alternative-preserved c =
    splitting_step c.args.store.now c.loop-alternative.store c.parted.new.store c.args.cond
    c.loop-alternative.rest c.in_ok-inside.inside c.in_ok-inside.outside c.args.alternatives.now
    c.loop-alternative.alternative-index
    c.alternative-item.result c.loop-alternative.parts c.add.new.alternatives
    c.loop-alternative.invariant c.requires.alternatives
    (node-of _ c.args.alternatives.now c.loop-alternative.alternative-index c.alternative-item.result
    c.requires.alternatives.nodes c.loop-alternative-test.true c.alternative-item.is)
    c.loop-alternative-test.true c.alternative-item.is c.in_ok-inside.ensures.keeps
    c.in_ok-inside.ensures.nodes.1 c.in_ok-inside.ensures.inside c.in_ok-inside.ensures.outside
    c.in_ok-add.ensures

pub add-requires-2 : goal.add-requires-2
add-requires-2 c = c.loop-alternative.invariant.rest_node

pub returns-in_err-add-2-clause-keeps : goal.returns-in_err-add-2-clause-keeps
returns-in_err-add-2-clause-keeps c = c.loop-alternative.invariant.keeps

pub returns-clause-keeps : goal.returns-clause-keeps
returns-clause-keeps c = c.loop-alternative.invariant.keeps

pub returns-clause-nodes : goal.returns-clause-nodes
returns-clause-nodes c = c.in_ok-add-2.ensures.nodes c.loop-alternative.invariant.nodes

pub returns-clause-none_false : goal.returns-clause-none_false
returns-clause-none_false c = c.in_ok-add-2.ensures.none_false c.loop-alternative.invariant.none_false

pub returns-clause-distinct : goal.returns-clause-distinct
returns-clause-distinct c =
    split_distinct _ _ _ _ _ _ _ _ c.loop-alternative.invariant c.loop-alternative-test.false
    c.requires.alternatives c.in_ok-add-2.ensures

pub returns-clause-meanings : goal.returns-clause-meanings
returns-clause-meanings c =
    split_meanings _ _ _ _ _ _ _ _ c.loop-alternative.invariant c.loop-alternative-test.false
    c.in_ok-add-2.ensures

pub returns-then-is_false-clause-meanings : goal.returns-then-is_false-clause-meanings
returns-then-is_false-clause-meanings c =
    split_done _ _ _ _ _ _ _ c.loop-alternative.invariant
    (holds-falsity _ _ (c.if-is_false.ensures.falsity.0 refl))
