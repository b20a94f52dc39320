use Rattle.std.proofs.Common.{refl}
use Rattle.hv_cond.specs.Laws.{holds-falsity}
use Rattle.hv_cstream.proofs.Literals.{kept_nowhere, nodes_pushed, on_ok, open_pushed}
use Rattle.hv_cstream.proofs.literal.keep.Goals as goal

pub returns-then-is_false-clause-kept : goal.returns-then-is_false-clause-kept
returns-then-is_false-clause-kept c =
    kept_nowhere _ c.args.literals.now c.args.literal
    (holds-falsity _ _ (c.if-is_false.ensures.falsity.0 refl))

pub returns-clause-nodes : goal.returns-clause-nodes
returns-clause-nodes c =
    on_ok c.add.result _ _
    (nodes_pushed _ c.args.literals.now c.add.new.self c.args.literal c.requires.nodes
    c.requires.node) c.add.ensures.ok

pub returns-clause-kept : goal.returns-clause-kept
returns-clause-kept c =
    on_ok c.add.result _ _
    (open_pushed _ c.args.literals.now c.add.new.self c.args.literal) c.add.ensures.ok
