use Rattle.std.proofs.Common.{refl}
use Rattle.hv_cond.specs.Laws.{holds-falsity}
use Rattle.hv_cstream.proofs.Literals.{nodes_kept, on_ok, writes_parts, writes_whole}
use Rattle.hv_cstream.proofs.literal.write_out.Goals as goal

pub keep_copy-requires-clause-nodes : goal.keep_copy-requires-clause-nodes
keep_copy-requires-clause-nodes c =
    nodes_kept c.parted.ensures.keeps c.args.literals.now c.requires.nodes

pub returns-then-is_false-clause-written : goal.returns-then-is_false-clause-written
returns-then-is_false-clause-written c =
    on_ok c.add.result _ _
    (writes_whole c.parted.ensures.keeps c.args.literal c.args.cond c.in_ok-inside.inside
    c.in_ok-inside.outside c.args.literals.now c.requires.nodes c.in_ok-inside.ensures.inside
    c.in_ok-inside.ensures.outside c.add.new.self c.args.out.now c.requires.literal
    c.requires.out_nodes (holds-falsity _ _ (c.if-is_false.ensures.falsity.0 refl)))
    c.add.ensures.ok

pub returns-clause-written : goal.returns-clause-written
returns-clause-written c =
    on_ok c.add-2.result _ _
    (writes_parts c.parted.ensures.keeps c.args.literal c.args.cond c.in_ok-inside.inside
    c.in_ok-inside.outside c.args.literals.now c.requires.nodes c.in_ok-inside.ensures.inside
    c.in_ok-inside.ensures.outside c.keep_copy.new.literals c.args.out.now c.add-2.new.self _
    c.in_ok-keep_copy.ensures.nodes c.in_ok-keep_copy.ensures.kept c.requires.out_nodes
    c.in_ok-inside.ensures.nodes.0 refl)
    c.add-2.ensures.ok
