use Rattle.std.proofs.Common.{refl, ap}
use Rattle.hv_base.specs.declared.token.CTok.TheVariants.{Str}
use Rattle.hv_cond.specs.Laws.{holds-falsity}
use Rattle.hv_cstream.proofs.Literals.{appends_parts, appends_whole, nodes_kept, on_ok}
use Rattle.hv_cstream.proofs.literal.append.Goals as goal

pub keep_copy-requires-clause-nodes : goal.keep_copy-requires-clause-nodes
keep_copy-requires-clause-nodes c =
    nodes_kept c.parted.ensures.keeps c.args.literals.now c.requires.nodes

pub returns-then-is_false-clause-appended : goal.returns-then-is_false-clause-appended
returns-then-is_false-clause-appended c =
    on_ok c.add.result _ _
    (appends_whole c.parted.ensures.keeps c.args.literal c.args.cond c.in_ok-inside.inside
    c.in_ok-inside.outside c.args.literals.now c.requires.nodes c.in_ok-inside.ensures.inside
    c.in_ok-inside.ensures.outside c.args.more.now c.add.new.self c.requires.literal
    (holds-falsity _ _ (c.if-is_false.ensures.falsity.0 refl)))
    c.add.ensures.ok

pub returns-clause-appended : goal.returns-clause-appended
returns-clause-appended c =
    on_ok c.add-2.result _ _
    (λ e. appends_parts c.parted.ensures.keeps c.args.literal c.args.cond c.in_ok-inside.inside
    c.in_ok-inside.outside c.args.literals.now c.requires.nodes c.in_ok-inside.ensures.inside
    c.in_ok-inside.ensures.outside c.args.more.now c.keep_copy.new.literals c.add-2.new.self _
    c.in_ok-keep_copy.ensures.nodes c.in_ok-keep_copy.ensures.kept c.in_ok-inside.ensures.nodes.0
    refl (ap (λ b. (Str b, c.args.literal.start)) c.in_ok-extend_from_slice.ensures.ok) e)
    c.add-2.ensures.ok
