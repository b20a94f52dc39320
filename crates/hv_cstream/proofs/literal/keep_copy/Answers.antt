use Rattle.std.proofs.Common.{◌≡◌, refl}
use Rattle.hv_cond.specs.Laws.{holds-falsity}
use Rattle.hv_cstream.proofs.Literals.{copied_nowhere, nodes_pushed, on_ok, open_pushed_as}
use Rattle.hv_cstream.specs.working.Joining.{shown}
use Rattle.hv_cstream.proofs.literal.keep_copy.Goals as goal

pub returns-then-is_false-clause-kept : goal.returns-then-is_false-clause-kept
returns-then-is_false-clause-kept c =
    copied_nowhere _ c.args.literals.now c.args.cond (shown c.args.literal.now)
    (holds-falsity _ _ (c.if-is_false.ensures.falsity.0 refl))

pub returns-clause-nodes : goal.returns-clause-nodes
returns-clause-nodes c =
    on_ok c.add.result _ _
    (nodes_pushed _ c.args.literals.now c.add.new.self _ c.requires.nodes c.requires.node)
    c.add.ensures.ok

pub returns-clause-kept : goal.returns-clause-kept
returns-clause-kept c =
    on_ok c.add.result _ _
    (λ e. open_pushed_as _ c.args.literals.now c.add.new.self
    (record { cond = c.args.cond; start = c.in_ok-copy.field-0; bytes = c.in_ok-copy-2.field-0 })
    c.args.literal.now e
    (let start : c.in_ok-copy.field-0 ≡ c.args.literal.now.start = c.in_ok-copy.ensures in
    let bytes : c.in_ok-copy-2.field-0 ≡ c.args.literal.now.bytes = c.in_ok-copy-2.ensures in (cc)))
    c.add.ensures.ok
