use Rattle.std.proofs.Common.{◌≡◌, ◌&&◌, Bool, List, [], refl, subst}
use Rattle.hv_cond.specs.Diagram.{holds}
use Rattle.hv_cstream.proofs.Literals.{nodes_kept, takes_string}
use Rattle.hv_cstream.specs.working.Joining.{Appends, is_none, open_in}
use Rattle.hv_cstream.proofs.joining.take_string.Goals as goal

pub append_all-requires-clause-nodes : goal.append_all-requires-clause-nodes
append_all-requires-clause-nodes c =
    nodes_kept c.outside_all.ensures.keeps c.args.literals c.requires.nodes

pub returns-clause-taken : goal.returns-clause-taken
returns-clause-taken c =
    takes_string c.outside_all.ensures.keeps c.append_all.ensures.keeps c.args.cond c.in_ok-rest.rest
    c.args.literals c.in_ok-after.after c.keep.new.literals _ c.args.bytes c.args.start
    c.requires.cond c.requires.nodes c.in_ok-rest.ensures.node
    (subst (λ ls. (v : List Bool) → holds c.outside_all.new.store c.in_ok-rest.rest v
    ≡ (holds c.args.store.now c.args.cond v && is_none (open_in c.args.store.now ls v)))
    c.as_slice.ensures c.in_ok-rest.ensures.outside)
    refl
    (subst (λ more. Appends c.outside_all.new.store c.append_all.new.store c.args.cond more
    c.args.literals [] c.in_ok-after.after) c.as_slice-2.ensures c.in_ok-after.ensures.appended)
    c.in_ok-keep.ensures.kept
