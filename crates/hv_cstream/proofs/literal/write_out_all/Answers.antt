use Rattle.std.proofs.Common.{◌≡◌, [], length, sym, ◌∙◌, subst, rules}
use Rattle.std.specs.Vec.Iter.{into_iter_len}
use Rattle.std.proofs.lemmas.Iterator.Adapters.{YieldsList-from_vec}
use Rattle.std.proofs.lemmas.Iterator.Consumers.{YieldsList-end, YieldsList-turn}
use Rattle.std.proofs.lemmas.List.{map-id}
use Rattle.hv_cond.specs.Laws.{Keeps-refl, Keeps-trans}
use Rattle.hv_cstream.proofs.Literals.{node_at, nodes_more, nodes_none, writes_more, writes_start}
use Rattle.hv_cstream.specs.working.Joining.{WritesOut}
use Rattle.hv_cstream.proofs.literal.write_out_all.Goals as goal

pub write_out-requires-clause-literal : goal.write_out-requires-clause-literal
write_out-requires-clause-literal c =
    let count : into_iter_len c.into_iter-literal-iterator.result ≡ length c.args.literals =
    search rules in
    let t = YieldsList-turn (YieldsList-from_vec c.args.literals
    (c.into_iter-literal-iterator.ensures.into_iter_gives.0 ∙ c.into_vec-literal-items.ensures) count)
    c.loop-literal.yielded c.loop-literal.literal-iterator
    c.loop-literal.yielded_by c.next.result c.next.new.self c.in-Some.literal c.in-Some.is
    c.next.ensures.steps in
    c.loop-literal.invariant.keeps.stays c.in-Some.literal.cond
    (node_at _ c.args.literals _ c.in-Some.literal c.requires.nodes t)

pub write_out-requires-clause-nodes : goal.write_out-requires-clause-nodes
write_out-requires-clause-nodes c = c.loop-literal.invariant.written.nodes

pub write_out-requires-clause-out_nodes : goal.write_out-requires-clause-out_nodes
write_out-requires-clause-out_nodes c = c.loop-literal.invariant.written.out_nodes

pub loop-literal-init : goal.loop-literal-init
loop-literal-init c =
    record {
      can_next = tt;
      finite = tt;
      keeps = Keeps-refl _;
      done = nodes_none _;
      written = writes_start _ _ _ _ c.requires.out_nodes c.new-after.ensures;
    }

pub loop-literal-preserved : goal.loop-literal-preserved
loop-literal-preserved c =
    let count : into_iter_len c.into_iter-literal-iterator.result ≡ length c.args.literals =
    search rules in
    let t = YieldsList-turn (YieldsList-from_vec c.args.literals
    (c.into_iter-literal-iterator.ensures.into_iter_gives.0 ∙ c.into_vec-literal-items.ensures) count)
    c.loop-literal.yielded c.loop-literal.literal-iterator
    c.loop-literal.yielded_by c.next.result c.next.new.self c.in-Some.literal c.in-Some.is
    c.next.ensures.steps in
    record {
      can_next = tt;
      finite = tt;
      keeps = Keeps-trans c.loop-literal.invariant.keeps c.write_out.ensures.keeps;
      done = nodes_more _ c.loop-literal.yielded c.in-Some.literal c.loop-literal.invariant.done
          (node_at _ c.args.literals _ c.in-Some.literal c.requires.nodes t);
      written = writes_more c.loop-literal.invariant.keeps c.args.cond c.requires.cond
          c.loop-literal.yielded c.in-Some.literal c.loop-literal.after c.write_out.new.literals
          c.args.out.now c.loop-literal.out c.write_out.new.out c.loop-literal.invariant.done
          (node_at _ c.args.literals _ c.in-Some.literal c.requires.nodes t)
          c.loop-literal.invariant.written c.in_ok-write_out.ensures.written;
    }

pub returns-clause-written : goal.returns-clause-written
returns-clause-written c =
    let count : into_iter_len c.into_iter-literal-iterator.result ≡ length c.args.literals =
    search rules in
    let t = YieldsList-end (YieldsList-from_vec c.args.literals
    (c.into_iter-literal-iterator.ensures.into_iter_gives.0 ∙ c.into_vec-literal-items.ensures) count)
    c.loop-literal.yielded c.loop-literal.literal-iterator
    c.loop-literal.yielded_by c.next.result c.next.new.self c.in-None.is c.next.ensures.steps in
    subst (λ xs. WritesOut c.args.store.now c.loop-literal.store c.args.cond xs []
    c.loop-literal.after c.args.out.now c.loop-literal.out)
    (sym (map-id c.loop-literal.yielded) ∙ t.0) c.loop-literal.invariant.written
