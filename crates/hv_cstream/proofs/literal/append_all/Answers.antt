use Rattle.std.proofs.Common.{◌≡◌, [], length, sym, ◌∙◌, subst, rules}
use Rattle.std.specs.Vec.Iter.{into_iter_len}
use Rattle.std.proofs.lemmas.Iterator.Adapters.{YieldsList-from_vec}
use Rattle.std.proofs.lemmas.Iterator.Consumers.{YieldsList-end, YieldsList-turn}
use Rattle.std.proofs.lemmas.List.{map-id}
use Rattle.hv_cond.specs.Laws.{Keeps-refl, Keeps-trans}
use Rattle.hv_cstream.proofs.Literals.{appends_more, appends_start, node_at, nodes_more, nodes_none}
use Rattle.hv_cstream.specs.working.Joining.{Appends}
use Rattle.hv_cstream.proofs.literal.append_all.Goals as goal

pub append-requires-clause-literal : goal.append-requires-clause-literal
append-requires-clause-literal c =
    let count : into_iter_len c.into_iter-literal-iterator.result ≡ length c.args.literals =
    search rules in
    let t = YieldsList-turn (YieldsList-from_vec c.args.literals
    (c.into_iter-literal-iterator.ensures.into_iter_gives.0 ∙ c.into_vec-literal-items.ensures) count)
    c.loop-literal.yielded c.loop-literal.literal-iterator
    c.loop-literal.yielded_by c.next.result c.next.new.self c.in-Some.literal c.in-Some.is
    c.next.ensures.steps in
    c.loop-literal.invariant.keeps.stays c.in-Some.literal.cond
    (node_at _ c.args.literals _ c.in-Some.literal c.requires.nodes t)

pub append-requires-clause-nodes : goal.append-requires-clause-nodes
append-requires-clause-nodes c = c.loop-literal.invariant.appended.nodes

pub loop-literal-init : goal.loop-literal-init
loop-literal-init c =
    record {
      can_next = tt;
      finite = tt;
      keeps = Keeps-refl _;
      done = nodes_none _;
      appended = appends_start _ _ _ _ c.new-after.ensures;
    }

pub loop-literal-preserved : goal.loop-literal-preserved
loop-literal-preserved c =
    let count : into_iter_len c.into_iter-literal-iterator.result ≡ length c.args.literals =
    search rules in
    let t = YieldsList-turn (YieldsList-from_vec c.args.literals
    (c.into_iter-literal-iterator.ensures.into_iter_gives.0 ∙ c.into_vec-literal-items.ensures) count)
    c.loop-literal.yielded c.loop-literal.literal-iterator
    c.loop-literal.yielded_by c.next.result c.next.new.self c.in-Some.literal c.in-Some.is
    c.next.ensures.steps in
    record {
      can_next = tt;
      finite = tt;
      keeps = Keeps-trans c.loop-literal.invariant.keeps c.append.ensures.keeps;
      done = nodes_more _ c.loop-literal.yielded c.in-Some.literal c.loop-literal.invariant.done
          (node_at _ c.args.literals _ c.in-Some.literal c.requires.nodes t);
      appended = appends_more c.loop-literal.invariant.keeps c.args.cond c.requires.cond
          c.args.more.now c.loop-literal.yielded c.in-Some.literal c.loop-literal.after
          c.append.new.literals c.loop-literal.invariant.done
          (node_at _ c.args.literals _ c.in-Some.literal c.requires.nodes t)
          c.loop-literal.invariant.appended c.in_ok-append.ensures.appended;
    }

pub returns-clause-appended : goal.returns-clause-appended
returns-clause-appended c =
    let count : into_iter_len c.into_iter-literal-iterator.result ≡ length c.args.literals =
    search rules in
    let t = YieldsList-end (YieldsList-from_vec c.args.literals
    (c.into_iter-literal-iterator.ensures.into_iter_gives.0 ∙ c.into_vec-literal-items.ensures) count)
    c.loop-literal.yielded c.loop-literal.literal-iterator
    c.loop-literal.yielded_by c.next.result c.next.new.self c.in-None.is c.next.ensures.steps in
    subst (λ xs. Appends c.args.store.now c.loop-literal.store c.args.cond c.args.more.now xs []
    c.loop-literal.after) (sym (map-id c.loop-literal.yielded) ∙ t.0)
    c.loop-literal.invariant.appended
