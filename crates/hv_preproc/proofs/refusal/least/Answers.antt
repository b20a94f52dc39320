use Rattle.std.proofs.Common.{◌≡◌, List, Bool, length, subst, sym, ◌∙◌, rules}
use Rattle.std.specs.Prelude.{Decides, IfSome}
use Rattle.std.specs.Vec.Iter.{into_iter_len}
use Rattle.std.proofs.lemmas.Iterator.Adapters.{YieldsList-from_vec}
use Rattle.std.proofs.lemmas.Iterator.Consumers.{YieldsList-turn}
use Rattle.hv_base.specs.declared.config.Config.{Config}
use Rattle.hv_cond.specs.Diagram.{IsBefore}
use Rattle.hv_preproc.proofs.Leasts.{entry_can_hold, least_else, least_then}
use Rattle.hv_toks.specs.declared.parted.Failing.{Failing}
use Rattle.hv_preproc.proofs.refusal.least.Goals as goal

pub first_of-requires-clause-node : goal.first_of-requires-clause-node
first_of-requires-clause-node c =
    let count : into_iter_len c.into_iter-entry-iterator.result ≡ length c.args.failing =
    search rules in
    let t = YieldsList-turn (YieldsList-from_vec c.args.failing
    (c.into_iter-entry-iterator.ensures.into_iter_gives.0 ∙ c.into_vec-entry-items.ensures) count)
    c.loop-entry.yielded c.loop-entry.entry-iterator c.loop-entry.yielded_by c.next.result
    c.next.new.self c.in-Some.entry c.in-Some.is c.next.ensures.steps in
    (entry_can_hold c.args.store.now c.args.failing c.in-Some.entry c.requires.nodes
    c.requires.possible (length c.loop-entry.yielded, t.0, sym t.1)).0

pub first_of-requires-clause-possible : goal.first_of-requires-clause-possible
first_of-requires-clause-possible c =
    let count : into_iter_len c.into_iter-entry-iterator.result ≡ length c.args.failing =
    search rules in
    let t = YieldsList-turn (YieldsList-from_vec c.args.failing
    (c.into_iter-entry-iterator.ensures.into_iter_gives.0 ∙ c.into_vec-entry-items.ensures) count)
    c.loop-entry.yielded c.loop-entry.entry-iterator c.loop-entry.yielded_by c.next.result
    c.next.new.self c.in-Some.entry c.in-Some.is c.next.ensures.steps in
    (entry_can_hold c.args.store.now c.args.failing c.in-Some.entry c.requires.nodes
    c.requires.possible (length c.loop-entry.yielded, t.0, sym t.1)).1

pub loop-entry-preserved-then-is_less : goal.loop-entry-preserved-then-is_less
loop-entry-preserved-then-is_less c =
    record {
      can_next = tt;
      finite = tt;
      least = least_then c.args.store.now c.loop-entry.yielded c.loop-entry.least c.in-Some.entry
          c.in_ok-config.config.on c.is_less.result c.loop-entry.invariant.least
          c.in_ok-config.ensures
          (subst (λ (values : List Bool). IfSome c.loop-entry.least
          (λ (found : Config × Failing). Decides c.is_less.result (IsBefore values found.0.on)))
          c.as_slice.ensures c.is_less.ensures.some) c.if-is_less.true;
    }

pub loop-entry-preserved : goal.loop-entry-preserved
loop-entry-preserved c =
    record {
      can_next = tt;
      finite = tt;
      least = least_else c.args.store.now c.loop-entry.yielded c.loop-entry.least c.in-Some.entry
          c.in_ok-config.config.on c.is_less.result c.loop-entry.invariant.least
          c.in_ok-config.ensures
          (subst (λ (values : List Bool). IfSome c.loop-entry.least
          (λ (found : Config × Failing). Decides c.is_less.result (IsBefore values found.0.on)))
          c.as_slice.ensures c.is_less.ensures.some) c.is_less.ensures.none c.if-is_less.false;
    }
