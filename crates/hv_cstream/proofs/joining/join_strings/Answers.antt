use Rattle.std.proofs.Common.{◌≡◌, length, sym, ◌∙◌, subst, rules}
use Rattle.std.specs.Vec.Iter.{into_iter_len}
use Rattle.std.proofs.lemmas.Iterator.Adapters.{YieldsList-from_vec}
use Rattle.std.proofs.lemmas.Iterator.Consumers.{YieldsList-end, YieldsList-turn}
use Rattle.std.proofs.lemmas.List.{map-id}
use Rattle.hv_cond.specs.Laws.{Keeps-refl, Keeps-trans}
use Rattle.hv_cstream.proofs.Joinings.{joining_end, joining_next, joining_start}
use Rattle.hv_cstream.proofs.Literals.{token_at}
use Rattle.hv_cstream.specs.Streams.{stream_in}
use Rattle.hv_cstream.specs.working.Joining.{IsJoining}
use Rattle.hv_cstream.proofs.joining.join_strings.Goals as goal

pub take-requires-clause-token : goal.take-requires-clause-token
take-requires-clause-token c =
    let count : into_iter_len c.into_iter-token-iterator.result ≡ length c.args.stream =
    search rules in
    let t = YieldsList-turn (YieldsList-from_vec c.args.stream
    (c.into_iter-token-iterator.ensures.into_iter_gives.0 ∙ c.into_vec-token-items.ensures) count)
    c.loop-token.yielded c.loop-token.token-iterator c.loop-token.yielded_by c.next.result
    c.next.new.self c.in-Some.token c.in-Some.is c.next.ensures.steps in
    c.loop-token.invariant.keeps.stays c.in-Some.token.cond
    (token_at _ c.args.stream _ c.in-Some.token c.requires.conditions t)

pub take-requires-clause-good : goal.take-requires-clause-good
take-requires-clause-good c = c.loop-token.invariant.joining.good_node

pub take-requires-clause-nodes : goal.take-requires-clause-nodes
take-requires-clause-nodes c = c.loop-token.invariant.joining.nodes

pub take-requires-clause-out_nodes : goal.take-requires-clause-out_nodes
take-requires-clause-out_nodes c = c.loop-token.invariant.joining.out_nodes

pub loop-token-init : goal.loop-token-init
loop-token-init c =
    record {
      can_next = tt;
      finite = tt;
      keeps = Keeps-refl _;
      joining = joining_start _ _ _ _ c.requires.good c.new-out.ensures c.new-literals.ensures;
    }

pub loop-token-preserved : goal.loop-token-preserved
loop-token-preserved c =
    let count : into_iter_len c.into_iter-token-iterator.result ≡ length c.args.stream =
    search rules in
    let t = YieldsList-turn (YieldsList-from_vec c.args.stream
    (c.into_iter-token-iterator.ensures.into_iter_gives.0 ∙ c.into_vec-token-items.ensures) count)
    c.loop-token.yielded c.loop-token.token-iterator c.loop-token.yielded_by c.next.result
    c.next.new.self c.in-Some.token c.in-Some.is c.next.ensures.steps in
    record {
      can_next = tt;
      finite = tt;
      keeps = Keeps-trans c.loop-token.invariant.keeps c.take.ensures.keeps;
      joining = joining_next c.args.store.now c.loop-token.store c.take.new.store
          c.loop-token.invariant.keeps c.args.good c.loop-token.yielded c.in-Some.token
          c.take.new.out c.in_ok-literals.literals
          (token_at _ c.args.stream _ c.in-Some.token c.requires.conditions t)
          (c.in_ok-literals.ensures.joined (λ v. stream_in c.args.store.now c.loop-token.yielded v)
          c.loop-token.invariant.joining);
    }

pub write_out_all-requires-clause-cond : goal.write_out_all-requires-clause-cond
write_out_all-requires-clause-cond c = c.loop-token.invariant.joining.good_node

pub write_out_all-requires-clause-nodes : goal.write_out_all-requires-clause-nodes
write_out_all-requires-clause-nodes c = c.loop-token.invariant.joining.nodes

pub write_out_all-requires-clause-out_nodes : goal.write_out_all-requires-clause-out_nodes
write_out_all-requires-clause-out_nodes c = c.loop-token.invariant.joining.out_nodes

pub returns-clause-joined : goal.returns-clause-joined
returns-clause-joined c =
    let count : into_iter_len c.into_iter-token-iterator.result ≡ length c.args.stream =
    search rules in
    let t = YieldsList-end (YieldsList-from_vec c.args.stream
    (c.into_iter-token-iterator.ensures.into_iter_gives.0 ∙ c.into_vec-token-items.ensures) count)
    c.loop-token.yielded c.loop-token.token-iterator c.loop-token.yielded_by c.next.result
    c.next.new.self c.in-None.is c.next.ensures.steps in
    joining_end c.loop-token.invariant.keeps c.write_out_all.ensures.keeps c.args.good
    c.args.stream c.loop-token.out c.write_out_all.new.out c.loop-token.literals _
    (subst (λ xs. IsJoining c.loop-token.store c.args.good (λ v. stream_in c.args.store.now xs v)
    c.loop-token.out c.loop-token.literals) (sym (map-id c.loop-token.yielded) ∙ t.0)
    c.loop-token.invariant.joining)
    c.in_ok-write_out_all.ensures.written
