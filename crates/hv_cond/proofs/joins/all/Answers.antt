use Rattle.hv_cond.proofs.Joining.{AllNodes-permuted, all_hold-permuted, meaning_by}
use Rattle.hv_cond.specs.Diagram.{all_hold}
use Rattle.hv_cond.specs.working.Joins.{cond_in}
use Rattle.std.proofs.Common.{map}
use Rattle.hv_cond.proofs.joins.all.Goals as goal

pub joined-requires : goal.joined-requires
joined-requires c =
    rw c.as_slice.ensures.value
    (AllNodes-permuted c.args.store.now c.args.parts.now c.in_ok-last_first.last_first.items
    c.sort_by_key.new.self.items c.in_ok-last_first.ensures c.sort_by_key.ensures.permutation
    c.requires)

pub returns-clause-meaning : goal.returns-clause-meaning
returns-clause-meaning c =
    meaning_by c.joined.result c.joined.new.store
    (all_hold c.args.store.now (map cond_in c.as_slice.result.now))
    (all_hold c.args.store.now c.args.parts.now)
    (λ values. rw c.as_slice.ensures.value
    (all_hold-permuted c.args.store.now c.args.parts.now c.in_ok-last_first.last_first.items
    c.sort_by_key.new.self.items c.in_ok-last_first.ensures c.sort_by_key.ensures.permutation
    values))
    c.joined.ensures.meaning
