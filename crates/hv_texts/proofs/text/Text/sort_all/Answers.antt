use Rattle.std.proofs.Common.{◌∙◌, arith}
use Rattle.hv_texts.proofs.Numbers.{head_node}
use Rattle.hv_texts.proofs.Walking.{sorting_end, sorting_more, sorting_start}
use Rattle.hv_texts.proofs.text.Text.sort_all.Goals as goal

pub loop-outcome-init : goal.loop-outcome-init
loop-outcome-init c =
    sorting_start c.args.store.now c.args.self.now.cond c.args.self.now.origin.now
    c.args.self.now.ends c.args.self.now.table.now c.args.self.now.run.now c.args.at
    c.args.place.now c.args.outcomes c.from_vec-pending.result.items c.args.walk.now.given
    c.args.walk.now.reached.items c.args.walk.now.refusals
    (c.from_vec-pending.ensures.items ∙ c.into_vec.ensures) c.requires.turn

pub sort-requires-clause-cond : goal.sort-requires-clause-cond
sort-requires-clause-cond c =
    head_node c.loop-outcome.store c.in-Some.outcome c.pop_front.new.self.items
    c.loop-outcome.pending.items c.in-Some.ensures.items
    c.loop-outcome.invariant.turn.sorted.pending_nodes

pub sort-requires-clause-end : goal.sort-requires-clause-end
sort-requires-clause-end c =
    sorting_end c.args.store.now c.loop-outcome.store c.args.self.now.cond c.args.cond
    c.args.self.now.origin.now c.args.self.now.ends c.args.self.now.table.now
    c.args.self.now.run.now c.args.at c.args.place.now c.args.outcomes c.loop-outcome.walk.given
    c.in-Some.outcome c.pop_front.new.self.items c.loop-outcome.pending.items
    c.loop-outcome.walk.reached.items c.loop-outcome.walk.refusals c.requires.outcomes
    c.requires.within c.loop-outcome.invariant c.in-Some.ensures.items

pub sort-requires-clause-within : goal.sort-requires-clause-within
sort-requires-clause-within c =
    let l = c.loop-outcome.invariant.turn.long in let w = c.requires.within in omega arith

pub loop-outcome-preserved : goal.loop-outcome-preserved
loop-outcome-preserved c =
    sorting_more c.args.store.now c.loop-outcome.store c.sort.new.store c.args.self.now.cond
    c.args.cond c.args.self.now.origin.now c.args.self.now.ends c.args.self.now.table.now
    c.args.self.now.run.now c.args.at c.args.place.now c.args.outcomes c.loop-outcome.walk.given
    c.sort.new.self.given c.in-Some.outcome c.pop_front.new.self.items
    c.loop-outcome.pending.items c.loop-outcome.walk.reached.items c.sort.new.self.reached.items
    c.loop-outcome.walk.refusals c.sort.new.self.refusals c.requires.outcomes c.requires.within
    c.loop-outcome.invariant c.in-Some.ensures.items c.sort.ensures.keeps
    c.in_ok-sort.ensures.moved c.in_ok-sort.ensures.long c.in_ok-sort.ensures.given
