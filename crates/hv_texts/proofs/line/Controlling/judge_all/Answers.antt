use Rattle.std.proofs.Common.{◌∙◌}
use Rattle.hv_texts.proofs.Lines.{judging_more, judging_start}
use Rattle.hv_texts.proofs.Numbers.{head_node}
use Rattle.hv_texts.proofs.line.Controlling.judge_all.Goals as goal

pub loop-outcome-init : goal.loop-outcome-init
loop-outcome-init c =
    judging_start c.args.store.now c.args.cond c.args.self.now.hash.now c.args.self.now.place.now
    c.args.self.now.table.now c.args.self.now.line.now c.args.outcomes
    c.from_vec-pending.result.items c.args.judging.now.given c.args.judging.now.truths
    c.args.judging.now.refusals (c.from_vec-pending.ensures.items ∙ c.into_vec.ensures)
    c.requires.judging

pub judge-requires-clause-cond : goal.judge-requires-clause-cond
judge-requires-clause-cond c =
    head_node c.loop-outcome.store c.in-Some.outcome c.pop_front.new.self.items
    c.loop-outcome.pending.items c.in-Some.ensures.items
    c.loop-outcome.invariant.judging.sorted.pending_nodes

pub loop-outcome-preserved : goal.loop-outcome-preserved
loop-outcome-preserved c =
    judging_more c.args.store.now c.loop-outcome.store c.judge.new.store c.args.cond c.args.cond
    c.args.self.now.hash.now c.args.self.now.place.now c.args.self.now.table.now
    c.args.self.now.line.now c.args.outcomes c.loop-outcome.judging.given c.in-Some.outcome
    c.pop_front.new.self.items c.loop-outcome.pending.items c.loop-outcome.judging.truths
    c.judge.new.self.truths c.loop-outcome.judging.refusals c.judge.new.self.refusals
    c.requires.outcomes c.loop-outcome.invariant c.in-Some.ensures.items c.judge.ensures.keeps
    c.in_ok-judge.ensures.moved c.judge.new.self.given c.in_ok-judge.ensures.given
