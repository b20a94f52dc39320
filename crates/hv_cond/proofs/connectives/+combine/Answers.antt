use Rattle.std.proofs.Common.{arith}
use Rattle.hv_cond.specs.working.Nodes.{newest_first}
use Rattle.hv_cond.proofs.Branches.{level-branch}
use Rattle.hv_cond.proofs.Combining.{Grows-below, Grows-then, IsBelow-low, IsBelow-high, IsBelow-refl, HalvesAnswered, halves_may_branch, halves_meaning}
use Rattle.hv_cond.proofs.connectives.+combine.Goals as goal

pub halves-requires-clause-in_range : goal.halves-requires-clause-in_range
halves-requires-clause-in_range t c =
    let s = c.args.nodes.now in
    let below = level-branch s.variables (newest_first s) c.requires.reduced.ordered c.args.a c.requires.first c.in_default.ensures.branches.0 in
    omega arith

pub halves-requires-2-clause-in_range : goal.halves-requires-2-clause-in_range
halves-requires-2-clause-in_range t c =
    let s = c.args.nodes.now in
    let below = level-branch s.variables (newest_first s) c.requires.reduced.ordered c.args.a c.requires.first c.in_default.ensures.branches.0 in
    omega arith

pub returns-in_err-high-clause-grows : goal.returns-in_err-high-clause-grows
returns-in_err-high-clause-grows t c =
    let s = c.args.nodes.now in
    let low_below = IsBelow-low s.variables (newest_first s) c.args.a c.args.b c.min-variable.result _ _ _ _ c.halves.ensures c.halves-2.ensures in
    let high_below = IsBelow-high s.variables (newest_first s) c.args.a c.args.b c.min-variable.result _ _ _ _ c.halves.ensures c.halves-2.ensures in
    Grows-then c.args.connective s c.combine.new.nodes c.combine-2.new.nodes c.args.results.now c.combine.new.results c.combine-2.new.results c.args.a c.args.b _ _
    (Grows-below c.args.connective s c.combine.new.nodes c.args.results.now c.combine.new.results c.args.a c.args.b _ _ low_below c.combine.ensures.grows) high_below c.combine-2.ensures.grows

pub enter-requires-clause-may_branch : goal.enter-requires-clause-may_branch
enter-requires-clause-may_branch t c =
    let s = c.args.nodes.now in
    let below = level-branch s.variables (newest_first s) c.requires.reduced.ordered c.args.a c.requires.first c.in_default.ensures.branches.0 in
    let h : HalvesAnswered c.args.connective s c.combine.new.nodes c.combine-2.new.nodes c.args.a c.args.b c.min-variable.result c.in_ok-low.low c.in_ok-high.high = record {
      first = c.requires.first;
      second = c.requires.second;
      in_range = omega arith;
      a_low = _;
      a_high = _;
      b_low = _;
      b_high = _;
      a_halves = c.halves.ensures;
      b_halves = c.halves-2.ensures;
      to_mid = c.combine.ensures.grows.extends;
      to_new = c.combine-2.ensures.grows.extends;
      mid_reduced = c.combine.ensures.grows.reduced;
      new_reduced = c.combine-2.ensures.grows.reduced;
      low_answer = c.in_ok-low.ensures.answer;
      high_answer = c.in_ok-high.ensures.answer;
    } in
    halves_may_branch c.args.connective s c.combine.new.nodes c.combine-2.new.nodes c.args.a c.args.b c.min-variable.result c.in_ok-low.low c.in_ok-high.high h

pub enter-requires-clause-meaning : goal.enter-requires-clause-meaning
enter-requires-clause-meaning t c =
    let s = c.args.nodes.now in
    let below = level-branch s.variables (newest_first s) c.requires.reduced.ordered c.args.a c.requires.first c.in_default.ensures.branches.0 in
    let h : HalvesAnswered c.args.connective s c.combine.new.nodes c.combine-2.new.nodes c.args.a c.args.b c.min-variable.result c.in_ok-low.low c.in_ok-high.high = record {
      first = c.requires.first;
      second = c.requires.second;
      in_range = omega arith;
      a_low = _;
      a_high = _;
      b_low = _;
      b_high = _;
      a_halves = c.halves.ensures;
      b_halves = c.halves-2.ensures;
      to_mid = c.combine.ensures.grows.extends;
      to_new = c.combine-2.ensures.grows.extends;
      mid_reduced = c.combine.ensures.grows.reduced;
      new_reduced = c.combine-2.ensures.grows.reduced;
      low_answer = c.in_ok-low.ensures.answer;
      high_answer = c.in_ok-high.ensures.answer;
    } in
    λ v. halves_meaning c.args.connective s c.combine.new.nodes c.combine-2.new.nodes c.args.a c.args.b c.min-variable.result c.in_ok-low.low c.in_ok-high.high h v

pub returns-clause-grows : goal.returns-clause-grows
returns-clause-grows t c =
    let s = c.args.nodes.now in
    let low_below = IsBelow-low s.variables (newest_first s) c.args.a c.args.b c.min-variable.result _ _ _ _ c.halves.ensures c.halves-2.ensures in
    let high_below = IsBelow-high s.variables (newest_first s) c.args.a c.args.b c.min-variable.result _ _ _ _ c.halves.ensures c.halves-2.ensures in
    let both = Grows-then c.args.connective s c.combine.new.nodes c.combine-2.new.nodes c.args.results.now c.combine.new.results c.combine-2.new.results c.args.a c.args.b _ _
    (Grows-below c.args.connective s c.combine.new.nodes c.args.results.now c.combine.new.results c.args.a c.args.b _ _ low_below c.combine.ensures.grows) high_below c.combine-2.ensures.grows in
    Grows-then c.args.connective s c.combine-2.new.nodes c.enter.new.nodes c.args.results.now c.combine-2.new.results c.enter.new.results c.args.a c.args.b c.args.a c.args.b both (IsBelow-refl (newest_first s) c.args.a c.args.b) c.enter.ensures.grows
