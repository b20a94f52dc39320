use Rattle.std.proofs.Common.{sym, ◌∙◌, arith}
use Rattle.hv_cond.specs.working.Nodes.{newest_first}
use Rattle.hv_cond.proofs.Branches.{branch_index}
use Rattle.hv_cond.proofs.Tables.{Extends-level, Extends-node}
use Rattle.hv_cond.proofs.Complementing.{GrowsBy-under, GrowsBy-then, IsUnder-low, IsUnder-high, IsUnder-refl, HalvesComplemented, complements_may_branch, complements_meaning, complement_terminal}
use Rattle.hv_cond.proofs.complements.+complement.Goals as goal

pub returns-in_default-clause-answer : goal.returns-in_default-clause-answer
returns-in_default-clause-answer t c = complement_terminal (newest_first c.args.nodes.now) c.args.a c.opposite.result c.in_default.ensures.terminal c.opposite.ensures

pub returns-in_err-high-clause-grows : goal.returns-in_err-high-clause-grows
returns-in_err-high-clause-grows t c =
    let s = c.args.nodes.now in
    let d = c.in-Some.decision in
    let f = c.in-Some.ensures.branch in
    let low = IsUnder-low s.variables (newest_first s) c.args.a d c.requires.node (branch_index f) f in
    let high = IsUnder-high s.variables (newest_first s) c.args.a d c.requires.node (branch_index f) f in
    GrowsBy-then s c.complement.new.nodes c.complement-2.new.nodes c.args.complements.now c.complement.new.complements c.complement-2.new.complements c.args.a d.high
    (GrowsBy-under s c.complement.new.nodes c.args.complements.now c.complement.new.complements c.args.a d.low low c.complement.ensures.grows) high c.complement-2.ensures.grows

pub enter-requires-clause-unknown : goal.enter-requires-clause-unknown
enter-requires-clause-unknown t c =
    let s = c.args.nodes.now in
    let d = c.in-Some.decision in
    let f = c.in-Some.ensures.branch in
    let e = c.complement.ensures.grows.extends in
    let level_is = f.level_is in
    let low_later = f.low_later in
    let high_later = f.high_later in
    let high_node = (IsUnder-high s.variables (newest_first s) c.args.a d c.requires.node (branch_index f) f).node in
    let at_a = Extends-level e c.args.a c.requires.node in
    let at_high = Extends-level e d.high high_node in
    c.complement-2.ensures.grows.earlier c.args.a (Extends-node e c.args.a c.requires.node) (omega arith)
    ∙ c.complement.ensures.grows.earlier c.args.a c.requires.node (omega arith) ∙ sym c.find.ensures ∙ c.in_default-find.is

pub enter-requires-clause-may_branch : goal.enter-requires-clause-may_branch
enter-requires-clause-may_branch t c =
    let s = c.args.nodes.now in
    let h : HalvesComplemented s c.complement.new.nodes c.complement-2.new.nodes c.args.a c.in-Some.decision c.in_ok-low.low c.in_ok-high.high = record {
      node = c.requires.node;
      branch = c.in-Some.ensures.branch;
      to_mid = c.complement.ensures.grows.extends;
      to_new = c.complement-2.ensures.grows.extends;
      mid_reduced = c.complement.ensures.grows.reduced;
      new_reduced = c.complement-2.ensures.grows.reduced;
      low_answer = c.in_ok-low.ensures.answer;
      high_answer = c.in_ok-high.ensures.answer;
    } in
    complements_may_branch s c.complement.new.nodes c.complement-2.new.nodes c.args.a c.in-Some.decision c.in_ok-low.low c.in_ok-high.high h

pub enter-requires-clause-meaning : goal.enter-requires-clause-meaning
enter-requires-clause-meaning t c =
    let s = c.args.nodes.now in
    let h : HalvesComplemented s c.complement.new.nodes c.complement-2.new.nodes c.args.a c.in-Some.decision c.in_ok-low.low c.in_ok-high.high = record {
      node = c.requires.node;
      branch = c.in-Some.ensures.branch;
      to_mid = c.complement.ensures.grows.extends;
      to_new = c.complement-2.ensures.grows.extends;
      mid_reduced = c.complement.ensures.grows.reduced;
      new_reduced = c.complement-2.ensures.grows.reduced;
      low_answer = c.in_ok-low.ensures.answer;
      high_answer = c.in_ok-high.ensures.answer;
    } in
    λ v. complements_meaning s c.complement.new.nodes c.complement-2.new.nodes c.args.a c.in-Some.decision c.in_ok-low.low c.in_ok-high.high h v

pub returns-clause-grows : goal.returns-clause-grows
returns-clause-grows t c =
    let s = c.args.nodes.now in
    let d = c.in-Some.decision in
    let f = c.in-Some.ensures.branch in
    let low = IsUnder-low s.variables (newest_first s) c.args.a d c.requires.node (branch_index f) f in
    let high = IsUnder-high s.variables (newest_first s) c.args.a d c.requires.node (branch_index f) f in
    let both = GrowsBy-then s c.complement.new.nodes c.complement-2.new.nodes c.args.complements.now c.complement.new.complements c.complement-2.new.complements c.args.a d.high
    (GrowsBy-under s c.complement.new.nodes c.args.complements.now c.complement.new.complements c.args.a d.low low c.complement.ensures.grows) high c.complement-2.ensures.grows in
    GrowsBy-then s c.complement-2.new.nodes c.enter.new.nodes c.args.complements.now c.complement-2.new.complements c.enter.new.complements c.args.a c.args.a both (IsUnder-refl s.variables (newest_first s) c.args.a c.requires.node) c.enter.ensures.grows
