use Rattle.std.proofs.Common.{◌≡◌, false, sym, refl, ◌∙◌, arith}
use Rattle.std.proofs.lemmas.Bool.{both_ways, true≢false}
use Rattle.std.proofs.lemmas.List.{get_or_past}
use Rattle.hv_cond.specs.Diagram.{holds, value_of}
use Rattle.hv_cond.specs.working.Orders.{seen}
use Rattle.hv_cond.proofs.Searching.{lowered_first}
use Rattle.hv_cond.proofs.Seen.{holds-seen}
use Rattle.hv_cond.proofs.paths.pick.Goals as goal

pub returns-then-not-search-clause-none : goal.returns-then-not-search-clause-none
returns-then-not-search-clause-none c =
    let a = c.args in (
      λ e values len. holds-seen a.order.now a.nodes.now c.requires.order c.requires.reduced a.c c.requires.node values
          ∙ c.search.ensures.none c.if-not-search.true values (λ i l. absurd (omega arith)),
      λ never. refl,
    )

pub loop-variable-preserved : goal.loop-variable-preserved
loop-variable-preserved c =
    let a = c.args in
    let l = c.loop-variable in
    let i = l.invariant in
    let r = c.in_ok-lower.ensures in
    record {
      all_variables = r.all_variables;
      satisfies = r.satisfies;
      first = lowered_first _ _ a.c l.variable l.values.items c.lower.new.values.items i.first r.before r.least;
    }

pub returns-clause-none : goal.returns-clause-none
returns-clause-none c =
    let a = c.args in
    let i = c.loop-variable.invariant in
    let values = c.loop-variable.values.items in (
      λ e. absurd (true≢false e),
      λ never. absurd (both_ways (holds (seen a.order.now a.nodes.now) a.c values) (never values i.all_variables)
          (holds-seen a.order.now a.nodes.now c.requires.order c.requires.reduced a.c c.requires.node values ∙ i.satisfies)),
    )

pub returns-clause-least : goal.returns-clause-least
returns-clause-least c =
    let a = c.args in
    let i = c.loop-variable.invariant in
    let values = c.loop-variable.values.items in
    let seen_is = holds-seen a.order.now a.nodes.now c.requires.order c.requires.reduced a.c c.requires.node in
    record {
      all_variables = i.all_variables;
      satisfies = seen_is values ∙ i.satisfies;
      first = λ others len h before.
          let far = i.first others (sym (seen_is others) ∙ h) before in
          let end = c.loop-variable-test.false in
          let all = i.all_variables in
          let past : value_of values before.place ≡ false = get_or_past values before.place false (omega arith) in
          both_ways _ past before.right_true;
    }
