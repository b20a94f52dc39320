use Rattle.std.proofs.Common.{◌≡◌, ◌+◌, ◌++◌, ℕ, [], ◌∷◌, List, length, take, get_or, ap, sym, subst, ◌∙◌, arith, suc, zero-add}
use Rattle.std.proofs.lemmas.Grind.{common_steps}
use Rattle.std.specs.List.{range_with_len}
use Rattle.std.proofs.lemmas.List.{take_more}
use Rattle.hv_cond.specs.Order.{with, with_all}
use Rattle.hv_cond.specs.working.Orders.{IsPlacing}
use Rattle.hv_cond.proofs.OrderLemmas.{IsPlacing-none, range-more, with_all-more}
use Rattle.hv_cond.proofs.orders.arrange.Goals as goal

pub loop-variable-init : goal.loop-variable-init
loop-variable-init c =
    record {
      placing = IsPlacing-none c.args.vars c.in_ok-variables.variables.items c.in_ok-placed.placed.items c.in_ok-variables.ensures.items
          (grind (arith, common_steps, c.in_ok-placed.ensures.items_if_clones_equal)) (λ i l. grind (arith, common_steps, c.in_ok-placed.ensures.items_if_clones_equal));
      order = c.in_ok-variables.ensures.items;
    }

pub loop-variable-preserved : goal.loop-variable-preserved
loop-variable-preserved c =
    let l = c.loop-variable in
    let i = l.invariant in
    let all : length l.placed.items ≡ c.args.vars = i.placing.all in
    let test = c.loop-variable-test.true in
    let more : take (l.variable-index + 1) c.args.first.now ≡ take l.variable-index c.args.first.now ++ get_or c.args.first.now l.variable-index 0 ∷ [] =
    take_more c.args.first.now l.variable-index 0 (omega arith) in
    record {
      placing = subst (λ (n : ℕ). IsPlacing n c.place.new.variables.items c.place.new.placed.items) all c.in_ok-place.ensures.placing;
      order = c.in_ok-place.ensures.ok
          ∙ ap (λ (n : ℕ). with n l.variables.items (get_or c.args.first.now l.variable-index 0)) all
          ∙ ap (λ (xs : List ℕ). with c.args.vars xs (get_or c.args.first.now l.variable-index 0)) i.order
          ∙ sym (with_all-more c.args.vars [] (take l.variable-index c.args.first.now) (get_or c.args.first.now l.variable-index 0))
          ∙ ap (with_all c.args.vars []) (sym more);
    }

pub loop-variable-2-preserved : goal.loop-variable-2-preserved
loop-variable-2-preserved c =
    let l = c.loop-variable-2 in
    let i = l.invariant in
    let all : length l.placed.items ≡ c.args.vars = i.placing.all in
    let first = with_all c.args.vars [] c.args.first.now in
    let next : suc l.variable ≡ l.variable + 1 = omega arith in
    record {
      placing = subst (λ (n : ℕ). IsPlacing n c.place-in-loop-variable-2.new.variables.items c.place-in-loop-variable-2.new.placed.items) all c.in_ok-place-2.ensures.placing;
      order = c.in_ok-place-2.ensures.ok
          ∙ ap (λ (n : ℕ). with n l.variables.items l.variable) all
          ∙ ap (λ (xs : List ℕ). with c.args.vars xs l.variable) i.order
          ∙ sym (with_all-more c.args.vars first (range_with_len 0 l.variable) l.variable)
          ∙ ap (λ (k : ℕ). with_all c.args.vars first (range_with_len 0 l.variable ++ k ∷ [])) (sym (zero-add l.variable))
          ∙ ap (with_all c.args.vars first) (sym (range-more 0 l.variable) ∙ ap (range_with_len 0) next);
    }
