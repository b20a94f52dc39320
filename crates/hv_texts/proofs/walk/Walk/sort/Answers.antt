use Rattle.std.proofs.Common.{◌+◌, ◌-◌, ap, sym, subst, arith, drop}
use Rattle.std.specs.Prelude.{Ok, Err, OnOk, Result}
use Rattle.hv_expand.specs.declared.outcome.Expanded.{Expanded}
use Rattle.hv_texts.proofs.Slots.{slot_from, slot_node}
use Rattle.hv_texts.specs.working.Sorting.{IsMoved}
use Rattle.hv_texts.specs.working.Steps.{way_on}
use Rattle.hv_texts.proofs.walk.Walk.sort.Goals as goal

on_ok : {T E : Type 0} (r : Result T E) (P : Type 0) → P → OnOk r P
on_ok (Ok x) P p = p
on_ok (Err e) P p = tt

pub go_on-requires-clause-slot : goal.go_on-requires-clause-slot
go_on-requires-clause-slot c =
    slot_node c.args.store.now c.args.self.now.reached.items c.args.outcome.cond (c.args.at + 1)
    (c.args.outcome.end - (c.args.at + 1)) c.next_position.result c.next_position.ensures
    (omega (arith, c.next_position.ensures, c.requires.within, c.requires.end)) c.requires.slots

pub returns-in_ok-go_on-in-Tokens-clause-moved : goal.returns-in_ok-go_on-in-Tokens-clause-moved
returns-in_ok-go_on-in-Tokens-clause-moved c =
    on_ok c.give.result _
    (subst (λ (x : Expanded). IsMoved c.args.store.now c.go_on.new.store
    (drop (c.args.at + 1) c.args.self.now.reached.items)
    (drop (c.args.at + 1) c.give.new.self.reached.items) c.args.self.now.refusals
    c.give.new.self.refusals c.args.outcome.cond
    (way_on c.args.at c.args.place.now c.args.outcome.end x)) (sym c.in-Tokens.is)
    (slot_from c.args.store.now c.go_on.new.store c.args.self.now.reached.items
    c.go_on.new.self.reached.items c.give.new.self.reached.items c.args.self.now.refusals
    c.go_on.new.self.refusals c.give.new.self.refusals c.args.outcome.cond (c.args.at + 1)
    (c.args.outcome.end - (c.args.at + 1)) c.next_position.result c.next_position.ensures
    c.in_ok-go_on-in-Tokens.ensures.slot (ap (λ v. v.items) c.give.ensures.reached)
    c.give.ensures.refusals))
