use Rattle.std.proofs.Common.{Option, refl, subst}
use Rattle.hv_base.specs.declared.why.Why.{Why}
use Rattle.hv_cond.specs.Laws.{Keeps-trans}
use Rattle.hv_expand.specs.declared.episodes.Turn.{Turn}
use Rattle.hv_expand.specs.working.Kept.{good_kept}
use Rattle.hv_expand.specs.working.Steps.{IsRefusal, IsTurnOf}
use Rattle.hv_expand.proofs.Running.{running_ends, running_more, running_refused, running_start}
use Rattle.hv_expand.proofs.episodes.Episodes.find.Goals as goal

pub loop-part-init : goal.loop-part-init
loop-part-init c =
    running_start c.args.store.now c.args.self.now c.in_ok-machine.machine c.args.cond
    c.requires.node c.requires.possible c.in_ok-machine.ensures.starts
    c.in_ok-machine.ensures.ends c.in_ok-machine.ensures.tokens

pub settle-requires-clause-good : goal.settle-requires-clause-good
settle-requires-clause-good c =
    good_kept c.args.store.now c.loop-part.store c.args.self.now c.loop-part.invariant.keeps
    c.requires.good

pub next_turn-requires-clause-good : goal.next_turn-requires-clause-good
next_turn-requires-clause-good c =
    good_kept c.args.store.now c.settle.new.store c.args.self.now
    (Keeps-trans c.loop-part.invariant.keeps c.settle.ensures.keeps) c.requires.good

pub returns-in-Ends-clause-found : goal.returns-in-Ends-clause-found
returns-in-Ends-clause-found c =
    running_ends c.args.store.now c.loop-part.store c.settle.new.store c.next_turn.new.store
    c.args.self.now c.args.cond c.loop-part.cond c.loop-part.machine c.loop-part.left
    c.in_ok-part.part (record { cond = c.in_ok-part.part.cond; value = c.in-Ends.value })
    c.requires.good c.loop-part.invariant c.settle.ensures.keeps c.in_ok-part.ensures.part
    c.next_turn.ensures.keeps
    (subst (λ (x : Turn). IsTurnOf c.settle.new.store c.next_turn.new.store c.args.self.now
    c.in_ok-part.part x) c.in-Ends.is c.in_ok-value.ensures.turn)
    refl

pub returns-in-Some-clause-found : goal.returns-in-Some-clause-found
returns-in-Some-clause-found c =
    running_refused c.args.store.now c.loop-part.store c.settle.new.store c.next_turn.new.store
    c.args.self.now c.args.cond c.loop-part.cond c.loop-part.machine c.loop-part.left
    c.in_ok-part.part c.in-Moves.found c.in-Some.why
    (record { cond = c.in-Moves.found.cond; value = c.refused.result })
    c.requires.good c.loop-part.invariant c.settle.ensures.keeps c.in_ok-part.ensures.part
    c.next_turn.ensures.keeps
    (subst (λ (x : Turn). IsTurnOf c.settle.new.store c.next_turn.new.store c.args.self.now
    c.in_ok-part.part x) c.in-Moves.is c.in_ok-value.ensures.turn)
    (subst (λ (x : Option Why). IsRefusal c.in-Moves.found.deed c.loop-part.left x) c.in-Some.is
    c.refusal.ensures)
    refl c.refused.ensures

pub loop-part-preserved-in_ok-machine-in-Moves : goal.loop-part-preserved-in_ok-machine-in-Moves
loop-part-preserved-in_ok-machine-in-Moves c =
    running_more c.args.store.now c.loop-part.store c.settle.new.store c.next_turn.new.store
    c.args.self.now c.args.cond c.loop-part.cond c.loop-part.machine
    c.in_ok-machine-in-Moves.machine c.loop-part.left _ c.in_ok-part.part c.in-Moves.found
    c.requires.good c.loop-part.invariant c.settle.ensures.keeps c.in_ok-part.ensures.part
    c.next_turn.ensures.keeps
    (subst (λ (x : Turn). IsTurnOf c.settle.new.store c.next_turn.new.store c.args.self.now
    c.in_ok-part.part x) c.in-Moves.is c.in_ok-value.ensures.turn)
    (subst (λ (x : Option Why). IsRefusal c.in-Moves.found.deed c.loop-part.left x) c.in_default.is
    c.refusal.ensures)
    refl c.in_ok-machine-in-Moves.ensures.moves c.in_ok-machine-in-Moves.ensures.run

pub loop-part-preserved : goal.loop-part-preserved
loop-part-preserved c =
    running_more c.args.store.now c.loop-part.store c.settle.new.store c.next_turn.new.store
    c.args.self.now c.args.cond c.loop-part.cond c.loop-part.machine
    c.in_ok-machine-in-Moves.machine c.loop-part.left _ c.in_ok-part.part c.in-Moves.found
    c.requires.good c.loop-part.invariant c.settle.ensures.keeps c.in_ok-part.ensures.part
    c.next_turn.ensures.keeps
    (subst (λ (x : Turn). IsTurnOf c.settle.new.store c.next_turn.new.store c.args.self.now
    c.in_ok-part.part x) c.in-Moves.is c.in_ok-value.ensures.turn)
    (subst (λ (x : Option Why). IsRefusal c.in-Moves.found.deed c.loop-part.left x) c.in_default.is
    c.refusal.ensures)
    refl c.in_ok-machine-in-Moves.ensures.moves c.in_ok-machine-in-Moves.ensures.run
