use Rattle.std.proofs.Common.{Option, subst}
use Rattle.hv_expand.specs.declared.episodes.Digit.{Digit}
use Rattle.hv_expand.specs.working.Kept.{good_kept}
use Rattle.hv_expand.specs.working.Steps.{IsDigitOf}
use Rattle.hv_expand.proofs.Settling.{settling_ends, settling_more, settling_start}
use Rattle.hv_expand.proofs.episodes.Episodes.settle.Goals as goal

pub loop-machine-init : goal.loop-machine-init
loop-machine-init c =
    settling_start c.args.store.now c.args.self.now c.args.machine c.args.cond c.requires.node
    c.requires.possible c.requires.machine

pub ask_digit-requires-clause-good : goal.ask_digit-requires-clause-good
ask_digit-requires-clause-good c =
    good_kept c.args.store.now c.loop-machine.store c.args.self.now c.loop-machine.invariant.keeps
    c.requires.good

pub loop-machine-preserved : goal.loop-machine-preserved
loop-machine-preserved c =
    settling_more c.args.store.now c.loop-machine.store c.ask_digit.new.store c.args.self.now
    c.args.machine c.loop-machine.machine c.in_ok-machine.machine c.args.cond c.loop-machine.cond
    c.in-Some.digit c.requires.good c.loop-machine.invariant c.ask_digit.ensures.keeps
    (subst (λ (x : Option Digit). IsDigitOf c.loop-machine.store c.ask_digit.new.store
    c.args.self.now c.loop-machine.machine c.loop-machine.cond x) c.in-Some.is
    c.in_ok-digit.ensures.digit)
    c.in_ok-machine.ensures.settles c.in_ok-machine.ensures.run

pub returns-clause-part : goal.returns-clause-part
returns-clause-part c =
    settling_ends c.args.store.now c.loop-machine.store c.ask_digit.new.store c.args.self.now
    c.args.machine c.loop-machine.machine c.args.cond c.loop-machine.cond c.loop-machine.invariant
    c.ask_digit.ensures.keeps
    (subst (λ (x : Option Digit). IsDigitOf c.loop-machine.store c.ask_digit.new.store
    c.args.self.now c.loop-machine.machine c.loop-machine.cond x) c.in_default.is
    c.in_ok-digit.ensures.digit)
