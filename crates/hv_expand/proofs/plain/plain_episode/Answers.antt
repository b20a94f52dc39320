use Rattle.std.proofs.Common.{Option, refl, subst}
use Rattle.hv_base.specs.declared.why.Why.{Why}
use Rattle.hv_expand.specs.Plain.{meanings}
use Rattle.hv_expand.specs.declared.plain.PlainTurn.{PlainTurn}
use Rattle.hv_expand.specs.working.PlainSteps.{IsPlainTurn}
use Rattle.hv_expand.specs.working.Steps.{IsRefusal}
use Rattle.hv_expand.proofs.PlainRuns.{plain_ends, plain_more, plain_refused, plain_start}
use Rattle.hv_expand.proofs.plain.plain_episode.Goals as goal

pub loop-settled-init : goal.loop-settled-init
loop-settled-init c =
    plain_start c.args.ends c.args.run.now c.args.at (meanings c.args.entries.now)
    c.in_ok-machine.machine c.in_ok-machine.ensures.ends c.in_ok-machine.ensures.tokens
    (c.in_ok-machine.ensures.starts (meanings c.args.entries.now))

pub returns-in-Ends : goal.returns-in-Ends
returns-in-Ends c =
    plain_ends c.args.ends c.args.run.now c.args.at (meanings c.args.entries.now)
    c.loop-settled.machine c.in_ok-settled.settled c.loop-settled.left c.loop-settled.invariant
    c.in_ok-settled.ensures.same c.in_ok-settled.ensures.run c.in-Ends.ending
    (subst (λ (x : PlainTurn). IsPlainTurn (meanings c.args.entries.now) c.in_ok-settled.settled
    c.args.at x) c.in-Ends.is c.in_ok-ending.ensures)

pub returns-in-Some : goal.returns-in-Some
returns-in-Some c =
    plain_refused c.args.ends c.args.run.now c.args.at (meanings c.args.entries.now)
    c.loop-settled.machine c.in_ok-settled.settled c.loop-settled.left c.loop-settled.invariant
    c.in_ok-settled.ensures.same c.in_ok-settled.ensures.run c.in-Does.deed
    (subst (λ (x : PlainTurn). IsPlainTurn (meanings c.args.entries.now) c.in_ok-settled.settled
    c.args.at x) c.in-Does.is c.in_ok-ending.ensures)
    c.in-Some.why
    (subst (λ (x : Option Why). IsRefusal c.in-Does.deed c.loop-settled.left x) c.in-Some.is
    c.refusal.ensures)

pub loop-settled-preserved-in_ok-machine-in-Does :
    goal.loop-settled-preserved-in_ok-machine-in-Does
loop-settled-preserved-in_ok-machine-in-Does c =
    plain_more c.args.ends c.args.run.now c.args.at (meanings c.args.entries.now)
    c.loop-settled.machine c.in_ok-settled.settled c.loop-settled.left c.loop-settled.invariant
    c.in_ok-settled.ensures.same c.in_ok-settled.ensures.run c.in-Does.deed
    (subst (λ (x : PlainTurn). IsPlainTurn (meanings c.args.entries.now) c.in_ok-settled.settled
    c.args.at x) c.in-Does.is c.in_ok-ending.ensures)
    c.in_ok-machine-in-Does.machine _
    (subst (λ (x : Option Why). IsRefusal c.in-Does.deed c.loop-settled.left x) c.in_default.is
    c.refusal.ensures)
    refl c.in_ok-machine-in-Does.ensures.moves c.in_ok-machine-in-Does.ensures.run

pub loop-settled-preserved : goal.loop-settled-preserved
loop-settled-preserved c =
    plain_more c.args.ends c.args.run.now c.args.at (meanings c.args.entries.now)
    c.loop-settled.machine c.in_ok-settled.settled c.loop-settled.left c.loop-settled.invariant
    c.in_ok-settled.ensures.same c.in_ok-settled.ensures.run c.in-Does.deed
    (subst (λ (x : PlainTurn). IsPlainTurn (meanings c.args.entries.now) c.in_ok-settled.settled
    c.args.at x) c.in-Does.is c.in_ok-ending.ensures)
    c.in_ok-machine-in-Does.machine _
    (subst (λ (x : Option Why). IsRefusal c.in-Does.deed c.loop-settled.left x) c.in_default.is
    c.refusal.ensures)
    refl c.in_ok-machine-in-Does.ensures.moves c.in_ok-machine-in-Does.ensures.run
