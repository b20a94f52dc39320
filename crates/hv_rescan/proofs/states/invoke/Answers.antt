use Rattle.std.proofs.Common.{ℕ, List, Option, length, sym, ap, ◌∙◌}
use Rattle.hv_plain.specs.episode.Expansion.{begin, left_after}
use Rattle.hv_plain.specs.episode.Invocation.{Taken, takes}
use Rattle.hv_plain.specs.episode.Tokens.{both}
use Rattle.hv_rescan.proofs.Invocations.{none_taken, right_taken, taken_after, unread_left, wrong_taken}
use Rattle.hv_rescan.specs.Values.{arguments_of, frames_of, hides_of, scan_of, unread_of}
use Rattle.hv_rescan.specs.declared.arguments.Taken.{Taken as Taken'}
use Rattle.hv_rescan.specs.declared.token.Token.{Token as Token'}
use Rattle.hv_rescan.specs.working.Steps.{ahead_of, taken_of}
use Rattle.hv_rescan.proofs.states.invoke.Goals as goal

pub returns-in_default : goal.returns-in_default
returns-in_default c macros t e f g =
    let run = c.args.run.now in
    let s = scan_of macros run c.args.text in
    let fs = frames_of macros run c.args.frames in
    let after = ahead_of macros run c.take_arguments.new.front c.take_arguments.new.unread in
    none_taken c.args.ends t s fs c.args.body.now _ _
    (ap (λ (o : Option Taken'). taken_of macros o after) (sym c.in_default.is)
    ∙ taken_after macros c.args.body.now c.in_ok-taken.taken _ s.ahead _ after
    (c.in_ok-taken.ensures.taken macros) (c.in_ok-_opening.ensures.takes macros))
    (c.unclosed.ensures macros run)

pub returns-then-not-takes : goal.returns-then-not-takes
returns-then-not-takes c macros t e f g =
    let run = c.args.run.now in
    let s = scan_of macros run c.args.text in
    let fs = frames_of macros run c.args.frames in
    let after = ahead_of macros run c.take_arguments.new.front c.take_arguments.new.unread in
    let taken : Taken = record {
      arguments = arguments_of macros c.in-Some.taken.arguments.items;
      hides = hides_of c.in-Some.taken.hides;
      after = after;
    } in
    wrong_taken c.args.ends t s fs c.args.body.now taken _ c.takes.result
    (ap (λ (o : Option Taken'). taken_of macros o after) (sym c.in-Some.is)
    ∙ taken_after macros c.args.body.now c.in_ok-taken.taken _ s.ahead _ after
    (c.in_ok-taken.ensures.taken macros) (c.in_ok-_opening.ensures.takes macros))
    (c.takes.ensures macros ∙ ap (λ (xs : List (List Token')). takes c.args.body.now (arguments_of macros xs)) c.deref.ensures.value) c.if-not-takes.true

pub returns : goal.returns
returns c macros t e f g =
    let run = c.args.run.now in
    let s = scan_of macros run c.args.text in
    let fs = frames_of macros run c.args.frames in
    let body = c.args.body.now in
    let front = c.take_arguments.new.front in
    let rest = unread_of run c.take_arguments.new.unread in
    let after = ahead_of macros run front c.take_arguments.new.unread in
    let taken : Taken = record {
      arguments = arguments_of macros c.in-Some.taken.arguments.items;
      hides = hides_of c.in-Some.taken.hides;
      after = after;
    } in
    let hidden : List (List ℕ) = hides_of c.in_ok-hides.hides in
    c.in_ok-state.ensures macros run t e f
    ∙ ap (λ (n : ℕ). begin t (record { ahead = after; unread = n; given = s.given }) fs body
    taken.arguments hidden)
    (unread_left macros front rest s.unread (length (unread_of run c.take.new.unread))
    (length c.take.new.front) c.in_ok-_opening.ensures.left c.in_ok-taken.ensures.left
    c.in_ok-taken.ensures.no_more)
    ∙ ap (begin t (left_after s taken) fs body taken.arguments)
    (c.in_ok-hides.ensures ∙ ap (λ (hs : List (List ℕ)). both hs taken.hides) (sym g))
    ∙ right_taken c.args.ends t s fs body taken _ c.takes.result
    (ap (λ (o : Option Taken'). taken_of macros o after) (sym c.in-Some.is)
    ∙ taken_after macros body c.in_ok-taken.taken _ s.ahead _ after
    (c.in_ok-taken.ensures.taken macros) (c.in_ok-_opening.ensures.takes macros))
    (c.takes.ensures macros ∙ ap (λ (xs : List (List Token')). takes c.args.body.now (arguments_of macros xs)) c.deref.ensures.value) c.if-not-takes.false
