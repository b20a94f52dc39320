use Rattle.std.proofs.Common.{◌≡◌, [], sym, ap, ◌∙◌}
use Rattle.hv_toks.specs.declared.token.PpTok.{PpTok}
use Rattle.hv_plain.specs.episode.Expansion.{next_mark}
use Rattle.hv_plain.specs.episode.Invocation.{mark}
use Rattle.hv_rescan.proofs.Ends.{next_front, next_none, next_unread, unread_ends}
use Rattle.hv_rescan.specs.Values.{unread_of}
use Rattle.hv_rescan.proofs.states.next.Goals.{in-Some-unread+else-unread-run, in_default-unread}
use Rattle.hv_rescan.proofs.states.next.Goals as goal

pub returns-in-Some : goal.returns-in-Some
returns-in-Some c macros =
    next_front macros c.args.ends c.args.text.now.front _ _ c.in-Some.token.now _
    c.in-Some.ensures (c.next_mark.ensures ∙ ap next_mark (c.mark.ensures macros))

pub returns-then-unread-run : goal.returns-then-unread-run
returns-then-unread-run c macros =
    next_unread macros c.args.run.now c.args.ends c.args.text.now.front c.args.text.now.unread
    c.in-Some-unread.unread c.index-run-unread.result _ _ c.in_default.ensures
    c.in-Some-unread.is c.if-unread-run.true c.index-run-unread.is
    (c.next_mark-then-unread-run.ensures ∙ ap next_mark (c.mark_in.ensures
    ∙ ap mark (c.as_slice.ensures ∙ ap (λ (t : PpTok). t.text) (sym c.index-run-unread.is))))

pub returns : goal.returns
returns c macros =
    let r : unread_of c.args.run.now c.args.text.now.unread ≡ [] =
    elim c.match-text.branch [
      | in-Some-unread+else-unread-run w ↦ unread_ends c.args.run.now c.args.text.now.unread
          w.in-Some-unread.unread w.in-Some-unread.is w.if-unread-run.false
      | in_default-unread w ↦ ap (unread_of c.args.run.now) w.in_default-unread.is
    ] in
    next_none macros c.args.ends c.args.text.now.front _ _ _ c.in_default.ensures r
    (c.next_end.ensures macros c.args.run.now)
