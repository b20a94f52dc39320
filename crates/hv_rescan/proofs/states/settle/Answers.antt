use Rattle.std.proofs.Common.{◌≡◌, ℕ, List, [], ◌∷◌, ◌++◌, length, sym, ap, ◌∙◌}
use Rattle.hv_toks.specs.Macro.{Macro}
use Rattle.hv_toks.specs.declared.token.PpTok.{PpTok}
use Rattle.hv_plain.specs.episode.Expansion.{alone, at, settle}
use Rattle.hv_plain.specs.episode.Substitution.{Filled, Scan, resume}
use Rattle.hv_plain.specs.episode.Tokens.{Token}
use Rattle.hv_rescan.proofs.Scans.{none_is, pends, resumes, scanned, taken_is, went}
use Rattle.hv_rescan.specs.Values.{frame_of, frames_of, givens_of, token_of, tokens_of, unread_of}
use Rattle.hv_rescan.specs.declared.scan.Frame.{Frame as Frame'}
use Rattle.hv_rescan.specs.declared.token.Token.{Token as Token'}
use Rattle.hv_rescan.specs.working.Steps.{filled_of}
use Rattle.hv_rescan.proofs.states.settle.Goals as goal

-- a text that is left, where a substitution waits for it
leaves : (macros : List ℕ → Macro) (run : List PpTok) (fs left : List Frame') (f : Frame')
    (front : List Token') (unread given : List Token) (x : Filled)
    → tokens_of macros front ≡ [] → fs ≡ f ∷ left → x ≡ resume (frame_of macros run f) given
    → went (frames_of macros run left) x ≡ settle (frames_of macros run fs)
    (scanned (tokens_of macros front ++ unread) (length unread) given)
leaves macros run fs left f front unread given x e h k =
    sym (resumes (frame_of macros run f) (frames_of macros run left) unread given x k)
    ∙ ap (λ (ts : List Token). settle (frames_of macros run (f ∷ left))
    (scanned (ts ++ unread) (length unread) given)) (sym e)
    ∙ ap (λ (gs : List Frame'). settle (frames_of macros run gs)
    (scanned (tokens_of macros front ++ unread) (length unread) given)) (sym h)

pub returns-in-Some : goal.returns-in-Some
returns-in-Some c macros run =
    let unread = unread_of run c.loop-frames.text.unread in
    let given = givens_of c.loop-frames.text.given in
    let fs = frames_of macros run c.loop-frames.frames in
    sym (pends fs (token_of macros c.in-Some.token) (tokens_of macros c.pop.new.self) unread
    given)
    ∙ ap (λ (ts : List Token). settle fs (scanned (ts ++ unread) (length unread) given))
    (taken_is macros c.in_ok-next.next c.in-Some.token _ _ c.in-Some.is
    (c.in_ok-next.ensures macros))
    ∙ c.loop-frames.invariant macros run

pub loop-frames-preserved : goal.loop-frames-preserved
loop-frames-preserved c macros run =
    leaves macros run c.loop-frames.frames c.pop-in-loop-frames.new.self c.in-Some-pop.frame
    c.loop-frames.text.front (unread_of run c.loop-frames.text.unread)
    (givens_of c.loop-frames.text.given) _ (none_is macros c.in_ok-next.next _ _ c.in_default.is (c.in_ok-next.ensures macros))
    c.in-Some-pop.ensures.some
    (ap (filled_of macros run) (sym c.in-Whole.is) ∙ c.in_ok-around.ensures macros run)
    ∙ c.loop-frames.invariant macros run

pub returns-in-Waits : goal.returns-in-Waits
returns-in-Waits c macros run =
    let t = token_of macros c.in-Waits.first in
    ap (λ (s : Scan). at t s (frames_of macros run c.push.new.self)) (c.alone.ensures macros run)
    ∙ ap (λ (ts : List Token'). at t (alone (tokens_of macros ts))
    (frames_of macros run c.push.new.self)) c.of_shared.ensures
    ∙ ap (λ (gs : List Frame'). at t (alone (tokens_of macros c.in-Waits.more))
    (frames_of macros run gs)) c.in_ok-push-in-Waits.ensures.ok
    ∙ leaves macros run c.loop-frames.frames c.pop-in-loop-frames.new.self c.in-Some-pop.frame
    c.loop-frames.text.front (unread_of run c.loop-frames.text.unread)
    (givens_of c.loop-frames.text.given) _ (none_is macros c.in_ok-next.next _ _ c.in_default.is (c.in_ok-next.ensures macros))
    c.in-Some-pop.ensures.some
    (ap (filled_of macros run) (sym c.in-Waits.is) ∙ c.in_ok-around.ensures macros run)
    ∙ c.loop-frames.invariant macros run

pub returns-in-Broken : goal.returns-in-Broken
returns-in-Broken c macros run =
    leaves macros run c.loop-frames.frames c.pop-in-loop-frames.new.self c.in-Some-pop.frame
    c.loop-frames.text.front (unread_of run c.loop-frames.text.unread)
    (givens_of c.loop-frames.text.given) _ (none_is macros c.in_ok-next.next _ _ c.in_default.is (c.in_ok-next.ensures macros))
    c.in-Some-pop.ensures.some
    (ap (filled_of macros run) (sym c.in-Broken.is) ∙ c.in_ok-around.ensures macros run)
    ∙ c.loop-frames.invariant macros run
