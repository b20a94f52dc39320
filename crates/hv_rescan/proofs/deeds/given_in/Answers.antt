use Rattle.std.proofs.Common.{[], ◌∷◌, ◌++◌, sym, ap, ◌∙◌}
use Rattle.hv_plain.specs.declared.episode.RunEnd.{RunEnd}
use Rattle.hv_plain.specs.episode.Expansion.{Deed, State, after, at, done, give, refused, settle}
use Rattle.hv_rescan.specs.Values.{frames_of, hides_of, scan_of, state_in, text_of}
use Rattle.hv_rescan.specs.declared.spelling.Spelling.{Spelling}
use Rattle.hv_rescan.proofs.deeds.given_in.Goals as goal

-- what a deed makes of a state
abbrev done_to : RunEnd → Deed → State → State
done_to ends d (at t s fs) = after ends t s fs d
done_to ends d (done s) = done s
done_to ends d (refused why) = refused why

pub returns : goal.returns
returns c macros run ends t s fs h =
    let text = scan_of macros run c.in-At.text in
    c.in_ok-after.ensures macros run
    ∙ ap (λ (x : Spelling). settle (frames_of macros run c.in-At.frames) (record text {
      given = text.given ++ (record {
        kind = c.in-At.token.kind;
        text = text_of macros x;
        space = c.in-At.token.space;
        hides = hides_of c.in-At.token.hides;
      }) ∷ [];
    })) (sym c.in-Known.is)
    ∙ ap (done_to ends give) (ap (state_in macros run) (sym c.in-At.is) ∙ h)
