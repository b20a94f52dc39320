use Rattle.std.proofs.Common.{refl, sym, ap, ◌∙◌}
use Rattle.hv_toks.specs.declared.macros.Body.{Body}
use Rattle.hv_plain.specs.declared.episode.RunEnd.{RunEnd}
use Rattle.hv_plain.specs.episode.Expansion.{State, at, done, refused, used}
use Rattle.hv_rescan.specs.Values.{state_in, text_of, token_of}
use Rattle.hv_rescan.proofs.deeds.used_in.Goals as goal

-- what the use of a macro makes of a state
abbrev used_at : RunEnd → Body → State → State
used_at ends body (at t s fs) = used ends t s fs body
used_at ends body (done s) = done s
used_at ends body (refused why) = refused why

pub returns : goal.returns
returns c macros t s fs h =
    c.in_ok-after.ensures macros (token_of macros c.in-At.token)
    (ap (text_of macros) c.in-Known.is) refl refl
    ∙ ap (used_at c.args.ends c.args.body.now)
    (ap (state_in macros c.args.run.now) (sym c.in-At.is) ∙ h)
