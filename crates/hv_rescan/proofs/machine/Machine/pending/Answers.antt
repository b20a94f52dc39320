use Rattle.std.proofs.Common.{◌≡◌, ℕ, List, ◌∷◌, ap, ◌∙◌, map}
use Rattle.hv_rescan.proofs.Ends.{digit_asked}
use Rattle.hv_rescan.specs.Values.{asked_in, asked_of, open_names, scan_of, state_in, state_of}
use Rattle.hv_rescan.specs.declared.spelling.Digit.{Digit}
use Rattle.hv_rescan.proofs.machine.Machine.pending.Goals as goal

pub returns-in-Done-clause-pends : goal.returns-in-Done-clause-pends
unfolding state_of
returns-in-Done-clause-pends c macros =
    let run = c.args.self.now.run.tokens.now in
    (scan_of macros run c.in-Done.text, ap (state_in macros run) c.in-Done.is)

pub returns-in-Open-clause-asks : goal.returns-in-Open-clause-asks
unfolding open_names
returns-in-Open-clause-asks c name e =
    let named : c.in-Open.first.name ≡ name = cc in
    let names : List (List ℕ) = map (λ (d : Digit). d.name) c.in-Open.more in (
      names,
      ap asked_of c.in-At.is ∙ ap asked_in c.in-Open.is
          ∙ ap (λ (n : List ℕ). n ∷ names) named,
    )

pub returns-in-Open-clause-tells : goal.returns-in-Open-clause-tells
unfolding state_of
returns-in-Open-clause-tells c name e macros others t u s r fs gs p q h =
    let named : c.in-Open.first.name ≡ name = cc in
    digit_asked c.args.self.now.run.tokens.now c.args.self.now.state c.in-At.token c.in-At.text
    c.in-At.frames c.in-Open.first c.in-Open.more c.in-Open.tail name macros others t u s r fs gs
    c.in-At.is c.in-Open.is named p q h
