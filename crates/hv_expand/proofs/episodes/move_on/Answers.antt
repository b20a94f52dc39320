use Rattle.std.proofs.Common.{ap, sym, ◌∙◌, subst}
use Rattle.std.proofs.lemmas.Result.{IfOk-weaker}
use Rattle.hv_plain.specs.episode.Expansion.{Deed, State, after}
use Rattle.hv_expand.specs.declared.moves.Deed.{Deed as Deed'}
use Rattle.hv_expand.specs.working.Going.{moved}
use Rattle.hv_expand.specs.working.Moves.{Says}
use Rattle.hv_expand.proofs.episodes.move_on.Goals as goal

pub returns-in-Use-clause-moves : goal.returns-in-Use-clause-moves
returns-in-Use-clause-moves c =
    IfOk-weaker c.use_macro.result _ _
    (λ next uses macros d says n.
    let s = subst (λ (x : Deed'). Says x d) c.in-Use.is says in
    uses macros n.token n.scan n.frames s.0 n.is
    ∙ ap (λ (x : Deed). after c.args.machine.run.ends n.token n.scan n.frames x) (sym s.1)
    ∙ ap (λ (x : State). moved c.args.machine.run.ends x d) (sym n.is))
    c.use_macro.ensures.uses

pub returns-in-Stop-clause-moves : goal.returns-in-Stop-clause-moves
returns-in-Stop-clause-moves c = λ macros d says n.
    let s = subst (λ (x : Deed'). Says x d) c.in-Stop.is says in
    c.stop.ensures.stops macros n.token n.scan n.frames n.is
    ∙ ap (λ (x : Deed). after c.args.machine.run.ends n.token n.scan n.frames x) (sym s)
    ∙ ap (λ (x : State). moved c.args.machine.run.ends x d) (sym n.is)
