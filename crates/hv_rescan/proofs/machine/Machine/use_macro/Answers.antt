use Rattle.std.proofs.Common.{ap, ◌∙◌}
use Rattle.hv_plain.specs.episode.Expansion.{used}
use Rattle.hv_rescan.specs.Values.{state_of}
use Rattle.hv_rescan.proofs.machine.Machine.use_macro.Goals as goal

pub returns-clause-uses : goal.returns-clause-uses
unfolding state_of
returns-clause-uses c macros t s fs place e =
    c.in_ok-state.ensures macros t s fs e ∙ ap (used c.args.self.run.ends t s fs) c.deref.ensures
