use Rattle.std.proofs.Common.{◌≡◌, take}
use Rattle.hv_model.specs.Config.{names_on, text_of}
use Rattle.hv_model.proofs.ConfigLemmas.{is_none}
use Rattle.hv_model.proofs.configs.print_config.Given as goal

abbrev pub invariant-loop-i : goal.invariant-loop-i
invariant-loop-i l =
    (l.text ≡ text_of (take l.i l.model.names) (take l.i l.config.on))
    × (l.is_first ≡ is_none (names_on (take l.i l.model.names) (take l.i l.config.on)))
