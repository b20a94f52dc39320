use Rattle.std.proofs.Common.{◌≡◌, ◌+◌, ◌≤◌, length}
use Rattle.hv_model.specs.Config.{config_from, pieces_of}
use Rattle.hv_model.specs.working.Pieces.{pieces_in, rest_len}
use Rattle.hv_model.proofs.configs.read_pieces.Given as goal

-- what is left is read after what was read so far; no more pieces were read than bytes
abbrev pub invariant-loop-rest : goal.invariant-loop-rest
invariant-loop-rest l =
    (config_from l.model.names l.initial.on.items 0 (pieces_of l.text)
    ≡ config_from l.model.names l.on.items l.number (pieces_in l.rest))
    × (length l.on.items ≡ length l.model.names) × (l.number + rest_len l.rest ≤ length l.text + 1)

abbrev pub decreases-loop-rest : goal.decreases-loop-rest
decreases-loop-rest l = rest_len l.rest
