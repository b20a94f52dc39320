use Rattle.std.proofs.Common.{◌≡◌, length}
use Rattle.hv_toks.specs.Constants.{characters}
use Rattle.hv_ctoks.proofs.CharactersLemmas.{behind}
use Rattle.hv_ctoks.proofs.literal.read_characters.Given as goal

abbrev pub invariant-loop-rest : goal.invariant-loop-rest
invariant-loop-rest l =
    behind l.bytes (characters l.quote 0 l.rest) ≡ characters l.quote 0 l.fn.text

abbrev pub decreases-loop-rest : goal.decreases-loop-rest
decreases-loop-rest l = length l.rest
