use Rattle.std.proofs.Common.{◌≡◌, ◌++◌, length, map}
use Rattle.hv_directives.specs.Values.{piece_of}
use Rattle.hv_directives.proofs.LinesLemmas.{pieces_in}
use Rattle.hv_directives.proofs.piece.pieces.Given as goal

-- the pieces so far, and those of the tokens that are left
abbrev pub invariant-loop-piece : goal.invariant-loop-piece
invariant-loop-piece l = map piece_of l.pieces.items ++ pieces_in l.rest ≡ pieces_in l.tokens

abbrev pub decreases-loop-piece : goal.decreases-loop-piece
decreases-loop-piece l = length l.rest
