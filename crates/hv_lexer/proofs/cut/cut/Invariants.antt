use Rattle.std.proofs.Common.{length}
use Rattle.hv_lexer.specs.working.Cursors.{text_of, places_of}
use Rattle.hv_lexer.proofs.Reaches.{Reaches}
use Rattle.hv_lexer.proofs.cut.cut.Given as goal

abbrev pub invariant-loop-tokens : goal.invariant-loop-tokens
invariant-loop-tokens l =
    Reaches l.file (text_of l.fn.text) (places_of l.fn.text) l.line l.space (text_of l.rest)
    (places_of l.rest) l.tokens

abbrev pub decreases-loop-tokens : goal.decreases-loop-tokens
decreases-loop-tokens l = length (text_of l.rest)
