use Rattle.std.proofs.Common.{◌≡◌, ◌<◌, ℕ, List, false, arith, length}
use Rattle.std.specs.Bool.{◌==◌}
use Rattle.std.proofs.lemmas.Bool.Decides.{nat_tests}
use Rattle.hv_base.proofs.Lists.{take-rest, drop-past}
use Rattle.hv_model.proofs.BytesLemmas.{counted_lines-front, counted_lines-last}
use Rattle.hv_model.proofs.model_line.next_line.Goals as goal

some : {b : _} (xs : List ℕ) → b ≡ (length xs == 0) → b ≡ false → 0 < length xs
some xs e f = grind (arith, nat_tests)

pub returns-then-end-bytes-clause-some : goal.returns-then-end-bytes-clause-some
returns-then-end-bytes-clause-some c =
    rw (take-rest, c.line_len-end.ensures.value)
    (counted_lines-front c.args.bytes.now
    (rw (c.line_len-end.ensures.value) at c.if-end-bytes.true))

pub returns-else-end-bytes-clause-some : goal.returns-else-end-bytes-clause-some
returns-else-end-bytes-clause-some c =
    rw (take-rest, drop-past _ c.args.bytes.now c.if-end-bytes.false)
    (counted_lines-last c.args.bytes.now (some _ c.is_empty.ensures c.if-is_empty.false)
    (rw (c.line_len-end.ensures.value) at c.if-end-bytes.false))
