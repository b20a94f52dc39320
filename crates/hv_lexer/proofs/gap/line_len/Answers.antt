use Rattle.std.proofs.Common.{arith}
use Rattle.hv_lexer.proofs.CursorsLemmas.{text-bounded}
use Rattle.hv_lexer.proofs.gap.line_len.Goals as goal

pub overflow_add-len : goal.overflow_add-len
overflow_add-len c = let h = text-bounded c.args.text in omega arith
