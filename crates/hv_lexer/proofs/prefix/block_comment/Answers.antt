use Rattle.std.proofs.Common.{ap, arith, length, length-drop}
use Rattle.hv_lexer.specs.working.Cursors.{text_of}
use Rattle.hv_lexer.proofs.CursorsLemmas.{text-bounded}
use Rattle.hv_lexer.proofs.prefix.block_comment.Goals as goal

pub overflow_add-result : goal.overflow_add-result
overflow_add-result c =
    let h = text-bounded c.args.text in
    omega (arith, ap length c.skip.ensures.text, length-drop 2 (text_of c.args.text))
