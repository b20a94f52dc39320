use Rattle.std.proofs.Common.{◌∙◌, sym, ap, arith, length}
use Rattle.hv_lexer.specs.working.Cursors.{text_of, text_from}
use Rattle.hv_lexer.proofs.CursorsLemmas.{text-bounded}
use Rattle.hv_lexer.proofs.CommentLemmas.{closing-step, closing-long}
use Rattle.hv_lexer.proofs.gap.closing_len.Goals as goal

pub overflow_add-result : goal.overflow_add-result
overflow_add-result c =
    let h = text-bounded c.args.text in
    let two = closing-long (text_from c.in-Some.next) (sym c.begins.ensures ∙ c.if-begins.true) in
    omega (arith, ap length c.in-Some.ensures.text)

pub overflow_add-len : goal.overflow_add-len
overflow_add-len c = let h = text-bounded c.args.text in omega arith

pub loop-next-preserved : goal.loop-next-preserved
loop-next-preserved c = record {
  value = c.loop-next.invariant.value
      ∙ rw c.in-Some.ensures.text (closing-step c.loop-next.len c.in-Some.next.byte
      (text_of c.in-Some.next.rest) (sym c.begins.ensures ∙ c.if-begins.false));
  within = omega (arith, c.loop-next.invariant.within, ap length c.in-Some.ensures.text);
}
