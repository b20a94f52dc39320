use Rattle.std.proofs.Common.{refl, sym, ◌∙◌, arith}
use Rattle.hv_lexer.specs.working.Cursors.{text_of}
use Rattle.hv_lexer.proofs.CursorsLemmas.{text-bounded}
use Rattle.hv_lexer.proofs.LongestLemmas.{longest-closes, closes-stop, closes-never}
use Rattle.hv_lexer.proofs.category.closing_len.Goals as goal

pub returns-then-next-eq10-clause-value : goal.returns-then-next-eq10-clause-value
returns-then-next-eq10-clause-value c =
    sym (longest-closes c.args.escapes c.args.quote _ (text_of c.args.text)
    ∙ (c.loop-next.invariant.value
    ∙ rw c.in-Some.ensures.text (closes-never c.args.escapes c.args.quote c.loop-next.escaped
    c.loop-next.len c.in-Some.next.byte (text_of c.in-Some.next.rest) c.if-next-eq10.true)))

pub returns-then-is_closing-clause-value : goal.returns-then-is_closing-clause-value
returns-then-is_closing-clause-value c =
    sym (longest-closes c.args.escapes c.args.quote _ (text_of c.args.text)
    ∙ (c.loop-next.invariant.value
    ∙ rw c.in-Some.ensures.text (closes-stop c.args.escapes c.args.quote c.loop-next.escaped
    c.loop-next.len c.in-Some.next.byte (text_of c.in-Some.next.rest) c.if-next-eq10.false
    (sym c.is_closing.ensures ∙ c.if-is_closing.true))))

pub returns-clause-value : goal.returns-clause-value
returns-clause-value c =
    sym (longest-closes c.args.escapes c.args.quote _ (text_of c.args.text)
    ∙ (c.loop-next.invariant.value ∙ rw c.in_default.ensures.text refl))

pub overflow_add-result : goal.overflow_add-result
overflow_add-result c = let h = text-bounded c.args.text in omega arith

pub overflow_add-len : goal.overflow_add-len
overflow_add-len c = let h = text-bounded c.args.text in omega arith
