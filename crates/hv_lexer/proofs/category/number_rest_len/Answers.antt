use Rattle.std.proofs.Common.{◌≡◌, sym, ◌∙◌, arith}
use Rattle.hv_lexer.specs.working.Cursors.{text_of}
use Rattle.hv_lexer.proofs.CursorsLemmas.{text-bounded}
use Rattle.hv_lexer.proofs.LongestLemmas.{number_rest_len, longest-number_rest, number-stop}
use Rattle.hv_lexer.proofs.category.number_rest_len.Goals as goal

pub returns-then-not-continues_number-clause-value : goal.returns-then-not-continues_number-clause-value
returns-then-not-continues_number-clause-value c =
    let stop : number_rest_len c.loop-next.exponent (text_of c.loop-next.rest) ≡ 0 =
    rw c.in-Some.ensures.text (number-stop c.loop-next.exponent c.in-Some.next.byte
    (text_of c.in-Some.next.rest) (sym c.continues_number.ensures ∙ c.if-not-continues_number.true))
    in
    sym (longest-number_rest _ (text_of c.args.text)
    ∙ (c.loop-next.invariant.value ∙ (rw stop (omega arith))))

pub returns-clause-value : goal.returns-clause-value
returns-clause-value c =
    sym (longest-number_rest _ (text_of c.args.text)
    ∙ (c.loop-next.invariant.value ∙ (rw c.in_default.ensures.text (omega arith))))

pub overflow_add-len : goal.overflow_add-len
overflow_add-len c = let h = text-bounded c.args.text in omega arith
