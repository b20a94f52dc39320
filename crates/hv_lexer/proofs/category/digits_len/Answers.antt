use Rattle.std.proofs.Common.{sym, ◌∙◌, arith}
use Rattle.hv_lexer.specs.working.Cursors.{text_of}
use Rattle.hv_lexer.proofs.CursorsLemmas.{text-bounded}
use Rattle.hv_lexer.proofs.LongestLemmas.{digits-no}
use Rattle.hv_lexer.proofs.category.digits_len.Goals as goal

pub overflow_add-result : goal.overflow_add-result
overflow_add-result c = let h = text-bounded c.args.first.rest in omega arith

pub returns-else-is_ascii_digit-clause-value : goal.returns-else-is_ascii_digit-clause-value
returns-else-is_ascii_digit-clause-value c =
    sym (digits-no c.args.first.byte (text_of c.args.first.rest)
    (sym c.is_ascii_digit.ensures.value ∙ c.if-is_ascii_digit.false))
