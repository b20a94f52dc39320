use Rattle.std.proofs.Common.{sym, ◌∙◌}
use Rattle.hv_lexer.specs.working.Cursors.{text_of}
use Rattle.hv_lexer.proofs.LongestLemmas.{enclosed-yes, enclosed-no}
use Rattle.hv_lexer.proofs.category.enclosed_len.Goals as goal

pub returns-in-Some-clause-value : goal.returns-in-Some-clause-value
returns-in-Some-clause-value c = c.closing_len.ensures.value
    ∙ sym (rw c.in-Some.ensures.text
    (enclosed-yes c.args.closing c.in-Some.next.byte (text_of c.in-Some.next.rest)
    c.if-next-closing.true))

pub returns-in_default-clause-value : goal.returns-in_default-clause-value
returns-in_default-clause-value c =
    rw c.in-Some.ensures.text (sym
    (enclosed-no c.args.closing c.in-Some.next.byte (text_of c.in-Some.next.rest)
    c.if-next-closing.false))
