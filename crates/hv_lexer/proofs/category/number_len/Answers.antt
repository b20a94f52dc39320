use Rattle.std.proofs.Common.{sym, ap, ◌∙◌, arith, length}
use Rattle.hv_lexer.specs.working.Cursors.{text_of, text_from}
use Rattle.hv_lexer.specs.working.Lengths.{one_more}
use Rattle.hv_toks.specs.Lexical.{is_number, longest, begins_with_digit}
use Rattle.hv_lexer.proofs.CursorsLemmas.{text-bounded}
use Rattle.hv_lexer.proofs.LongestLemmas.{longest-from, number-dot, number-digits}
use Rattle.hv_lexer.proofs.category.number_len.Goals as goal

pub after_byte-requires : goal.after_byte-requires
after_byte-requires c = let h = text-bounded c.args.first.rest in
    omega (arith, ap length c.in-Some.ensures.text)

pub returns-then-first-ne46-clause-value : goal.returns-then-first-ne46-clause-value
returns-then-first-ne46-clause-value c = c.digits_len.ensures.value
    ∙ sym (number-digits c.args.first.byte (text_of c.args.first.rest) c.if-first-ne46.true)

pub returns-in-Some-clause-value : goal.returns-in-Some-clause-value
returns-in-Some-clause-value c =
    c.after_byte.ensures ∙ (ap one_more
    (c.digits_len-in-Some.ensures.value
    ∙ ap (longest begins_with_digit) (sym c.in-Some.ensures.text))
    ∙ sym (number-dot c.args.first.byte (text_of c.args.first.rest) c.if-first-ne46.false))

pub returns-then-first-ne46-clause-greatest : goal.returns-then-first-ne46-clause-greatest
returns-then-first-ne46-clause-greatest c =
    longest-from is_number (text_from c.args.first) _ (returns-then-first-ne46-clause-value c)

pub returns-in-Some-clause-greatest : goal.returns-in-Some-clause-greatest
returns-in-Some-clause-greatest c =
    longest-from is_number (text_from c.args.first) _ (returns-in-Some-clause-value c)
