use Rattle.std.proofs.Common.{sym, ap, ◌∙◌, arith, length}
use Rattle.hv_lexer.specs.working.Cursors.{text_of}
use Rattle.hv_lexer.specs.working.Lengths.{one_more}
use Rattle.hv_toks.specs.Lexical.{longest, is_quoted}
use Rattle.hv_lexer.proofs.CursorsLemmas.{text-bounded}
use Rattle.hv_lexer.proofs.LongestLemmas.{wide-yes, wide-no}
use Rattle.hv_lexer.proofs.category.wide_quoted_len.Goals as goal

pub after_byte-requires : goal.after_byte-requires
after_byte-requires c = let h = text-bounded c.args.first.rest in
    omega (arith, ap length c.in-Some.ensures.text)

pub returns-then-first-ne76-clause-value : goal.returns-then-first-ne76-clause-value
returns-then-first-ne76-clause-value c = c.quoted_len.ensures.value
    ∙ sym (wide-no c.args.quote c.args.first.byte (text_of c.args.first.rest) c.if-first-ne76.true)

pub returns-in-Some-clause-value : goal.returns-in-Some-clause-value
returns-in-Some-clause-value c =
    c.after_byte.ensures ∙ (ap one_more
    (c.quoted_len-in-Some.ensures.value
    ∙ ap (longest (is_quoted c.args.quote)) (sym c.in-Some.ensures.text))
    ∙ sym (wide-yes c.args.quote c.args.first.byte (text_of c.args.first.rest) c.requires
    c.if-first-ne76.false))
