use Rattle.std.proofs.Common.{sym, ap, ◌∙◌, arith}
use Rattle.hv_lexer.specs.working.Cursors.{text_of, text_from}
use Rattle.hv_lexer.specs.working.Lengths.{one_more}
use Rattle.hv_toks.specs.Lexical.{is_header_name}
use Rattle.hv_lexer.proofs.CursorsLemmas.{text-bounded}
use Rattle.hv_lexer.proofs.LongestLemmas.{longest-from, header-angle, header-quote, header-no}
use Rattle.hv_lexer.proofs.category.header_name_len.Goals as goal

pub after_byte-requires : goal.after_byte-requires
after_byte-requires c = let h = text-bounded c.args.first.rest in omega arith

pub after_byte-requires-then-first-eq34 : goal.after_byte-requires-then-first-eq34
after_byte-requires-then-first-eq34 c = let h = text-bounded c.args.first.rest in omega arith

pub returns-then-first-eq60-clause-value : goal.returns-then-first-eq60-clause-value
returns-then-first-eq60-clause-value c =
    c.after_byte.ensures ∙ (ap one_more c.enclosed_len.ensures.value
    ∙ sym (header-angle c.args.first.byte (text_of c.args.first.rest) c.if-first-eq60.true))

pub returns-then-first-eq34-clause-value : goal.returns-then-first-eq34-clause-value
returns-then-first-eq34-clause-value c =
    c.after_byte-then-first-eq34.ensures
    ∙ (ap one_more c.enclosed_len-then-first-eq34.ensures.value
    ∙ sym (header-quote c.args.first.byte (text_of c.args.first.rest) c.if-first-eq34.true))

pub returns-else-first-eq34-clause-value : goal.returns-else-first-eq34-clause-value
returns-else-first-eq34-clause-value c =
    sym (header-no c.args.first.byte (text_of c.args.first.rest) c.if-first-eq60.false
    c.if-first-eq34.false)

pub returns-then-first-eq60-clause-greatest : goal.returns-then-first-eq60-clause-greatest
returns-then-first-eq60-clause-greatest c =
    longest-from is_header_name (text_from c.args.first) _ (returns-then-first-eq60-clause-value c)

pub returns-then-first-eq34-clause-greatest : goal.returns-then-first-eq34-clause-greatest
returns-then-first-eq34-clause-greatest c =
    longest-from is_header_name (text_from c.args.first) _ (returns-then-first-eq34-clause-value c)
