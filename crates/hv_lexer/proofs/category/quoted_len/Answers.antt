use Rattle.std.proofs.Common.{sym, arith}
use Rattle.hv_lexer.specs.working.Cursors.{text_of}
use Rattle.hv_lexer.proofs.CursorsLemmas.{text-bounded}
use Rattle.hv_lexer.proofs.LongestLemmas.{quoted-no}
use Rattle.hv_lexer.proofs.category.quoted_len.Goals as goal

pub after_byte-requires : goal.after_byte-requires
after_byte-requires c = let h = text-bounded c.args.first.rest in omega arith

pub returns-else-first-quote-clause-value : goal.returns-else-first-quote-clause-value
returns-else-first-quote-clause-value c =
    sym (quoted-no c.args.quote c.args.first.byte (text_of c.args.first.rest)
    c.if-first-quote.false)
