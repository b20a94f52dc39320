use Rattle.hv_toks.specs.Lexical.{is_char_constant}
use Rattle.hv_lexer.specs.working.Cursors.{text_from}
use Rattle.hv_lexer.proofs.LongestLemmas.{longest-from}
use Rattle.hv_lexer.proofs.category.char_constant_len.Goals as goal

pub returns-clause-greatest : goal.returns-clause-greatest
returns-clause-greatest c =
    longest-from is_char_constant (text_from c.args.first) c.wide_quoted_len.result
    c.wide_quoted_len.ensures.value
