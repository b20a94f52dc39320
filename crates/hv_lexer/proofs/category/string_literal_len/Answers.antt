use Rattle.hv_toks.specs.Lexical.{is_string_literal}
use Rattle.hv_lexer.specs.working.Cursors.{text_from}
use Rattle.hv_lexer.proofs.LongestLemmas.{longest-from}
use Rattle.hv_lexer.proofs.category.string_literal_len.Goals as goal

pub returns-clause-greatest : goal.returns-clause-greatest
returns-clause-greatest c =
    longest-from is_string_literal (text_from c.args.first) c.wide_quoted_len.result
    c.wide_quoted_len.ensures.value
