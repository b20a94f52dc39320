use Rattle.std.proofs.Common.{sym, ap, ◌∙◌, ◌+◌, arith}
use Rattle.hv_toks.specs.Lexical.{is_identifier}
use Rattle.hv_lexer.specs.working.Cursors.{text_of, text_from}
use Rattle.hv_lexer.proofs.CursorsLemmas.{text-bounded}
use Rattle.hv_lexer.proofs.LongestLemmas.{longest-from, identifier-yes, identifier-no}
use Rattle.hv_lexer.proofs.category.identifier_len.Goals as goal

pub overflow_add-result : goal.overflow_add-result
overflow_add-result c = let h = text-bounded c.args.first.rest in omega arith

pub returns-then-is_nondigit-clause-value : goal.returns-then-is_nondigit-clause-value
returns-then-is_nondigit-clause-value c =
    ap (λ n. 1 + n) c.word_len.ensures.value
    ∙ sym (identifier-yes c.args.first.byte (text_of c.args.first.rest)
    (sym c.is_nondigit.ensures ∙ c.if-is_nondigit.true))

pub returns-else-is_nondigit-clause-value : goal.returns-else-is_nondigit-clause-value
returns-else-is_nondigit-clause-value c =
    sym (identifier-no c.args.first.byte (text_of c.args.first.rest)
    (sym c.is_nondigit.ensures ∙ c.if-is_nondigit.false))

pub returns-then-is_nondigit-clause-greatest : goal.returns-then-is_nondigit-clause-greatest
returns-then-is_nondigit-clause-greatest c =
    longest-from is_identifier (text_from c.args.first) _ (returns-then-is_nondigit-clause-value c)

pub returns-else-is_nondigit-clause-greatest : goal.returns-else-is_nondigit-clause-greatest
returns-else-is_nondigit-clause-greatest c =
    longest-from is_identifier (text_from c.args.first) _ (returns-else-is_nondigit-clause-value c)
