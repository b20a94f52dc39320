use Rattle.std.proofs.Common.{◌∙◌, sym}
use Rattle.hv_toks.specs.Lexical.{is_punctuator}
use Rattle.hv_lexer.specs.working.Cursors.{text_of, text_from}
use Rattle.hv_lexer.proofs.LongestLemmas.{longest-from}
use Rattle.hv_lexer.proofs.Punctuators.{three-first, two-first, one-first, none-begun, single-begun}
use Rattle.hv_lexer.proofs.punctuator.punctuator_len.Goals as goal

pub returns-then-begins_with_triple-clause-value : goal.returns-then-begins_with_triple-clause-value
returns-then-begins_with_triple-clause-value c =
    sym (three-first (text_from c.args.first)
    (sym c.begins_with_triple.ensures ∙ c.if-begins_with_triple.true))

pub returns-then-begins_with_pair-clause-value : goal.returns-then-begins_with_pair-clause-value
returns-then-begins_with_pair-clause-value c =
    sym (two-first (text_from c.args.first)
    (sym c.begins_with_triple.ensures ∙ c.if-begins_with_triple.false)
    (sym c.begins_with_pair.ensures ∙ c.if-begins_with_pair.true))

pub returns-else-begins_with_pair-clause-value : goal.returns-else-begins_with_pair-clause-value
returns-else-begins_with_pair-clause-value c =
    sym (one-first (text_from c.args.first)
    (sym c.begins_with_triple.ensures ∙ c.if-begins_with_triple.false)
    (sym c.begins_with_pair.ensures ∙ c.if-begins_with_pair.false)
    (single-begun c.args.first.byte (text_of c.args.first.rest)
    (sym c.is_single.ensures ∙ c.if-not-is_single.false)))

pub returns-then-not-is_single-clause-value : goal.returns-then-not-is_single-clause-value
returns-then-not-is_single-clause-value c =
    sym (none-begun c.args.first.byte (text_of c.args.first.rest)
    (sym c.is_single.ensures ∙ c.if-not-is_single.true))

pub returns-then-begins_with_triple-clause-greatest : goal.returns-then-begins_with_triple-clause-greatest
returns-then-begins_with_triple-clause-greatest c =
    longest-from is_punctuator (text_from c.args.first) _
    (returns-then-begins_with_triple-clause-value c)

pub returns-then-begins_with_pair-clause-greatest : goal.returns-then-begins_with_pair-clause-greatest
returns-then-begins_with_pair-clause-greatest c =
    longest-from is_punctuator (text_from c.args.first) _
    (returns-then-begins_with_pair-clause-value c)

pub returns-else-begins_with_pair-clause-greatest : goal.returns-else-begins_with_pair-clause-greatest
returns-else-begins_with_pair-clause-greatest c =
    longest-from is_punctuator (text_from c.args.first) _
    (returns-else-begins_with_pair-clause-value c)

pub returns-then-not-is_single-clause-greatest : goal.returns-then-not-is_single-clause-greatest
returns-then-not-is_single-clause-greatest c =
    longest-from is_punctuator (text_from c.args.first) _
    (returns-then-not-is_single-clause-value c)
