use Rattle.std.proofs.Common.{◌≡◌, List, map, sym, ap, ◌∙◌}
use Rattle.hv_grammar.specs.Symbols.{Symbol, Marked, Token}
use Rattle.hv_grammar.specs.Grammar.{plain_symbol, given}
use Rattle.hv_grammar.specs.Tokens.{tokens_of}
use Rattle.hv_grammar.proofs.Spelling.{symbols, whole_expression_read}
use Rattle.hv_print.specs.ProgramTokens.{externals_tokens}
use Rattle.hv_print.proofs.SpeltLemmas.{spelt_expr, spelt_externals}
use Rattle.hv_print.proofs.FillLemmas.{externals_read}
use Rattle.hv_print.proofs.TokensLemmas.{tokens_back, plain_given, symbols_first, plain_back}
use Rattle.hv_print.proofs.laws.keeps_tokens.Goals as goal

pub returns-clause-programs : goal.returns-clause-programs
returns-clause-programs c = λ ts xs r. externals_read r

pub returns-clause-expressions_back : goal.returns-clause-expressions_back
returns-clause-expressions_back c = λ l cs ts a same derived.
    tokens_back (tokens_of a) cs (spelt_expr a)
    (plain_back cs (tokens_of a)
    (sym (whole_expression_read derived.reads) ∙ symbols_first derived.first ∙ ap (map (λ (t : Token). t.symbol)) derived.tokens ∙ same))

pub returns-clause-programs_back : goal.returns-clause-programs_back
returns-clause-programs_back c = λ l cs ts program same derived.
    tokens_back (externals_tokens program.externals) cs (spelt_externals program.externals)
    (ap (map plain_symbol) (sym (externals_read derived.reads)) ∙ plain_given derived.first ∙ ap (map (λ (t : Token). t.symbol)) derived.tokens ∙ same)
