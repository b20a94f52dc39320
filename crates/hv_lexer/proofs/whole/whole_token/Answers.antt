use Rattle.std.proofs.Common.{◌≡◌, refl, None, length}
use Rattle.hv_lexer.specs.working.Cursors.{text_of}
use Rattle.hv_toks.specs.Cutting.{whole_token}
use Rattle.hv_lexer.proofs.PunctuatorTable.{in_table, one_token}
use Rattle.hv_lexer.proofs.WholeToken.{longest-of, whole-here, whole-newline}
use Rattle.hv_lexer.proofs.whole.whole_token.Goals as goal

pub returns-then-contains-clause-value : goal.returns-then-contains-clause-value
returns-then-contains-clause-value c =
    whole-newline c.args.text.now c.contains.result c.contains.ensures.value c.if-contains.true

pub returns-then-contains-clause-longest : goal.returns-then-contains-clause-longest
returns-then-contains-clause-longest c =
    longest-of c.args.text.now None (returns-then-contains-clause-value c)

pub returns-clause-value : goal.returns-clause-value
returns-clause-value c =
    whole-here c.args.text.now c.contains.result c.contains.ensures.value (text_of c.new.result)
    c.prefix.result (length c.args.text.now) c.whole_kind.result
    c.if-contains.false c.new.ensures.text c.prefix.ensures.value refl c.whole_kind.ensures

pub returns-clause-longest : goal.returns-clause-longest
returns-clause-longest c = longest-of c.args.text.now c.whole_kind.result (returns-clause-value c)

pub returns-then-contains-clause-punctuators : goal.returns-then-contains-clause-punctuators
returns-then-contains-clause-punctuators c = one_token

pub returns-then-contains-clause-table : goal.returns-then-contains-clause-table
returns-then-contains-clause-table c =
    in_table c.args.text.now None (returns-then-contains-clause-value c)

pub returns-clause-punctuators : goal.returns-clause-punctuators
returns-clause-punctuators c = one_token

pub returns-clause-table : goal.returns-clause-table
returns-clause-table c = in_table c.args.text.now c.whole_kind.result (returns-clause-value c)
