use Rattle.hv_lexer.specs.working.Cursors.{text_of, places_of}
use Rattle.hv_lexer.proofs.LongestTokens.{lex-longest}
use Rattle.hv_lexer.proofs.OneAnswer.{if_cut, tells}
use Rattle.hv_lexer.proofs.MadeOf.{lex-made}
use Rattle.hv_lexer.proofs.ReadsBack.{restores}
use Rattle.hv_lexer.proofs.Rises.{lex-rises}
use Rattle.hv_lexer.proofs.Total.{total}
use Rattle.hv_lexer.proofs.lex.Goals as goal

pub returns-clause-only : goal.returns-clause-only
returns-clause-only c =
    tells c.args.file c.args.bytes.now (text_of c.new.result) (places_of c.new.result) c.cut.result
    c.new.ensures.text c.new.ensures.places c.cut.ensures.ok c.cut.ensures.refused

pub returns-clause-reads_back : goal.returns-clause-reads_back
returns-clause-reads_back c =
    restores c.args.file c.args.bytes.now c.cut.result (returns-clause-only c)

pub returns-clause-rising : goal.returns-clause-rising
returns-clause-rising c =
    if_cut c.args.file c.args.bytes.now (text_of c.new.result) (places_of c.new.result) c.cut.result
    _
    c.new.ensures.text c.new.ensures.places (lex-rises c.args.file c.args.bytes.now)
    c.cut.ensures.ok

pub returns-clause-made_of : goal.returns-clause-made_of
returns-clause-made_of c =
    if_cut c.args.file c.args.bytes.now (text_of c.new.result) (places_of c.new.result) c.cut.result
    _
    c.new.ensures.text c.new.ensures.places (lex-made c.args.file c.args.bytes.now) c.cut.ensures.ok

pub returns-clause-longest : goal.returns-clause-longest
returns-clause-longest c =
    if_cut c.args.file c.args.bytes.now (text_of c.new.result) (places_of c.new.result) c.cut.result
    _
    c.new.ensures.text c.new.ensures.places (lex-longest c.args.file c.args.bytes.now)
    c.cut.ensures.ok

pub returns-clause-total : goal.returns-clause-total
returns-clause-total c = total c.args.file c.args.bytes.now
