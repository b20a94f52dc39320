use Rattle.hv_lexer.specs.working.Cursors.{text_of, places_of}
use Rattle.hv_lexer.proofs.Reaches.{reaches-white, reaches-newline, reaches-comment, reaches-end, reaches-open, reaches-token}
use Rattle.hv_lexer.proofs.cut.cut.Goals as goal

pub returns-in-End-clause-ok : goal.returns-in-End-clause-ok
returns-in-End-clause-ok c =
    reaches-end c.args.file (text_of c.args.text) (places_of c.args.text) c.loop-tokens.line
    c.loop-tokens.space (text_of c.loop-tokens.rest) (places_of c.loop-tokens.rest)
    c.loop-tokens.tokens
    c.loop-tokens.invariant c.in-End.ensures.value

pub loop-tokens-preserved-in-WhiteSpace : goal.loop-tokens-preserved-in-WhiteSpace
loop-tokens-preserved-in-WhiteSpace c =
    reaches-white c.args.file (text_of c.args.text) (places_of c.args.text) c.loop-tokens.line
    c.loop-tokens.space (text_of c.loop-tokens.rest) (places_of c.loop-tokens.rest)
    c.loop-tokens.tokens
    c.loop-tokens.invariant _ _ c.in-WhiteSpace.ensures.value c.skip-rest.ensures.text
    c.skip-rest.ensures.places

pub loop-tokens-preserved-in-Newline : goal.loop-tokens-preserved-in-Newline
loop-tokens-preserved-in-Newline c =
    reaches-newline c.args.file (text_of c.args.text) (places_of c.args.text) c.loop-tokens.line
    c.loop-tokens.space (text_of c.loop-tokens.rest) (places_of c.loop-tokens.rest)
    c.loop-tokens.tokens
    c.loop-tokens.invariant _ _ c.in-Newline.ensures.value c.skip-rest-in-Newline.ensures.text
    c.skip-rest-in-Newline.ensures.places

pub loop-tokens-preserved-in-Comment : goal.loop-tokens-preserved-in-Comment
loop-tokens-preserved-in-Comment c =
    reaches-comment c.args.file (text_of c.args.text) (places_of c.args.text) c.loop-tokens.line
    c.loop-tokens.space (text_of c.loop-tokens.rest) (places_of c.loop-tokens.rest)
    c.loop-tokens.tokens
    c.loop-tokens.invariant c.in-Comment.len _ _ c.in-Comment.ensures.value
    c.skip-rest-in-Comment.ensures.text c.skip-rest-in-Comment.ensures.places

pub returns-in-OpenComment-clause-refused : goal.returns-in-OpenComment-clause-refused
returns-in-OpenComment-clause-refused c =
    reaches-open c.args.file (text_of c.args.text) (places_of c.args.text) c.loop-tokens.line
    c.loop-tokens.space (text_of c.loop-tokens.rest) (places_of c.loop-tokens.rest)
    c.loop-tokens.tokens
    c.loop-tokens.invariant c.offset-offset.result c.in-OpenComment.ensures.value
    c.offset-offset.ensures

pub loop-tokens-preserved : goal.loop-tokens-preserved
loop-tokens-preserved c =
    reaches-token c.args.file (text_of c.args.text) (places_of c.args.text) c.loop-tokens.line
    c.loop-tokens.space (text_of c.loop-tokens.rest) (places_of c.loop-tokens.rest)
    c.loop-tokens.tokens
    c.loop-tokens.invariant c.in-Token.found _ _ _ c.add.new.tokens c.in-Token.ensures.value
    c.in_ok-after-in-Token.ensures.ok
    c.in_ok-after-in-Token.ensures.line c.in_ok-after-in-Token.ensures.text
    c.in_ok-after-in-Token.ensures.places
