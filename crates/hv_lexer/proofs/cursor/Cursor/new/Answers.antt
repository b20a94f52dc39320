use Rattle.std.proofs.Common.{refl}
use Rattle.hv_lexer.specs.working.Cursors.{marks_of, text_of, places_of}
use Rattle.hv_lexer.proofs.cursor.Cursor.new.Goals as goal

pub returns-clause-text : goal.returns-clause-text
unfolding marks_of text_of
returns-clause-text c = refl

pub returns-clause-places : goal.returns-clause-places
unfolding marks_of places_of
returns-clause-places c = refl
