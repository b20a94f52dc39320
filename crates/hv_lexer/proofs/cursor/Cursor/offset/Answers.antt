use Rattle.hv_lexer.proofs.CursorsLemmas.{place-first, place-none}
use Rattle.std.proofs.Common.{sym}
use Rattle.hv_lexer.proofs.cursor.Cursor.offset.Goals as goal

pub returns-in-Some : goal.returns-in-Some
returns-in-Some c = place-first c.args.self 0 _ _ (sym c.in-Some.ensures.marks)

pub returns-in-None : goal.returns-in-None
returns-in-None c = place-none c.args.self c.in-None.ensures.marks
