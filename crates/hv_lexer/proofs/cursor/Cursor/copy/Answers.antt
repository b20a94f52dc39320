use Rattle.std.proofs.Common.{◌∙◌, sym, ap, ◌++◌, ◌∷◌, []}
use Rattle.hv_lexer.specs.working.Cursors.{text_of}
use Rattle.hv_lexer.proofs.CursorsLemmas.{walk-rest, walk-taken}
use Rattle.hv_lexer.proofs.cursor.Cursor.copy.Goals as goal

pub loop-preserved : goal.loop-preserved
loop-preserved c =
    let here = sym c.in-Some.ensures.text ∙ c.loop.invariant.rest in
    record {
      rest = walk-rest (text_of c.args.self) c.loop.counter _ _ here;
      text = c.in_ok-push-in-Some.ensures.items
          ∙ (ap (λ xs. xs ++ c.in-Some.next.byte ∷ []) c.loop.invariant.text
          ∙ sym (walk-taken (text_of c.args.self) c.loop.counter _ _ here));
    }
