use Rattle.std.proofs.Common.{◌≤◌, ◌++◌, ◌∷◌, [], ◌∙◌, ap, arith, length}
use Rattle.hv_lexer.specs.working.Cursors.{text_of, places_of}
use Rattle.hv_lexer.proofs.CursorsLemmas.{places-as-many}
use Rattle.hv_lexer.proofs.TokenLemmas.{made-token}
use Rattle.hv_lexer.proofs.cut.add.Goals as goal
use Rattle.hv_lexer.proofs.cut.add.Goals.{in-Ok-push, in-Err}

pub returns-clause-ok : goal.returns-clause-ok
returns-clause-ok c =
    let many = places-as-many c.args.text in
    let within : c.args.found.len ≤ length (places_of c.args.text) = omega arith in
    let same =
    made-token c.args.before.file c.args.before.line c.args.before.space c.args.found.kind
    (text_of c.args.text) (places_of c.args.text) c.args.found.len
    c.in-Ok.taken.text c.in-Ok.taken.start c.in-Ok.taken.end c.is_start.result c.requires.some
    within c.in-Ok.ensures.text c.in-Ok.ensures.start c.in-Ok.ensures.end c.is_start.ensures in
    elim c.match-push.branch [
      | in-Ok-push w ↦ rw w.result-is
          (w.in-Ok-push.ensures.ok ∙ ap (λ tok. c.args.tokens.now ++ tok ∷ []) same)
      | in-Err w ↦ rw w.result-is tt
    ]
