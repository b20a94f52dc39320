use Rattle.std.proofs.Common.{◌∙◌, ap, map, arith}
use Rattle.hv_lexer.specs.working.Cursors.{text_of}
use Rattle.hv_lexer.proofs.CursorsLemmas.{marks-splice, marks-next, marks-end}
use Rattle.hv_lexer.proofs.cursor.Cursor.next.Goals as goal

pub loop-at-preserved : goal.loop-at-preserved
loop-at-preserved c = record {
  marks = c.loop-at.invariant.marks
      ∙ marks-splice c.args.self.bytes c.loop-at.at c.splice_len-deleted.result
      c.if-deleted-eq0.false c.splice_len-deleted.ensures.value;
  from = omega arith;
}

pub returns-then-deleted-eq0-clause-marks : goal.returns-then-deleted-eq0-clause-marks
returns-then-deleted-eq0-clause-marks c =
    c.loop-at.invariant.marks ∙ marks-next c.args.self.bytes c.loop-at.at
    c.splice_len-deleted.result c.loop-at-test.true c.if-deleted-eq0.true
    c.splice_len-deleted.ensures.value

pub returns-then-deleted-eq0-clause-text : goal.returns-then-deleted-eq0-clause-text
unfolding text_of
returns-then-deleted-eq0-clause-text c =
    ap (map (λ mark. mark.byte)) (returns-then-deleted-eq0-clause-marks c)

pub returns-clause-marks : goal.returns-clause-marks
returns-clause-marks c = c.loop-at.invariant.marks
    ∙ marks-end c.args.self.bytes c.loop-at.at c.loop-at-test.false

pub returns-clause-text : goal.returns-clause-text
unfolding text_of
returns-clause-text c = ap (map (λ mark. mark.byte)) (returns-clause-marks c)
