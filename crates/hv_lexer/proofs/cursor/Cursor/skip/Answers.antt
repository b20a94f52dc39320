use Rattle.std.proofs.Common.{◌≡◌, ◌+◌, ◌-◌, ◌∙◌, sym, ap, arith}
use Rattle.hv_lexer.specs.working.Cursors.{marks_of, text_of}
use Rattle.hv_lexer.proofs.CursorsLemmas.{walk-rest, walk-end, as_read-more, place-first, places-after, text-short}
use Rattle.hv_lexer.proofs.cursor.Cursor.skip.Goals as goal

pub returns-in-None-clause-places : goal.returns-in-None-clause-places
returns-in-None-clause-places c =
    places-after c.args.self c.loop.rest c.args.len
    (walk-end (marks_of c.args.self) c.loop.counter c.args.len _ c.loop.invariant.rest
    c.in-None.ensures.marks (omega arith))

pub returns-in-None-clause-last : goal.returns-in-None-clause-last
returns-in-None-clause-last c = λ some within.
    let short =
    text-short c.args.self c.loop.rest c.loop.counter c.loop.invariant.rest
    c.in-None.ensures.marks in
    absurd (omega arith)

pub returns-in-None-clause-as_read : goal.returns-in-None-clause-as_read
returns-in-None-clause-as_read c = λ within at.
    let short =
    text-short c.args.self c.loop.rest c.loop.counter c.loop.invariant.rest
    c.in-None.ensures.marks in
    absurd (omega arith)

pub loop-preserved : goal.loop-preserved
loop-preserved c =
    let here = sym c.in-Some.ensures.marks ∙ c.loop.invariant.rest in
    let text = sym c.in-Some.ensures.text ∙ c.loop.invariant.text in
    let place = place-first c.args.self c.loop.counter _ _ here in
    let at = ap (λ rest. rest.at) c.in-Some.ensures.rest in
    let within = rw c.loop.invariant.same at c.in-Some.ensures.within in
    let byte = rw c.loop.invariant.same at c.in-Some.ensures.byte in
    let n : c.loop.counter + 1 - 1 ≡ c.loop.counter = omega arith in
    record {
      rest = walk-rest (marks_of c.args.self) c.loop.counter _ _ here;
      text = walk-rest (text_of c.args.self) c.loop.counter _ _ text;
      last = λ _. rw n (omega (arith, place));
      same = ap (λ rest. rest.bytes) c.in-Some.ensures.rest ∙ c.loop.invariant.same;
      from = omega (arith, c.loop.invariant.from, c.in-Some.ensures.from);
      within = λ _. omega arith;
      as_read = λ e.
          let here_at : c.in-Some.next.offset ≡ c.args.self.at + c.loop.counter =
          omega (arith, c.loop.invariant.from, c.in-Some.ensures.from) in
          let rest_at : c.loop.rest.at ≡ c.args.self.at + c.loop.counter =
          omega (arith, c.loop.invariant.from, c.in-Some.ensures.from) in
          as_read-more (text_of c.args.self) c.args.self.bytes.now c.args.self.at c.loop.counter
          c.in-Some.next.byte (text_of c.in-Some.next.rest)
          text (c.loop.invariant.as_read rest_at) (omega arith) (rw here_at at byte);
    }

pub returns-clause-places : goal.returns-clause-places
returns-clause-places c =
    let n : c.loop.counter ≡ c.args.len = omega arith in
    places-after c.args.self c.loop.rest c.args.len (rw n at c.loop.invariant.rest)
