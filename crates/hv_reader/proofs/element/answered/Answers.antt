use Rattle.std.proofs.Common.{ℕ, refl, sym, ap, arith}
use Rattle.hv_ctree.specs.tree.Statements.{Skeleton}
use Rattle.hv_grammar.specs.machine.Steps.{step, begin, finished_element}
use Rattle.hv_grammar.specs.machine.Answers.{answers, element_answer}
use Rattle.hv_cparse.specs.Control.{limits_of}
use Rattle.hv_reader.specs.declared.piece.Piece.{Piece}
use Rattle.hv_reader.specs.Pieces.{standing_in, token_of, tokens_of}
use Rattle.hv_reader.proofs.Running.{turned, refused, next, comes_next}
use Rattle.hv_reader.proofs.Saying.{standing_kept}
use Rattle.hv_reader.proofs.element.answered.Goals as goal

pub returns-in-Some : goal.returns-in-Some
returns-in-Some c =
    let s = c.loop-piece.invariant in
    refused Skeleton finished_element Piece token_of (limits_of c.args.limits)
    (element_answer (limits_of c.args.limits) (standing_in c.args.standing)
    (tokens_of c.args.pieces.now)) c.args.pieces.now c.loop-piece.piece-index
    c.piece-item.result s.state c.loop-piece.machine.frames c.loop-piece.machine.at
    c.loop-piece.machine.operators c.loop-piece.at c.in-Ok.refusal c.in-Some.why
    c.loop-piece-test.true c.piece-item.is s.runs
    (c.in-Ok.ensures.cause s.state (token_of c.piece-item.result) s.runs.is_control
    (sym c.class_of_piece-class.ensures)) c.in-Some.is

pub loop-piece-preserved : goal.loop-piece-preserved
loop-piece-preserved c =
    let s = c.loop-piece.invariant in
    let t = token_of c.piece-item.result in
    record {
      state = next s.state (step s.state t);
      runs = turned Skeleton finished_element Piece token_of (limits_of c.args.limits)
          (element_answer (limits_of c.args.limits) (standing_in c.args.standing)
          (tokens_of c.args.pieces.now)) c.args.pieces.now c.loop-piece.piece-index
          c.piece-item.result s.state (next s.state (step s.state t))
          c.loop-piece.machine.frames c.take.new.self.frames c.loop-piece.machine.at
          c.take.new.self.at c.loop-piece.machine.operators c.take.new.self.operators
          c.loop-piece.at c.in-Ok.refusal c.loop-piece-test.true c.piece-item.is s.runs
          (c.in-Ok.ensures.cause s.state t s.runs.is_control
          (sym c.class_of_piece-class.ensures))
          (c.in-Ok.ensures.taken s.state t s.runs.is_control
          (sym c.class_of_piece-class.ensures)) c.in_default-refusal.is
          (comes_next s.state (step s.state t));
      counted = omega (arith, s.counted);
    }

pub loop-piece-init : goal.loop-piece-init
loop-piece-init c =
    let s = standing_in c.args.standing in
    record {
      state = begin s;
      runs = record {
        is_control = c.begin-machine.ensures.state s (standing_kept c.args.standing);
        answer = ap (λ (x : ℕ). answers finished_element (limits_of c.args.limits) (begin s) x 0
            (tokens_of c.args.pieces.now)) (sym c.begin-machine.ensures.operators);
      };
      counted = refl;
    }
