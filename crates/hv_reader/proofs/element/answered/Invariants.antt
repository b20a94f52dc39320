use Rattle.std.proofs.Common.{◌≡◌, drop}
use Rattle.hv_ctree.specs.tree.Statements.{Skeleton}
use Rattle.hv_grammar.specs.machine.Frames.{State}
use Rattle.hv_grammar.specs.machine.Steps.{finished_element}
use Rattle.hv_grammar.specs.machine.Answers.{element_answer}
use Rattle.hv_cparse.specs.Control.{limits_of}
use Rattle.hv_reader.specs.Pieces.{standing_in, tokens_of}
use Rattle.hv_reader.proofs.Running.{Runs}
use Rattle.hv_reader.proofs.element.answered.Given as goal

abbrev pub invariant-loop-piece : goal.invariant-loop-piece
invariant-loop-piece l = record {
  state : State;
  runs : Runs Skeleton finished_element (limits_of l.limits) (element_answer (limits_of l.limits)
      (standing_in l.fn.standing) (tokens_of l.pieces)) state l.machine.frames l.machine.at
      l.machine.operators l.at (tokens_of (drop l.piece-index l.pieces));
  counted : l.at ≡ l.piece-index;
}
