use Rattle.std.proofs.Common.{◌≡◌, [], drop}
use Rattle.hv_grammar.specs.machine.Answers.{answer}
use Rattle.hv_grammar.specs.machine.Steps.{want}
use Rattle.hv_cparse.specs.Control.{limits_of, tokens_of}
use Rattle.hv_cparse.proofs.Answering.{Stands}
use Rattle.hv_cparse.proofs.expression.answered.Given as goal

abbrev pub invariant-loop-token : goal.invariant-loop-token
invariant-loop-token l = record {
  stands : Stands (limits_of l.limits) (answer (limits_of l.limits) (want []) 0 0
      (tokens_of l.tokens)) l.machine.frames l.machine.at l.machine.operators l.at
      (tokens_of (drop l.token-index l.tokens));
  counted : l.at ≡ l.token-index;
}
