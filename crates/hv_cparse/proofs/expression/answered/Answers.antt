use Rattle.std.proofs.Common.{[], sym, arith}
use Rattle.hv_grammar.specs.machine.Answers.{answer}
use Rattle.hv_grammar.specs.machine.Steps.{want}
use Rattle.hv_cparse.specs.Control.{limits_of, token_of, tokens_of}
use Rattle.hv_cparse.proofs.Answering.{turned, refused}
use Rattle.hv_cparse.proofs.expression.answered.Goals as goal

pub returns-in-Some : goal.returns-in-Some
returns-in-Some c =
    refused (limits_of c.args.limits)
    (answer (limits_of c.args.limits) (want []) 0 0 (tokens_of c.args.tokens.now))
    c.args.tokens.now c.loop-token.token-index c.token-item.result c.loop-token.machine.frames
    c.loop-token.machine.at c.loop-token.machine.operators c.loop-token.at c.in-Ok.refusal
    c.in-Some.why c.loop-token-test.true c.token-item.is c.loop-token.invariant.stands
    (λ m i. c.in-Ok.ensures.cause m (token_of c.token-item.result) i
    (sym c.class_of-class.ensures)) c.in-Some.is

pub loop-token-preserved : goal.loop-token-preserved
loop-token-preserved c = record {
  stands = turned (limits_of c.args.limits)
      (answer (limits_of c.args.limits) (want []) 0 0 (tokens_of c.args.tokens.now))
      c.args.tokens.now c.loop-token.token-index c.token-item.result
      c.loop-token.machine.frames c.take.new.self.frames c.loop-token.machine.at
      c.take.new.self.at c.loop-token.machine.operators c.take.new.self.operators
      c.loop-token.at c.in-Ok.refusal c.loop-token-test.true c.token-item.is
      c.loop-token.invariant.stands
      (λ m i. c.in-Ok.ensures.cause m (token_of c.token-item.result) i
      (sym c.class_of-class.ensures))
      (λ m i none. c.in-Ok.ensures.taken m (token_of c.token-item.result) i
      (sym c.class_of-class.ensures) none) c.in_default-refusal.is;
  counted = omega (arith, c.loop-token.invariant.counted);
}
