use Rattle.std.proofs.Common.{◌≡◌, take}
use Rattle.hv_toks.specs.Stream.{projected}
use Rattle.hv_toks.proofs.stream.project.Given as goal

-- the tokens read so far are projected
abbrev pub invariant-loop-token : goal.invariant-loop-token
invariant-loop-token l = l.tokens ≡ projected l.store l.config.on (take l.token-index l.stream)
