use Rattle.std.proofs.Common.{◌≡◌, take}
use Rattle.hv_directives.proofs.definition.copied.Given as goal

-- the tokens so far
abbrev pub invariant-loop-token : goal.invariant-loop-token
invariant-loop-token l = l.copies ≡ take l.token-index l.tokens
