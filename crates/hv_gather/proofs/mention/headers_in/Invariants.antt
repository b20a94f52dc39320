use Rattle.std.proofs.Common.{◌≡◌, take}
use Rattle.hv_plain.specs.gathering.Mentions as mentioning
use Rattle.hv_gather.proofs.mention.headers_in.Given as goal

-- the headers that the tokens so far mention
abbrev pub invariant-loop-token : goal.invariant-loop-token
invariant-loop-token l = l.headers ≡ mentioning.headers_in (take l.token-index l.tokens)
