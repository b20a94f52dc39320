use Rattle.std.proofs.Common.{◌≡◌, take, map}
use Rattle.hv_toks.specs.Spelled.{all_spelled}
use Rattle.hv_plain.specs.episode.Tokens.{given_token}
use Rattle.hv_rescan.specs.Values.{givens_of}
use Rattle.hv_rescan.proofs.machine.spelled.Given as goal

abbrev pub invariant-loop-token : goal.invariant-loop-token
invariant-loop-token l = all_spelled l.tokens ≡ map given_token (givens_of (take l.token-index l.given))
