use Rattle.std.proofs.Common.{◌≡◌, ◌++◌, drop}
use Rattle.hv_print.specs.Shown.{shown}
use Rattle.hv_print.proofs.token.print_tokens.Given as goal

-- the tokens so far are printed
abbrev pub invariant-loop-token : goal.invariant-loop-token
invariant-loop-token l = l.text ++ shown (drop l.token-index l.tokens) ≡ shown l.tokens
