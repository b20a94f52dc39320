use Rattle.hv_ctoks.proofs.FloatingLemmas.{floating-then, floating-else}
use Rattle.hv_ctoks.proofs.floating.is_floating.Goals as goal

pub returns-then-is_floating_of : goal.returns-then-is_floating_of
returns-then-is_floating_of c =
    floating-then c.args.text.now _ c.is_floating_of.ensures c.if-is_floating_of.true

pub returns-else-is_floating_of : goal.returns-else-is_floating_of
returns-else-is_floating_of c =
    floating-else c.args.text.now _ c.is_floating_of.ensures _ c.if-is_floating_of.false
    c.is_hexadecimal.ensures
