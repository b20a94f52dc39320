use Rattle.std.proofs.Common.{refl}
use Rattle.hv_ctoks.proofs.CutOffs.{on_err, printed-more, printed-cut}
use Rattle.hv_ctoks.proofs.spelling.spell_bytes.Goals as goal

pub returns-in_err-spell_byte-clause-memory : goal.returns-in_err-spell_byte-clause-memory
returns-in_err-spell_byte-clause-memory c =
    on_err c.from_residual.result _
    (printed-cut c.args.quote c.loop-byte.byte-index c.args.bytes.now c.args.out.now c.loop-byte.out
    c.loop-byte.invariant c.spell_byte.new.out c.in_err-spell_byte.ensures.unchanged)

pub loop-byte-preserved : goal.loop-byte-preserved
loop-byte-preserved c =
    printed-more c.args.quote c.loop-byte.byte-index c.args.bytes.now c.args.out.now c.loop-byte.out
    c.loop-byte.invariant _ c.spell_byte.new.out c.loop-byte-test.true refl
    c.in_ok-spell_byte.ensures.ok
