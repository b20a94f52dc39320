use Rattle.std.proofs.Common.{◌∙◌, sym, ap, arith, false, rules}
use Rattle.hv_mem.specs.Scalars.{begun_by, is_part_of}
use Rattle.hv_mem.proofs.ScalarsLemmas.{parts-step, parts-stop, whole-read}
use Rattle.hv_mem.proofs.scalars.read_pointer.Goals as goal

pub loop-k-preserved : goal.loop-k-preserved
loop-k-preserved c =
    parts-step c.args.offset c.loop-k.k c.args.bytes.now c.in-Some.pointer _ (omega arith) (omega arith)
    (ap (is_part_of c.in-Some.pointer c.loop-k.k) (sym c.get-byte.ensures) ∙ sym c.is_part_of-is_next.ensures ∙ search rules)
    c.loop-k.invariant

pub returns-then-not-is_next : goal.returns-then-not-is_next
returns-then-not-is_next c =
    sym (whole-read c.args.offset c.args.bytes.now c.in-Some.pointer false (omega arith)
    (ap begun_by (sym c.get-first.ensures) ∙ sym c.in-Some.ensures)
    (sym c.loop-k.invariant
    ∙ parts-stop c.args.offset c.loop-k.k c.args.bytes.now c.in-Some.pointer (omega arith) (omega arith)
    (ap (is_part_of c.in-Some.pointer c.loop-k.k) (sym c.get-byte.ensures) ∙ sym c.is_part_of-is_next.ensures ∙ search rules)))
