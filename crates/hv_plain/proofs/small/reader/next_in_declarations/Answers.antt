use Rattle.std.proofs.Common.{◌≡◌, ap, arith, rules, codes, Some}
use Rattle.std.proofs.lemmas.Slice.Eq.{text_from_reads}
use Rattle.hv_plain.proofs.small.reader.next_in_declarations.Goals as goal

pub returns-in-extern : goal.returns-in-extern
returns-in-extern c =
    let text : c.args.token.now ≡ codes "extern" =
    text_from_reads c.args.token.now (codes "extern") (omega arith) (search rules) in
    rw text (ap Some c.to-in-extern.ensures)
