use Rattle.std.proofs.Common.{◌≡◌, ap, arith, rules, codes, Some}
use Rattle.std.proofs.lemmas.Slice.Eq.{text_from_reads}
use Rattle.hv_plain.proofs.small.reader.next_in_body.Goals as goal

pub returns-in-putchar : goal.returns-in-putchar
returns-in-putchar c =
    let text : c.args.token.now ≡ codes "putchar" =
    text_from_reads c.args.token.now (codes "putchar") (omega arith) (search rules) in
    rw text (ap Some c.to-in-putchar.ensures)
