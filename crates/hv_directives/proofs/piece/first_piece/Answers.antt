use Rattle.std.proofs.Common.{◌≡◌, ◌-◌, true, false, List, arith, length, take, drop}
use Rattle.hv_toks.specs.declared.token.PpTok.{PpTok}
use Rattle.hv_base.proofs.Lists.{position_or_len-le}
use Rattle.hv_plainpp.specs.Lines.{begins_directive}
use Rattle.hv_directives.proofs.LinesLemmas.{first_directive, first_text, text_len-cons}
use Rattle.hv_directives.proofs.SlicesLemmas.{one_first}
use Rattle.hv_directives.proofs.piece.first_piece.Goals as goal

pub split_at-requires : goal.split_at-requires
split_at-requires c =
    let after : List PpTok = take (length c.args.tokens.now - 1) (drop 1 c.args.tokens.now) in
    omega (arith, c.line_len.ensures, position_or_len-le (λ (t : PpTok). t.first) after)

pub split_at-requires-2 : goal.split_at-requires-2
split_at-requires-2 c =
    omega (arith, c.text_len.ensures, position_or_len-le begins_directive c.args.tokens.now)

pub returns-then-begins_directive-clause-some : goal.returns-then-begins_directive-clause-some
returns-then-begins_directive-clause-some c =
    let cons = one_first c.args.tokens.now c.token-item.result c.in-len1-up.len_at_least
    c.token-item.is in
    let begins : begins_directive c.token-item.result ≡ true = cc in
    first_directive c.args.tokens.now c.token-item.result _ c.split_at.result.0.now
    c.split_at.result.1.now c.line_len.result cons begins c.line_len.ensures
    c.split_at.ensures.front c.split_at.ensures.back

pub returns-clause-some : goal.returns-clause-some
returns-clause-some c =
    let cons = one_first c.args.tokens.now c.token-item.result c.in-len1-up.len_at_least
    c.token-item.is in
    let begins : begins_directive c.token-item.result ≡ false = cc in
    first_text c.args.tokens.now c.token-item.result _ c.split_at-2.result.0.now
    c.split_at-2.result.1.now c.text_len.result c.end_before-ends.result cons begins
    c.text_len.ensures c.split_at-2.ensures.front c.split_at-2.ensures.back
    c.end_before-ends.ensures

pub returns-clause-fewer : goal.returns-clause-fewer
returns-clause-fewer c =
    let cons = one_first c.args.tokens.now c.token-item.result c.in-len1-up.len_at_least
    c.token-item.is in
    let begins : begins_directive c.token-item.result ≡ false = cc in
    omega (
      arith,
      c.text_len.ensures,
      c.split_at-2.ensures.back_len,
      text_len-cons c.args.tokens.now c.token-item.result _ cons begins,
    )
