use Rattle.std.proofs.Common.{◌<◌, length}
use Rattle.hv_toks.proofs.ConstantsLemmas.{some_from}
use Rattle.hv_ctoks.proofs.CharactersLemmas.{characters-more}
use Rattle.hv_ctoks.proofs.literal.read_characters.Goals as goal

pub loop-rest-preserved : goal.loop-rest-preserved
loop-rest-preserved c =
    let some : 0 < length c.loop-rest.rest.now =
    some_from _ c.is_empty.result c.is_empty.ensures c.loop-rest-test.true in
    characters-more c.args.quote c.loop-rest.bytes c.loop-rest.rest.now _ _ c.first_len.result _
    some c.loop-rest.invariant c.first_len.ensures.value c.split_at.ensures.front _ _
    c.split_at.ensures.back c.in-Some.ensures c.in_ok-add.ensures.ok
