use Rattle.std.proofs.Common.{◌≡◌, ◌∙◌, ◌+◌, ◌<◌, ℕ, List, suc, arith, rules, length, get_or, drop, map}
use Rattle.std.specs.String.{string_bytes}
use Rattle.hv_plain.specs.gathering.Told as telling
use Rattle.hv_gather.specs.Plain.{bytes_in}
use Rattle.hv_gather.specs.working.Steps.{search_of}
use Rattle.hv_gather.proofs.SearchLemmas.{look_up-step}
use Rattle.hv_gather.proofs.StepsLemmas.{Grows-trans}
use Rattle.hv_gather.proofs.search.Search.look_up_among.Goals as goal

pub loop-name-preserved : goal.loop-name-preserved
loop-name-preserved c = (
  Grows-trans _ _ _ c.loop-name.invariant.0 c.in_ok-ask_among.ensures.grows,
  let items = c.as_slice-name-items.result.now in
      let held = bytes_in c.args.all.now in
      let same : string_bytes (get_or items c.loop-name.name-index c.name-item.result) ≡ c.as_str.result.now = first_of (cc, search rules) in
      let asked = rw c.if-branch.false at (c.in_ok-ask_among.ensures.found
      (telling.look_up held c.args.header.now.name (map string_bytes (drop (c.loop-name.name-index + 1) items)))) in
      c.loop-name.invariant.1
      ∙ look_up-step string_bytes held c.args.header.now.name items c.loop-name.name-index (c.loop-name.name-index + 1) c.name-item.result c.as_str.result.now
      (search_of c.loop-name.self) _ (omega arith) (omega arith) same asked,
)

pub returns-in_err-ask_among-clause-grows : goal.returns-in_err-ask_among-clause-grows
returns-in_err-ask_among-clause-grows c = Grows-trans _ _ _ c.loop-name.invariant.0 c.in_err-ask_among.ensures.grows
