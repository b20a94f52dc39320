use Rattle.std.proofs.Common.{◌≡◌, ◌∙◌, ap, subst, sym, ◌+◌, ◌<◌, ℕ, List, suc, arith, rules, length, get_or, drop, map}
use Rattle.std.proofs.lemmas.Result.{err_from_is_err_and}
use Rattle.std.specs.String.{string_bytes}
use Rattle.hv_plain.specs.gathering.SearchOrder.{candidates}
use Rattle.hv_plain.specs.gathering.Told as telling
use Rattle.hv_gather.specs.working.Steps.{NamesFirst, search_of}
use Rattle.hv_outside.proofs.FilesLemmas.{Keeps-trans}
use Rattle.hv_gather.proofs.SearchLemmas.{look_up-here, look_up-step}
use Rattle.hv_gather.proofs.StepsLemmas.{Grows-trans, Tells-later}
use Rattle.hv_gather.proofs.search.Search.look_up.Goals as goal

pub loop-name-preserved : goal.loop-name-preserved
loop-name-preserved g c = (
  Keeps-trans _ _ _ c.loop-name.invariant.0 c.in_ok-ask.ensures.keeps,
  Grows-trans _ _ _ c.loop-name.invariant.1 c.in_ok-ask.ensures.grows,
  λ held tells.
      let items = c.as_slice-name-items.result.now in
      let same : string_bytes (get_or items c.loop-name.name-index c.name-item.result) ≡ c.as_str.result.now = first_of (cc, search rules) in
      let asked = rw c.if-branch.false at (c.in_ok-ask.ensures.found held
      (telling.look_up held c.args.header.now.name (map string_bytes (drop (c.loop-name.name-index + 1) items)))
      (Tells-later _ _ held c.loop-name.invariant.0 tells)) in
      c.loop-name.invariant.2 held tells
      ∙ look_up-step string_bytes held c.args.header.now.name items c.loop-name.name-index (c.loop-name.name-index + 1) c.name-item.result c.as_str.result.now
      (search_of c.loop-name.self) _ (omega arith) (omega arith) same asked,
  c.in_ok-ask.ensures.within,
)

pub returns-in_err-ask-clause-too_big : goal.returns-in_err-ask-clause-too_big
returns-in_err-ask-clause-too_big g c = λ held tells.
    let e = err_from_is_err_and c.from_residual-in_err-ask.result c.from_residual-in_err-ask.ensures.1 in
    let before = g.F.Files.state c.args.files.now in
    let middle = g.F.Files.state c.loop-name.files in
    let header = c.args.header.now.name in
    let items = c.as_slice-name-items.result.now in
    let i = c.loop-name.name-index in
    let name = c.as_str.result.now in
    let same : string_bytes (get_or items i c.name-item.result) ≡ name = first_of (cc, search rules) in
    let list : candidates c.args.self.now.bundle.dirs c.args.file.now c.args.header.now ≡ map string_bytes items = first_of (cc, search rules) in
    let here = look_up-here string_bytes held header items i (i + 1) c.name-item.result name (search_of c.loop-name.self) (omega arith) (omega arith) same in
    let whole = ap (λ names. telling.look_up held header names (search_of c.args.self.now)) list ∙ (c.loop-name.invariant.2 held tells ∙ here) in
    let names = c.in_err-ask.ensures.too_big held (telling.look_up held header (map string_bytes (drop (i + 1) items)))
    (Tells-later before middle held c.loop-name.invariant.0 tells) in
    rw (e.1, e.2) (subst (λ (found : telling.Search). NamesFirst found.entries c.in_err-ask.field-0.0) (sym whole) names)
