use Rattle.std.proofs.Common.{◌≡◌, arith, rules, get_or, take, []}
use Rattle.std.proofs.lemmas.Result.{err_from_is_err_and}
use Rattle.hv_plain.specs.gathering.Told as telling
use Rattle.hv_gather.specs.working.Steps.{search_of}
use Rattle.hv_gather.proofs.AnswersLemmas.{NamesFirst-follow_all}
use Rattle.hv_gather.proofs.StepsLemmas.{Tells-later}
use Rattle.hv_gather.proofs.search.Search.deepen.Goals as goal

pub returns-in_err-follow-clause-too_big : goal.returns-in_err-follow-clause-too_big
returns-in_err-follow-clause-too_big g c = λ held tells.
    let e = err_from_is_err_and c.from_residual.result c.from_residual.ensures.1 in
    let before = g.F.Files.state c.args.files.now in
    let middle = g.F.Files.state c.loop-reached.files in
    let told = Tells-later before middle held c.loop-reached.invariant.0 tells in
    let items = c.as_slice-reached-items.result.now in
    let this = c.reached-item.result in
    let i = c.loop-reached.reached-index in
    let same : get_or items i this ≡ this = first_of (cc, search rules) in
    let all : c.args.self.now.waiting ≡ items = first_of (cc, search rules) in
    let start : telling.Search = record (search_of c.args.self.now) { waiting = [] } in
    let so_far : search_of c.loop-reached.self ≡ telling.follow_all held c.args.self.now.bundle.dirs (take i items) start =
    first_of (cc, search rules) in
    rw (e.1, e.2) (NamesFirst-follow_all held c.args.self.now.bundle.dirs c.loop-reached.self.bundle.dirs items c.args.self.now.waiting i this this
    start (search_of c.loop-reached.self) c.in_err-follow.field-0.0 (omega arith) same c.loop-reached.invariant.1.dirs all so_far
    (c.in_err-follow.ensures.too_big held told))
