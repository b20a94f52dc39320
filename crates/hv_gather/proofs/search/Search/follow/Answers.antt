use Rattle.std.proofs.Common.{◌≡◌, arith, rules, get_or}
use Rattle.std.proofs.lemmas.Result.{err_from_is_err_and}
use Rattle.hv_gather.specs.working.Steps.{search_of}
use Rattle.hv_gather.proofs.AnswersLemmas.{NamesFirst-follow}
use Rattle.hv_gather.proofs.StepsLemmas.{Tells-later}
use Rattle.hv_gather.proofs.search.Search.follow.Goals as goal

pub returns-in_err-look_up-clause-too_big : goal.returns-in_err-look_up-clause-too_big
returns-in_err-look_up-clause-too_big g c = λ held tells.
    let e = err_from_is_err_and c.from_residual.result c.from_residual.ensures.1 in
    let before = g.F.Files.state c.args.files.now in
    let middle = g.F.Files.state c.loop-header.files in
    let told = Tells-later before middle held c.loop-header.invariant.0 tells in
    let items = c.as_slice-header-items.result.now in
    let this = c.header-item.result in
    let i = c.loop-header.header-index in
    let same : get_or items i this ≡ this = first_of (cc, search rules) in
    let name : c.as_str-name.result.now ≡ c.args.reached.now.name = first_of (cc, search rules) in
    let all : c.args.reached.now.mentioned ≡ items = first_of (cc, search rules) in
    rw (e.1, e.2) (NamesFirst-follow held c.args.self.now.bundle.dirs c.loop-header.self.bundle.dirs c.args.reached.now.name c.as_str-name.result.now items
    c.args.reached.now.mentioned i this this (search_of c.args.self.now) (search_of c.loop-header.self) c.in_err-look_up.field-0.0 (omega arith) same
    c.loop-header.invariant.1.dirs name all (c.loop-header.invariant.2 held tells) (c.in_err-look_up.ensures.too_big held told))
