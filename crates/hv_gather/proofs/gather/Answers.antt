use Rattle.std.proofs.Common.{◌∙◌, refl, arith, map}
use Rattle.std.proofs.lemmas.Result.{err_from_is_err_and}
use Rattle.std.specs.String.{string_bytes}
use Rattle.hv_base.specs.declared.limits.TheConstants.{MOST_INCLUDES}
use Rattle.hv_gather.specs.working.Steps.{search_of}
use Rattle.hv_outside.proofs.FilesLemmas.{Keeps-refl, Keeps-trans}
use Rattle.hv_gather.proofs.AnswersLemmas.{Answers-begin, Answers-bundle, Answers-fault, NamesFirst-deepen}
use Rattle.hv_gather.proofs.SearchLemmas.{deepen-step, told-end}
use Rattle.hv_gather.proofs.StepsLemmas.{Grows-refl, Grows-trans, HasMain-later, IsCaused-step, IsCausedByStep-later, Tells-later}
use Rattle.hv_gather.proofs.gather.Goals as goal

pub loop-init : goal.loop-init
loop-init g c = (Keeps-refl _, Grows-refl _, λ held tells. (MOST_INCLUDES, omega arith, refl), c.in_ok-search.ensures.within)

pub returns-in_err-deepen-clause-err : goal.returns-in_err-deepen-clause-err
returns-in_err-deepen-clause-err g c =
    let e = err_from_is_err_and c.from_residual-in_err-deepen.result c.from_residual-in_err-deepen.ensures.1 in
    let before = g.F.Files.state c.args.files.now in
    let middle = g.F.Files.state c.loop.files in
    let now = g.F.Files.state c.deepen.new.files in
    let keeps = Keeps-trans before (g.F.Files.state c.begin.new.files) middle c.in_ok-search.ensures.keeps c.loop.invariant.0 in
    let fault = c.in_err-deepen.field-0.0 in
    rw (e.1, e.2) (IsCaused-step c.args.main.now before now fault (IsCausedByStep-later before middle now fault keeps c.in_err-deepen.ensures.caused))

pub returns-in_err-deepen-clause-keeps : goal.returns-in_err-deepen-clause-keeps
returns-in_err-deepen-clause-keeps g c =
    Keeps-trans _ _ _ (Keeps-trans _ _ _ c.in_ok-search.ensures.keeps c.loop.invariant.0) c.in_err-deepen.ensures.keeps

pub loop-preserved : goal.loop-preserved
loop-preserved g c = (
  Keeps-trans _ _ _ c.loop.invariant.0 c.in_ok-deepen.ensures.keeps,
  Grows-trans _ _ _ c.loop.invariant.1 c.in_ok-deepen.ensures.grows,
  λ held tells.
      let so_far = c.loop.invariant.2 held tells in
      let found = rw c.loop.invariant.1.dirs at (c.in_ok-deepen.ensures.found held (Tells-later _ _ held c.loop.invariant.0 tells)) in
      deepen-step MOST_INCLUDES so_far.0 c.loop.counter held _ _ (search_of c.loop.search) _ (omega arith) so_far.1 so_far.2 found,
  c.in_ok-deepen.ensures.within,
)

pub returns-clause-ok : goal.returns-clause-ok
returns-clause-ok g c = λ told.
    let held = (g.F.Files.state c.args.files.now).held in
    let names = c.in_ok-search.ensures.names in
    let grows = c.loop.invariant.1 in
    let so_far = c.loop.invariant.2 held (Tells-later _ _ held c.in_ok-search.ensures.keeps (told, λ name. refl)) in
    rw c.into_bundle.ensures
    (told-end held _ _ c.in_ok-search.search.bundle c.loop.search.bundle (search_of c.in_ok-search.search) (search_of c.loop.search) so_far.0 c.loop.counter
    (omega arith) so_far.1 so_far.2 (c.in_ok-search.ensures.found held (told, λ name. refl)) names.0 names.1 grows.main grows.dirs refl)

pub returns-clause-main : goal.returns-clause-main
returns-clause-main g c = rw c.into_bundle.ensures (HasMain-later _ _ c.loop.invariant.1 c.in_ok-search.ensures.first)

pub returns-clause-names : goal.returns-clause-names
returns-clause-names g c =
    rw c.into_bundle.ensures (c.loop.invariant.1.main ∙ c.in_ok-search.ensures.names.0, c.loop.invariant.1.dirs ∙ c.in_ok-search.ensures.names.1)

pub returns-clause-keeps : goal.returns-clause-keeps
returns-clause-keeps g c = Keeps-trans _ _ _ c.in_ok-search.ensures.keeps c.loop.invariant.0

pub returns-in_err-deepen-clause-main_absent : goal.returns-in_err-deepen-clause-main_absent
returns-in_err-deepen-clause-main_absent g c = λ told none unrisen.
    let first = c.loop.invariant.0 in
    let second = c.in_err-deepen.ensures.keeps in
    absurd (c.in_ok-search.ensures.main_absent told none (λ rose. unrisen (omega (arith, rose, first.faults, second.faults))))

pub returns-clause-main_absent : goal.returns-clause-main_absent
returns-clause-main_absent g c = λ told none unrisen.
    let first = c.loop.invariant.0 in
    absurd (c.in_ok-search.ensures.main_absent told none (λ rose. unrisen (omega (arith, rose, first.faults))))

pub returns-in_err-search-clause-answer : goal.returns-in_err-search-clause-answer
returns-in_err-search-clause-answer g c = λ told.
    let e = err_from_is_err_and c.from_residual.result c.from_residual.ensures.1 in
    let before = g.F.Files.state c.args.files.now in
    let now = g.F.Files.state c.begin.new.files in
    let fault = c.in_err-search.field-0.0 in
    rw (e.1, e.2) (Answers-begin before.held c.args.main.now (map string_bytes c.args.dirs.now) before now fault told refl
    c.in_err-search.ensures.caused (c.in_err-search.ensures.too_big before.held (told, λ name. refl)))

pub returns-in_err-deepen-clause-answer : goal.returns-in_err-deepen-clause-answer
returns-in_err-deepen-clause-answer g c = λ told.
    let e = err_from_is_err_and c.from_residual-in_err-deepen.result c.from_residual-in_err-deepen.ensures.1 in
    let before = g.F.Files.state c.args.files.now in
    let begun = g.F.Files.state c.begin.new.files in
    let middle = g.F.Files.state c.loop.files in
    let now = g.F.Files.state c.deepen.new.files in
    let held = before.held in
    let main = c.args.main.now in
    let dirs = map string_bytes c.args.dirs.now in
    let fault = c.in_err-deepen.field-0.0 in
    let keeps = Keeps-trans before begun middle c.in_ok-search.ensures.keeps c.loop.invariant.0 in
    let there = c.in_ok-search.ensures.there held (told, λ name. refl) in
    let so_far = c.loop.invariant.2 held (Tells-later before begun held c.in_ok-search.ensures.keeps (told, λ name. refl)) in
    let deeper = rw c.loop.invariant.1.dirs at (c.in_err-deepen.ensures.too_big held (Tells-later before middle held keeps (told, λ name. refl))) in
    let names = NamesFirst-deepen so_far.0 c.loop.counter held main dirs _ _ (search_of c.loop.search) fault (omega arith) so_far.1 so_far.2
    c.in_ok-search.ensures.names.1 (c.in_ok-search.ensures.found held (told, λ name. refl)) deeper in
    rw (e.1, e.2) (Answers-fault held main dirs there.0 before now fault there.1
    (IsCausedByStep-later before middle now fault keeps c.in_err-deepen.ensures.caused) names)

pub returns-clause-answer : goal.returns-clause-answer
returns-clause-answer g c = λ told.
    let held = (g.F.Files.state c.args.files.now).held in
    let main = c.args.main.now in
    let dirs = map string_bytes c.args.dirs.now in
    let names = c.in_ok-search.ensures.names in
    let grows = c.loop.invariant.1 in
    let there = c.in_ok-search.ensures.there held (told, λ name. refl) in
    let so_far = c.loop.invariant.2 held (Tells-later _ _ held c.in_ok-search.ensures.keeps (told, λ name. refl)) in
    let is = told-end held main dirs c.in_ok-search.search.bundle c.loop.search.bundle (search_of c.in_ok-search.search) (search_of c.loop.search) so_far.0 c.loop.counter
    (omega arith) so_far.1 so_far.2 (c.in_ok-search.ensures.found held (told, λ name. refl)) names.0 names.1 grows.main grows.dirs refl in
    rw c.into_bundle.ensures (Answers-bundle held main dirs there.0 c.loop.search.bundle there.1 is c.loop.invariant.3.none)

pub returns-clause-within : goal.returns-clause-within
returns-clause-within g c = rw c.into_bundle.ensures c.loop.invariant.3.none
