use Rattle.std.proofs.Common.{refl, arith}
use Rattle.hv_base.specs.declared.limits.TheConstants.{MOST_INCLUDES}
use Rattle.hv_gather.specs.Plain.{bytes_in}
use Rattle.hv_gather.specs.working.Steps.{search_of}
use Rattle.hv_gather.proofs.SearchLemmas.{deepen-step, told-end}
use Rattle.hv_gather.proofs.StepsLemmas.{Grows-refl, Grows-trans}
use Rattle.hv_gather.proofs.search.plain.gather_plainly.Goals as goal

pub loop-init : goal.loop-init
loop-init c = (Grows-refl _, (MOST_INCLUDES, omega arith, refl))

pub loop-preserved : goal.loop-preserved
loop-preserved c =
    let so_far = c.loop.invariant.1 in
    let found = rw c.loop.invariant.0.dirs at c.in_ok-deepen_among.ensures.found in (
      Grows-trans _ _ _ c.loop.invariant.0 c.in_ok-deepen_among.ensures.grows,
      deepen-step MOST_INCLUDES so_far.0 c.loop.counter (bytes_in c.args.all.now) _ _ (search_of c.loop.search) _ (omega arith) so_far.1 so_far.2 found,
    )

pub returns : goal.returns
returns c =
    let names = c.in_ok-search.ensures.names in
    let grows = c.loop.invariant.0 in
    let so_far = c.loop.invariant.1 in
    rw c.into_bundle.ensures
    (told-end (bytes_in c.args.all.now) _ _ c.in_ok-search.search.bundle c.loop.search.bundle (search_of c.in_ok-search.search) (search_of c.loop.search) so_far.0 c.loop.counter
    (omega arith) so_far.1 so_far.2 c.in_ok-search.ensures.found names.0 names.1 grows.main grows.dirs refl)
