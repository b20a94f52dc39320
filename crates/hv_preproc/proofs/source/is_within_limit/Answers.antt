use Rattle.std.proofs.Common.{List, ℕ, Bor}
use Rattle.hv_base.specs.declared.limits.TheConstants.{MOST_NAMES}
use Rattle.hv_preproc.proofs.SourceLemmas.{none_mapped, number_past}
use Rattle.hv_preproc.proofs.source.is_within_limit.Goals as goal

pub returns : goal.returns
returns c = λ few.
    number_past c.args.bundle.now MOST_NAMES
    (none_mapped (λ (name : Bor (List ℕ)). name.now) c.name_of.result c.is_none.result _
    c.is_none.ensures few c.name_of.ensures)
