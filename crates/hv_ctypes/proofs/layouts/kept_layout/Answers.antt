use Rattle.std.proofs.Common.{◌≡◌, Some, ap, sym, ◌∙◌, rules}
use Rattle.std.specs.Prelude.{slice_get}
use Rattle.std.specs.Option.{option_and_then}
use Rattle.hv_ctree.specs.types.Table.{compounds_of}
use Rattle.hv_ctree.specs.types.Layouts.{within_limit}
use Rattle.hv_ctypes.specs.Compounds.{layouts_in}
use Rattle.hv_ctypes.proofs.SettledLemmas.{kept_whole}
use Rattle.hv_ctypes.proofs.LayoutLaws.{kept_aligned}
use Rattle.hv_ctypes.proofs.layouts.kept_layout.Goals as goal

pub returns-clause-value : goal.returns-clause-value
returns-clause-value c =
    let types = c.args.types.now in
    let there : slice_get types.compounds c.args.number ≡ Some c.in_ok-compound.compound.now = search rules in
    sym (ap (option_and_then (λ x. x.layout)) there) ∙ kept_whole types.compounds types.settled c.args.number

pub returns-clause-aligned : goal.returns-clause-aligned
returns-clause-aligned c =
    let types = c.args.types.now in
    let there : slice_get types.compounds c.args.number ≡ Some c.in_ok-compound.compound.now = search rules in
    let value : c.in_ok-compound.compound.now.layout ≡ within_limit (layouts_in (compounds_of types) c.args.number) =
    sym (ap (option_and_then (λ x. x.layout)) there) ∙ kept_whole types.compounds types.settled c.args.number in
    rw value (kept_aligned (compounds_of types) c.args.number)
