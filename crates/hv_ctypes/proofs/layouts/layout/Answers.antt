use Rattle.std.proofs.Common.{◌≡◌, ◌∙◌, rules}
use Rattle.std.specs.Option.{option_and_then}
use Rattle.hv_ctree.specs.types.Erasure.{type_of}
use Rattle.hv_ctree.specs.types.Table.{compounds_of}
use Rattle.hv_ctree.specs.types.Layouts as layouts
use Rattle.hv_ctypes.specs.Compounds.{layouts_in}
use Rattle.hv_ctypes.specs.working.Walks.{innermost}
use Rattle.hv_ctypes.proofs.LayoutsLemmas.{around_all}
use Rattle.hv_ctypes.proofs.LayoutLaws.{layout_whole}
use Rattle.hv_ctypes.proofs.layouts.layout.Goals as goal
use Rattle.hv_ctypes.proofs.layouts.layout.Goals.{in-Some, in-None}

pub returns-clause-value : goal.returns-clause-value
returns-clause-value c =
    let of = layouts_in (compounds_of c.args.types.now) in
    let plain_type = type_of c.args.t.now in
    let e : c.match-innermost.of ≡ layouts.within_limit (option_and_then of (innermost plain_type)) =
    elim c.match-innermost.branch [ in-Some w ↦ search rules | in-None w ↦ search rules ] in
    let r : c.layout_around.result ≡ layouts.within_limit (layouts.layout_by (λ _. c.match-innermost.of) plain_type) =
    search rules in
    r ∙ around_all of plain_type c.match-innermost.of e

pub returns-clause-whole : goal.returns-clause-whole
returns-clause-whole c =
    rw (returns-clause-value c) (layout_whole (compounds_of c.args.types.now) (type_of c.args.t.now))
