use Rattle.std.proofs.Common.{◌≡◌, ◌∙◌, ℕ, List, Option, None, Some, ap, sym}
use Rattle.hv_base.specs.Bundles.{held_at}
use Rattle.hv_base.specs.declared.held.Held.{Held}
use Rattle.hv_base.specs.declared.held.Held.TheVariants.{Absent, Bytes}
use Rattle.hv_preproc.proofs.SourceLemmas.{source-named}
use Rattle.hv_preproc.proofs.source.cut_file.Goals as goal

pub returns-in_ok-cut_source-in-Some-Bytes : goal.returns-in_ok-cut_source-in-Some-Bytes
returns-in_ok-cut_source-in-Some-Bytes c =
    let held : Option Held = Some (Bytes c.as_slice.result.now) in
    let holds : held ≡ held_at c.args.bundle.now c.in-Some.name.now =
    ap (λ (bytes : List ℕ). Some (Bytes bytes)) c.as_slice.ensures
    ∙ (ap Some (sym c.in-Some-Bytes.field-0-is) ∙ c.in-Some-Bytes.ensures) in
    source-named c.args.bundle.now c.args.number c.in-Some.name.now held
    (Some c.in_ok-cut_source-in-Some-Bytes.field-0) c.in-Some.ensures holds
    c.in_ok-cut_source-in-Some-Bytes.ensures

pub returns-in-Some-Absent : goal.returns-in-Some-Absent
returns-in-Some-Absent c =
    source-named c.args.bundle.now c.args.number c.in-Some.name.now (Some Absent) None
    c.in-Some.ensures (rw c.in-Some-Absent.field-0-is at c.in-Some-Absent.ensures) tt

pub returns-in-None : goal.returns-in-None
returns-in-None c =
    source-named c.args.bundle.now c.args.number c.in-Some.name.now None None
    c.in-Some.ensures c.in-None.ensures tt
