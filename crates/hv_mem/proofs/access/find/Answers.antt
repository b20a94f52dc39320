use Rattle.std.proofs.Common.{◌≡◌, ◌<◌, ◌∙◌, Some, length, refl, rules, w64}
use Rattle.std.specs.Prelude.{slice_get}
use Rattle.std.proofs.lemmas.Int.{to_z-of_z}
use Rattle.std.proofs.lemmas.Option.{slice_get_read}
use mir.Val.{SFits}
use Rattle.hv_mem.proofs.BlocksLemmas.{event-found, spot-found}
use Rattle.hv_mem.proofs.access.find.Goals as goal

pub returns-in-Err : goal.returns-in-Err
returns-in-Err c =
    let fits : SFits w64 c.args.at.offset = search rules in
    let within : c.in-Some.id.index < length c.args.blocks.now = rw c.in-Some.is at c.requires.address in
    let found : slice_get c.args.blocks.now c.in-Some.id.index ≡ Some c.index-blocks-index.result =
    slice_get_read c.args.blocks.now (length c.args.blocks.now) c.in-Some.id.index c.index-blocks-index.result refl within c.index-blocks-index.is in
    let told = simp to_z-of_z at c.in-Err.ensures in
    event-found c.args.blocks.now c.args.at c.in-Some.id c.index-blocks-index.result c.args.count c.args.align c.args.way c.in-Some.is found
    ∙ rw (← c.is_forbidden-forbidden.ensures) told

pub returns-in-Ok : goal.returns-in-Ok
returns-in-Ok c =
    let fits : SFits w64 c.args.at.offset = search rules in
    let within : c.in-Some.id.index < length c.args.blocks.now = rw c.in-Some.is at c.requires.address in
    let found : slice_get c.args.blocks.now c.in-Some.id.index ≡ Some c.index-blocks-index.result =
    slice_get_read c.args.blocks.now (length c.args.blocks.now) c.in-Some.id.index c.index-blocks-index.result refl within c.index-blocks-index.is in
    let told = simp to_z-of_z at c.in-Ok.ensures in (
      event-found c.args.blocks.now c.args.at c.in-Some.id c.index-blocks-index.result c.args.count c.args.align c.args.way c.in-Some.is found
          ∙ rw (← c.is_forbidden-forbidden.ensures) told.0,
      spot-found c.args.blocks.now c.args.at c.in-Some.id c.index-blocks-index.result c.args.count c.in-Ok.offset c.in-Some.is found told.1,
    )
