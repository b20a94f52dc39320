use Rattle.std.proofs.Common.{◌≡◌, ◌<◌, Some, None, length, get_or, map, sym, ◌∙◌, arith, rules}
use Rattle.hv_ctree.specs.types.Erasure.{type_of, member_of}
use Rattle.hv_ctree.specs.types.Table.{compounds_of}
use Rattle.hv_ctree.specs.types.Layouts.{within_limit, layout_by}
use Rattle.hv_ctypes.specs.Compounds.{layouts_in}
use Rattle.hv_ctypes.proofs.OffsetsLemmas.{fit_some, placed_start, item_has, item_fits, item_placed}
use Rattle.hv_ctypes.proofs.offsets.offsets_of_members.Goals as goal

pub loop-member-init : goal.loop-member-init
loop-member-init c =
    let of = layouts_in (compounds_of c.args.types.now) in
    record {
      fits = fit_some of c.args.is_union (map member_of c.args.members.now) c.requires;
      within = omega arith;
      placed = placed_start of c.args.is_union c.args.members.now c.new-offsets.result c.new-offsets.ensures;
    }

pub unreachable-requires : goal.unreachable-requires
unreachable-requires c =
    let of = layouts_in (compounds_of c.args.types.now) in
    let m = c.member-item.result in
    let i = c.loop-member.member-index in
    let inside : i < length c.args.members.now = search rules in
    let is : m ≡ get_or c.args.members.now i m = search rules in
    let none : None ≡ within_limit (layout_by of (type_of m.of)) = sym c.in-None.is ∙ c.layout.ensures.value in
    item_has of c.args.is_union c.args.members.now i m inside is c.loop-member.taken c.loop-member.invariant.fits none

pub loop-member-preserved : goal.loop-member-preserved
loop-member-preserved c =
    let of = layouts_in (compounds_of c.args.types.now) in
    let u = c.args.is_union in
    let m = c.member-item.result in
    let i = c.loop-member.member-index in
    let l = c.in-Some.layout in
    let bytes = c.loop-member.taken in
    let now = c.taken_after-taken.result in
    let inside : i < length c.args.members.now = search rules in
    let is : m ≡ get_or c.args.members.now i m = search rules in
    let some : Some l ≡ within_limit (layout_by of (type_of m.of)) = search rules in
    let fits = item_fits of u c.args.members.now i m inside is bytes l some now c.taken_after-taken.ensures c.loop-member.invariant.fits in
    record {
      fits = fits.1;
      within = fits.0;
      placed =
          item_placed of u c.args.members.now i m inside is bytes l some now c.taken_after-taken.ensures
          c.loop-member.offsets c.add.new.self c.offset_after.result c.offset_after.ensures c.in_ok-add-in-Some.ensures.ok
          ∙ c.loop-member.invariant.placed;
    }
