use Rattle.std.proofs.Common.{◌≡◌, ◌≤◌, ◌++◌, drop, map}
use Rattle.std.specs.Option.{option_map}
use Rattle.hv_base.specs.declared.limits.TheConstants.{MOST_OBJECT_BYTES}
use Rattle.hv_ctree.specs.types.Erasure.{member_of}
use Rattle.hv_ctree.specs.types.Table.{compounds_of}
use Rattle.hv_ctree.specs.types.Layouts.{member_layouts}
use Rattle.hv_ctree.specs.types.Offsets.{offsets}
use Rattle.hv_ctypes.specs.Compounds.{layouts_in}
use Rattle.hv_ctypes.specs.working.Walks.{placed_from}
use Rattle.hv_ctypes.proofs.OffsetsLemmas.{Fits}
use Rattle.hv_ctypes.proofs.offsets.offsets_of_members.Given as goal

abbrev pub invariant-loop-member : goal.invariant-loop-member
invariant-loop-member l =
    record {
      fits : Fits (layouts_in (compounds_of l.types)) l.is_union l.taken (map member_of (drop l.member-index l.members));
      within : l.taken ≤ MOST_OBJECT_BYTES;
      placed :
          option_map (λ rest. l.offsets ++ rest)
          (placed_from (layouts_in (compounds_of l.types)) l.is_union l.taken (map member_of (drop l.member-index l.members)))
          ≡ option_map (offsets l.is_union) (member_layouts (layouts_in (compounds_of l.types)) (map member_of l.members));
    }
