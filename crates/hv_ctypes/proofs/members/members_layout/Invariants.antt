use Rattle.std.proofs.Common.{◌≡◌, ◌≤◌, drop, map, IsTrue}
use Rattle.hv_base.specs.declared.limits.TheConstants.{MOST_OBJECT_BYTES}
use Rattle.hv_ctree.specs.types.Erasure.{member_of}
use Rattle.hv_ctree.specs.types.Table.{compounds_of}
use Rattle.hv_ctree.specs.types.Layouts.{within_limit, is_alignment}
use Rattle.hv_ctypes.specs.Compounds.{layouts_in, layout_of_members}
use Rattle.hv_ctypes.specs.working.Walks.{laid_from}
use Rattle.hv_ctypes.proofs.members.members_layout.Given as goal

abbrev pub invariant-loop-member : goal.invariant-loop-member
invariant-loop-member l =
    record {
      same :
          within_limit
          (laid_from (layouts_in (compounds_of l.types)) l.is_union l.taken l.align
          (map member_of (drop l.member-index l.members)))
          ≡ layout_of_members (compounds_of l.types) l.is_union (map member_of l.members);
      within : l.taken ≤ MOST_OBJECT_BYTES;
      aligned : IsTrue (is_alignment l.align);
    }
