use Rattle.hv_ctypes.proofs.LayoutLaws.{next_offset_whole}
use Rattle.hv_ctypes.proofs.members.next_offset.Goals as goal

pub returns-clause-multiple : goal.returns-clause-multiple
returns-clause-multiple c = next_offset_whole c.args.position c.args.align c.requires.align
