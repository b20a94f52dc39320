use Rattle.std.proofs.Common.{length, ◌-◌}
use Rattle.hv_base.specs.Ascii as ascii
use Rattle.hv_gather.proofs.MentionsLemmas.{list_all-within}
use Rattle.hv_gather.proofs.mention.header_of.Goals as goal

pub printable-requires : goal.printable-requires
printable-requires c = list_all-within ascii.is_printable (length c.args.text.now - 1 - 1) 1 c.args.text.now c.requires
