use Rattle.std.proofs.Common.{◌≡◌, take}
use Rattle.hv_rescan.specs.working.Drafts.{nothing}
use Rattle.hv_rescan.specs.Values.{digits_of}
use Rattle.hv_rescan.proofs.draft.Draft.bytes.Given as goal

abbrev pub invariant-loop-digit : goal.invariant-loop-digit
invariant-loop-digit l = l.text ≡ digits_of nothing (take l.digit-index l.digit-items)
