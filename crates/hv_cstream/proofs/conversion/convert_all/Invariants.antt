use Rattle.std.proofs.Common.{◌≡◌, take}
use Rattle.hv_cond.specs.Diagram.{Keeps}
use Rattle.hv_cstream.specs.working.Converting.{IsConverting}
use Rattle.hv_given.specs.Given.{given_in, tokens_of}
use Rattle.hv_cstream.proofs.conversion.convert_all.Given as goal

abbrev pub invariant-loop-entry : goal.invariant-loop-entry
invariant-loop-entry l = record {
  keeps : Keeps l.fn.store l.store;
  reserved : l.conversion.reserved ≡ l.fn.reserved;
  converted : IsConverting l.store l.fn.live
      (λ values. tokens_of (given_in l.fn.store (take l.entry-index l.given) values)) l.conversion;
}
