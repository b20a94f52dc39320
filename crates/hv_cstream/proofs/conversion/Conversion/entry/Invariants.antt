use Rattle.std.proofs.Common.{◌≡◌}
use Rattle.hv_cond.specs.declared.conditions.Cond.{Cond}
use Rattle.hv_cstream.proofs.Starts.{tokens_until}
use Rattle.hv_cstream.specs.working.Converting.{IsConverting, Tokens, with_more}
use Rattle.hv_cstream.proofs.conversion.Conversion.entry.Given as goal

abbrev pub invariant-loop-index : goal.invariant-loop-index
invariant-loop-index l = record {
  store : l.store ≡ l.initial.store;
  live : l.self.live ≡ l.fn.self.live;
  reserved : l.self.reserved ≡ l.fn.self.reserved;
  refusals : l.self.refusals ≡ l.fn.self.refusals;
  converted : (valid : Cond) (tokens : Tokens) → IsConverting l.fn.store valid tokens l.fn.self
      → IsConverting l.store valid
      (with_more l.fn.store tokens l.given.cond (tokens_until l.given l.index)) l.self;
}
