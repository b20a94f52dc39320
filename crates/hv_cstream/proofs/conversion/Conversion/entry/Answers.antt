use Rattle.std.proofs.Common.{◌<◌, ◌≤◌, length, get_or, refl, sym, ◌∙◌, ap, subst}
use Rattle.hv_cond.specs.Diagram.{IsNode, Keeps, holds}
use Rattle.hv_cond.specs.Laws.{Keeps-trans, holds-falsity}
use Rattle.hv_cstream.proofs.Entries.{entry_all, entry_given, entry_refused, mine_in, on_ok}
use Rattle.hv_cstream.specs.declared.conversion.Conversion.{Conversion}
use Rattle.hv_cstream.specs.working.Converting.{TakesOut}
use Rattle.hv_ctoks.specs.Conversion.{IsFaultOf, converted}
use Rattle.hv_cstream.proofs.Converting.{converting_kept, converting_none, converting_skipped, outside}
use Rattle.hv_given.specs.Laws.{AreRefusals-kept}
use Rattle.hv_given.specs.Refusals.{AreRefusals}
use Rattle.hv_cstream.proofs.conversion.Conversion.entry.Goals as goal

pub returns-then-is_false-clause-converted : goal.returns-then-is_false-clause-converted
returns-then-is_false-clause-converted c = λ valid tokens i.
    converting_skipped _ _ valid c.args.given.now.cond tokens _ c.args.self.now
    (converting_kept c.and.ensures.keeps valid tokens c.args.self.now i)
    (λ v h. outside (holds c.args.store.now c.args.given.now.cond v) _
    (sym (c.in_ok-cond.ensures.meaning v)
    ∙ holds-falsity _ _ (c.if-is_false.ensures.falsity.0 refl) v)
    (sym (c.and.ensures.keeps.meaning c.args.self.now.live c.requires.live v) ∙ h))

pub loop-index-init : goal.loop-index-init
loop-index-init c =
    record {
      store = refl;
      live = refl;
      reserved = refl;
      refusals = refl;
      converted = λ valid tokens i. converting_none _ _ valid _ tokens c.args.self.now
          (converting_kept c.and.ensures.keeps valid tokens c.args.self.now i);
    }

pub returns-in_err-give-in-Ok-clause-keeps : goal.returns-in_err-give-in-Ok-clause-keeps
returns-in_err-give-in-Ok-clause-keeps c =
    subst (λ s. Keeps c.args.store.now s) (sym c.loop-index.invariant.store) c.and.ensures.keeps

pub returns-in-Err-Memory-clause-keeps : goal.returns-in-Err-Memory-clause-keeps
returns-in-Err-Memory-clause-keeps c =
    subst (λ s. Keeps c.args.store.now s) (sym c.loop-index.invariant.store) c.and.ensures.keeps

pub returns-clause-keeps : goal.returns-clause-keeps
returns-clause-keeps c =
    subst (λ s. Keeps c.args.store.now s) (sym c.loop-index.invariant.store) c.and.ensures.keeps

pub refuse-requires-clause-cond : goal.refuse-requires-clause-cond
refuse-requires-clause-cond c =
    subst (λ s. IsNode s c.in_ok-cond.cond) (sym c.loop-index.invariant.store)
    c.in_ok-cond.ensures.node

pub refuse-requires-clause-live : goal.refuse-requires-clause-live
refuse-requires-clause-live c =
    subst (λ x. IsNode c.loop-index.store x) (sym c.loop-index.invariant.live)
    (subst (λ s. IsNode s c.args.self.now.live) (sym c.loop-index.invariant.store)
    (c.and.ensures.keeps.stays c.args.self.now.live c.requires.live))

pub refuse-requires-clause-refusals : goal.refuse-requires-clause-refusals
refuse-requires-clause-refusals c =
    subst (λ x. AreRefusals c.loop-index.store x) (sym c.loop-index.invariant.refusals)
    (subst (λ s. AreRefusals s c.args.self.now.refusals) (sym c.loop-index.invariant.store)
    (AreRefusals-kept c.and.ensures.keeps c.args.self.now.refusals c.requires.refusals))

pub returns-in-Err-Plain-clause-keeps : goal.returns-in-Err-Plain-clause-keeps
returns-in-Err-Plain-clause-keeps c =
    Keeps-trans
    (subst (λ s. Keeps c.args.store.now s) (sym c.loop-index.invariant.store) c.and.ensures.keeps)
    c.refuse.ensures.keeps

pub returns-in-Err-Plain-clause-converted : goal.returns-in-Err-Plain-clause-converted
returns-in-Err-Plain-clause-converted c =
    on_ok c.refuse.result _ _
    (λ out valid tokens i. entry_refused c.args.store.now c.loop-index.store c.args.given.now
    c.in_ok-cond.cond valid tokens c.loop-index.self c.refuse.new.self c.loop-index.index
    c.token-item.result (subst (λ ts. c.loop-index.index < length ts) c.as_slice-token-items.ensures
    c.loop-index-test.true)
    (c.token-item.is ∙ ap (λ ts. get_or ts c.loop-index.index c.token-item.result)
    c.as_slice-token-items.ensures)
    (c.loop-index.invariant.converted valid tokens i)
    (mine_in c.args.store.now c.and.new.self c.loop-index.store c.args.given.now.cond
    c.in_ok-cond.cond c.args.self.now.live c.loop-index.self.live c.and.ensures.keeps c.requires.live
    c.loop-index.invariant.store c.loop-index.invariant.live c.in_ok-cond.ensures.meaning)
    c.refuse.new.store c.in-Err-Plain.why c.refuse.ensures.keeps
    (subst (λ fault. IsFaultOf (converted c.loop-index.self.reserved c.token-item.result.kind
    c.token-item.result.text) fault) c.in-Err-Plain.field-0-is c.in-Err-Plain.ensures.refused)
    (subst (λ why. TakesOut c.loop-index.store c.refuse.new.store c.args.given.now.place why
    c.in_ok-cond.cond c.loop-index.self c.refuse.new.self) c.in-Err-Plain.why-is out))
    c.refuse.ensures.out

pub loop-index-preserved : goal.loop-index-preserved
loop-index-preserved c =
    record {
      store = c.loop-index.invariant.store;
      live = ap (λ (x : Conversion). x.live) c.in_ok-give-in-Ok.ensures
          ∙ c.loop-index.invariant.live;
      reserved = ap (λ (x : Conversion). x.reserved) c.in_ok-give-in-Ok.ensures
          ∙ c.loop-index.invariant.reserved;
      refusals = ap (λ (x : Conversion). x.refusals) c.in_ok-give-in-Ok.ensures
          ∙ c.loop-index.invariant.refusals;
      converted = λ valid tokens i. entry_given c.args.store.now c.loop-index.store
          c.args.given.now c.in_ok-cond.cond valid tokens c.loop-index.self c.give.new.self
          c.loop-index.index c.token-item.result
          (subst (λ ts. c.loop-index.index < length ts) c.as_slice-token-items.ensures
          c.loop-index-test.true)
          (c.token-item.is ∙ ap (λ ts. get_or ts c.loop-index.index c.token-item.result)
          c.as_slice-token-items.ensures)
          (c.loop-index.invariant.converted valid tokens i)
          (mine_in c.args.store.now c.and.new.self c.loop-index.store c.args.given.now.cond
          c.in_ok-cond.cond c.args.self.now.live c.loop-index.self.live c.and.ensures.keeps
          c.requires.live c.loop-index.invariant.store c.loop-index.invariant.live
          c.in_ok-cond.ensures.meaning)
          c.in-Ok.tok
          (subst (λ s. IsNode s c.in_ok-cond.cond) (sym c.loop-index.invariant.store)
          c.in_ok-cond.ensures.node)
          c.in-Ok.ensures.ok c.in_ok-give-in-Ok.ensures;
    }

pub returns-clause-converted : goal.returns-clause-converted
returns-clause-converted c = λ valid tokens i.
    entry_all c.loop-index.store c.args.store.now c.args.given.now valid tokens c.loop-index.self
    c.loop-index.index
    (subst (λ ts. length ts ≤ c.loop-index.index) c.as_slice-token-items.ensures
    c.loop-index-test.false)
    (c.loop-index.invariant.converted valid tokens i)
