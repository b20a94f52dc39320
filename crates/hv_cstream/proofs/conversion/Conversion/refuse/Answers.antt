use Rattle.std.proofs.Common.{◌∙◌, refl}
use Rattle.hv_cstream.proofs.Converting.{takes_out}
use Rattle.hv_given.specs.Laws.{AreRefusals-kept}
use Rattle.hv_cstream.proofs.conversion.Conversion.refuse.Goals as goal

pub add-requires-clause-entries : goal.add-requires-clause-entries
add-requires-clause-entries c =
    AreRefusals-kept c.without.ensures.keeps c.args.self.now.refusals c.requires.refusals

pub returns-clause-out : goal.returns-clause-out
returns-clause-out c =
    takes_out c.args.store.now c.without.new.self c.add.new.store c.without.ensures.keeps
    c.args.place.now c.args.why c.args.cond c.args.self.now _ c.requires.cond c.requires.refusals
    refl refl (c.add.ensures.keeps.stays c.in_ok-live.live c.in_ok-live.ensures.node)
    (λ v. c.add.ensures.keeps.meaning c.in_ok-live.live c.in_ok-live.ensures.node v
    ∙ c.in_ok-live.ensures.meaning v)
    c.add.ensures.entries c.in_ok-add.ensures.refused c.in_ok-add.ensures.counted
