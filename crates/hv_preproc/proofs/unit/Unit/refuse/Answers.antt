use Rattle.std.proofs.Common.{◌&&◌, not, Bool, refl, sym, ap₂, ◌∙◌}
use Rattle.hv_cond.specs.Laws.{Keeps-trans}
use Rattle.hv_given.specs.Laws.{AreRefusals-kept}
use Rattle.hv_preproc.proofs.Kept.{IsUnit-with}
use Rattle.hv_preproc.proofs.Refusing.{refusal_reads}
use Rattle.hv_preproc.proofs.unit.Unit.refuse.Goals as goal

pub add-requires-clause-entries : goal.add-requires-clause-entries
add-requires-clause-entries c =
    AreRefusals-kept (Keeps-trans c.live_in.ensures.keeps c.without.ensures.keeps)
    c.args.self.now.refusals c.requires.unit.refusals

pub returns-clause-unit : goal.returns-clause-unit
returns-clause-unit c =
    IsUnit-with (Keeps-trans (Keeps-trans c.live_in.ensures.keeps c.without.ensures.keeps)
    c.add.ensures.keeps) c.args.self.now _ c.requires.unit refl
    (c.add.ensures.keeps.stays c.in_ok-live.live c.in_ok-live.ensures.node) c.add.ensures.entries

pub returns-clause-read : goal.returns-clause-read
returns-clause-read c = λ here sound.
    let to_mid = Keeps-trans c.live_in.ensures.keeps c.without.ensures.keeps in
    refusal_reads _ _ _ _ _ here _ c.in_ok-refused.refused _ _ to_mid c.add.ensures.keeps sound
    (IsUnit-with (Keeps-trans to_mid c.add.ensures.keeps) c.args.self.now _ c.requires.unit refl
    (c.add.ensures.keeps.stays c.in_ok-live.live c.in_ok-live.ensures.node) c.add.ensures.entries)
    refl refl
    (λ values. c.without.ensures.keeps.meaning c.in_ok-refused.refused c.in_ok-refused.ensures.node
    values ∙ c.in_ok-refused.ensures.meaning values)
    (λ values. c.add.ensures.keeps.meaning c.in_ok-live.live c.in_ok-live.ensures.node values
    ∙ c.in_ok-live.ensures.meaning values
    ∙ ap₂ (λ (a b : Bool). a && not b)
    (c.live_in.ensures.keeps.meaning c.args.self.now.live c.requires.unit.live values)
    (sym (c.without.ensures.keeps.meaning c.in_ok-refused.refused c.in_ok-refused.ensures.node
    values)))
    c.in_ok-add.ensures.refused c.in_ok-add.ensures.counted
