use Rattle.std.proofs.Common.{◌&&◌, not, Bool, refl, ap₂, ◌∙◌}
use Rattle.hv_cond.specs.Laws.{AllNodes-kept, Keeps-trans}
use Rattle.hv_given.specs.Laws.{AreRefusals-kept}
use Rattle.hv_preproc.proofs.Kept.{IsUnit-with}
use Rattle.hv_preproc.proofs.Taken.{refuses_all_from}
use Rattle.hv_toks.specs.Division.{conditions}
use Rattle.hv_preproc.proofs.unit.Unit.take_in.Goals as goal

pub refuse_all-requires-clause-failing : goal.refuse_all-requires-clause-failing
refuse_all-requires-clause-failing c =
    AllNodes-kept (Keeps-trans c.any.ensures.keeps c.without.ensures.keeps)
    (conditions c.args.failing.now) c.requires.failing

pub refuse_all-requires-clause-entries : goal.refuse_all-requires-clause-entries
refuse_all-requires-clause-entries c =
    AreRefusals-kept (Keeps-trans c.any.ensures.keeps c.without.ensures.keeps)
    c.args.self.now.refusals c.requires.unit.refusals

pub returns-clause-unit : goal.returns-clause-unit
returns-clause-unit c =
    IsUnit-with (Keeps-trans (Keeps-trans c.any.ensures.keeps c.without.ensures.keeps)
    c.refuse_all.ensures.keeps) c.args.self.now _ c.requires.unit refl
    (c.refuse_all.ensures.keeps.stays c.in_ok-self.field-0 c.in_ok-self.ensures.node)
    c.in_ok-refuse_all.ensures.entries

pub returns-clause-taken : goal.returns-clause-taken
returns-clause-taken c =
    let to_mid = Keeps-trans c.any.ensures.keeps c.without.ensures.keeps in
    let all = refuses_all_from _ _ _ c.args.self.now.refusals _ c.args.failing.now to_mid
    c.requires.unit.refusals.nodes c.requires.failing c.in_ok-refuse_all.ensures.refused in
    record {
      table = refl;
      gives = c.in_ok-add_all.ensures;
      lives = λ values. c.refuse_all.ensures.keeps.meaning c.in_ok-self.field-0
          c.in_ok-self.ensures.node values
          ∙ c.in_ok-self.ensures.meaning values
          ∙ ap₂ (λ (a b : Bool). a && not b)
          (c.any.ensures.keeps.meaning c.args.self.now.live c.requires.unit.live values)
          (c.in_ok-refused.ensures.meaning values);
      refused = all.refused;
      counted = all.counted;
    }
