use Rattle.std.proofs.Common.{◌≡◌, ◌∙◌, true, false, ◌∷◌, [], ◌++◌, ap, sym, take}
use Rattle.std.proofs.lemmas.List.{take_more}
use Rattle.hv_base.proofs.Booleans.{not_false, not_true}
use Rattle.hv_base.specs.Ascii.{is_among}
use Rattle.hv_model.proofs.ConfigLemmas.{are_distinct-push}
use Rattle.hv_model.specs.Name.{are_distinct}
use Rattle.hv_directives.proofs.NamesLemmas.{are_distinct-seen, has, has-insert}
use Rattle.hv_directives.proofs.parameter_set.distinct.Goals as goal

pub returns-then-not-branch-clause-none : goal.returns-then-not-branch-clause-none
returns-then-not-branch-clause-none c =
    let set = c.loop-name.set in
    let name = c.name-item.result in
    let found : has set c.as_slice.result.now ≡ true =
    not_false _ (sym c.in_ok-insert.ensures.added ∙ c.if-not-branch.true) in
    are_distinct-seen c.args.names.now c.loop-name.name-index name c.loop-name-test.true
    c.name-item.is
    (sym (c.loop-name.invariant.members name) ∙ ap (has set) (sym c.as_slice.ensures) ∙ found)

pub loop-name-preserved : goal.loop-name-preserved
loop-name-preserved c =
    let set = c.loop-name.set in
    let name = c.name-item.result in
    let before = take c.loop-name.name-index c.args.names.now in
    let more = take_more c.args.names.now c.loop-name.name-index name c.loop-name-test.true
    ∙ ap (λ x. before ++ x ∷ []) (sym c.name-item.is) in
    let is_new : has set c.as_slice.result.now ≡ false =
    not_true _ (sym c.in_ok-insert.ensures.added ∙ c.if-not-branch.false) in
    let absent : is_among name before ≡ false =
    sym (c.loop-name.invariant.members name) ∙ ap (has set) (sym c.as_slice.ensures) ∙ is_new in
    record {
      distinct = ap are_distinct more
          ∙ are_distinct-push before name c.loop-name.invariant.distinct absent;
      members = λ q.
          has-insert set c.insert.new.self c.as_slice.result before c.loop-name.invariant.members
          c.in_ok-insert.ensures.updates.0 q
          ∙ ap (λ x. is_among q (before ++ x ∷ [])) c.as_slice.ensures
          ∙ ap (is_among q) (sym more);
    }
