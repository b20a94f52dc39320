use Rattle.std.proofs.Common.{◌∷◌, ap, ◌∙◌}
use Rattle.std.proofs.lemmas.Result.{on_ok_weaker}
use Rattle.hv_encode.specs.declared.small.group.Group.{Group}
use Rattle.hv_encode.specs.working.Presence.{groups_of}
use Rattle.hv_encode.proofs.GroupsLemmas.{entered, opened_is}
use Rattle.hv_encode.proofs.small.group.open_group.Goals as goal

pub returns-clause-open : goal.returns-clause-open
returns-clause-open c =
    on_ok_weaker c.push.result
    (λ pushed. rw pushed (entered c.args.store.now c.test_cond.new.store c.and.new.self
    c.args.open_groups.now c.as_slice.result.now c.args.test c.args.has_else
    c.is_repeated-repeated.result c.cond_within-outside.result c.in_ok-own.own c.in_ok-cond.cond
    c.requires.open c.in_ok-own.ensures.keeps c.in_ok-cond.ensures.keeps
    c.cond_within-outside.ensures c.in_ok-own.ensures.meaning c.in_ok-cond.ensures.node
    c.in_ok-cond.ensures.meaning c.requires.option c.as_slice.ensures
    c.is_repeated-repeated.ensures))
    c.push.ensures.ok

pub returns-clause-groups : goal.returns-clause-groups
returns-clause-groups c =
    on_ok_weaker c.push.result
    (λ pushed. ap groups_of pushed
    ∙ ap (λ (group : Group). group ∷ groups_of c.args.open_groups.now)
    (opened_is c.args.open_groups.now c.as_slice.result.now c.args.test
    c.is_repeated-repeated.result c.as_slice.ensures c.is_repeated-repeated.ensures))
    c.push.ensures.ok
