use Rattle.std.proofs.Common.{◌≡◌, true, false, refl, sym, subst}
use Rattle.std.specs.Prelude.{map}
use Rattle.hv_cond.specs.Diagram.{AllNodes}
use Rattle.hv_cond.specs.Laws.{holds-falsity}
use Rattle.hv_given.proofs.Putting.{add_counts, add_keyed, add_refusals, add_refuses, counts_no_more, found_node, refuses_no_more}
use Rattle.hv_given.specs.Laws.{AreRefusals-kept}
use Rattle.hv_given.specs.Refusals.{AreRefusals}
use Rattle.hv_toks.specs.Division.{conditions}
use Rattle.hv_given.proofs.refusals.Refusals.add.Goals as goal

pub returns-then-is_false-clause-refused : goal.returns-then-is_false-clause-refused
returns-then-is_false-clause-refused c =
    refuses_no_more _ _ _ _ _ (holds-falsity _ _ (c.if-is_false.ensures.falsity.0 refl))

pub returns-then-is_false-clause-counted : goal.returns-then-is_false-clause-counted
returns-then-is_false-clause-counted c =
    counts_no_more _ c.args.self.now _ (holds-falsity _ _ (c.if-is_false.ensures.falsity.0 refl))

pub joined-requires-clause-found : goal.joined-requires-clause-found
joined-requires-clause-found c =
    found_node _ _ c.self.inside.entries.entries
    (subst (λ failing. AllNodes c.args.store.now (conditions failing)) (sym c.self.view_is)
    c.requires.entries.nodes)

pub returns-in_err-cond-clause-entries : goal.returns-in_err-cond-clause-entries
returns-in_err-cond-clause-entries c =
    AreRefusals-kept c.joined.ensures.keeps c.args.self.now c.requires.entries

pub returns-in_err-place-clause-entries : goal.returns-in_err-place-clause-entries
returns-in_err-place-clause-entries c =
    AreRefusals-kept c.joined.ensures.keeps c.args.self.now c.requires.entries

pub returns-in_err-insert-clause-entries : goal.returns-in_err-insert-clause-entries
returns-in_err-insert-clause-entries c =
    subst (λ es. AreRefusals c.joined.new.store (map (λ e. e.1) es)) (sym c.in_err-insert.ensures.err)
    (subst (λ failing. AreRefusals c.joined.new.store failing) (sym c.self.view_is)
    (AreRefusals-kept c.joined.ensures.keeps c.args.self.now c.requires.entries))

pub invariant_of-self-2 : goal.invariant_of-self-2
invariant_of-self-2 c =
    add_keyed (λ k. k.items) c.joined.ensures.keeps c.in_ok-key.key c.as_slice.result.now c.args.cond
    (record { cond = c.in_ok-cond.cond; place = c.in_ok-place.place; why = c.args.why })
    c.args.place.now c.args.why c.self.inside.entries.entries c.insert.new.self.entries
    c.args.self.now (sym c.self.view_is) c.self.invariant c.as_slice.ensures.value c.in_ok-key.ensures
    c.in_ok-place.ensures refl c.in_ok-insert.ensures.entries

pub returns-clause-entries : goal.returns-clause-entries
returns-clause-entries c =
    add_refusals (λ k. k.items) c.joined.ensures.keeps c.in_ok-key.key c.as_slice.result.now
    c.args.cond
    (record { cond = c.in_ok-cond.cond; place = c.in_ok-place.place; why = c.args.why })
    c.args.place.now c.args.why c.self.inside.entries.entries c.insert.new.self.entries
    c.args.self.now (sym c.self.view_is) c.self.invariant c.as_slice.ensures.value c.in_ok-key.ensures
    c.in_ok-place.ensures refl c.in_ok-insert.ensures.entries c.requires.entries
    c.in_ok-cond.ensures.node c.requires.cond
    (λ never. let h : false ≡ true = c.if-is_false.ensures.meaning.1 never in cc)
    c.in_ok-cond.ensures.meaning

pub returns-clause-refused : goal.returns-clause-refused
returns-clause-refused c =
    add_refuses (λ k. k.items) c.joined.ensures.keeps c.in_ok-key.key c.as_slice.result.now
    c.args.cond
    (record { cond = c.in_ok-cond.cond; place = c.in_ok-place.place; why = c.args.why })
    c.args.place.now c.args.why c.self.inside.entries.entries c.insert.new.self.entries
    c.args.self.now (sym c.self.view_is) c.self.invariant c.as_slice.ensures.value c.in_ok-key.ensures
    c.in_ok-place.ensures refl c.in_ok-insert.ensures.entries c.requires.entries
    c.in_ok-cond.ensures.node c.requires.cond
    (λ never. let h : false ≡ true = c.if-is_false.ensures.meaning.1 never in cc)
    c.in_ok-cond.ensures.meaning

pub returns-clause-counted : goal.returns-clause-counted
returns-clause-counted c =
    add_counts (λ k. k.items) c.joined.ensures.keeps c.in_ok-key.key c.as_slice.result.now
    c.args.cond
    (record { cond = c.in_ok-cond.cond; place = c.in_ok-place.place; why = c.args.why })
    c.args.place.now c.args.why c.self.inside.entries.entries c.insert.new.self.entries
    c.args.self.now (sym c.self.view_is) c.self.invariant c.as_slice.ensures.value c.in_ok-key.ensures
    c.in_ok-place.ensures refl c.in_ok-insert.ensures.entries c.requires.entries
    c.in_ok-cond.ensures.node c.requires.cond
    (λ never. let h : false ≡ true = c.if-is_false.ensures.meaning.1 never in cc)
    c.in_ok-cond.ensures.meaning
