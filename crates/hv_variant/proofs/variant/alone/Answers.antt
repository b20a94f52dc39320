use Rattle.std.proofs.Common.{◌∙◌, sym}
use Rattle.hv_variant.proofs.Alone.{alone_is_left, alone_is_refused, none_left}
use Rattle.hv_variant.proofs.variant.alone.Goals as goal

pub returns-in-Some : goal.returns-in-Some
returns-in-Some c = λ plain valid only sorts.
    alone_is_refused c.args.store.now c.args.config.now.on plain valid c.args.parted
    c.in-Some.field-0 c.next.new.self.rest.items
    (sym (c.into_iter.ensures.rest ∙ c.into_vec.ensures) ∙ c.in-Some.ensures.items)
    c.requires.values only sorts

pub returns : goal.returns
returns c = λ plain valid only sorts.
    alone_is_left c.args.store.now c.args.config.now.on plain valid c.args.parted
    (sym (c.into_iter.ensures.rest ∙ c.into_vec.ensures)
    ∙ none_left c.into_iter.result.rest.items (sym c.into_iter.result.rest.ok.0 ∙ c.in-None.ensures.cases.0))
    c.requires.values only sorts c.in_ok-project-in-None.field-0 c.in_ok-project-in-None.ensures
