use Rattle.std.proofs.Common.{◌∙◌, List, ap, refl, subst, sym}
use Rattle.hv_base.specs.declared.place.Place.{Place}
use Rattle.hv_cond.specs.declared.conditions.Cond.{Cond}
use Rattle.hv_expand.specs.Outcomes.{HaveOneFace}
use Rattle.hv_faces.specs.Faces.{AreTooMany}
use Rattle.hv_macros.specs.Table.{meaning_in}
use Rattle.hv_plainpp.specs.Files.{place_of}
use Rattle.hv_texts.proofs.Lines.{excess}
use Rattle.hv_texts.proofs.Passing.{outcomes_now, turn_first, turn_last}
use Rattle.hv_texts.proofs.Walking.{text_too_many}
use Rattle.hv_texts.specs.Faces.{HasTooMany}
use Rattle.hv_texts.specs.working.Steps.{entered, reads}
use Rattle.hv_toks.specs.declared.token.PpTok.{PpTok}
use Rattle.hv_texts.proofs.text.Text.pass.Goals as goal

pub sort_all-requires-clause-outcomes : goal.sort_all-requires-clause-outcomes
sort_all-requires-clause-outcomes c =
    outcomes_now c.in-Ok.ensures.keeps c.args.self.now.table.now c.requires.table
    c.args.self.now.ends c.args.self.now.run.now c.args.at c.index-cond.result.now c.in-Ok.outcomes
    c.in-Ok.ensures.partition c.in-Ok.ensures.right c.in-Ok.ensures.by_face
    c.in-Ok.ensures.numbers c.in-Ok.ensures.few

pub sort_all-requires-clause-turn : goal.sort_all-requires-clause-turn
sort_all-requires-clause-turn c =
    turn_first c.args.store.now c.expand_episode.new.store c.args.self.now.cond
    c.args.self.now.origin.now c.args.self.now.ends c.args.self.now.table.now
    c.args.self.now.run.now c.args.at c.index-self-at.result c.in_ok-place.place
    c.index-cond.result.now c.in-Ok.outcomes c.args.walk.now.given c.args.walk.now.reached.items
    c.args.walk.now.refusals c.in-Ok.ensures.keeps c.requires.table c.requires.walk
    c.requires.within c.index-self-at.is c.index-cond.ensures
    (λ at is. c.in_ok-place.ensures at is
    ∙ ap (λ (t : PpTok). place_of at t) (sym c.index-self-at.is))
    (outcomes_now c.in-Ok.ensures.keeps c.args.self.now.table.now c.requires.table
    c.args.self.now.ends c.args.self.now.run.now c.args.at c.index-cond.result.now c.in-Ok.outcomes
    c.in-Ok.ensures.partition c.in-Ok.ensures.right c.in-Ok.ensures.by_face
    c.in-Ok.ensures.numbers c.in-Ok.ensures.few)

pub returns-in_ok-sort_all-in-Ok-clause-walk : goal.returns-in_ok-sort_all-in-Ok-clause-walk
returns-in_ok-sort_all-in-Ok-clause-walk c =
    turn_last c.args.store.now c.expand_episode.new.store c.sort_all.new.store
    c.args.self.now.cond c.args.self.now.origin.now c.args.self.now.ends
    c.args.self.now.table.now c.args.self.now.run.now c.args.at c.in_ok-place.place _
    c.sort_all.new.walk.given c.sort_all.new.walk.reached.items c.sort_all.new.walk.refusals
    c.in-Ok.ensures.keeps c.requires.table c.in_ok-sort_all-in-Ok.ensures.turn

pub returns-in_ok-too_many_at-in-Err-clause-walk : goal.returns-in_ok-too_many_at-in-Err-clause-walk
returns-in_ok-too_many_at-in-Err-clause-walk c = λ apart.
    let P : List Cond → Type 0 = AreTooMany c.expand_episode.new.store c.index-cond.result.now
    (HaveOneFace c.args.self.now.ends c.args.self.now.run.now c.args.at c.args.store.now
    c.args.self.now.table.now) in
    let e = excess P c.in_ok-place.place c.in-Err.fault c.in_ok-too_many_at-in-Err.field-0
    c.in_ok-too_many_at-in-Err.ensures c.in-Err.ensures.too_many in
    subst (λ (p : Place). HasTooMany c.expand_episode.new.store c.args.self.now.cond
    (reads c.args.self.now.origin.now c.args.self.now.ends
    (meaning_in c.args.store.now c.args.self.now.table.now) c.args.self.now.run.now) p
    c.in_ok-too_many_at-in-Err.field-0.conds) (sym e.0)
    (text_too_many c.args.store.now c.expand_episode.new.store c.args.self.now.cond
    c.args.self.now.origin.now c.args.self.now.ends c.args.self.now.table.now
    c.args.self.now.run.now c.args.at c.index-self-at.result c.in_ok-place.place
    c.index-cond.result.now c.args.walk.now.given c.args.walk.now.reached.items
    c.args.walk.now.refusals c.in_ok-too_many_at-in-Err.field-0.conds c.in-Err.ensures.keeps
    c.requires.walk c.requires.within c.index-self-at.is c.index-cond.ensures
    (c.in_ok-place.ensures (entered c.args.self.now.origin.now)
    (record { file = refl; stack = refl })
    ∙ ap (λ (t : PpTok). place_of (entered c.args.self.now.origin.now) t)
    (sym c.index-self-at.is)) e.1 apart)
