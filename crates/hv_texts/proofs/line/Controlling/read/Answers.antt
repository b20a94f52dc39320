use Rattle.std.proofs.Common.{◌∙◌, List, subst, sym}
use Rattle.hv_base.specs.declared.place.Place.{Place}
use Rattle.hv_cond.specs.declared.conditions.Cond.{Cond}
use Rattle.hv_expand.specs.Outcomes.{HaveOneFace}
use Rattle.hv_faces.specs.Faces.{AreTooMany}
use Rattle.hv_macros.specs.Table.{meaning_in}
use Rattle.hv_plain.specs.declared.episode.RunEnd.TheVariants.{Line}
use Rattle.hv_texts.proofs.Lines.{excess, line_done, line_start, line_too_many}
use Rattle.hv_texts.proofs.Passing.{all_macros, outcomes_now}
use Rattle.hv_texts.specs.Faces.{HasTooMany}
use Rattle.hv_texts.specs.working.Steps.{line_reads}
use Rattle.hv_texts.proofs.line.Controlling.read.Goals as goal

pub judge_all-requires-clause-outcomes : goal.judge_all-requires-clause-outcomes
judge_all-requires-clause-outcomes c =
    outcomes_now c.in-Ok.ensures.keeps c.args.self.now.table.now c.requires.table Line
    c.args.self.now.line.now 0 c.args.cond c.in-Ok.outcomes c.in-Ok.ensures.partition
    c.in-Ok.ensures.right c.in-Ok.ensures.by_face c.in-Ok.ensures.numbers c.in-Ok.ensures.few

pub judge_all-requires-clause-judging : goal.judge_all-requires-clause-judging
judge_all-requires-clause-judging c =
    let t = c.new-judging.ensures.truths in
    line_start c.expand_episode.new.store c.args.cond t.0 c.args.self.now.hash.now
    c.args.self.now.place.now c.args.self.now.table.now c.args.self.now.line.now c.in-Ok.outcomes
    c.new-judging.result.given c.new-judging.result.truths c.new-judging.result.refusals
    (outcomes_now c.in-Ok.ensures.keeps c.args.self.now.table.now c.requires.table Line
    c.args.self.now.line.now 0 c.args.cond c.in-Ok.outcomes c.in-Ok.ensures.partition
    c.in-Ok.ensures.right c.in-Ok.ensures.by_face c.in-Ok.ensures.numbers c.in-Ok.ensures.few)
    (c.in-Ok.ensures.keeps.stays c.args.cond c.requires.cond) t.1 t.2
    c.new-judging.ensures.given t.3 t.4 c.new-judging.ensures.refusals

pub returns-in_ok-finish-in-Ok-clause-found : goal.returns-in_ok-finish-in-Ok-clause-found
returns-in_ok-finish-in-Ok-clause-found c =
    line_done c.judge_all.new.store c.finish.new.store c.finish.ensures.keeps c.args.cond
    c.args.self.now.hash.now c.args.self.now.place.now _ _
    (all_macros c.in-Ok.ensures.keeps c.args.self.now.table.now c.requires.table)
    c.args.self.now.line.now _ _ _ _ c.in_ok-finish-in-Ok.field-0
    c.in_ok-judge_all-in-Ok.ensures.judged c.in_ok-finish-in-Ok.ensures.node
    c.in_ok-finish-in-Ok.ensures.good c.in_ok-finish-in-Ok.ensures.given
    c.in_ok-finish-in-Ok.ensures.value c.in_ok-finish-in-Ok.ensures.failing

pub returns-in_ok-too_many_at-in-Err-clause-found : goal.returns-in_ok-too_many_at-in-Err-clause-found
returns-in_ok-too_many_at-in-Err-clause-found c =
    let P : List Cond → Type 0 = AreTooMany c.expand_episode.new.store c.args.cond
    (HaveOneFace Line c.args.self.now.line.now 0 c.args.store.now c.args.self.now.table.now) in
    let e = excess P c.in_ok-place-in-Err.place c.in-Err.fault c.in_ok-too_many_at-in-Err.field-0
    c.in_ok-too_many_at-in-Err.ensures c.in-Err.ensures.too_many in
    subst (λ (p : Place). HasTooMany c.expand_episode.new.store c.args.cond
    (line_reads c.args.self.now.hash.now c.args.self.now.place.now
    (meaning_in c.args.store.now c.args.self.now.table.now) c.args.self.now.line.now) p
    c.in_ok-too_many_at-in-Err.field-0.conds) (sym (e.0 ∙ c.in_ok-place-in-Err.ensures))
    (line_too_many c.args.store.now c.expand_episode.new.store c.args.cond
    c.args.self.now.hash.now c.args.self.now.place.now c.args.self.now.table.now
    c.args.self.now.line.now c.in_ok-too_many_at-in-Err.field-0.conds e.1)
