use Rattle.std.proofs.Common.{refl, ap, sym, ◌∙◌, subst, List}
use Rattle.hv_cond.specs.Diagram.{holds}
use Rattle.hv_macros.specs.Alternatives.{meanings}
use Rattle.hv_macros.specs.Table.{meaning_in}
use Rattle.hv_macros.specs.declared.alternatives.Alternative.{Alternative}
use Rattle.hv_toks.specs.Macro.{Macro, macro_of}
use Rattle.hv_expand.specs.working.Questions.{IsAnswered, Seen, seen, some_alike}
use Rattle.hv_expand.proofs.Answering.{answered, answered_nowhere, not_empty}
use Rattle.hv_expand.proofs.questions.ask.Goals as goal

pub returns-then-is_no_macro-clause-answer : goal.returns-then-is_no_macro-clause-answer
returns-then-is_no_macro-clause-answer c =
    answered_nowhere c.args.store.now
    (λ v. meaning_in c.args.store.now c.args.table.now v c.args.name.now) c.args.cond
    c.args.question c.requires.possible
    (λ v. c.if-is_no_macro.ensures.nowhere refl c.args.store.now v)

pub returns-clause-answer : goal.returns-clause-answer
returns-clause-answer c =
    subst (λ (m : Macro). IsAnswered c.args.store.now.variables
    (λ v. holds c.args.store.now c.args.cond v)
    (λ v. holds c.alike.new.store c.in_ok-cond.cond v)
    (λ v. meaning_in c.args.store.now c.args.table.now v c.args.name.now) c.args.question m)
    (sym c.in_ok-copy.ensures)
    (answered c.args.store.now c.alternatives.new.store c.alike.new.store
    (λ v. meaning_in c.args.store.now c.args.table.now v c.args.name.now) c.args.cond
    c.in_ok-cond.cond c.args.question c.in_ok-parts.parts c.index-as_slice-0.result
    (not_empty c.alternatives.new.store c.args.cond c.args.store.now c.in_ok-parts.parts
    (λ v. meaning_in c.args.store.now c.args.table.now v c.args.name.now)
    c.requires.possible c.in_ok-parts.ensures.meanings)
    (rw c.as_slice.ensures at c.index-as_slice-0.is)
    c.in_ok-parts.ensures.partition.none_false c.alternatives.ensures.keeps
    c.in_ok-parts.ensures.meanings
    (λ v. c.in_ok-cond.ensures.meaning v
    ∙ ap (λ (s : Seen). some_alike c.args.question s
    (meanings c.alternatives.new.store v c.as_slice-2.result.now)) c.see.ensures
    ∙ ap (λ (xs : List Alternative). some_alike c.args.question
    (seen c.args.question (macro_of c.index-as_slice-0.result.meaning))
    (meanings c.alternatives.new.store v xs)) c.as_slice-2.ensures))
