use Rattle.std.proofs.Common.{ap, subst, sym}
use Rattle.std.specs.Prelude.{IfErr, IfOk}
use Rattle.hv_directives.specs.Values.{question_of}
use Rattle.hv_plainpp.specs.Directives.{Question}
use Rattle.hv_preproc.proofs.Answering.{AnswerReads, AnswerStops, AnswerTruths}
use Rattle.hv_preproc.specs.working.Faults.{IfStops}
use Rattle.hv_preproc.proofs.open_file.OpenFile.answer.Goals as goal

pub returns-in-Expression-clause-read : goal.returns-in-Expression-clause-read
returns-in-Expression-clause-read c =
    subst (λ (q : Question). IfOk c.expression.result (λ truths. AnswerReads c.args.store.now
    c.expression.new.store c.args.unit.now c.expression.new.unit c.args.self.now.origin
    c.args.hash.now c.args.cond q)) (sym (ap question_of c.in-Expression.is))
    c.expression.ensures.read

pub returns-in-Expression-clause-truths : goal.returns-in-Expression-clause-truths
returns-in-Expression-clause-truths c =
    subst (λ (q : Question). IfOk c.expression.result (λ truths. AnswerTruths c.args.store.now
    c.expression.new.store c.expression.new.unit.live c.args.unit.now.table c.args.self.now.origin
    c.args.hash.now c.args.cond truths q)) (sym (ap question_of c.in-Expression.is))
    c.expression.ensures.truths

pub returns-in-Expression-clause-stops : goal.returns-in-Expression-clause-stops
returns-in-Expression-clause-stops c =
    subst (λ (q : Question). IfErr c.expression.result (IfStops (λ place conds.
    AnswerStops c.args.store.now c.expression.new.store c.args.unit.now c.args.self.now.origin
    c.args.hash.now c.args.cond q place conds))) (sym (ap question_of c.in-Expression.is))
    c.expression.ensures.stops

pub returns-in_ok-name-in-IsMacro-clause-read : goal.returns-in_ok-name-in-IsMacro-clause-read
returns-in_ok-name-in-IsMacro-clause-read c =
    subst (λ (q : Question). AnswerReads c.args.store.now c.name.new.store c.args.unit.now
    c.name.new.unit c.args.self.now.origin c.args.hash.now c.args.cond q)
    (sym (ap question_of c.in-IsMacro.is)) c.in_ok-name-in-IsMacro.ensures.read

pub returns-in_ok-name-in-IsMacro-clause-truths : goal.returns-in_ok-name-in-IsMacro-clause-truths
returns-in_ok-name-in-IsMacro-clause-truths c =
    subst (λ (q : Question). AnswerTruths c.args.store.now c.name.new.store
    c.name.new.unit.live c.args.unit.now.table c.args.self.now.origin c.args.hash.now c.args.cond
    c.in_ok-name-in-IsMacro.field-0 q) (sym (ap question_of c.in-IsMacro.is))
    c.in_ok-name-in-IsMacro.ensures.truths

pub returns-in_ok-no_name-in-IsNoMacro-clause-read : goal.returns-in_ok-no_name-in-IsNoMacro-clause-read
returns-in_ok-no_name-in-IsNoMacro-clause-read c =
    subst (λ (q : Question). AnswerReads c.args.store.now c.no_name.new.store c.args.unit.now
    c.no_name.new.unit c.args.self.now.origin c.args.hash.now c.args.cond q)
    (sym (ap question_of c.in-IsNoMacro.is)) c.in_ok-no_name-in-IsNoMacro.ensures.read

pub returns-in_ok-no_name-in-IsNoMacro-clause-truths : goal.returns-in_ok-no_name-in-IsNoMacro-clause-truths
returns-in_ok-no_name-in-IsNoMacro-clause-truths c =
    subst (λ (q : Question). AnswerTruths c.args.store.now c.no_name.new.store
    c.no_name.new.unit.live c.args.unit.now.table c.args.self.now.origin c.args.hash.now c.args.cond
    c.in_ok-no_name-in-IsNoMacro.field-0 q) (sym (ap question_of c.in-IsNoMacro.is))
    c.in_ok-no_name-in-IsNoMacro.ensures.truths
