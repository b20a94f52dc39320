use Rattle.std.proofs.Common.{Bool, List, subst}
use Rattle.std.proofs.lemmas.Result.{IfOk-weaker}
use Rattle.hv_macros.specs.Table.{meaning_in}
use Rattle.hv_plainpp.specs.Reading.{Reading}
use Rattle.hv_texts.proofs.Lines.{found_weaker, line_empty, line_same}
use Rattle.hv_texts.specs.Faces.{HasTooMany}
use Rattle.hv_texts.specs.working.Steps.{IsLineRead}
use Rattle.hv_texts.proofs.line.read_line.Goals as goal

pub returns-in_default-clause-found : goal.returns-in_default-clause-found
returns-in_default-clause-found c = λ at is.
    line_empty c.refused_line.new.store c.args.cond at c.args.hash.now
    (meaning_in c.args.store.now c.args.table.now) c.args.line.now c.in_ok-came.came
    c.in_default.ensures.value c.in_ok-came.ensures.met c.in_ok-came.ensures.ends
    c.in_ok-came.ensures.none c.in_ok-came.ensures.within

pub returns-clause-found : goal.returns-clause-found
returns-clause-found c =
    IfOk-weaker c.read.result _ _ (λ f. found_weaker _ _ _ _
    (λ came h at is. subst (λ (r : List Bool → Reading Bool).
    IsLineRead c.read.new.store c.args.cond r came)
    (line_same at c.args.hash.now c.in_ok-place.place
    (meaning_in c.args.store.now c.args.table.now) c.args.line.now c.in-Some.first.now
    c.in-Some.ensures.value (c.in_ok-place.ensures at is)) h)
    (λ place conds h at is. subst (λ (r : List Bool → Reading Bool).
    HasTooMany c.read.new.store c.args.cond r place conds)
    (line_same at c.args.hash.now c.in_ok-place.place
    (meaning_in c.args.store.now c.args.table.now) c.args.line.now c.in-Some.first.now
    c.in-Some.ensures.value (c.in_ok-place.ensures at is)) h) f)
    c.read.ensures.found
