use Rattle.std.proofs.lemmas.Result.{IfOk-weaker}
use Rattle.std.proofs.Common.{◌∙◌, ◌∷◌, sym}
use Rattle.hv_plainpp.specs.Directives.{else_}
use Rattle.hv_preproc.proofs.GoingOn.{else_groups, else_reads, else_unbalanced, on_top, over_line, refused_if_ok}
use Rattle.hv_preproc.specs.working.Parts.{tokens_on}
use Rattle.hv_preproc.proofs.open_file.OpenFile.go_on_at_else.Goals as goal

pub returns-in-Some-clause-groups : goal.returns-in-Some-clause-groups
returns-in-Some-clause-groups c =
    IfOk-weaker c.go_on_at_else.result _ _ (λ done goes.
    else_groups c.args.store.now c.in-Some.field-0 c.args.self.now.groups c.go_on_at_else.new.self
    c.requires.groups (on_top c.args.self.now.groups.groups c.in-Some.field-0
    (sym c.searching.ensures ∙ c.in-Some.is)) goes) c.go_on_at_else.ensures

pub returns-in-Some-clause-read : goal.returns-in-Some-clause-read
returns-in-Some-clause-read c =
    IfOk-weaker c.go_on_at_else.result _ _ (λ done goes at low high is rises sound.
    over_line c.args.store.now c.args.unit.now c.args.self.now.groups.cond _ at low high
    (c.args.hash.now ∷ tokens_on else_) rises
    (else_reads c.args.store.now c.args.unit.now _ c.in-Some.field-0 at c.args.self.now.groups
    c.args.hash.now sound (on_top c.args.self.now.groups.groups c.in-Some.field-0
    (sym c.searching.ensures ∙ c.in-Some.is)))) c.go_on_at_else.ensures

pub returns-in_ok-place-in-None-clause-read : goal.returns-in_ok-place-in-None-clause-read
returns-in_ok-place-in-None-clause-read c =
    refused_if_ok c.refuse.result c.args.store.now c.refuse.new.store c.args.unit.now
    c.refuse.new.unit c.args.self.now.origin c.args.self.now.groups
    c.in_ok-place-in-None.place c.args.hash.now else_ c.refuse.ensures.keeps
    (else_unbalanced c.args.store.now c.args.self.now.groups.groups
    (sym c.searching.ensures ∙ c.in-None.is)) c.in_ok-place-in-None.ensures c.refuse.ensures.read
