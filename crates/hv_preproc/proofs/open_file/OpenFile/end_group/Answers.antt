use Rattle.std.proofs.Common.{◌∙◌, not, ◌∷◌, ap}
use Rattle.hv_plainpp.specs.Directives.{endif}
use Rattle.hv_preproc.proofs.FileEnd.{is_open, is_closed}
use Rattle.hv_preproc.proofs.GoingOn.{endif_groups, endif_reads, endif_unbalanced, over_line, refused_if_ok}
use Rattle.hv_preproc.specs.working.Parts.{tokens_on}
use Rattle.hv_preproc.proofs.open_file.OpenFile.end_group.Goals as goal

pub returns-then-is_none-clause-read : goal.returns-then-is_none-clause-read
returns-then-is_none-clause-read c =
    refused_if_ok c.refuse.result c.args.store.now c.refuse.new.store c.args.unit.now
    c.refuse.new.unit c.args.self.now.origin c.args.self.now.groups c.in_ok-place.place
    c.args.hash.now endif c.refuse.ensures.keeps
    (endif_unbalanced c.args.store.now c.args.self.now.groups.groups
    (is_closed c.opened.result c.args.self.now.groups.groups c.opened.ensures
    (c.is_none.ensures ∙ ap not c.if-is_none.true)))
    c.in_ok-place.ensures c.refuse.ensures.read

pub returns-clause-groups : goal.returns-clause-groups
returns-clause-groups c =
    endif_groups c.args.store.now c.args.self.now.groups c.close.new.self c.requires.groups
    c.close.ensures

pub returns-clause-read : goal.returns-clause-read
returns-clause-read c = λ at low high is rises sound.
    over_line c.args.store.now c.args.unit.now c.args.self.now.groups.cond _ at low high
    (c.args.hash.now ∷ tokens_on endif) rises
    (endif_reads c.args.store.now c.args.unit.now _ at c.args.self.now.groups c.args.hash.now sound
    (is_open c.opened.result c.args.self.now.groups.groups c.opened.ensures
    (c.is_none.ensures ∙ ap not c.if-is_none.false)))
