use Rattle.std.proofs.Common.{sym, subst}
use Rattle.hv_macros.specs.Table.{meaning_in}
use Rattle.hv_plainpp.specs.Directives.{is_no_macro}
use Rattle.hv_plainpp.specs.Groups.{answer, name_truth}
use Rattle.hv_preproc.proofs.Asking.{opposite_keeps, truths_opposite}
use Rattle.hv_preproc.proofs.Later.{reads_same}
use Rattle.hv_preproc.specs.working.Keys.{reached}
use Rattle.hv_preproc.specs.working.Parts.{AreTruths, keeping}
use Rattle.hv_texts.specs.declared.came.Truths.{Truths}
use Rattle.hv_toks.specs.MacroState.{meaning_of}
use Rattle.hv_preproc.proofs.open_file.OpenFile.no_name.Goals as goal

pub returns-clause-read : goal.returns-clause-read
returns-clause-read c = λ at low high is rises sound.
    reads_same c.args.store.now c.name.new.store c.args.unit.now c.name.new.unit (reached at low)
    (reached at high) c.args.cond (λ values macros. keeping (name_truth (meaning_of macros)
    c.args.hash.now c.args.line.now) macros) (λ values macros. keeping (answer at (meaning_of
    macros)
    c.args.hash.now (is_no_macro c.args.line.now)) macros) c.name.ensures.keeps
    (λ values macros w l same. opposite_keeps (name_truth (meaning_of macros) c.args.hash.now
    c.args.line.now) macros) (c.in_ok-name.ensures.read at low high is rises sound)

pub returns-clause-truths : goal.returns-clause-truths
returns-clause-truths c = λ at is.
    subst (λ (truths : Truths). AreTruths c.args.store.now c.name.new.store c.name.new.unit.live
    c.args.cond truths (λ values. answer at
    (meaning_in c.args.store.now c.args.unit.now.table values) c.args.hash.now
    (is_no_macro c.args.line.now))) (sym c.opposite.ensures)
    (truths_opposite c.args.store.now c.name.new.store c.name.new.unit.live c.args.cond
    c.in_ok-name.field-0 (λ values. name_truth
    (meaning_in c.args.store.now c.args.unit.now.table values) c.args.hash.now c.args.line.now)
    (c.in_ok-name.ensures.truths at is))
