use Rattle.std.proofs.Common.{◌+◌, List, arith, sym}
use Rattle.std.proofs.lemmas.Option.{IfSome_then}
use Rattle.hv_directives.specs.Values as values
use Rattle.hv_preproc.proofs.FaultsLemmas.{exit_of_step}
use Rattle.hv_preproc.proofs.GroupsKept.{AreGroups-kept}
use Rattle.hv_preproc.proofs.PieceReading.{IfNone_then, IncludesAt, ReadsPiece, RegroupsAt, StopsPiece, action_regroups, conditional_regroups, directive_reads, directive_stops, from_piece, groups_stay, of_piece}
use Rattle.hv_preproc.proofs.Pieces.{Rises-until, rises_on}
use Rattle.hv_preproc.specs.working.Parts.{EndsNoLine, IsReady, reader_at}
use Rattle.hv_toks.specs.declared.token.PpTok.{PpTok}
use Rattle.hv_preproc.proofs.walk.read_piece.Goals as goal

------ texts

pub read_text-requires-clause-unit : goal.read_text-requires-clause-unit
read_text-requires-clause-unit c =
    from_piece (IsReady c.args.store.now c.args.unit.now c.args.file.now.origin.stack)
    c.args.piece.now _ c.in-Text.is c.requires.ready

pub read_text-requires-clause-ends : goal.read_text-requires-clause-ends
read_text-requires-clause-ends c =
    from_piece EndsNoLine c.args.piece.now _ c.in-Text.is c.requires.ends

pub returns-in_err-read_text-in-Text-clause-stops :
    goal.returns-in_err-read_text-in-Text-clause-stops
returns-in_err-read_text-in-Text-clause-stops c =
    exit_of_step c.from_residual.result _ _ c.in_err-read_text-in-Text.field-0.0
    c.from_residual.ensures.1 c.in_err-read_text-in-Text.ensures.stops
    (λ place conds s. of_piece (StopsPiece c.args.store.now c.read_text.new.store c.args.unit.now
    c.args.file.now.name.now c.args.file.now.origin c.args.file.now.groups
    c.args.pages.now.bundle.now (reader_at c.args.left c.args.pages.now.bundle.now) place conds)
    c.args.piece.now _ c.in-Text.is (λ at low high o r. s at low high o.same_origin r))

pub returns-in_ok-read_text-in-Text-clause-groups :
    goal.returns-in_ok-read_text-in-Text-clause-groups
returns-in_ok-read_text-in-Text-clause-groups c =
    AreGroups-kept c.in_ok-read_text-in-Text.ensures.keeps c.args.file.now.groups c.requires.groups

pub returns-in_ok-read_text-in-Text-clause-regrouped :
    goal.returns-in_ok-read_text-in-Text-clause-regrouped
returns-in_ok-read_text-in-Text-clause-regrouped c =
    of_piece (RegroupsAt c.args.store.now c.read_text.new.store c.args.unit.now c.read_text.new.unit
    c.args.file.now.name.now c.args.file.now.origin c.args.file.now.groups c.args.file.now.groups)
    c.args.piece.now _ c.in-Text.is
    (λ at o. groups_stay c.args.store.now c.read_text.new.store c.args.file.now.groups
    c.read_text.new.unit.live c.in_ok-read_text-in-Text.ensures.keeps c.requires.groups)

pub returns-in_ok-read_text-in-Text-clause-none : goal.returns-in_ok-read_text-in-Text-clause-none
returns-in_ok-read_text-in-Text-clause-none c =
    of_piece (ReadsPiece c.args.store.now c.read_text.new.store c.args.unit.now
    c.read_text.new.unit c.args.file.now.name.now c.args.file.now.origin c.args.file.now.groups
    c.args.pages.now.bundle.now (reader_at c.args.left c.args.pages.now.bundle.now))
    c.args.piece.now _ c.in-Text.is
    (λ at low high o r s. c.in_ok-read_text-in-Text.ensures.read at low high o.same_origin r s)

------ directives that make groups

pub regroup-requires-clause-unit : goal.regroup-requires-clause-unit
regroup-requires-clause-unit c =
    (from_piece (IsReady c.args.store.now c.args.unit.now c.args.file.now.origin.stack)
    c.args.piece.now _ c.in-Directive.is c.requires.ready).unit

pub returns-in_err-regroup-in-Conditional-clause-stops :
    goal.returns-in_err-regroup-in-Conditional-clause-stops
returns-in_err-regroup-in-Conditional-clause-stops c =
    let is = c.in-Conditional.ensures.meaning in
    exit_of_step c.from_residual-in_err-regroup-in-Conditional.result _ _
    c.in_err-regroup-in-Conditional.field-0.0
    c.from_residual-in_err-regroup-in-Conditional.ensures.1
    c.in_err-regroup-in-Conditional.ensures.stops
    (λ place conds s. of_piece (StopsPiece c.args.store.now c.regroup.new.store c.args.unit.now
    c.args.file.now.name.now c.args.file.now.origin c.args.file.now.groups
    c.args.pages.now.bundle.now (reader_at c.args.left c.args.pages.now.bundle.now) place conds)
    c.args.piece.now _ c.in-Directive.is (λ at low high o r.
    directive_stops c.args.store.now c.regroup.new.store c.args.unit.now _
    c.args.file.now.groups.cond c.args.pages.now.bundle.now
    (reader_at c.args.left c.args.pages.now.bundle.now) at c.args.file.now.groups
    c.in-Directive.hash.now c.in-Directive.line.now _ is place conds
    (s at low high o.same_origin (rises_on low high c.in-Directive.hash.now _ _ (sym is) r))))

pub returns-in_ok-regroup-in-Conditional-clause-regrouped :
    goal.returns-in_ok-regroup-in-Conditional-clause-regrouped
returns-in_ok-regroup-in-Conditional-clause-regrouped c =
    of_piece (RegroupsAt c.args.store.now c.regroup.new.store c.args.unit.now c.regroup.new.unit
    c.args.file.now.name.now c.args.file.now.origin c.args.file.now.groups c.regroup.new.self.groups)
    c.args.piece.now _ c.in-Directive.is
    (λ at o. conditional_regroups c.args.store.now c.regroup.new.store c.args.file.now.groups
    c.regroup.new.self.groups c.regroup.new.unit.live at _ c.in-Directive.hash.now
    c.in-Directive.line.now _ c.in-Conditional.ensures.meaning
    (c.in_ok-regroup-in-Conditional.ensures.regrouped at o.same_origin))

pub returns-in_ok-regroup-in-Conditional-clause-none :
    goal.returns-in_ok-regroup-in-Conditional-clause-none
returns-in_ok-regroup-in-Conditional-clause-none c =
    let is = c.in-Conditional.ensures.meaning in
    of_piece (ReadsPiece c.args.store.now c.regroup.new.store c.args.unit.now
    c.regroup.new.unit c.args.file.now.name.now c.args.file.now.origin c.args.file.now.groups
    c.args.pages.now.bundle.now (reader_at c.args.left c.args.pages.now.bundle.now))
    c.args.piece.now _ c.in-Directive.is
    (λ at low high o r s. directive_reads c.args.store.now c.regroup.new.store c.args.unit.now _
    c.args.file.now.groups.cond c.args.pages.now.bundle.now
    (reader_at c.args.left c.args.pages.now.bundle.now) at c.args.file.now.groups
    c.in-Directive.hash.now c.in-Directive.line.now _ is c.regroup.new.unit _
    (c.in_ok-regroup-in-Conditional.ensures.read at low high o.same_origin
    (rises_on low high c.in-Directive.hash.now _ _ (sym is) r) s))

------ other directives

pub obey-requires-clause-sound : goal.obey-requires-clause-sound
obey-requires-clause-sound c =
    from_piece (IsReady c.args.store.now c.args.unit.now c.args.file.now.origin.stack)
    c.args.piece.now _ c.in-Directive.is c.requires.ready

pub returns-in_ok-obey-in-Action-clause-groups : goal.returns-in_ok-obey-in-Action-clause-groups
returns-in_ok-obey-in-Action-clause-groups c =
    AreGroups-kept c.in_ok-obey-in-Action.ensures.keeps c.args.file.now.groups c.requires.groups

pub returns-in_ok-obey-in-Action-clause-regrouped :
    goal.returns-in_ok-obey-in-Action-clause-regrouped
returns-in_ok-obey-in-Action-clause-regrouped c =
    of_piece (RegroupsAt c.args.store.now c.obey.new.store c.args.unit.now c.obey.new.unit
    c.args.file.now.name.now c.args.file.now.origin c.args.file.now.groups c.args.file.now.groups)
    c.args.piece.now _ c.in-Directive.is
    (λ at o. action_regroups c.args.store.now c.obey.new.store c.args.file.now.groups
    c.obey.new.unit.live at _ c.in-Directive.hash.now c.in-Directive.line.now _
    c.in_ok-obey-in-Action.ensures.keeps c.requires.groups c.in-Action.ensures.meaning)

pub returns-in_ok-obey-in-Action-clause-none : goal.returns-in_ok-obey-in-Action-clause-none
returns-in_ok-obey-in-Action-clause-none c =
    let hash : PpTok = c.in-Directive.hash.now in
    let line : List PpTok = c.in-Directive.line.now in
    IfNone_then c.in_ok-obey-in-Action.field-0 c.in_ok-obey-in-Action.ensures.none
    (λ reads. of_piece (ReadsPiece c.args.store.now c.obey.new.store c.args.unit.now
    c.obey.new.unit c.args.file.now.name.now c.args.file.now.origin c.args.file.now.groups
    c.args.pages.now.bundle.now (reader_at c.args.left c.args.pages.now.bundle.now))
    c.args.piece.now _ c.in-Directive.is
    (λ at low high o r s. directive_reads c.args.store.now c.obey.new.store c.args.unit.now _
    c.args.file.now.groups.cond c.args.pages.now.bundle.now
    (reader_at c.args.left c.args.pages.now.bundle.now) at c.args.file.now.groups hash line _
    c.in-Action.ensures.meaning c.obey.new.unit _
    (reads at low high o r.0
    (omega (arith, Rises-until (hash.span.start + 1) high line r.1)) s)))

pub returns-in_ok-obey-in-Action-clause-some : goal.returns-in_ok-obey-in-Action-clause-some
returns-in_ok-obey-in-Action-clause-some c =
    IfSome_then c.in_ok-obey-in-Action.field-0 c.in_ok-obey-in-Action.ensures.some
    (λ inner includes. of_piece (IncludesAt c.args.file.now.name.now c.args.file.now.origin
    c.args.pages.now.bundle.now c.args.left inner.page.now inner.stack)
    c.args.piece.now _ c.in-Directive.is
    (λ at o. (
      values.action_of c.in-Action.action,
      sym c.in-Action.ensures.meaning,
      includes at o,
    )))
