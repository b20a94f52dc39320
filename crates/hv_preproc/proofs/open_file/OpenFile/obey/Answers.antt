use Rattle.std.proofs.Common.{arith}
use Rattle.hv_cond.specs.Laws.{holds-falsity}
use Rattle.hv_directives.specs.Values.{action_of}
use Rattle.hv_preproc.proofs.ActionLemmas.{none-weaker, processed_reads, unprocessed_reads}
use Rattle.hv_preproc.proofs.Kept.{IsSound-kept, IsUnit-kept}
use Rattle.hv_preproc.specs.working.Keys.{reached}
use Rattle.hv_preproc.specs.working.OpenGroups.{groups_in}
use Rattle.hv_preproc.specs.working.Parts.{reader_at}
use Rattle.hv_preproc.proofs.open_file.OpenFile.obey.Goals as goal

pub returns-then-is_false-clause-unit : goal.returns-then-is_false-clause-unit
returns-then-is_false-clause-unit c =
    IsUnit-kept c.processed.ensures.keeps c.args.unit.now c.requires.sound.unit

pub returns-then-is_false-clause-none : goal.returns-then-is_false-clause-none
returns-then-is_false-clause-none c = λ at low high is first second sound.
    let bundle = c.args.pages.now.bundle.now in
    unprocessed_reads c.args.store.now c.processed.new.store c.args.unit.now
    c.args.self.now.groups.cond c.in_ok-cond.cond
    (groups_in c.args.store.now c.args.self.now.groups) bundle (reader_at c.args.left bundle) at
    c.args.hash.now (action_of c.args.action) c.in_ok-cond.ensures.meaning low high
    c.processed.ensures.keeps
    (holds-falsity c.processed.new.store c.in_ok-cond.cond
    (c.is_false.ensures.falsity.0 c.if-is_false.true))
    (omega (arith, first, second)) sound

pub act-requires-clause-sound : goal.act-requires-clause-sound
act-requires-clause-sound c =
    IsSound-kept c.processed.ensures.keeps c.args.unit.now _ c.requires.sound

pub returns-clause-none : goal.returns-clause-none
returns-clause-none c =
    let bundle = c.args.pages.now.bundle.now in
    none-weaker c.act.result
    (λ read at low high is first second sound. processed_reads c.args.store.now
    c.processed.new.store c.args.unit.now c.args.self.now.groups.cond c.in_ok-cond.cond
    (groups_in c.args.store.now c.args.self.now.groups) bundle (reader_at c.args.left bundle) at
    c.args.hash.now (action_of c.args.action) c.in_ok-cond.ensures.meaning c.act.new.store
    c.act.new.unit (reached at low) (reached at high) c.processed.ensures.keeps
    c.act.ensures.keeps c.requires.sound.unit
    (read at low high is first second
    (IsSound-kept c.processed.ensures.keeps c.args.unit.now (reached at low) sound)))
    c.act.ensures.none
