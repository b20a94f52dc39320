use Rattle.std.proofs.Common.{None, Some}
use Rattle.hv_base.specs.declared.why.Why.TheVariants.{BadDirective}
use Rattle.hv_directives.specs.Values.{header_of}
use Rattle.hv_plainpp.specs.Directives.{include}
use Rattle.hv_plainpp.specs.Files.{place_of}
use Rattle.hv_plainpp.specs.Preprocessing.{include_file, obeyed}
use Rattle.hv_preproc.proofs.ActionLemmas.{header_reads, inclusion, none-weaker, refused_as, some-weaker}
use Rattle.hv_preproc.proofs.Later.{reads_same}
use Rattle.hv_preproc.specs.working.Parts.{reader_at}
use Rattle.hv_preproc.proofs.open_file.OpenFile.include.Goals as goal

pub returns-in-Some-clause-none : goal.returns-in-Some-clause-none
returns-in-Some-clause-none c =
    let bundle = c.args.pages.now.bundle.now in
    let header = header_of c.in-Some.header in
    none-weaker c.find.result
    (λ read at here is sound. reads_same c.args.store.now c.find.new.store c.args.unit.now
    c.find.new.unit here here c.args.cond
    (λ values. include_file bundle (reader_at c.args.left bundle) at c.args.hash.now header)
    (λ values. obeyed bundle (reader_at c.args.left bundle) at c.args.hash.now
    (include c.args.line.now)) c.find.ensures.keeps
    (λ values macros w l m. header_reads bundle (reader_at c.args.left bundle) at c.args.hash.now
    (Some header) c.args.line.now c.in-Some.ensures.meaning macros)
    (read at here is sound)) c.find.ensures.none

pub returns-in-Some-clause-some : goal.returns-in-Some-clause-some
returns-in-Some-clause-some c =
    some-weaker _ _ c.find.result
    (λ inner there at is. inclusion c.args.pages.now.bundle.now at c.args.hash.now
    (header_of c.in-Some.header) c.args.line.now c.args.left inner.page.now inner.stack
    c.in-Some.ensures.meaning (there at is)) c.find.ensures.some

pub returns-in_ok-refuse-in-None-clause-none : goal.returns-in_ok-refuse-in-None-clause-none
returns-in_ok-refuse-in-None-clause-none c = λ at here is sound.
    let bundle = c.args.pages.now.bundle.now in
    refused_as c.args.store.now c.refuse.new.store c.args.unit.now c.refuse.new.self here
    c.args.cond BadDirective c.in_ok-place-in-None.place (place_of at c.args.hash.now)
    (obeyed bundle (reader_at c.args.left bundle) at c.args.hash.now (include c.args.line.now))
    c.refuse.ensures.keeps (c.in_ok-place-in-None.ensures at is.same_origin)
    (header_reads bundle (reader_at c.args.left bundle) at c.args.hash.now None c.args.line.now
    c.in-None.ensures.meaning) c.in_ok-refuse-in-None.ensures.read sound
