use Rattle.std.proofs.Common.{◌≡◌, Bor, List, None, Option, ℕ, arith, subst}
use Rattle.std.specs.Option.{option_copied}
use Rattle.hv_base.specs.declared.why.Why.TheVariants.{IncludeTooDeep, NoFile}
use Rattle.hv_directives.specs.Values.{header_of}
use Rattle.hv_plainpp.specs.Files.{found, place_of}
use Rattle.hv_plainpp.specs.Preprocessing.{include_file}
use Rattle.hv_preproc.proofs.ActionLemmas.{file_at, no_file_reads, refused_as, too_deep_reads}
use Rattle.hv_preproc.proofs.PageLemmas.{none_found}
use Rattle.hv_preproc.specs.declared.page.Page.{Page}
use Rattle.hv_preproc.specs.working.Parts.{IsFound, reader_at}
use Rattle.hv_preproc.proofs.open_file.OpenFile.find.Goals as goal

pub returns-then-left-eq0-clause-none : goal.returns-then-left-eq0-clause-none
returns-then-left-eq0-clause-none c = λ at here is sound.
    refused_as c.args.store.now c.refuse.new.store c.args.unit.now c.refuse.new.self here
    c.args.cond IncludeTooDeep c.in_ok-place.place (place_of at c.args.hash.now)
    (include_file c.args.pages.now.bundle.now
    (reader_at c.args.left c.args.pages.now.bundle.now) at c.args.hash.now
    (header_of c.args.header)) c.refuse.ensures.keeps (c.in_ok-place.ensures at is.same_origin)
    (too_deep_reads c.args.pages.now.bundle.now at c.args.hash.now (header_of c.args.header)
    c.args.left c.if-left-eq0.true) c.in_ok-refuse.ensures.read sound

pub returns-in-Some-clause-some : goal.returns-in-Some-clause-some
returns-in-Some-clause-some c = λ at is.
    file_at c.args.pages.now.bundle.now at c.args.self.now.name.now c.args.self.now.origin
    c.args.hash.now (header_of c.args.header) c.args.left c.in-Some.page.now
    c.in_ok-stack_within-in-Some.field-0 (omega (arith, c.if-left-eq0.false))
    (subst (λ (o : Option (Bor Page)). IsFound (option_copied o)
    (found c.args.pages.now.bundle.now c.args.self.now.name.now (header_of c.args.header)))
    c.in-Some.is c.in_ok-page.ensures)
    c.in_ok-stack_within-in-Some.ensures is

pub returns-clause-none : goal.returns-clause-none
returns-clause-none c = λ at here is sound.
    let bundle = c.args.pages.now.bundle.now in
    let header = header_of c.args.header in
    let absent : found bundle at.file.name header ≡ None =
    subst (λ (name : List ℕ). found bundle name header ≡ None) is.same_name
    (none_found (found bundle c.args.self.now.name.now header)
    (subst (λ (o : Option (Bor Page)). IsFound (option_copied o)
    (found bundle c.args.self.now.name.now header)) c.in-None.is c.in_ok-page.ensures)) in
    refused_as c.args.store.now c.refuse-in-None.new.store c.args.unit.now
    c.refuse-in-None.new.self here c.args.cond NoFile c.in_ok-place.place
    (place_of at c.args.hash.now)
    (include_file bundle (reader_at c.args.left bundle) at c.args.hash.now header)
    c.refuse-in-None.ensures.keeps (c.in_ok-place.ensures at is.same_origin)
    (no_file_reads bundle at c.args.hash.now header c.args.left
    (omega (arith, c.if-left-eq0.false)) absent) c.in_ok-refuse-in-None.ensures.read sound
