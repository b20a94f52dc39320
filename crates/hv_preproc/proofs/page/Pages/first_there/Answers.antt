use Rattle.std.proofs.Common.{◌∙◌, ℕ, List, None, Option, Some, subst, sym}
use Rattle.std.specs.Option.{option_copied}
use Rattle.std.specs.String.{string_bytes}
use Rattle.hv_plainpp.specs.Files.{File, file_in}
use Rattle.hv_preproc.proofs.PageLemmas.{first_there-end, first_there-here, first_there-past}
use Rattle.hv_preproc.specs.working.Parts.{IsFound}
use Rattle.hv_preproc.proofs.page.Pages.first_there.Goals as goal

pub returns-in-Some : goal.returns-in-Some
returns-in-Some c =
    let bundle = c.args.self.now.bundle.now in
    subst (λ (o : Option File). IsFound (Some c.in-Some.page.now) o) c.loop-name.invariant
    (first_there-here string_bytes bundle c.args.header.now c.args.names.now
    c.loop-name.name-index c.name-item.result c.in-Some.page.now c.loop-name-test.true
    c.name-item.is
    (subst (λ (name : List ℕ). IsFound (Some c.in-Some.page.now) (file_in bundle name))
    c.as_str.ensures.value c.in-Some.ensures))

pub loop-name-preserved : goal.loop-name-preserved
loop-name-preserved c =
    let bundle = c.args.self.now.bundle.now in
    sym (first_there-past string_bytes bundle c.args.header.now c.args.names.now
    c.loop-name.name-index c.name-item.result c.loop-name-test.true c.name-item.is
    (subst (λ (name : List ℕ). IsFound None (file_in bundle name))
    c.as_str.ensures.value c.in_default.ensures))
    ∙ c.loop-name.invariant

pub returns : goal.returns
returns c =
    subst (λ (o : Option File). IsFound (option_copied c.built_in.result) o)
    (sym (first_there-end string_bytes c.args.self.now.bundle.now c.args.header.now
    c.args.names.now c.loop-name.name-index c.loop-name-test.false) ∙ c.loop-name.invariant)
    c.built_in.ensures
