use Rattle.std.proofs.Common.{◌≡◌, ◌∙◌, refl, sym}
use Rattle.std.proofs.lemmas.Result.{err_from_is_err_and}
use Rattle.hv_model.specs.Beginning.{beginning}
use Rattle.hv_plainpp.specs.Preprocessing.{unit}
use Rattle.hv_preproc.proofs.FewFaces.{HasFewFaces-kept}
use Rattle.hv_preproc.proofs.Meetings.{fault_there, few_here}
use Rattle.hv_preproc.proofs.Sorting.{joined_ending, joined_sorted, joined_starts}
use Rattle.hv_preproc.specs.Plain.{parts_of, plain_of}
use Rattle.hv_toks.specs.MacroState.{entries_of}
use Rattle.hv_preproc.proofs.stream.preprocess_all.Goals as goal

pub returns-in_err-good-clause-too_many : goal.returns-in_err-good-clause-too_many
returns-in_err-good-clause-too_many c =
    let p = err_from_is_err_and c.from_residual.result c.from_residual.ensures.1 in
    rw (p.1, p.2)
    (fault_there (parts_of c.args.bundle.now c.args.model.now.names c.args.reserved)
    (plain_of c.args.bundle.now c.args.model.now.names c.args.reserved) (λ values. refl)
    c.preprocess_parts.new.store c.args.valid c.in_err-good.field-0.0
    c.in_err-good.ensures.too_many)

pub returns-clause-sorted : goal.returns-clause-sorted
returns-clause-sorted c =
    joined_sorted c.preprocess_parts.new.store c.join_strings.new.store c.args.valid
    (plain_of c.args.bundle.now c.args.model.now.names c.args.reserved)
    (parts_of c.args.bundle.now c.args.model.now.names c.args.reserved) c.in_ok-good.field-0
    c.in_ok-join_strings.field-0 c.in_ok-join_strings.ensures.keeps
    (c.in_ok-good.ensures.keeps.stays c.args.valid c.requires.valid)
    (λ values. joined_ending c.args.reserved
    (unit c.args.bundle.now (entries_of (beginning c.args.model.now.names values))).met
    (unit c.args.bundle.now (entries_of (beginning c.args.model.now.names values))).ending)
    c.in_ok-good.ensures.sorted
    (λ values good. c.in_ok-join_strings.ensures.joined values
    (c.in_ok-join_strings.ensures.keeps.meaning c.in_ok-good.field-0.good
    c.in_ok-good.ensures.sorted.divides.nodes.0 values ∙ good))

pub returns-clause-starts : goal.returns-clause-starts
returns-clause-starts c = λ values others len size here there.
    joined_starts c.preprocess_parts.new.store c.join_strings.new.store c.args.valid
    (plain_of c.args.bundle.now c.args.model.now.names c.args.reserved)
    (parts_of c.args.bundle.now c.args.model.now.names c.args.reserved) c.in_ok-good.field-0
    c.in_ok-join_strings.field-0 c.in_ok-join_strings.ensures.keeps
    (c.in_ok-good.ensures.keeps.stays c.args.valid c.requires.valid)
    (λ values. joined_ending c.args.reserved
    (unit c.args.bundle.now (entries_of (beginning c.args.model.now.names values))).met
    (unit c.args.bundle.now (entries_of (beginning c.args.model.now.names values))).ending)
    c.in_ok-good.ensures.sorted
    (λ values good. c.in_ok-join_strings.ensures.joined values
    (c.in_ok-join_strings.ensures.keeps.meaning c.in_ok-good.field-0.good
    c.in_ok-good.ensures.sorted.divides.nodes.0 values ∙ good)) values others len size here there
    (c.in_ok-good.ensures.starts values others
    (len ∙ c.in_ok-join_strings.ensures.keeps.variables)
    (size ∙ c.in_ok-join_strings.ensures.keeps.variables)
    (sym (c.in_ok-join_strings.ensures.keeps.meaning c.in_ok-good.field-0.good
    c.in_ok-good.ensures.sorted.divides.nodes.0 values) ∙ here)
    (sym (c.in_ok-join_strings.ensures.keeps.meaning c.in_ok-good.field-0.good
    c.in_ok-good.ensures.sorted.divides.nodes.0 others) ∙ there))

pub returns-clause-few : goal.returns-clause-few
returns-clause-few c =
    HasFewFaces-kept c.in_ok-join_strings.ensures.keeps
    (plain_of c.args.bundle.now c.args.model.now.names c.args.reserved) c.args.valid
    (c.in_ok-good.ensures.keeps.stays c.args.valid c.requires.valid)
    (few_here (plain_of c.args.bundle.now c.args.model.now.names c.args.reserved)
    (parts_of c.args.bundle.now c.args.model.now.names c.args.reserved) (λ values. refl)
    c.preprocess_parts.new.store c.args.valid c.in_ok-good.ensures.few)
