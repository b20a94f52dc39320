use Rattle.hv_model.specs.Beginning.{beginning}
use Rattle.hv_plainpp.proofs.FilePlacement.{places_differ}
use Rattle.hv_plainpp.specs.Preprocessing.{unit}
use Rattle.hv_preproc.proofs.FewFaces.{HasFewFaces-kept, few_faces}
use Rattle.hv_preproc.proofs.TooMany.{stops_possible, stops_too_many}
use Rattle.hv_preproc.specs.Plain.{parts_of}
use Rattle.hv_toks.specs.MacroState.{entries_of}
use Rattle.hv_preproc.proofs.stream.preprocess_parts.Goals as goal

pub fault_of-requires : goal.fault_of-requires
fault_of-requires c = record {
  possible = stops_possible c.read_unit.new.store c.args.valid
      (λ values. unit c.args.bundle.now (entries_of (beginning c.args.model.now.names values)))
      (λ values. places_differ c.args.bundle.now
      (entries_of (beginning c.args.model.now.names values))) c.in-Err.fault c.in-Err.ensures.stops;
}

pub returns-in_ok-convert-in-Ok-clause-sorted : goal.returns-in_ok-convert-in-Ok-clause-sorted
returns-in_ok-convert-in-Ok-clause-sorted c =
    let read = c.in-Ok.ensures.read in
    c.in_ok-convert-in-Ok.ensures.sorted c.args.valid read.0
    (λ values. unit c.args.bundle.now (entries_of (beginning c.args.model.now.names values)))
    read.1.valid_node read.1

pub returns-in_ok-convert-in-Ok-clause-starts : goal.returns-in_ok-convert-in-Ok-clause-starts
returns-in_ok-convert-in-Ok-clause-starts c =
    let read = c.in-Ok.ensures.read in
    c.in_ok-convert-in-Ok.ensures.starts c.args.valid read.0
    (λ values. unit c.args.bundle.now (entries_of (beginning c.args.model.now.names values)))
    read.1.valid_node read.1

pub returns-in_ok-convert-in-Ok-clause-few : goal.returns-in_ok-convert-in-Ok-clause-few
returns-in_ok-convert-in-Ok-clause-few c =
    let read = c.in-Ok.ensures.read in
    HasFewFaces-kept c.convert.ensures.keeps
    (parts_of c.args.bundle.now c.args.model.now.names c.args.reserved) c.args.valid
    read.1.valid_node
    (few_faces (parts_of c.args.bundle.now c.args.model.now.names c.args.reserved)
    c.read_unit.new.store c.args.valid c.in-Ok.unit.given read.1.few read.1.there read.1.faces)

pub returns-in-Err-clause-too_many : goal.returns-in-Err-clause-too_many
returns-in-Err-clause-too_many c =
    stops_too_many c.read_unit.new.store c.args.valid
    (λ values. unit c.args.bundle.now (entries_of (beginning c.args.model.now.names values)))
    (λ values. places_differ c.args.bundle.now
    (entries_of (beginning c.args.model.now.names values))) c.args.reserved c.in-Err.fault
    c.fault_of.result c.in-Err.ensures.stops c.fault_of.ensures
