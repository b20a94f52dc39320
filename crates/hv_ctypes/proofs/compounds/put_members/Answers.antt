use Rattle.std.proofs.Common.{◌≡◌, map, ap, ◌∙◌}
use Rattle.std.specs.Prelude.{slice_set}
use Rattle.hv_ctree.specs.types.Erasure.{compound_of}
use Rattle.hv_ctypes.proofs.SettledLemmas.{complete, set-set, put_settled, put_plain}
use Rattle.hv_ctypes.proofs.compounds.put_members.Goals as goal

pub invariant_of-types : goal.invariant_of-types
invariant_of-types c =
    let types = c.args.types.now in
    let old = c.replace-before.result in
    let new = complete old c.args.is_union c.args.members c.args.layout in
    let after : c.replace.new.self ≡ slice_set types.compounds c.args.number new =
    c.replace.ensures.after
    ∙ (ap (λ xs. slice_set xs c.args.number new) c.replace-before.ensures.after
    ∙ set-set types.compounds c.args.number _ new) in
    record {
      settled =
          rw after
          (put_settled types.compounds c.args.number old c.args.is_union c.args.members c.args.layout
          c.replace-before.ensures.was c.requires.incomplete types.settled c.requires.layout);
    }

pub returns : goal.returns
returns c =
    let types = c.args.types.now in
    let old = c.replace-before.result in
    let new = complete old c.args.is_union c.args.members c.args.layout in
    let after : c.replace.new.self ≡ slice_set types.compounds c.args.number new =
    c.replace.ensures.after
    ∙ (ap (λ xs. slice_set xs c.args.number new) c.replace-before.ensures.after
    ∙ set-set types.compounds c.args.number _ new) in
    ap (map compound_of) after
    ∙ put_plain types.compounds c.args.number old c.args.is_union c.args.members c.args.layout
    c.replace-before.ensures.was c.requires.incomplete
