use Rattle.std.proofs.Common.{◌≡◌, true, Some, None, sym, ◌∙◌, subst, refl, rules}
use Rattle.std.specs.Prelude.{is_some, slice_get, IsSome}
use Rattle.hv_ctree.specs.types.Table.{compounds_of}
use Rattle.hv_ctypes.proofs.ApartLaw.{absent, unfilled, together, found_at, some_layout, offsets_apart}
use Rattle.hv_ctypes.proofs.offsets.member_offsets.Goals as goal

pub offsets_of_members-requires : goal.offsets_of_members-requires
offsets_of_members-requires c =
    let types = c.args.types.now in
    let x = c.in-Some.compound.now in
    let there : slice_get types.compounds c.args.number ≡ Some x = search rules in
    let is : is_some c.kept_layout.result ≡ true = search rules in
    let whole = some_layout c.kept_layout.result is in
    subst IsSome
    (sym (together types.compounds c.args.number x there c.in-Some-members.members c.in-Some-members.is whole.0
    (sym whole.1 ∙ c.kept_layout.ensures.value)))
    refl

pub returns-in-None-clause-value : goal.returns-in-None-clause-value
returns-in-None-clause-value c =
    let types = c.args.types.now in
    let there : slice_get types.compounds c.args.number ≡ None = search rules in
    absent types.compounds c.args.number there

pub returns-in-None-members-clause-value : goal.returns-in-None-members-clause-value
returns-in-None-members-clause-value c =
    let types = c.args.types.now in
    let x = c.in-Some.compound.now in
    let there : slice_get types.compounds c.args.number ≡ Some x = search rules in
    unfilled types.compounds c.args.number x there c.in-None-members.is

pub returns-in_ok-offsets-in-Some-members-clause-value : goal.returns-in_ok-offsets-in-Some-members-clause-value
returns-in_ok-offsets-in-Some-members-clause-value c =
    let types = c.args.types.now in
    let x = c.in-Some.compound.now in
    let there : slice_get types.compounds c.args.number ≡ Some x = search rules in
    let is : is_some c.kept_layout.result ≡ true = search rules in
    let whole = some_layout c.kept_layout.result is in
    found_at types.compounds c.args.number x there c.in-Some-members.members c.in-Some-members.is whole.0
    (sym whole.1 ∙ c.kept_layout.ensures.value) c.in_ok-offsets-in-Some-members.offsets
    c.in_ok-offsets-in-Some-members.ensures

pub returns-in_ok-offsets-in-Some-members-clause-apart : goal.returns-in_ok-offsets-in-Some-members-clause-apart
returns-in_ok-offsets-in-Some-members-clause-apart c =
    let types = c.args.types.now in
    let x = c.in-Some.compound.now in
    let there : slice_get types.compounds c.args.number ≡ Some x = search rules in
    let is : is_some c.kept_layout.result ≡ true = search rules in
    let whole = some_layout c.kept_layout.result is in
    offsets_apart (compounds_of types) c.args.number c.in_ok-offsets-in-Some-members.offsets
    (found_at types.compounds c.args.number x there c.in-Some-members.members c.in-Some-members.is whole.0
    (sym whole.1 ∙ c.kept_layout.ensures.value) c.in_ok-offsets-in-Some-members.offsets
    c.in_ok-offsets-in-Some-members.ensures)
