use Rattle.std.proofs.Common.{◌≡◌, ◌+◌, ◌<◌, max, None, Some, length, get_or, drop, map, ap, sym, ◌∙◌, arith, rules}
use Rattle.hv_ctree.specs.types.Erasure.{type_of, member_of}
use Rattle.hv_ctree.specs.types.Table.{compounds_of}
use Rattle.hv_ctree.specs.types.Layouts.{within_limit, layout_by}
use Rattle.hv_ctypes.specs.Compounds.{layouts_in}
use Rattle.hv_ctypes.specs.working.Walks.{laid_from, taken_after}
use Rattle.hv_ctypes.proofs.LayoutsLemmas.{laid_members, item-none, item-some, too_large}
use Rattle.hv_ctypes.proofs.members.members_layout.Goals as goal

pub loop-member-init : goal.loop-member-init
loop-member-init c =
    let of = layouts_in (compounds_of c.args.types.now) in
    let some : length c.args.members.now ≡ 0 → ⊥ = λ e. c.if-len-eq0.false (c.len.ensures ∙ e) in
    record {
      same = laid_members of c.args.is_union c.args.members.now some;
      within = omega arith;
      aligned = search rules;
    }

pub returns-in_err-layout-clause-value : goal.returns-in_err-layout-clause-value
returns-in_err-layout-clause-value c =
    let of = layouts_in (compounds_of c.args.types.now) in
    let m = c.member-item.result in
    let i = c.loop-member.member-index in
    let inside : i < length c.args.members.now = search rules in
    let is : m ≡ get_or c.args.members.now i m = search rules in
    let none : None ≡ within_limit (layout_by of (type_of m.of)) = search rules in
    c.from_residual.ensures
    ∙ (sym (item-none of c.args.is_union c.loop-member.taken c.loop-member.align c.args.members.now i m inside is none)
    ∙ c.loop-member.invariant.same)

pub returns-then-taken-gt-MOST_OBJECT_BYTES-clause-value :
    goal.returns-then-taken-gt-MOST_OBJECT_BYTES-clause-value
returns-then-taken-gt-MOST_OBJECT_BYTES-clause-value c =
    let of = layouts_in (compounds_of c.args.types.now) in
    let m = c.member-item.result in
    let l = c.in_ok-layout.layout in
    let i = c.loop-member.member-index in
    let inside : i < length c.args.members.now = search rules in
    let is : m ≡ get_or c.args.members.now i m = search rules in
    let some : Some l ≡ within_limit (layout_by of (type_of m.of)) = search rules in
    let large : 1073741824 < taken_after c.args.is_union c.loop-member.taken l =
    rw (← c.taken_after-taken.ensures) c.if-taken-gt-MOST_OBJECT_BYTES.true in
    sym (ap within_limit (item-some of c.args.is_union c.loop-member.taken c.loop-member.align c.args.members.now i m l inside is some)
    ∙ too_large of c.args.is_union (taken_after c.args.is_union c.loop-member.taken l) (max c.loop-member.align l.align)
    (map member_of (drop (i + 1) c.args.members.now)) large)
    ∙ c.loop-member.invariant.same

pub loop-member-preserved : goal.loop-member-preserved
loop-member-preserved c =
    let of = layouts_in (compounds_of c.args.types.now) in
    let m = c.member-item.result in
    let l = c.in_ok-layout.layout in
    let i = c.loop-member.member-index in
    let rest = map member_of (drop (i + 1) c.args.members.now) in
    let inside : i < length c.args.members.now = search rules in
    let is : m ≡ get_or c.args.members.now i m = search rules in
    let some : Some l ≡ within_limit (layout_by of (type_of m.of)) = search rules in
    record {
      same =
          ap (λ n. within_limit (laid_from of c.args.is_union n c.larger_alignment-align.result rest)) c.taken_after-taken.ensures
          ∙ (ap (λ n. within_limit (laid_from of c.args.is_union (taken_after c.args.is_union c.loop-member.taken l) n rest))
          c.larger_alignment-align.ensures.value
          ∙ (sym (ap within_limit (item-some of c.args.is_union c.loop-member.taken c.loop-member.align c.args.members.now i m l inside is some))
          ∙ c.loop-member.invariant.same));
      within = omega arith;
      aligned = c.larger_alignment-align.ensures.aligned;
    }
