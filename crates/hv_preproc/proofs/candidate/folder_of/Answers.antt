use Rattle.std.proofs.Common.{◌≡◌, ◌-◌, Some, arith, rules, take, get_or}
use Rattle.hv_plain.specs.gathering.SearchOrder as order
use Rattle.hv_preproc.proofs.SearchOrderLemmas.{folder_of-found}
use Rattle.hv_preproc.proofs.candidate.folder_of.Goals as goal

pub returns-then-as_bytes-end-eq47 : goal.returns-then-as_bytes-end-eq47
returns-then-as_bytes-end-eq47 c =
    let slash : get_or c.args.file.now (c.loop-end.end - 1) 0 ≡ 47 = first_of (cc, search rules) in
    let found : order.folder_of c.args.file.now ≡ Some (take (c.loop-end.end - 1) c.args.file.now) =
    folder_of-found c.args.file.now (c.loop-end.end - 1) c.loop-end.end (omega arith) (omega arith) slash c.loop-end.invariant.0 in
    first_of (cc, search rules)
