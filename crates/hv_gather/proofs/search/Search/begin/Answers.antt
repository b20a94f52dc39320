use Rattle.std.proofs.Common.{◌≡◌, refl}
use Rattle.std.proofs.lemmas.Result.{err_from_is_err_and}
use Rattle.hv_plain.specs.gathering.Told as telling
use Rattle.hv_gather.proofs.SearchLemmas.{begin-read}
use Rattle.hv_gather.proofs.search.Search.begin.Goals as goal

pub returns-then-branch-clause-found : goal.returns-then-branch-clause-found
returns-then-branch-clause-found g c = λ held tells.
    let fresh : telling.Search = record { entries = c.in_ok-new.field-0.entries; headers = c.new-2.result; waiting = c.new-3.result } in
    let new : fresh ≡ telling.beginning = rw (c.in_ok-new.ensures, c.new-2.ensures, c.new-3.ensures) refl in
    let read = rw c.if-branch.true at (c.in_ok-read.ensures.found held tells) in
    begin-read c.args.main.now (held c.args.main.now) fresh _ new read

pub returns-then-branch-clause-there : goal.returns-then-branch-clause-there
returns-then-branch-clause-there g c = λ held tells.
    let read = rw c.if-branch.true at (c.in_ok-read.ensures.found held tells) in
    (read.0, read.1)

pub returns-in_err-read-clause-too_big : goal.returns-in_err-read-clause-too_big
returns-in_err-read-clause-too_big g c = λ held tells.
    let e = err_from_is_err_and c.from_residual-in_err-read.result c.from_residual-in_err-read.ensures.1 in
    rw (e.1, e.2) (rw c.in_ok-new.ensures at (c.in_err-read.ensures.too_big held tells))
