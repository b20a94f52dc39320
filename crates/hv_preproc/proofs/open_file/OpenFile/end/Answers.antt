use Rattle.std.proofs.Common.{◌≡◌, ◌∙◌, sym, ap, None, Some}
use Rattle.std.specs.Option.{option_copied}
use Rattle.std.proofs.lemmas.Result.{IfOk-weaker}
use Rattle.hv_preproc.proofs.FileEnd.{end_read, end_refused, opened_of}
use Rattle.hv_preproc.proofs.open_file.OpenFile.end.Goals as goal

pub returns-in-Some-clause-read : goal.returns-in-Some-clause-read
returns-in-Some-clause-read c =
    let open_at : opened_of c.args.self.now.groups.groups ≡ Some c.in-Some.opened.now =
    sym c.opened.ensures ∙ ap option_copied c.in-Some.is in
    IfOk-weaker c.refuse.result _ _ (λ done reads here sound.
    end_refused c.args.store.now c.refuse.new.store c.args.unit.now c.refuse.new.unit here
    c.args.self.now.groups c.in-Some.opened.now c.refuse.ensures.keeps open_at (reads here sound))
    c.refuse.ensures.read

pub returns-in-None-clause-read : goal.returns-in-None-clause-read
returns-in-None-clause-read c =
    let none : opened_of c.args.self.now.groups.groups ≡ None =
    sym c.opened.ensures ∙ ap option_copied c.in-None.is in
    λ here sound. end_read c.args.store.now c.args.unit.now here c.args.self.now.groups sound none
