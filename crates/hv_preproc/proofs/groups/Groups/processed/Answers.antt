use Rattle.std.proofs.Common.{◌≡◌, ◌∙◌, sym, ap, None, Some}
use Rattle.std.specs.Prelude.{slice_get}
use Rattle.std.specs.Option.{option_copied}
use Rattle.hv_preproc.proofs.GroupsLemmas.{top_node, top_processed}
use Rattle.hv_preproc.proofs.groups.Groups.processed.Goals as goal

pub returns-in-Some : goal.returns-in-Some
returns-in-Some c =
    let top : slice_get c.args.self.now.groups 0 ≡ Some c.in-Some.group.now =
    sym c.top.ensures ∙ ap option_copied c.in-Some.is in
    record {
      node = λ diagram r. top_node diagram c.args.self.now.cond c.args.self.now.groups r.file r.each
          (Some c.in-Some.group.now) top;
      meaning = λ diagram r values. top_processed diagram c.args.self.now.cond values
          c.args.self.now.groups r.each (Some c.in-Some.group.now) top;
    }

pub returns-in-None : goal.returns-in-None
returns-in-None c =
    let top : slice_get c.args.self.now.groups 0 ≡ None =
    sym c.top.ensures ∙ ap option_copied c.in-None.is in
    record {
      node = λ diagram r. top_node diagram c.args.self.now.cond c.args.self.now.groups r.file r.each
          None top;
      meaning = λ diagram r values. top_processed diagram c.args.self.now.cond values
          c.args.self.now.groups r.each None top;
    }
