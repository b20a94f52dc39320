use Rattle.hv_rescan.proofs.Texts.{digits_added}
use Rattle.std.proofs.Common.{◌∙◌}
use Rattle.hv_rescan.proofs.draft.Draft.add_digit.Goals as goal

pub returns : goal.returns
returns c macros =
    digits_added macros c.args.self.now.digits c.add.new.self c.args.self.now.tail
    c.replace-before.new.dest c.replace-before.result c.in_ok-name.name c.args.name.now
    c.in_ok-add.ensures.ok (c.replace-before.ensures.after ∙ c.new.ensures) c.replace-before.ensures.value
    c.in_ok-name.ensures
