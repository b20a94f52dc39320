use Rattle.std.proofs.Common.{ap, ◌∙◌, drop}
use Rattle.hv_rescan.specs.working.Shared.{listed}
use Rattle.hv_rescan.proofs.Sharing.{row_after}
use Rattle.hv_rescan.proofs.shared.Tokens.skip.Goals as goal

pub returns : goal.returns
returns c =
    row_after (listed c.self.inside.list) c.self.inside.begin c.self.inside.end c.args.count
    ∙ ap (drop c.args.count) c.self.view_is
