use Rattle.std.proofs.Common.{◌+◌, ◌-◌, List, ap, ◌∙◌, arith, length, take, drop}
use Rattle.hv_rescan.specs.declared.token.Token.{Token}
use Rattle.hv_rescan.specs.working.Shared.{listed}
use Rattle.hv_rescan.proofs.Sharing.{row_within}
use Rattle.hv_rescan.proofs.shared.Tokens.part.Goals as goal

pub returns : goal.returns
returns c =
    let b = c.self.inside.begin in
    let f = c.args.from in
    let t = c.args.to in
    let seen = ap length c.self.view_is in
    ap (λ (ts : List Token). take ((b + t) - (b + f)) (drop (b + f) ts)) c.in_ok-again.ensures
    ∙ row_within (listed c.self.inside.list) b c.self.inside.end f t (omega (arith, seen))
    ∙ ap (λ (ts : List Token). take (t - f) (drop f ts)) c.self.view_is
