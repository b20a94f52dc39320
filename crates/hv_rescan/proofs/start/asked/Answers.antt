use Rattle.std.proofs.Common.{◌≡◌, ◌≤◌, ◌-◌, ◌∙◌, rules, true, false, length, take, drop, arith}
use Rattle.std.specs.Prelude.{codes}
use Rattle.hv_plain.specs.episode.Episode.{has_text}
use Rattle.hv_rescan.proofs.Questions.{asks_name, asks_none, item_later, long_rest, rest_long}
use Rattle.hv_rescan.proofs.start.asked.Goals.{in_default-more, in-len2-up+else-is_text}
use Rattle.hv_rescan.proofs.start.asked.Goals as goal

pub returns-then-is_text : goal.returns-then-is_text
returns-then-is_text c =
    let after = c.args.after.now in
    let opens : has_text c.first-item.result (codes "(") ≡ true = search rules in
    let closes : has_text c.closing-item.result (codes ")") ≡ false = search rules in
    asks_none after c.first-item.result c.closing-item.result
    (rest_long after (omega arith)) c.first-item.is
    (item_later after c.closing-item.result (omega arith) c.closing-item.is) opens closes

pub returns : goal.returns
returns c =
    let after = c.args.after.now in
    c.name_asked-2.ensures
    ∙ asks_name after c.first-item.result (omega arith) c.first-item.is
    (λ h. elim c.if-more-lt2.branch [
      | in_default-more w ↦
          let long : 2 ≤ length (take (length after - 1) (drop 1 after)) = long_rest after h in
          absurd (omega arith)
      | in-len2-up+else-is_text w ↦ search rules
    ])
