use Rattle.std.proofs.Common.{◌∙◌}
use Rattle.hv_plain.specs.gathering.Mentions.{cut}
use Rattle.hv_gather.proofs.CutLemmas.{IsCut-cut}
use Rattle.hv_gather.proofs.MentionsLemmas.{mentions-open, mentions-tokens}
use Rattle.hv_gather.proofs.mention.mentions.Goals as goal

pub returns-in-Ok : goal.returns-in-Ok
returns-in-Ok c =
    mentions-tokens c.args.bytes.now c.in-Ok.tokens c.as_slice.result.now c.headers_in.result
    (c.in-Ok.ensures.only (cut 0 c.args.bytes.now) (IsCut-cut 0 c.args.bytes.now)) c.as_slice.ensures c.headers_in.ensures

pub returns-in-Err-OpenComment : goal.returns-in-Err-OpenComment
returns-in-Err-OpenComment c =
    let cuts = rw c.in-Err-OpenComment.field-0-is at (c.in-Err-OpenComment.ensures.only (cut 0 c.args.bytes.now) (IsCut-cut 0 c.args.bytes.now)) in
    c.new.ensures ∙ mentions-open c.args.bytes.now c.in-Err-OpenComment.field-0-0 cuts
