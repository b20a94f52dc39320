use Rattle.hv_plain.specs.gathering.Mentions.{cut}
use Rattle.hv_preproc.proofs.CutLemmas.{IsCut-cut}
use Rattle.hv_preproc.proofs.source.cut_bytes.Goals as goal

pub returns-in-Ok : goal.returns-in-Ok
returns-in-Ok c = c.in-Ok.ensures.only (cut c.args.number c.args.bytes.now)
    (IsCut-cut c.args.number c.args.bytes.now)

pub returns-in-Err-OpenComment : goal.returns-in-Err-OpenComment
returns-in-Err-OpenComment c =
    rw c.in-Err-OpenComment.field-0-is at (c.in-Err-OpenComment.ensures.only
    (cut c.args.number c.args.bytes.now) (IsCut-cut c.args.number c.args.bytes.now))
