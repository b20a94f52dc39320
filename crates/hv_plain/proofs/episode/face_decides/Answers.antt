use Rattle.hv_plain.proofs.EpisodeFaces.{face_decides}
use Rattle.hv_plain.proofs.episode.face_decides.Goals as goal

pub returns : goal.returns
returns c = face_decides
