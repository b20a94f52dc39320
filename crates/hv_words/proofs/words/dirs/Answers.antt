use Rattle.std.proofs.Common.{rules}
use Rattle.clap.proofs.WalkLemmas.{first_value-rows}
use Rattle.hv_words.proofs.words.dirs.Goals as goal

pub returns-in-Some : goal.returns-in-Some
returns-in-Some c = rw (← first_value-rows _ _, ← c.get_str.ensures, c.in-Some.is) c.split_folders.ensures

pub returns-in-None : goal.returns-in-None
returns-in-None c = rw (← first_value-rows _ _, ← c.get_str.ensures, c.in-None.is) (search rules)
