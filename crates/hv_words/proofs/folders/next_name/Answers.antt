use Rattle.std.proofs.Common.{rules}
use Rattle.std.proofs.lemmas.List.Splits.{slice_split_first}
use Rattle.hv_base.proofs.Lists.{slice_split_whole}
use Rattle.hv_words.proofs.folders.next_name.Goals as goal

pub returns-in-Some-clause-cut : goal.returns-in-Some-clause-cut
returns-in-Some-clause-cut c = search (rules, slice_split_first)

pub returns-in-None-clause-cut : goal.returns-in-None-clause-cut
returns-in-None-clause-cut c = search (rules, slice_split_whole)
