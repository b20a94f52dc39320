use Rattle.hv_cond.specs.Laws.{Keeps-trans}
use Rattle.hv_macros.specs.Laws.{HasOneBody-kept, IsTableOf-kept}
use Rattle.hv_expand_bench.proofs.FamilyLemmas.{family_grown}
use Rattle.hv_expand_bench.proofs.family.Family.expand.Goals as goal

pub returns-in_default-clause-family : goal.returns-in_default-clause-family
returns-in_default-clause-family c =
    family_grown c.args.self.now c.asked.new.store c.requires c.asked.ensures.keeps

pub expand_episode-requires-clause-table : goal.expand_episode-requires-clause-table
expand_episode-requires-clause-table c =
    IsTableOf-kept c.asked.ensures.keeps c.args.self.now.table c.requires.table

pub expand_episode-requires-clause-one_body : goal.expand_episode-requires-clause-one_body
expand_episode-requires-clause-one_body c =
    HasOneBody-kept c.asked.ensures.keeps c.args.self.now.table c.requires.table
    c.requires.one_body

pub returns-in_err-outcomes-clause-family : goal.returns-in_err-outcomes-clause-family
returns-in_err-outcomes-clause-family c =
    family_grown c.args.self.now c.expand_episode.new.store c.requires
    (Keeps-trans c.asked.ensures.keeps c.expand_episode.ensures.keeps)

pub returns-clause-family : goal.returns-clause-family
returns-clause-family c =
    family_grown c.args.self.now c.expand_episode.new.store c.requires
    (Keeps-trans c.asked.ensures.keeps c.expand_episode.ensures.keeps)
