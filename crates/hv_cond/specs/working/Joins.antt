-- Conditions in the order in which they are joined.
use Rattle.hv_cond.specs.declared.conditions.Cond.{Cond}
use Rattle.hv_cond.specs.declared.joins.Ranked.{Ranked}

-- the condition, without its rank
abbrev pub cond_in : Ranked → Cond
cond_in ranked = ranked.cond
