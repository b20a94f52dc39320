use Rattle.hv_cond.specs.Laws.{Keeps-trans}
use Rattle.hv_macros.specs.Laws.{IsTableOf-kept}
use Rattle.hv_macros.proofs.tests.a_name_defined_under_one_option_has_two_alternatives.Goals as goal

pub alternatives_of-requires-clause-nodes : goal.alternatives_of-requires-clause-nodes
alternatives_of-requires-clause-nodes g c =
    IsTableOf-kept (Keeps-trans c.var.ensures.keeps c.not.ensures.keeps) c.set.new.table
    c.in_ok-set.ensures.nodes
