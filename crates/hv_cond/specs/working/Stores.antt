-- What holds of the tables of a store.
use Rattle.hv_cond.specs.declared.complements.Complements.{Complements}
use Rattle.hv_cond.specs.declared.connectives.Connective.TheVariants.{And, Or}
use Rattle.hv_cond.specs.declared.nodes.Nodes.{Nodes}
use Rattle.hv_cond.specs.declared.orders.Order.{Order}
use Rattle.hv_cond.specs.declared.results.Results.{Results}
use Rattle.hv_cond.specs.working.Complements.{AreComplements}
use Rattle.hv_cond.specs.working.Connectives.{AreAnswers}
use Rattle.hv_cond.specs.working.Nodes.{newest_first, IsReduced}
use Rattle.hv_cond.specs.working.Orders.{IsOrder}

-- the order has each variable, the table of nodes is reduced, and each answer that was kept is
-- right
pub record IsSound (order : Order) (nodes : Nodes) (conjunctions disjunctions : Results)
    (complements : Complements) : Type 0 where
  pub ordered : IsOrder nodes.variables order
  pub reduced : IsReduced nodes
  pub conjunctions_right : AreAnswers And (newest_first nodes) conjunctions
  pub disjunctions_right : AreAnswers Or (newest_first nodes) disjunctions
  pub complements_right : AreComplements (newest_first nodes) complements
