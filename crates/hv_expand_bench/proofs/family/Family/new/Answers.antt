use Rattle.std.proofs.Common.{◌∙◌}
use Rattle.hv_expand_bench.proofs.FamilyLemmas.{begins_before}
use Rattle.hv_expand_bench.proofs.family.Family.new.Goals as goal

pub returns : goal.returns
returns c =
    record {
      variables = c.in_ok-table.ensures.keeps.variables ∙ c.in_ok-store.ensures.variables;
      table = c.in_ok-table.ensures.nodes;
      one_body = c.in_ok-table.ensures.one_body;
      before = begins_before c.new-2.new.store c.in_ok-table.table c.in_ok-model.model.names 0
          c.in_ok-table.ensures.begins;
    }
