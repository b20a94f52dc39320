use Rattle.std.proofs.Common.{codes}
use Rattle.hv_encode.proofs.SmallSources.{absent, no_place}
use Rattle.hv_encode.proofs.small.source.is_free.Goals as goal

pub returns-then-is_none-clause-free : goal.returns-then-is_none-clause-free
returns-then-is_none-clause-free c = λ t. record {
  main = absent c.args.model.now.names (codes "main") c.position.result c.is_none.result
      c.position.ensures c.is_none.ensures c.if-is_none.true;
  putchar =
      absent c.args.model.now.names (codes "putchar") c.position-then-is_none.result
      c.is_none-then-is_none.result c.position-then-is_none.ensures c.is_none-then-is_none.ensures
      t;
}

pub returns-then-is_none-clause-taken : goal.returns-then-is_none-clause-taken
returns-then-is_none-clause-taken c = λ free.
    no_place c.args.model.now.names (codes "putchar") c.position-then-is_none.result
    c.is_none-then-is_none.result c.position-then-is_none.ensures c.is_none-then-is_none.ensures
    free.putchar

pub returns-else-is_none-clause-taken : goal.returns-else-is_none-clause-taken
returns-else-is_none-clause-taken c = λ free.
    no_place c.args.model.now.names (codes "main") c.position.result c.is_none.result
    c.position.ensures c.is_none.ensures free.main
