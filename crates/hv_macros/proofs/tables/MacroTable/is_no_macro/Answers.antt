use Rattle.hv_macros.proofs.TableLemmas.{empty_from, empty_to, no_macro_exactly, nowhere_from}
use Rattle.hv_macros.proofs.tables.MacroTable.is_no_macro.Goals as goal

pub returns-clause-nowhere : goal.returns-clause-nowhere
returns-clause-nowhere c = λ is diagram values.
    nowhere_from diagram c.args.self.now c.args.name.now c.find.result.now c.find.ensures
    (empty_from c.find.result.now c.is_empty.result c.is_empty.ensures is) values

pub returns-clause-exact : goal.returns-clause-exact
returns-clause-exact c = λ diagram t.
    let same =
    no_macro_exactly diagram c.args.self.now c.args.name.now c.find.result.now c.find.ensures t in (
      λ is. same.0 (empty_from c.find.result.now c.is_empty.result c.is_empty.ensures is),
      λ none.
          empty_to c.find.result.now c.is_empty.result c.is_empty.ensures (same.1 none),
    )
