use Rattle.std.proofs.Common.{rules}
use Rattle.hv_base.specs.Puncts.{spelling_of, puncts}
use Rattle.hv_base.proofs.PunctsLemmas.{read_back}
use Rattle.hv_base.proofs.SpellingsLemmas.{found, some, none}
use Rattle.hv_base.proofs.punct.Punct.from_spelling.Goals as goal

pub returns-clause-value : goal.returns-clause-value
returns-clause-value c =
    found spelling_of puncts c.args.text.now _ _ _ (search rules) c.spelt.ensures
    c.beginning_with.ensures

pub returns-clause-some : goal.returns-clause-some
returns-clause-some c = some spelling_of puncts c.args.text.now _ (returns-clause-value c)

pub returns-clause-none : goal.returns-clause-none
returns-clause-none c =
    none spelling_of puncts read_back c.args.text.now _ (returns-clause-value c)
