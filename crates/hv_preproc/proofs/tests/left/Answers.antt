use Rattle.std.proofs.Common.{All, List, [], ◌∷◌}
use Rattle.std.proofs.lemmas.List.Elements.{All-cons, All-nil}
use Rattle.hv_cond.specs.Diagram.{AllNodes, Diagram, IsNode}
use Rattle.hv_toks.specs.Division.{conditions}
use Rattle.hv_toks.specs.declared.parted.Failing.{Failing}
use Rattle.hv_preproc.proofs.tests.left.Goals as goal

entries_are_nodes : (d : Diagram) (failing : List Failing) → AllNodes d (conditions failing)
    → All (λ (f : Failing). IsNode d f.cond) failing
entries_are_nodes d [] nodes = All-nil (λ (f : Failing). IsNode d f.cond)
entries_are_nodes d (f ∷ failing) nodes = All-cons (λ (f : Failing). IsNode d f.cond) f failing
    nodes.0 (entries_are_nodes d failing nodes.1)

pub written-requires-clause-entries : goal.written-requires-clause-entries
written-requires-clause-entries c = entries_are_nodes c.preprocess_all.new.store
    c.in-Ok.parted.failing c.in-Ok.ensures.sorted.divides.nodes.1
