use Rattle.std.proofs.Common.{[], ap, ◌∙◌}
use Rattle.std.specs.Prelude.{unwrap_or}
use Rattle.std.specs.Map.{lookup}
use Rattle.std.specs.Str.{bytes_eq}
use Rattle.hv_macros.proofs.TableLemmas.{put_kept}
use Rattle.hv_macros.proofs.tables.MacroTable.put.Goals as goal

pub returns-clause-put : goal.returns-clause-put
returns-clause-put c = λ other.
    ap (λ es. unwrap_or (lookup (λ k. bytes_eq other k.items) es) []) c.in_ok-insert.ensures.entries
    ∙ put_kept (λ k. k.items) c.args.self.now.names.entries c.in_ok-key.key c.args.alternatives
    c.args.name.now other c.in_ok-key.ensures.items
