use Rattle.std.proofs.Common.{◌≡◌, sym, ap, ◌∙◌, None, ◌++◌, ◌∷◌, [], List, ℕ, map}
use Rattle.std.specs.Map.{lookup}
use Rattle.std.specs.Str.{bytes_eq}
use Rattle.std.specs.String.{string_bytes, string_eq}
use Rattle.indexmap.proofs.CallerLemmas.{insert_entry-new}
use Rattle.hv_base.specs.Bundles as bundles
use Rattle.hv_base.specs.declared.held.Held.{Held}
use Rattle.hv_base.proofs.BundlesLemmas.{lookup-seen, added}
use Rattle.hv_base.proofs.bundle.Bundle.add.Goals as goal

pub returns-clause-ok : goal.returns-clause-ok
returns-clause-ok c =
    let absent : lookup (λ k. bytes_eq c.args.name.now (string_bytes k)) c.self.inside.files.entries
    ≡ None =
    sym (lookup-seen (λ k. string_bytes k) c.args.name.now c.self.inside.files.entries)
    ∙ ap (λ b. bundles.held_at b c.args.name.now) c.self.view_is
    ∙ c.requires.new in
    let with_entries : List (List ℕ × Held) → bundles.NamedFiles = λ es. record {
      main = string_bytes c.self.inside.main;
      dirs = map (λ d. string_bytes d) c.self.inside.dirs.items;
      entries = es;
    } in
    let gone =
    ap (λ n. lookup (λ k. bytes_eq n (string_bytes k)) c.self.inside.files.entries)
    c.in_ok-key.ensures.ok ∙ absent in
    ap with_entries
    (added (λ k. string_bytes k) c.self.inside.files.entries _ c.in_ok-key.key c.args.name.now
    c.args.held c.in_ok-key.ensures.ok
    (c.in_ok-insert.ensures.entries
    ∙ insert_entry-new string_eq c.self.inside.files c.in_ok-key.key c.args.held gone))
    ∙ ap (λ (b : bundles.NamedFiles). record b
    { entries = b.entries ++ (c.args.name.now, c.args.held) ∷ [] }) c.self.view_is
