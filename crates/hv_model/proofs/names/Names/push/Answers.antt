use Rattle.std.proofs.Common.{◌≡◌, ◌<◌, ◌≤◌, Bool, true, false, cond, List, [], ◌∷◌, ◌++◌, map, length, arith, length-append, String, Global, ap}
use Rattle.std.specs.Prelude.{IsTrue}
use Rattle.std.specs.String.{string_bytes}
use Rattle.std.proofs.lemmas.List.{map-append}
use Rattle.std.proofs.lemmas.List.Elements.{All-push}
use Rattle.hv_model.specs.Name.{is_option_name, AllOptionNames, are_distinct}
use Rattle.std.specs.List.{list_any}
use Rattle.std.specs.Str.{bytes_eq}
use Rattle.hv_model.proofs.ConfigLemmas.{are_distinct-push}
use Rattle.hv_base.proofs.Lists.{length-map}
use Rattle.hv_model.proofs.NameLemmas.{IsUtf8-option_name}
use Rattle.hv_model.proofs.names.Names.push.Goals as goal

pub unreachable-requires : goal.unreachable-requires
unreachable-requires c =
    c.in_default.ensures.cases.0 (IsUtf8-option_name c.args.name.now c.requires.named)

kept : (ok : Bool) (items now : List (String Global)) (option : String Global)
    → now ≡ cond ok (items ++ option ∷ []) items
    → AllOptionNames (map string_bytes items) → are_distinct (map string_bytes items) ≡ true
    → length items < 256 → IsTrue (is_option_name (string_bytes option))
    → list_any (bytes_eq (string_bytes option)) (map string_bytes items) ≡ false
    → AllOptionNames (map string_bytes now) × (length now ≤ 256)
    × IsTrue (are_distinct (map string_bytes now))
kept true items now option e all distinct room named fresh =
    rw e (
      rw map-append (All-push (λ name. IsTrue (is_option_name name)) (map string_bytes items)
          (string_bytes option) all named),
      omega (arith, length-append items (option ∷ [])),
      rw map-append (are_distinct-push (map string_bytes items) (string_bytes option) distinct
          fresh),
    )
kept false items now option e all distinct room named fresh = rw e (all, omega arith, distinct)

pub invariant_of-self : goal.invariant_of-self
invariant_of-self c =
    kept _ c.self.inside.names.items c.push.new.self.items c.in-Ok-from_str.option
    c.push.ensures.items c.self.invariant.0 c.self.invariant.2
    (omega (arith, length-map string_bytes c.self.inside.names.items, ap length c.self.view_is))
    (rw (c.in-Ok-from_str.ensures.ok, c.in-Ok.ensures.cases.0) c.requires.named)
    (rw (c.in-Ok-from_str.ensures.ok, c.in-Ok.ensures.cases.0, c.self.view_is) c.requires.fresh)
