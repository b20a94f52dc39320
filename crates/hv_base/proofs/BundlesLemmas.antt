-- Bundles as contracts see them, and the maps with keys of any type that hold them.
use Rattle.std.proofs.Common.{◌≡◌, ℕ, zero, suc, ◌<◌, ◌+◌, Bool, true, false, cond, List, [], ◌∷◌, ◌++◌, map, length, take, get_or, refl, sym, ◌∙◌, ap, Option, Some, None, slice_get}
use Rattle.std.specs.Option.{option_map}
use Rattle.std.specs.List.{position}
use Rattle.std.specs.Map.{lookup, keys_of}
use Rattle.std.specs.Str.{bytes_eq}
use Rattle.std.proofs.lemmas.List.{map-append}
use Rattle.hv_base.proofs.Lists.{position-map}
use Rattle.indexmap.specs.IndexMap.{insert_entry}

module _ {K X : Type 0} (items : K → List ℕ) where
  -- what a contract sees of the entries
  abbrev pub seen : List (K × X) → List (List ℕ × X)
  seen es = map (λ e. (items e.0, e.1)) es

  pub lookup-seen : (name : List ℕ) (es : List (K × X))
      → lookup (bytes_eq name) (seen es) ≡ lookup (λ k. bytes_eq name (items k)) es
  lookup-seen name [] = refl
  lookup-seen name (e ∷ es) =
      ap (λ (o : Option X). cond (bytes_eq name (items e.0)) (Some e.1) o) (lookup-seen name es)

  names-seen : (es : List (K × X)) → map (λ e. e.0) (seen es) ≡ map items (keys_of es)
  names-seen [] = refl
  names-seen (e ∷ es) = ap (λ names. items e.0 ∷ names) (names-seen es)

  pub position-seen : (name : List ℕ) (es : List (K × X))
      → position (bytes_eq name) (map (λ e. e.0) (seen es))
      ≡ position (λ k. bytes_eq name (items k)) (keys_of es)
  position-seen name es = ap (position (bytes_eq name)) (names-seen es)
      ∙ position-map (bytes_eq name) items (keys_of es)

  pub name-seen : (es : List (K × X)) (i : ℕ)
      → slice_get (map (λ e. e.0) (seen es)) i ≡ option_map (λ e. items e.0) (slice_get es i)
  name-seen [] i = refl
  name-seen (e ∷ es) zero = refl
  name-seen (e ∷ es) (suc i) = name-seen es i

  -- a new name goes last
  pub added : (es now : List (K × X)) (key : K) (name : List ℕ) (x : X) → items key ≡ name
      → now ≡ es ++ (key, x) ∷ [] → seen now ≡ seen es ++ (name, x) ∷ []
  added es now key name x is e = ap seen e ∙ map-append (λ e. (items e.0, e.1)) es ((key, x) ∷ [])
      ∙ ap (λ n. seen es ++ (n, x) ∷ []) is
