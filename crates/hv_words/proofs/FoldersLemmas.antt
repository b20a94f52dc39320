-- Lemmas on the folders that a text names.
use Rattle.std.specs.Prelude.{ℕ, ◌≡◌, ◌&&◌, not, Bool, cond, List, length, map, nat_le, Some, None, String}
use Rattle.std.specs.List.{list_all}
use Rattle.std.specs.String.{string_bytes}
use Rattle.std.proofs.Common.{ap, ap₂, sym, ◌∙◌, Global}
use Rattle.hv_base.specs.Ascii.{is_empty}
use Rattle.hv_base.specs.declared.limits.TheConstants.{MOST_FOLDERS}
use Rattle.hv_base.proofs.Lists.{length-map, list_all-map}
use Rattle.hv_words.specs.Folders.{folders, have_bytes, names_in}

-- the folders of a text whose names these are
pub folders_of_names : (text : List ℕ) (names : List (String Global)) (b : Bool)
    → map string_bytes names ≡ names_in text
    → (list_all (λ name. not (is_empty (string_bytes name))) names
    && nat_le (length names) MOST_FOLDERS) ≡ b
    → folders text ≡ cond b (Some (map string_bytes names)) None
folders_of_names text names b e is =
    ap (λ found. cond (have_bytes found && nat_le (length found) MOST_FOLDERS) (Some found) None)
    (sym e)
    ∙ ap (λ (v : Bool). cond v (Some (map string_bytes names)) None)
    (ap₂ (λ (v : Bool) (n : ℕ). v && nat_le n MOST_FOLDERS)
    (list_all-map (λ name. not (is_empty name)) string_bytes names)
    (length-map string_bytes names)
    ∙ is)
