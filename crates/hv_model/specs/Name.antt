-- Names of options.
use Rattle.std.specs.Prelude.{ℕ, Bool, true, false, not, ◌&&◌, nat_eq, List, [], ◌∷◌, codes, All, IsTrue}
use Rattle.std.specs.List.{list_all, list_any, starts_with}
use Rattle.std.specs.Str.{bytes_eq}
use Rattle.hv_base.specs.Ascii.{is_nondigit, is_identifier_byte, is_among}

-- an identifier (6.4.2.1, without universal character names)
abbrev pub is_name : List ℕ → Bool
is_name [] = false
is_name (byte ∷ bytes) = is_nondigit byte && list_all is_identifier_byte bytes

-- SAME: reserved names
-- the keywords (6.4.1), then the names that preprocessing keeps for itself (6.10.1, 6.10.3, 6.10.8,
-- 6.10.9) and
-- `__func__` (6.4.2.2)
abbrev pub reserved_names : List (List ℕ)
reserved_names =
    codes "auto" ∷ codes "break" ∷ codes "case" ∷ codes "char" ∷ codes "const"
    ∷ codes "continue" ∷ codes "default" ∷ codes "do" ∷ codes "double" ∷ codes "else"
    ∷ codes "enum" ∷ codes "extern" ∷ codes "float" ∷ codes "for" ∷ codes "goto" ∷ codes "if"
    ∷ codes "inline" ∷ codes "int" ∷ codes "long" ∷ codes "register" ∷ codes "restrict"
    ∷ codes "return" ∷ codes "short" ∷ codes "signed" ∷ codes "sizeof" ∷ codes "static"
    ∷ codes "struct" ∷ codes "switch" ∷ codes "typedef" ∷ codes "union" ∷ codes "unsigned"
    ∷ codes "void" ∷ codes "volatile" ∷ codes "while" ∷ codes "_Bool" ∷ codes "_Complex"
    ∷ codes "_Imaginary" ∷ codes "defined" ∷ codes "__VA_ARGS__" ∷ codes "__STDC__"
    ∷ codes "__STDC_HOSTED__" ∷ codes "__STDC_VERSION__" ∷ codes "__FILE__" ∷ codes "__LINE__"
    ∷ codes "__DATE__" ∷ codes "__TIME__" ∷ codes "_Pragma" ∷ codes "__func__" ∷ []

-- a name that names no option, whatever the model
abbrev pub is_reserved : List ℕ → Bool
is_reserved name = is_among name reserved_names

-- a name that a model may give to an option
abbrev pub is_option_name : List ℕ → Bool
is_option_name name = is_name name && not (starts_with nat_eq name (codes "hv_"))
    && not (is_reserved name)

-- each may be given to an option
abbrev pub AllOptionNames : List (List ℕ) → Type 0
AllOptionNames names = All (λ name. IsTrue (is_option_name name)) names

-- no two names are the same
abbrev pub are_distinct : List (List ℕ) → Bool
are_distinct [] = true
are_distinct (name ∷ names) = not (list_any (bytes_eq name) names) && are_distinct names
