-- Small sources: a `main` of `putchar` statements within groups, and what preprocessing keeps of
-- them.
-- Every other source isn't a small one; nothing else of preprocessing or of C is defined here.
use Rattle.std.specs.Prelude.{ℕ, suc, ◌==◌, ◌≡◌, ◌<◌, Bool, true, false, cond, not, ◌&&◌, nat_lt, List, [], ◌∷◌, ◌++◌, length, map, codes, decimal, Contains, IsTrue, All}
use Rattle.std.specs.List.{slice_split, list_all, list_any}
use Rattle.hv_base.specs.Ascii.{is_newline}
use Rattle.hv_base.specs.declared.limits.TheConstants.{MOST_GROUPS}
use Rattle.hv_plain.specs.Bytes.{trimmed}

-- a line of the body
pub data SourceLine : Type 0 where
  put : ℕ → SourceLine
  if_defined : List ℕ → SourceLine
  if_not_defined : List ℕ → SourceLine
  otherwise : SourceLine
  end_if : SourceLine

-- whether the line writes a byte
abbrev pub is_put : SourceLine → Bool
is_put (put _) = true
is_put (if_defined _) = false
is_put (if_not_defined _) = false
is_put otherwise = false
is_put end_if = false

-- how a line is spelled (6.10.1, 6.5.2.2)
abbrev pub spelled : SourceLine → List ℕ
spelled (put n) = codes "putchar(" ++ decimal n ++ codes ");"
spelled (if_defined name) = codes "#ifdef " ++ name
spelled (if_not_defined name) = codes "#ifndef " ++ name
spelled otherwise = codes "#else"
spelled end_if = codes "#endif"

-- a line writes a byte, and speaks only of options of the model
abbrev pub IsSourceLine : List (List ℕ) → SourceLine → Type 0
IsSourceLine options (put n) = n < 256
IsSourceLine options (if_defined name) = Contains options name
IsSourceLine options (if_not_defined name) = Contains options name
IsSourceLine options otherwise = Unit {0}
IsSourceLine options end_if = Unit {0}

-- every group is closed, has at most one `#else`, and at most `MOST_GROUPS` are open (6.10);
-- `groups` says of each open group, the innermost first, whether its `#else` was seen
abbrev pub is_nested : List Bool → List SourceLine → Bool
is_nested [] [] = true
is_nested (_ ∷ _) [] = false
is_nested groups (put _ ∷ lines) = is_nested groups lines
is_nested groups (if_defined _ ∷ lines) =
    nat_lt (length groups) MOST_GROUPS && is_nested (false ∷ groups) lines
is_nested groups (if_not_defined _ ∷ lines) =
    nat_lt (length groups) MOST_GROUPS && is_nested (false ∷ groups) lines
is_nested [] (otherwise ∷ lines) = false
is_nested (had_else ∷ groups) (otherwise ∷ lines) = not had_else && is_nested (true ∷ groups) lines
is_nested [] (end_if ∷ lines) = false
is_nested (_ ∷ groups) (end_if ∷ lines) = is_nested groups lines

-- the lines of a source with this body, blanks at their ends aside
abbrev pub source_lines : List SourceLine → List (List ℕ)
source_lines body =
    codes "int putchar(int);" ∷ codes "int main(void) {" ∷ (map spelled body ++ codes "}" ∷ [])

-- the bytes are a small source with this body: each line is ended by a newline, and no byte follows
pub record IsSmallSource (options : List (List ℕ)) (bytes : List ℕ)
    (body : List SourceLine) : Type 0 where
  pub texts : List (List ℕ)
  pub cut : slice_split is_newline bytes ≡ texts ++ [] ∷ []
  pub lines : map trimmed texts ≡ source_lines body
  pub each_line : All (IsSourceLine options) body
  pub nested : IsTrue (is_nested [] body)
  pub main_is_free : ¬ (Contains options (codes "main"))
  pub putchar_is_free : ¬ (Contains options (codes "putchar"))

-- the bytes that the lines write which preprocessing keeps (6.10.1); `on` says which names are
-- defined, and `groups` of each open group, the innermost first, whether it is active
abbrev pub kept : (List ℕ → Bool) → List Bool → List SourceLine → List ℕ
kept on groups [] = []
kept on groups (put n ∷ lines) =
    cond (list_all (λ read. read) groups) (n ∷ kept on groups lines) (kept on groups lines)
kept on groups (if_defined name ∷ lines) = kept on (on name ∷ groups) lines
kept on groups (if_not_defined name ∷ lines) = kept on (not (on name) ∷ groups) lines
kept on [] (otherwise ∷ lines) = kept on [] lines
kept on (read ∷ groups) (otherwise ∷ lines) = kept on (not read ∷ groups) lines
kept on [] (end_if ∷ lines) = kept on [] lines
kept on (_ ∷ groups) (end_if ∷ lines) = kept on groups lines

-- the bytes that lines write, kept or not
abbrev pub bytes_of : List SourceLine → List ℕ
bytes_of [] = []
bytes_of (put n ∷ lines) = n ∷ bytes_of lines
bytes_of (if_defined _ ∷ lines) = bytes_of lines
bytes_of (if_not_defined _ ∷ lines) = bytes_of lines
bytes_of (otherwise ∷ lines) = bytes_of lines
bytes_of (end_if ∷ lines) = bytes_of lines

-- the lines, of which each one that writes a byte writes its own number instead, counted from
-- `first`
abbrev pub numbered : ℕ → List SourceLine → List SourceLine
numbered first [] = []
numbered first (put _ ∷ lines) = put first ∷ numbered (suc first) lines
numbered first (if_defined name ∷ lines) = if_defined name ∷ numbered first lines
numbered first (if_not_defined name ∷ lines) = if_not_defined name ∷ numbered first lines
numbered first (otherwise ∷ lines) = otherwise ∷ numbered first lines
numbered first (end_if ∷ lines) = end_if ∷ numbered first lines

-- whether preprocessing keeps the line of this number among those that write a byte
abbrev pub keeps_line : (List ℕ → Bool) → List SourceLine → ℕ → Bool
keeps_line on body number =
    list_any (λ kept_number. kept_number == number) (kept on [] (numbered 0 body))
