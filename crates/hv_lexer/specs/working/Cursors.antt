-- What a cursor has left of its file after the splicing of lines.
use Rattle.std.specs.Prelude.{ℕ, List, ◌∷◌, map, drop}
use Rattle.hv_toks.specs.Splices.{Mark, marks_from}
use Rattle.hv_lexer.specs.declared.cursor.Cursor.{Cursor}
use Rattle.hv_lexer.specs.declared.cursor.Next.{Next}

-- the bytes that stay from there on, with their offsets
unfoldable pub marks_of : Cursor → List Mark
marks_of cursor = marks_from 0 cursor.at (drop cursor.at cursor.bytes.now)

-- those bytes alone
unfoldable pub text_of : Cursor → List ℕ
text_of cursor = map (λ mark. mark.byte) (marks_of cursor)

-- their offsets alone
unfoldable pub places_of : Cursor → List ℕ
places_of cursor = map (λ mark. mark.offset) (marks_of cursor)

-- a byte, and the bytes after it
abbrev pub text_from : Next → List ℕ
text_from next = next.byte ∷ text_of next.rest
