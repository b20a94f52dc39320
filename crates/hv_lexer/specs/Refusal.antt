-- What an answer of the lexer says.
use Rattle.std.specs.Prelude.{◌≡◌, List, Result, Ok, Err}
use Rattle.hv_lexer.specs.declared.refusal.LexRefusal.{LexRefusal}
use Rattle.hv_lexer.specs.declared.refusal.LexRefusal.TheVariants.{OpenComment, Memory}
use Rattle.hv_toks.specs.declared.token.PpTok.{PpTok}
use Rattle.hv_toks.specs.Cutting.{Cutting, tokens, open_comment}

-- the cutting ends at the comment that is refused; want of memory says nothing of it
abbrev pub IsRefusalOf : (Cutting → Type 0) → LexRefusal → Type 0
IsRefusalOf IsCutting (OpenComment offset) = IsCutting (open_comment offset)
IsRefusalOf IsCutting Memory = Unit {0}

-- the answer tells this cutting, or memory was wanted
abbrev pub Tells : Result (List PpTok) LexRefusal → Cutting → Type 0
Tells (Ok list) cutting = cutting ≡ tokens list
Tells (Err (OpenComment offset)) cutting = cutting ≡ open_comment offset
Tells (Err Memory) cutting = Unit {0}
