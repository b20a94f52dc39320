-- How far what a text begins with goes.
use Rattle.std.specs.Prelude.{ℕ, ◌<◌}
use Rattle.hv_toks.specs.declared.prefix.Prefix.{Prefix}
use Rattle.hv_toks.specs.declared.prefix.Prefix.TheVariants.{End, WhiteSpace, Newline, Comment, OpenComment, Token}

-- the number of its bytes; of a comment that is not closed, those that open it
abbrev pub len_of : Prefix → ℕ
len_of End = 0
len_of WhiteSpace = 1
len_of Newline = 1
len_of (Comment n) = n
len_of OpenComment = 2
len_of (Token m) = m.len

-- it has some bytes, unless it is the end
abbrev pub IsSome : Prefix → Type 0
IsSome End = Unit {0}
IsSome WhiteSpace = Unit {0}
IsSome Newline = Unit {0}
IsSome (Comment n) = 0 < n
IsSome OpenComment = Unit {0}
IsSome (Token m) = 0 < m.len
