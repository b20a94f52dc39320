-- The keywords of the profile and their spellings (6.4.1). Not in here: `goto`, `float`, `double`,
-- `volatile`, `_Complex` and `_Imaginary`, which the profile leaves out.
use Rattle.std.specs.Prelude.{ℕ, List, [], ◌∷◌, codes, Option, find}
use Rattle.std.specs.Str.{bytes_eq}
use Rattle.hv_base.specs.declared.keyword.Keyword.{Keyword}
use Rattle.hv_base.specs.declared.keyword.Keyword.TheVariants.{Auto, Break, Case, Char, Const, Continue, Default, Do, Else, Enum, Extern, For, If, Inline, Int, Long, Register, Restrict, Return, Short, Signed, Sizeof, Static, Struct, Switch, Typedef, Union, Unsigned, Void, While, Bool}

-- how a keyword is spelt
-- SAME: keywords
abbrev pub spelling_of : Keyword → List ℕ
spelling_of Auto = codes "auto"
spelling_of Break = codes "break"
spelling_of Case = codes "case"
spelling_of Char = codes "char"
spelling_of Const = codes "const"
spelling_of Continue = codes "continue"
spelling_of Default = codes "default"
spelling_of Do = codes "do"
spelling_of Else = codes "else"
spelling_of Enum = codes "enum"
spelling_of Extern = codes "extern"
spelling_of For = codes "for"
spelling_of If = codes "if"
spelling_of Inline = codes "inline"
spelling_of Int = codes "int"
spelling_of Long = codes "long"
spelling_of Register = codes "register"
spelling_of Restrict = codes "restrict"
spelling_of Return = codes "return"
spelling_of Short = codes "short"
spelling_of Signed = codes "signed"
spelling_of Sizeof = codes "sizeof"
spelling_of Static = codes "static"
spelling_of Struct = codes "struct"
spelling_of Switch = codes "switch"
spelling_of Typedef = codes "typedef"
spelling_of Union = codes "union"
spelling_of Unsigned = codes "unsigned"
spelling_of Void = codes "void"
spelling_of While = codes "while"
spelling_of Bool = codes "_Bool"

-- all of them
-- SAME: keywords
abbrev pub keywords : List Keyword
keywords = Auto ∷ Break ∷ Case ∷ Char ∷ Const ∷ Continue ∷ Default ∷ Do ∷ Else ∷ Enum ∷
    Extern ∷ For ∷ If ∷ Inline ∷ Int ∷ Long ∷ Register ∷ Restrict ∷ Return ∷ Short ∷ Signed ∷
    Sizeof ∷ Static ∷ Struct ∷ Switch ∷ Typedef ∷ Union ∷ Unsigned ∷ Void ∷ While ∷ Bool ∷ []

-- the keyword with this spelling; `None` where there is none
abbrev pub keyword_of : List ℕ → Option Keyword
keyword_of text = find (λ word. bytes_eq text (spelling_of word)) keywords
