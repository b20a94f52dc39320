-- No two keywords are spelt alike, and spellings are read back.
use Rattle.std.proofs.Common.{◌≡◌, refl, Some}
use Rattle.hv_base.specs.declared.keyword.Keyword.{Keyword}
use Rattle.hv_base.specs.declared.keyword.Keyword.TheVariants.{Auto, Break, Case, Char, Const, Continue, Default, Do, Else, Enum, Extern, For, If, Inline, Int, Long, Register, Restrict, Return, Short, Signed, Sizeof, Static, Struct, Switch, Typedef, Union, Unsigned, Void, While, Bool}
use Rattle.hv_base.specs.Keywords.{spelling_of, keyword_of}

pub read_back : (it : Keyword) → keyword_of (spelling_of it) ≡ Some it
read_back Auto = refl
read_back Break = refl
read_back Case = refl
read_back Char = refl
read_back Const = refl
read_back Continue = refl
read_back Default = refl
read_back Do = refl
read_back Else = refl
read_back Enum = refl
read_back Extern = refl
read_back For = refl
read_back If = refl
read_back Inline = refl
read_back Int = refl
read_back Long = refl
read_back Register = refl
read_back Restrict = refl
read_back Return = refl
read_back Short = refl
read_back Signed = refl
read_back Sizeof = refl
read_back Static = refl
read_back Struct = refl
read_back Switch = refl
read_back Typedef = refl
read_back Union = refl
read_back Unsigned = refl
read_back Void = refl
read_back While = refl
read_back Bool = refl
