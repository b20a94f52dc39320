-- Tokens of a list that is shared.
use Rattle.std.specs.Prelude.{List, [], Option, Some, None}
use Rattle.std.specs.Global.{Global}
use Rattle.std.specs.declared.rc.Rc.{Rc}
use Rattle.hv_rescan.specs.declared.token.Token.{Token}

-- the tokens of a list that is shared; none where there is no list
abbrev pub listed : Option (Rc (List Token) Global) → List Token
listed None = []
listed (Some list) = list.value
