-- The tokens of the reader.
use Rattle.hv_model.specs.Token as token
use Rattle.hv_model.specs.declared.scan.Token.{Token}
use Rattle.hv_model.specs.declared.scan.Token.TheVariants.{Implies, Either, Both, Negate, Open, Close, Word, Other}

-- the token that the code's token is
abbrev pub said : Token → token.Token
said Implies = token.implies
said Either = token.either
said Both = token.both
said Negate = token.negate
said Open = token.open_
said Close = token.close
said (Word name) = token.word name.now
said Other = token.other
