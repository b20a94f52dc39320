-- No two punctuators are spelt alike, and spellings are read back.
use Rattle.std.proofs.Common.{◌≡◌, refl, Some}
use Rattle.hv_base.specs.declared.punct.Punct.{Punct}
use Rattle.hv_base.specs.declared.punct.Punct.TheVariants.{LeftBracket, RightBracket, LeftParenthesis, RightParenthesis, LeftBrace, RightBrace, Dot, Arrow, PlusPlus, MinusMinus, And, Star, Plus, Minus, Tilde, Not, Slash, Percent, LeftShift, RightShift, Less, Greater, LessEqual, GreaterEqual, EqualEqual, NotEqual, Caret, Or, AndAnd, OrOr, Question, Colon, Semicolon, Ellipsis, Equal, StarEqual, SlashEqual, PercentEqual, PlusEqual, MinusEqual, LeftShiftEqual, RightShiftEqual, AndEqual, CaretEqual, OrEqual, Comma, Hash, HashHash}
use Rattle.hv_base.specs.Puncts.{spelling_of, punct_of}

pub read_back : (it : Punct) → punct_of (spelling_of it) ≡ Some it
read_back LeftBracket = refl
read_back RightBracket = refl
read_back LeftParenthesis = refl
read_back RightParenthesis = refl
read_back LeftBrace = refl
read_back RightBrace = refl
read_back Dot = refl
read_back Arrow = refl
read_back PlusPlus = refl
read_back MinusMinus = refl
read_back And = refl
read_back Star = refl
read_back Plus = refl
read_back Minus = refl
read_back Tilde = refl
read_back Not = refl
read_back Slash = refl
read_back Percent = refl
read_back LeftShift = refl
read_back RightShift = refl
read_back Less = refl
read_back Greater = refl
read_back LessEqual = refl
read_back GreaterEqual = refl
read_back EqualEqual = refl
read_back NotEqual = refl
read_back Caret = refl
read_back Or = refl
read_back AndAnd = refl
read_back OrOr = refl
read_back Question = refl
read_back Colon = refl
read_back Semicolon = refl
read_back Ellipsis = refl
read_back Equal = refl
read_back StarEqual = refl
read_back SlashEqual = refl
read_back PercentEqual = refl
read_back PlusEqual = refl
read_back MinusEqual = refl
read_back LeftShiftEqual = refl
read_back RightShiftEqual = refl
read_back AndEqual = refl
read_back CaretEqual = refl
read_back OrEqual = refl
read_back Comma = refl
read_back Hash = refl
read_back HashHash = refl
