-- What pieces are to the grammar, and what a refusal of an element's own tokens says.
use Rattle.std.specs.Prelude.{List, [], map}
use Rattle.hv_base.specs.declared.place.Place.{Place}
use Rattle.hv_grammar.specs.Symbols.{Token, token_at, hole}
use Rattle.hv_grammar.specs.Elements as elements
use Rattle.hv_grammar.specs.Refusal.{Limits}
use Rattle.hv_grammar.specs.Grammar.{RefusesElement}
use Rattle.hv_cparse.specs.Control as control
use Rattle.hv_cparse.specs.declared.fault.ParseFault.{ParseFault}
use Rattle.hv_cparse.specs.declared.fault.ParseFault.TheVariants.{Plain, Memory}
use Rattle.hv_cparse.specs.declared.part.Standing.{Standing}
use Rattle.hv_cparse.specs.declared.part.Standing.TheVariants.{External, Item, Nested}
use Rattle.hv_reader.specs.declared.piece.Piece.{Piece}
use Rattle.hv_reader.specs.declared.piece.Piece.TheVariants.{Token as OfToken, Hole}

-- the place of a hole, of which no tree has any
abbrev pub hole_place : Place
hole_place = record { stack = []; file = 0; offset = 0 }

-- a piece as a token of the grammar
abbrev pub token_of : Piece → Token
token_of (OfToken t) = control.token_of t
token_of Hole = token_at hole_place hole

-- pieces as tokens of the grammar
abbrev pub tokens_of : List Piece → List Token
tokens_of ts = map token_of ts

-- where an element stands, to the grammar
abbrev pub standing_in : Standing → elements.Standing
standing_in External = elements.External
standing_in Item = elements.Item
standing_in Nested = elements.Nested

-- the fault says the first refusal of an element's own tokens, or that memory ran out
abbrev pub IsRefusal : Limits → elements.Standing → List Token → ParseFault → Type 0
IsRefusal l s ts (Plain at why) = RefusesElement l s ts at why
IsRefusal l s ts Memory = Unit {0}
