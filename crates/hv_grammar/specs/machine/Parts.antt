-- Where the machine is in an element's own production, outside the phrases that it has frames for.
use Rattle.std.specs.Prelude.{ℕ, Bool, true, false, List, [], ◌∷◌, Option, Some}
use Rattle.hv_base.specs.declared.place.Place.{Place}
use Rattle.hv_base.specs.declared.keyword.Keyword.TheVariants as keywords
use Rattle.hv_base.specs.declared.punct.Punct.TheVariants as puncts
use Rattle.hv_ctree.specs.tree.Expressions.{Expr, Specifiers, place_of}
use Rattle.hv_ctree.specs.tree.Statements.{Declaration, declaration, InitDeclarators, Skeleton, hollow_declaration, hollow_case, hollow_expression, hollow_switch, hollow_while, hollow_do_while, hollow_for, hollow_for_declaration, hollow_return}
use Rattle.hv_grammar.specs.Symbols.{Symbol, keyword, sign, hole}

-- where a declaration stands: it is an element, or the first clause of a `for`
pub data Setting : Type 0 where
  alone : Setting
  in_for : Place → Setting

-- the first clause of a `for`
pub data FirstClause : Type 0 where
  by_expression : Option Expr → FirstClause
  by_declaration : Declaration → FirstClause

-- an expression that may be missing, with what was read of its statement before it
pub data Optional : Type 0 where
  for_first : Place → Optional
  for_second : Place → FirstClause → Optional
  for_third : Place → FirstClause → Option Expr → Optional
  of_return : Place → Optional

-- an expression of a statement, with what was read of the statement before it
pub data Part : Type 0 where
  of_case : Place → Part
  of_expression : Part
  of_if : Place → Part
  of_switch : Place → Part
  of_while : Place → Part
  of_do : Place → Part
  optional : Optional → Part

-- the terminals that an element fixes
pub data Fixed : Type 0 where
  the_hole : Fixed
  the_colon : Fixed
  the_semicolon : Fixed
  the_opening : Fixed
  the_closing : Fixed
  the_right_brace : Fixed
  the_while : Fixed
  the_else : Fixed

-- where the machine is in an element; nothing is left to be read after `Await []`
pub data Spot : Type 0 where
  -- before the element
  Start : Spot
  -- before these terminals, which end the element
  Await : List Fixed → Skeleton → Spot
  -- before these terminals, and then the expression
  Opening : List Fixed → Part → Spot
  -- before the statement of an `if`, and after it
  AfterIf : Place → Expr → Spot
  MayElse : Place → Expr → Spot
  -- after `for`, and after its `(`
  ForOpening : Place → Spot
  ForStart : Place → Spot
  -- before an expression that may be missing
  Before : Optional → Spot

-- the terminal
abbrev pub fixed_symbol : Fixed → Symbol
fixed_symbol the_hole = hole
fixed_symbol the_colon = sign puncts.Colon
fixed_symbol the_semicolon = sign puncts.Semicolon
fixed_symbol the_opening = sign puncts.LeftParenthesis
fixed_symbol the_closing = sign puncts.RightParenthesis
fixed_symbol the_right_brace = sign puncts.RightBrace
fixed_symbol the_while = keyword keywords.While
fixed_symbol the_else = keyword keywords.Else

-- whether a symbol is the terminal
abbrev pub meets : Fixed → Symbol → Bool
meets the_hole hole = true
meets the_colon (sign puncts.Colon) = true
meets the_semicolon (sign puncts.Semicolon) = true
meets the_opening (sign puncts.LeftParenthesis) = true
meets the_closing (sign puncts.RightParenthesis) = true
meets the_right_brace (sign puncts.RightBrace) = true
meets the_while (keyword keywords.While) = true
meets the_else (keyword keywords.Else) = true
meets _ _ = false

-- the level that is wanted of the expression
abbrev pub wanted : Part → ℕ
wanted (of_case p) = 2
wanted _ = 0

-- what stands after an expression that may be missing
abbrev pub optional_closer : Optional → Fixed
optional_closer (for_first p) = the_semicolon
optional_closer (for_second p g) = the_semicolon
optional_closer (for_third p g b) = the_closing
optional_closer (of_return p) = the_semicolon

-- what stands after the expression
abbrev pub closer : Part → Fixed
closer (of_case p) = the_colon
closer of_expression = the_semicolon
closer (of_if p) = the_closing
closer (of_switch p) = the_closing
closer (of_while p) = the_closing
closer (of_do p) = the_closing
closer (optional c) = optional_closer c

-- the skeleton of a `for`
abbrev pub for_skeleton : Place → FirstClause → Option Expr → Option Expr → Skeleton
for_skeleton p (by_expression a) b c = hollow_for p a b c 0
for_skeleton p (by_declaration g) b c = hollow_for_declaration p g b c 0

-- where the machine is after an expression that may be missing, and what stands after it
abbrev pub after_optional : Optional → Option Expr → Spot
after_optional (for_first p) a = Before (for_second p (by_expression a))
after_optional (for_second p g) b = Before (for_third p g b)
after_optional (for_third p g b) c = Await (the_hole ∷ []) (for_skeleton p g b c)
after_optional (of_return p) a = Await [] (hollow_return p a)

-- where it is after the expression and what stands after it
abbrev pub after_part : Part → Expr → Spot
after_part (of_case p) a = Await (the_hole ∷ []) (hollow_case p a 0)
after_part of_expression a = Await [] (hollow_expression (place_of a) (Some a))
after_part (of_if p) a = AfterIf p a
after_part (of_switch p) a = Await (the_hole ∷ []) (hollow_switch p a 0)
after_part (of_while p) a = Await (the_hole ∷ []) (hollow_while p a 0)
after_part (of_do p) a = Await (the_semicolon ∷ []) (hollow_do_while p 0 a)
after_part (optional c) a = after_optional c (Some a)

-- where it is after a declaration
abbrev pub after_declaration : Setting → Place → Specifiers → InitDeclarators → Spot
after_declaration alone p xs ds = Await [] (hollow_declaration p (declaration p xs ds))
after_declaration (in_for f) p xs ds =
    Before (for_second f (by_declaration (declaration p xs ds)))
