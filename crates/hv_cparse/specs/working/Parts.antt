-- What stands in an element's own production: the tables of the pure machine, without trees.
use Rattle.std.specs.Prelude.{ℕ, Bool, true, false}
use Rattle.hv_base.specs.declared.keyword.Keyword.TheVariants as keywords
use Rattle.hv_base.specs.declared.punct.Punct.TheVariants as puncts
use Rattle.hv_cparse.specs.declared.class.Class.{Class}
use Rattle.hv_cparse.specs.declared.class.Class.TheVariants as classes
use Rattle.hv_cparse.specs.declared.part.Clause.{Clause}
use Rattle.hv_cparse.specs.declared.part.Clause.TheVariants.{ForFirst, ForSecond, ForThird, Return}
use Rattle.hv_cparse.specs.declared.part.Part.{Part}
use Rattle.hv_cparse.specs.declared.part.Part.TheVariants.{Case, Expression, If, Switch, While, Do, Optional}
use Rattle.hv_cparse.specs.declared.part.Fixed.{Fixed}
use Rattle.hv_cparse.specs.declared.part.Fixed.TheVariants as fixed

-- the level that is wanted of the expression
abbrev pub wanted : Part → ℕ
wanted Case = 2
wanted _ = 0

-- whether a token of the class is the terminal
abbrev pub meets : Fixed → Class → Bool
meets fixed.Hole classes.Hole = true
meets fixed.Colon (classes.Sign puncts.Colon) = true
meets fixed.Semicolon (classes.Sign puncts.Semicolon) = true
meets fixed.Opening (classes.Sign puncts.LeftParenthesis) = true
meets fixed.Closing (classes.Sign puncts.RightParenthesis) = true
meets fixed.RightBrace (classes.Sign puncts.RightBrace) = true
meets fixed.While (classes.Keyword keywords.While) = true
meets fixed.Else (classes.Keyword keywords.Else) = true
meets _ _ = false

-- what stands after an expression that may be missing
abbrev pub clause_closer : Clause → Fixed
clause_closer ForFirst = fixed.Semicolon
clause_closer ForSecond = fixed.Semicolon
clause_closer ForThird = fixed.Closing
clause_closer Return = fixed.Semicolon

-- what stands after the expression
abbrev pub closer : Part → Fixed
closer Case = fixed.Colon
closer Expression = fixed.Semicolon
closer If = fixed.Closing
closer Switch = fixed.Closing
closer While = fixed.Closing
closer Do = fixed.Closing
closer (Optional c) = clause_closer c
