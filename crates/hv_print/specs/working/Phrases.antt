-- The operator of an expression.
use Rattle.hv_ctree.specs.tree.Expressions.{Expr, binary, assign}
use Rattle.hv_grammar.specs.Symbols.{Symbol, comma_sign, binary_sign, assignment_sign}

-- the operator between two operands; of another expression it is a comma
abbrev pub infix_sign : Expr → Symbol
infix_sign (binary p op a b) = binary_sign op
infix_sign (assign p op a b) = assignment_sign op
infix_sign _ = comma_sign
