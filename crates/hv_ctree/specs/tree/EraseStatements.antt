-- The plain tree of initialisers, declarations, statements, programs and skeletons.
use Rattle.std.specs.Prelude.{true, false, List, [], ◌∷◌, map, Option, Some, None}
use Rattle.std.specs.declared.rc.Rc.{Rc}
use Rattle.std.specs.declared.alloc.Global.{Global}
use Rattle.hv_ctree.specs.declared.tree.declaration.Declaration.{Declaration}
use Rattle.hv_ctree.specs.declared.tree.declaration.Designator.{Designator}
use Rattle.hv_ctree.specs.declared.tree.declaration.Designator.TheVariants.{Index, Member}
use Rattle.hv_ctree.specs.declared.tree.declaration.InitDeclarator.{InitDeclarator}
use Rattle.hv_ctree.specs.declared.tree.declaration.InitDeclarator.TheVariants.{Plain, Initialized}
use Rattle.hv_ctree.specs.declared.tree.declaration.Initializer.{Initializer}
use Rattle.hv_ctree.specs.declared.tree.declaration.Initializer.TheVariants.{Expression as Value, List' as Braced', ListComma' as BracedComma'}
use Rattle.hv_ctree.specs.declared.tree.declaration.InitializerItem.{InitializerItem}
use Rattle.hv_ctree.specs.declared.tree.declaration.InitializerItem.TheVariants.{Plain' as Next', Designated'}
use Rattle.hv_ctree.specs.declared.tree.declaration.Initializer.TheBlock.{Row_of-Initializer-List-1-1, end_of-Initializer-List-1-1, more_of-Initializer-List-1-1}
use Rattle.hv_ctree.specs.declared.tree.expr.Expr.{Expr}
use Rattle.hv_ctree.specs.declared.tree.stmt.Stmt.{Stmt}
use Rattle.hv_ctree.specs.declared.tree.stmt.Stmt.TheVariants.{Case', Default', Compound', Expression, If', IfElse', Switch', While', DoWhile', For', ForDeclaration', Continue, Break, Return}
use Rattle.hv_ctree.specs.declared.tree.stmt.BlockItem.{BlockItem}
use Rattle.hv_ctree.specs.declared.tree.stmt.BlockItem.TheVariants.{Declaration as Declares, Statement' as Does'}
use Rattle.hv_ctree.specs.declared.tree.stmt.BlockItem.TheBlock.{Row_of-Stmt-Compound-1-1, end_of-Stmt-Compound-1-1, more_of-Stmt-Compound-1-1}
use Rattle.hv_ctree.specs.declared.tree.stmt.FunctionDefinition.{FunctionDefinition}
use Rattle.hv_ctree.specs.declared.tree.stmt.ExternalDeclaration.{ExternalDeclaration}
use Rattle.hv_ctree.specs.declared.tree.stmt.ExternalDeclaration.TheVariants.{Function, Declaration as DeclaresOutside, Empty}
use Rattle.hv_ctree.specs.declared.tree.stmt.Program.{Program}
use Rattle.hv_ctree.specs.declared.tree.skeleton.Skeleton.{Skeleton}
use Rattle.hv_ctree.specs.declared.tree.skeleton.Skeleton.TheVariants.{Empty as HollowEmpty, Declaration as HollowDeclaration, Function as HollowFunction, Case as HollowCase, Default as HollowDefault, Compound as HollowCompound, Expression as HollowExpression, If as HollowIf, IfElse as HollowIfElse, Switch as HollowSwitch, While as HollowWhile, DoWhile as HollowDoWhile, For as HollowFor, ForDeclaration as HollowForDeclaration, Continue as HollowContinue, Break as HollowBreak, Return as HollowReturn}
use Rattle.hv_ctree.specs.tree.Erase.{expr_of, declarator_of}
use Rattle.hv_ctree.specs.tree.Erase as erase
use Rattle.hv_ctree.specs.tree.Expressions as expressions
use Rattle.hv_ctree.specs.tree.Statements as plain

-- an expression, or none
abbrev pub may_expr_of : Option (Rc Expr Global) → Option expressions.Expr
may_expr_of None = None
may_expr_of (Some e) = Some (expr_of e.value)

-- what an initialiser is for
abbrev pub designation_of : Designator → plain.Designation
designation_of (Index at e) = plain.of_index at (expr_of e.value)
designation_of (Member at n) = plain.of_member at n

-- the plain trees of initialisers, and of lists of them
abbrev mutual
  -- an initialiser
  pub initializer_of : Initializer → plain.Initializer
  initializer_of (Value at e) = plain.value at (expr_of e.value)
  initializer_of (Braced' at _ xs) =
      plain.braced at (initializers_row plain.no_initializers xs) false
  initializer_of (BracedComma' at _ xs) =
      plain.braced at (initializers_row plain.no_initializers xs) true

  -- an entry after others
  pub item_after : plain.Initializers → InitializerItem → plain.Initializers
  item_after xs (Next' at _ x) =
      plain.then_initializer xs at plain.no_designation (initializer_of x)
  item_after xs (Designated' at d _ x) =
      plain.then_initializer xs at (designation_of d.value) (initializer_of x)

  -- entries after others
  pub initializers_row : {m : _} → plain.Initializers → Row_of-Initializer-List-1-1 m
      → plain.Initializers
  initializers_row xs end_of-Initializer-List-1-1 = xs
  initializers_row xs (more_of-Initializer-List-1-1 _ x rest) =
      initializers_row (item_after xs x) rest

-- entries of a list, after others
abbrev pub initializers_after : plain.Initializers → List (Rc InitializerItem Global)
    → plain.Initializers
initializers_after xs [] = xs
initializers_after xs (x ∷ rest) = initializers_after (item_after xs x.value) rest

-- entries of a list
abbrev pub initializers_of : List (Rc InitializerItem Global) → plain.Initializers
initializers_of xs = initializers_after plain.no_initializers xs

-- a declarator with its initialiser
abbrev pub init_declarator_of : InitDeclarator → plain.InitDeclarator
init_declarator_of (Plain at d) = plain.bare at (declarator_of d.value)
init_declarator_of (Initialized at d x) =
    plain.initialized at (declarator_of d.value) (initializer_of x.value)

-- declarators of a list, after others
abbrev pub init_declarators_after : plain.InitDeclarators → List (Rc InitDeclarator Global)
    → plain.InitDeclarators
init_declarators_after ds [] = ds
init_declarators_after ds (d ∷ rest) =
    init_declarators_after (plain.then_init_declarator ds (init_declarator_of d.value)) rest

-- a declaration
abbrev pub declaration_of : Declaration → plain.Declaration
declaration_of d =
    plain.declaration d.place (erase.declared_words_after expressions.no_specifiers d.specifiers)
    (init_declarators_after plain.no_init_declarators d.declarators)

-- the plain trees of statements, and of the items of blocks
abbrev mutual
  -- a statement
  pub stmt_of : Stmt → plain.Stmt
  stmt_of (Case' at e _ s) = plain.case_of at (expr_of e.value) (stmt_of s)
  stmt_of (Default' at _ s) = plain.default_of at (stmt_of s)
  stmt_of (Compound' at _ xs) = plain.compound at (items_row plain.no_items xs)
  stmt_of (Expression at e) = plain.expression at (may_expr_of e)
  stmt_of (If' at e _ s) = plain.if_only at (expr_of e.value) (stmt_of s)
  stmt_of (IfElse' at e _ s _ t) = plain.if_else at (expr_of e.value) (stmt_of s) (stmt_of t)
  stmt_of (Switch' at e _ s) = plain.switch at (expr_of e.value) (stmt_of s)
  stmt_of (While' at e _ s) = plain.while_do at (expr_of e.value) (stmt_of s)
  stmt_of (DoWhile' at _ s e) = plain.do_while at (stmt_of s) (expr_of e.value)
  stmt_of (For' at a b c _ s) =
      plain.for_expressions at (may_expr_of a) (may_expr_of b) (may_expr_of c) (stmt_of s)
  stmt_of (ForDeclaration' at d b c _ s) =
      plain.for_declaration at (declaration_of d.value) (may_expr_of b) (may_expr_of c) (stmt_of s)
  stmt_of (Continue at) = plain.continue_loop at
  stmt_of (Break at) = plain.break_out at
  stmt_of (Return at e) = plain.return_with at (may_expr_of e)

  -- an item of a block
  pub item_of : BlockItem → plain.Item
  item_of (Declares at d) = plain.declares at (declaration_of d.value)
  item_of (Does' at _ s) = plain.does at (stmt_of s)

  -- items after others
  pub items_row : {m : _} → plain.Items → Row_of-Stmt-Compound-1-1 m → plain.Items
  items_row xs end_of-Stmt-Compound-1-1 = xs
  items_row xs (more_of-Stmt-Compound-1-1 _ x rest) =
      items_row (plain.then_item xs (item_of x)) rest

-- items of a list, after others
abbrev pub items_after : plain.Items → List (Rc BlockItem Global) → plain.Items
items_after xs [] = xs
items_after xs (x ∷ rest) = items_after (plain.then_item xs (item_of x.value)) rest

-- items of a list
abbrev pub items_of : List (Rc BlockItem Global) → plain.Items
items_of xs = items_after plain.no_items xs

-- a function's definition
abbrev pub function_of : FunctionDefinition → plain.FunctionDefinition
function_of f =
    plain.function_definition f.place (erase.declared_words_after expressions.no_specifiers
    f.specifiers)
    (declarator_of f.declarator.value) (stmt_of f.body.value)

-- an external declaration
abbrev pub external_of : ExternalDeclaration → plain.External
external_of (Function at f) = plain.defines at (function_of f.value)
external_of (DeclaresOutside at d) = plain.declares_outside at (declaration_of d.value)
external_of (Empty at) = plain.empty at

-- a program
abbrev pub program_of : Program → plain.Program
program_of program =
    record {
      externals =
          map (λ (r : Rc ExternalDeclaration Global). external_of r.value) program.externals;
    }

-- an element with holes
abbrev pub skeleton_of : Skeleton → plain.Skeleton
skeleton_of (HollowEmpty at) = plain.hollow_empty at
skeleton_of (HollowDeclaration at d) = plain.hollow_declaration at (declaration_of d.value)
skeleton_of (HollowFunction at xs d body h) =
    plain.hollow_function at (erase.declared_words_after expressions.no_specifiers xs)
    (declarator_of d.value) body h.number
skeleton_of (HollowCase at e h) = plain.hollow_case at (expr_of e.value) h.number
skeleton_of (HollowDefault at h) = plain.hollow_default at h.number
skeleton_of (HollowCompound at h) = plain.hollow_compound at h.number
skeleton_of (HollowExpression at e) = plain.hollow_expression at (may_expr_of e)
skeleton_of (HollowIf at e h) = plain.hollow_if at (expr_of e.value) h.number
skeleton_of (HollowIfElse at e h i) = plain.hollow_if_else at (expr_of e.value) h.number i.number
skeleton_of (HollowSwitch at e h) = plain.hollow_switch at (expr_of e.value) h.number
skeleton_of (HollowWhile at e h) = plain.hollow_while at (expr_of e.value) h.number
skeleton_of (HollowDoWhile at h e) = plain.hollow_do_while at h.number (expr_of e.value)
skeleton_of (HollowFor at a b c h) =
    plain.hollow_for at (may_expr_of a) (may_expr_of b) (may_expr_of c) h.number
skeleton_of (HollowForDeclaration at d b c h) =
    plain.hollow_for_declaration at (declaration_of d.value) (may_expr_of b) (may_expr_of c)
    h.number
skeleton_of (HollowContinue at) = plain.hollow_continue at
skeleton_of (HollowBreak at) = plain.hollow_break at
skeleton_of (HollowReturn at e) = plain.hollow_return at (may_expr_of e)
