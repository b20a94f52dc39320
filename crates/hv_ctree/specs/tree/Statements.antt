-- Initialisers, declarations, statements and programs (6.7, 6.7.8, 6.8, 6.9), and skeletons.
use Rattle.std.specs.Prelude.{ℕ, Bool, List, Option}
use Rattle.hv_base.specs.declared.place.Place.{Place}
use Rattle.hv_ctree.specs.tree.Expressions.{Expr, Specifiers, Declarator}

-- what an initialiser in braces is for (6.7.8): the next part, an element or a member; the place is
-- that of the `[` or the `.`
pub data Designation : Type 0 where
  no_designation : Designation
  of_index : Place → Expr → Designation
  of_member : Place → List ℕ → Designation

mutual
  -- 6.7.8; the truth value says that a comma stands before the `}`
  pub data Initializer : Type 0 where
    value : Place → Expr → Initializer
    braced : Place → Initializers → Bool → Initializer

  -- initializer-list (6.7.8), each with the place of its first token
  pub data Initializers : Type 0 where
    no_initializers : Initializers
    then_initializer : Initializers → Place → Designation → Initializer → Initializers

-- 6.7
pub data InitDeclarator : Type 0 where
  bare : Place → Declarator → InitDeclarator
  initialized : Place → Declarator → Initializer → InitDeclarator

-- init-declarator-list (6.7)
pub data InitDeclarators : Type 0 where
  no_init_declarators : InitDeclarators
  then_init_declarator : InitDeclarators → InitDeclarator → InitDeclarators

-- 6.7
pub data Declaration : Type 0 where
  declaration : Place → Specifiers → InitDeclarators → Declaration

mutual
  -- 6.8
  pub data Stmt : Type 0 where
    case_of : Place → Expr → Stmt → Stmt
    default_of : Place → Stmt → Stmt
    compound : Place → Items → Stmt
    expression : Place → Option Expr → Stmt
    if_only : Place → Expr → Stmt → Stmt
    if_else : Place → Expr → Stmt → Stmt → Stmt
    switch : Place → Expr → Stmt → Stmt
    while_do : Place → Expr → Stmt → Stmt
    do_while : Place → Stmt → Expr → Stmt
    for_expressions : Place → Option Expr → Option Expr → Option Expr → Stmt → Stmt
    for_declaration : Place → Declaration → Option Expr → Option Expr → Stmt → Stmt
    continue_loop : Place → Stmt
    break_out : Place → Stmt
    return_with : Place → Option Expr → Stmt

  -- the items of a block
  pub data Items : Type 0 where
    no_items : Items
    then_item : Items → Item → Items

  -- 6.8.2
  pub data Item : Type 0 where
    declares : Place → Declaration → Item
    does : Place → Stmt → Item

-- 6.9.1; the body is a compound statement
pub data FunctionDefinition : Type 0 where
  function_definition : Place → Specifiers → Declarator → Stmt → FunctionDefinition

-- 6.9
pub data External : Type 0 where
  defines : Place → FunctionDefinition → External
  declares_outside : Place → Declaration → External
  empty : Place → External

-- 6.9: the external declarations in order
pub record Program : Type 0 where
  pub externals : List External

-- an element with holes for the elements within it, which are numbered
pub data Skeleton : Type 0 where
  hollow_empty : Place → Skeleton
  hollow_declaration : Place → Declaration → Skeleton
  -- the body's place, and the hole for its items
  hollow_function : Place → Specifiers → Declarator → Place → ℕ → Skeleton
  hollow_case : Place → Expr → ℕ → Skeleton
  hollow_default : Place → ℕ → Skeleton
  hollow_compound : Place → ℕ → Skeleton
  hollow_expression : Place → Option Expr → Skeleton
  hollow_if : Place → Expr → ℕ → Skeleton
  hollow_if_else : Place → Expr → ℕ → ℕ → Skeleton
  hollow_switch : Place → Expr → ℕ → Skeleton
  hollow_while : Place → Expr → ℕ → Skeleton
  hollow_do_while : Place → ℕ → Expr → Skeleton
  hollow_for : Place → Option Expr → Option Expr → Option Expr → ℕ → Skeleton
  hollow_for_declaration : Place → Declaration → Option Expr → Option Expr → ℕ → Skeleton
  hollow_continue : Place → Skeleton
  hollow_break : Place → Skeleton
  hollow_return : Place → Option Expr → Skeleton
