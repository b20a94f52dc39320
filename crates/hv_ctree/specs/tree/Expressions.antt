-- Expressions, type names, specifiers and declarators (Annex A.2.1 and A.2.2), which reach one
-- another. The first field of a node is the place of its first token. What differs from the tree
-- that the code has: the operators between two operands are one constructor, one list of specifiers
-- serves declarations and type names, and an abstract declarator is a declarator without a name.
use Rattle.std.specs.Prelude.{ℕ, Bool, List}
use Rattle.hv_base.specs.declared.place.Place.{Place}
use Rattle.hv_ctree.specs.declared.tree.words.AssignmentOperator.{AssignmentOperator}
use Rattle.hv_base.specs.declared.operator.BinaryOperator.{BinaryOperator}
use Rattle.hv_ctree.specs.declared.tree.words.Constant.{Constant}
use Rattle.hv_ctree.specs.declared.tree.words.Selector.{Selector}
use Rattle.hv_ctree.specs.declared.tree.words.Step.{Step}
use Rattle.hv_ctree.specs.declared.tree.words.StorageClass.{StorageClass}
use Rattle.hv_ctree.specs.declared.tree.words.StructOrUnion.{StructOrUnion}
use Rattle.hv_ctree.specs.declared.tree.words.TypeQualifier.{TypeQualifier}
use Rattle.hv_ctree.specs.declared.tree.words.UnaryOperator.{UnaryOperator}

-- a word that is a type specifier by itself (6.7.2)
pub data TypeWord : Type 0 where
  void_word : TypeWord
  char_word : TypeWord
  short_word : TypeWord
  int_word : TypeWord
  long_word : TypeWord
  signed_word : TypeWord
  unsigned_word : TypeWord
  bool_word : TypeWord

-- type qualifiers in order
pub data Qualifiers : Type 0 where
  no_qualifiers : Qualifiers
  then_qualifier : Qualifiers → TypeQualifier → Qualifiers

-- `*`s, each with its place and the qualifiers after it (6.7.5)
pub data Pointers : Type 0 where
  no_pointers : Pointers
  then_pointer : Pointers → Place → Qualifiers → Pointers

-- a tag with its place, or none
pub data MayTag : Type 0 where
  no_tag : MayTag
  tag : Place → List ℕ → MayTag

mutual
  -- 6.5; the bytes of a string literal are without its closing zero
  pub data Expr : Type 0 where
    identifier : Place → List ℕ → Expr
    constant : Place → Constant → Expr
    string : Place → List ℕ → Expr
    parenthesized : Place → Expr → Expr
    subscript : Place → Expr → Expr → Expr
    call : Place → Expr → Arguments → Expr
    member : Place → Selector → Expr → List ℕ → Expr
    postfix : Place → Step → Expr → Expr
    prefix : Place → Step → Expr → Expr
    unary : Place → UnaryOperator → Expr → Expr
    sizeof_expr : Place → Expr → Expr
    sizeof_type : Place → TypeName → Expr
    cast : Place → TypeName → Expr → Expr
    binary : Place → BinaryOperator → Expr → Expr → Expr
    conditional : Place → Expr → Expr → Expr → Expr
    assign : Place → AssignmentOperator → Expr → Expr → Expr
    comma : Place → Expr → Expr → Expr

  -- argument-expression-list (6.5.2)
  pub data Arguments : Type 0 where
    no_arguments : Arguments
    then_argument : Arguments → Expr → Arguments

  -- 6.7.6; the declarator has no name
  pub data TypeName : Type 0 where
    type_name : Place → Specifiers → MayDeclarator → TypeName

  -- declaration-specifiers (6.7), or specifier-qualifier-list (6.7.2.1)
  pub data Specifiers : Type 0 where
    no_specifiers : Specifiers
    then_specifier : Specifiers → Specifier → Specifiers

  -- 6.7; a type name and a member have no storage class and no `inline`
  pub data Specifier : Type 0 where
    storage : Place → StorageClass → Specifier
    of_type : Place → TypeSpecifier → Specifier
    qualifier : Place → TypeQualifier → Specifier
    inline : Place → Specifier

  -- 6.7.2
  pub data TypeSpecifier : Type 0 where
    word : Place → TypeWord → TypeSpecifier
    compound : Place → CompoundSpecifier → TypeSpecifier
    enumeration : Place → EnumSpecifier → TypeSpecifier
    typedef_name : Place → List ℕ → TypeSpecifier

  -- 6.7.2.1; the second place is the tag's
  pub data CompoundSpecifier : Type 0 where
    defined : Place → StructOrUnion → MayTag → Members → CompoundSpecifier
    mentioned : Place → StructOrUnion → Place → List ℕ → CompoundSpecifier

  -- struct-declaration-list (6.7.2.1)
  pub data Members : Type 0 where
    no_members : Members
    then_member : Members → MemberDeclaration → Members

  -- struct-declaration (6.7.2.1)
  pub data MemberDeclaration : Type 0 where
    members_of : Place → Specifiers → Declarators → MemberDeclaration

  -- struct-declarator-list (6.7.2.1)
  pub data Declarators : Type 0 where
    no_declarators : Declarators
    then_declarator : Declarators → Declarator → Declarators

  -- 6.7.2.2; the truth value says that a comma stands before the `}`
  pub data EnumSpecifier : Type 0 where
    listed : Place → MayTag → Enumerators → Bool → EnumSpecifier
    listed_before : Place → Place → List ℕ → EnumSpecifier

  -- enumerator-list (6.7.2.2)
  pub data Enumerators : Type 0 where
    no_enumerators : Enumerators
    then_enumerator : Enumerators → Enumerator → Enumerators

  -- enumerator (6.7.2.2); with its value or without
  pub data Enumerator : Type 0 where
    plain : Place → List ℕ → Enumerator
    valued : Place → List ℕ → Expr → Enumerator

  -- 6.7.5, 6.7.6: `*`s, what stands at the middle, and what stands after it
  pub data Declarator : Type 0 where
    declarator : Place → Pointers → Core → Suffixes → Declarator

  -- a declarator, or none
  pub data MayDeclarator : Type 0 where
    no_declarator : MayDeclarator
    some_declarator : Declarator → MayDeclarator

  -- the middle of a declarator; an abstract one has nothing there, or another one in parentheses
  pub data Core : Type 0 where
    nothing : Core
    named : Place → List ℕ → Core
    group : Place → Declarator → Core

  -- what stands after the middle of a declarator, in order
  pub data Suffixes : Type 0 where
    no_suffixes : Suffixes
    then_suffix : Suffixes → Suffix → Suffixes

  -- 6.7.5.2 and 6.7.5.3: `[` `]`, without an expression or with one; parameters; or `(` `)`
  pub data Suffix : Type 0 where
    unsized : Place → Qualifiers → Suffix
    sized : Place → Qualifiers → Expr → Suffix
    function : Place → ParameterTypes → Suffix
    unprototyped : Place → Suffix

  -- the truth value says that `, ...` ends them
  pub data ParameterTypes : Type 0 where
    parameter_types : Place → Parameters → Bool → ParameterTypes

  -- parameter-list (6.7.5)
  pub data Parameters : Type 0 where
    no_parameters : Parameters
    then_parameter : Parameters → Parameter → Parameters

  -- parameter-declaration (6.7.5)
  pub data Parameter : Type 0 where
    parameter : Place → Specifiers → MayDeclarator → Parameter

-- the place of the first token
abbrev pub place_of : Expr → Place
place_of (identifier p n) = p
place_of (constant p v) = p
place_of (string p bytes) = p
place_of (parenthesized p a) = p
place_of (subscript p a b) = p
place_of (call p a xs) = p
place_of (member p s a n) = p
place_of (postfix p s a) = p
place_of (prefix p s a) = p
place_of (unary p op a) = p
place_of (sizeof_expr p a) = p
place_of (sizeof_type p t) = p
place_of (cast p t a) = p
place_of (binary p op a b) = p
place_of (conditional p a b c) = p
place_of (assign p op a b) = p
place_of (comma p a b) = p
