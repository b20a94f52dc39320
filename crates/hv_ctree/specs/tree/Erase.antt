-- The plain tree of an expression, a type name, specifiers and declarators.
use Rattle.std.specs.Prelude.{true, false, List, [], ◌∷◌, Option, Some, None}
use Rattle.std.specs.declared.rc.Rc.{Rc}
use Rattle.std.specs.declared.alloc.Global.{Global}
use Rattle.hv_ctree.specs.declared.tree.expr.Expr.{Expr}
use Rattle.hv_ctree.specs.declared.tree.expr.Expr.TheVariants.{Identifier, Constant, StringLiteral, Parenthesized', Subscript', Call', Member', Arrow', PostIncrement', PostDecrement', PreIncrement', PreDecrement', Unary', SizeofExpr', SizeofType', Cast', Multiply', Divide', Remainder', Add', Subtract', ShiftLeft', ShiftRight', Less', Greater', LessEqual', GreaterEqual', Equal', NotEqual', And', ExclusiveOr', Or', LogicalAnd', LogicalOr', Conditional', Assign', Comma'}
use Rattle.hv_base.specs.declared.operator.BinaryOperator.TheVariants.{Multiply as MultiplySign, Divide as DivideSign, Remainder as RemainderSign, Add as AddSign, Subtract as SubtractSign, ShiftLeft as ShiftLeftSign, ShiftRight as ShiftRightSign, Less as LessSign, Greater as GreaterSign, LessEqual as LessEqualSign, GreaterEqual as GreaterEqualSign, Equal as EqualSign, NotEqual as NotEqualSign, And as AndSign, ExclusiveOr as ExclusiveOrSign, Or as OrSign, LogicalAnd as LogicalAndSign, LogicalOr as LogicalOrSign}
use Rattle.hv_ctree.specs.declared.tree.words.Selector.TheVariants.{Dot, Arrow as ArrowSign}
use Rattle.hv_ctree.specs.declared.tree.words.Step.TheVariants.{Increment, Decrement}
use Rattle.hv_ctree.specs.declared.tree.words.Tag.{Tag}
use Rattle.hv_ctree.specs.declared.tree.words.TypeQualifier.{TypeQualifier}
use Rattle.hv_ctree.specs.declared.tree.expr.TypeName.{TypeName}
use Rattle.hv_ctree.specs.declared.tree.expr.TypeName.TheVariants.{Of' as TypeNameOf'}
use Rattle.hv_ctree.specs.declared.tree.specifier.DeclarationSpecifier.{DeclarationSpecifier}
use Rattle.hv_ctree.specs.declared.tree.specifier.DeclarationSpecifier.TheVariants.{Storage, Type' as DeclaredType', Qualifier as DeclaredQualifier, Inline}
use Rattle.hv_ctree.specs.declared.tree.specifier.SpecifierQualifier.{SpecifierQualifier}
use Rattle.hv_ctree.specs.declared.tree.specifier.SpecifierQualifier.TheVariants.{Type' as PlainType', Qualifier as PlainQualifier}
use Rattle.hv_ctree.specs.declared.tree.specifier.TypeSpecifier.{TypeSpecifier}
use Rattle.hv_ctree.specs.declared.tree.specifier.TypeSpecifier.TheVariants.{Void, Char, Short, Int, Long, Signed, Unsigned, Bool as BoolWord, Compound', Enumeration', TypedefName}
use Rattle.hv_ctree.specs.declared.tree.specifier.StructOrUnionSpecifier.{StructOrUnionSpecifier}
use Rattle.hv_ctree.specs.declared.tree.specifier.StructOrUnionSpecifier.TheVariants.{Defined', Mentioned}
use Rattle.hv_ctree.specs.declared.tree.specifier.StructDeclaration.{StructDeclaration}
use Rattle.hv_ctree.specs.declared.tree.specifier.StructDeclaration.TheVariants.{Of' as StructDeclarationOf'}
use Rattle.hv_ctree.specs.declared.tree.specifier.EnumSpecifier.{EnumSpecifier}
use Rattle.hv_ctree.specs.declared.tree.specifier.EnumSpecifier.TheVariants.{Listed', ListedComma', Mentioned as MentionedEnum}
use Rattle.hv_ctree.specs.declared.tree.specifier.Enumerator.{Enumerator}
use Rattle.hv_ctree.specs.declared.tree.specifier.Enumerator.TheVariants.{Plain, Valued'}
use Rattle.hv_ctree.specs.declared.tree.declarator.Declarator.{Declarator}
use Rattle.hv_ctree.specs.declared.tree.declarator.Declarator.TheVariants.{Of' as DeclaratorOf'}
use Rattle.hv_ctree.specs.declared.tree.declarator.DirectDeclarator.{DirectDeclarator}
use Rattle.hv_ctree.specs.declared.tree.declarator.DirectDeclarator.TheVariants.{Name, Group'}
use Rattle.hv_ctree.specs.declared.tree.declarator.AbstractDeclarator.{AbstractDeclarator}
use Rattle.hv_ctree.specs.declared.tree.declarator.AbstractDeclarator.TheVariants.{Of' as AbstractDeclaratorOf'}
use Rattle.hv_ctree.specs.declared.tree.declarator.DirectAbstractDeclarator.{DirectAbstractDeclarator}
use Rattle.hv_ctree.specs.declared.tree.declarator.DirectAbstractDeclarator.TheVariants.{Group' as AbstractGroup'}
use Rattle.hv_ctree.specs.declared.tree.declarator.Suffix.{Suffix}
use Rattle.hv_ctree.specs.declared.tree.declarator.Suffix.TheVariants.{Unsized, Sized', Function', Unprototyped}
use Rattle.hv_ctree.specs.declared.tree.declarator.ParameterTypeList.{ParameterTypeList}
use Rattle.hv_ctree.specs.declared.tree.declarator.ParameterTypeList.TheVariants.{Fixed', Variadic'}
use Rattle.hv_ctree.specs.declared.tree.declarator.ParameterDeclaration.{ParameterDeclaration}
use Rattle.hv_ctree.specs.declared.tree.declarator.ParameterDeclaration.TheVariants.{Named', Abstract'}
use Rattle.hv_ctree.specs.declared.tree.declarator.Pointer.{Pointer}
use Rattle.hv_ctree.specs.declared.tree.declarator.AbstractDeclarator.TheBlock.{Row_of-Expr-Call-2-1, end_of-Expr-Call-2-1, more_of-Expr-Call-2-1, Row_of-TypeName-Of-1-1, end_of-TypeName-Of-1-1, more_of-TypeName-Of-1-1, Row_of-ParameterDeclaration-Named-1-1, end_of-ParameterDeclaration-Named-1-1, more_of-ParameterDeclaration-Named-1-1, Row_of-StructOrUnionSpecifier-Defined-3-1, end_of-StructOrUnionSpecifier-Defined-3-1, more_of-StructOrUnionSpecifier-Defined-3-1, Row_of-StructDeclaration-Of-2-1, end_of-StructDeclaration-Of-2-1, more_of-StructDeclaration-Of-2-1, Row_of-EnumSpecifier-Listed-2-1, end_of-EnumSpecifier-Listed-2-1, more_of-EnumSpecifier-Listed-2-1, Row_of-AbstractDeclarator-Of-3-1, end_of-AbstractDeclarator-Of-3-1, more_of-AbstractDeclarator-Of-3-1, Row_of-ParameterTypeList-Fixed-1-1, end_of-ParameterTypeList-Fixed-1-1, more_of-ParameterTypeList-Fixed-1-1, Held-AbstractDeclarator-Of-2, AbstractDeclarator-Of-2-None', AbstractDeclarator-Of-2-Some', Held-ParameterDeclaration-Abstract-2, ParameterDeclaration-Abstract-2-None', ParameterDeclaration-Abstract-2-Some'}
use Rattle.hv_ctree.specs.tree.Expressions as plain

-- type qualifiers
abbrev pub qualifiers_after : plain.Qualifiers → List TypeQualifier → plain.Qualifiers
qualifiers_after qs [] = qs
qualifiers_after qs (q ∷ rest) = qualifiers_after (plain.then_qualifier qs q) rest

-- the qualifiers of a list
abbrev pub qualifiers_of : List TypeQualifier → plain.Qualifiers
qualifiers_of qs = qualifiers_after plain.no_qualifiers qs

-- `*`s after others
abbrev pub pointers_after : plain.Pointers → List Pointer → plain.Pointers
pointers_after ps [] = ps
pointers_after ps (p ∷ rest) =
    pointers_after (plain.then_pointer ps p.place (qualifiers_of p.qualifiers)) rest

-- the `*`s of a list
abbrev pub pointers_of : List Pointer → plain.Pointers
pointers_of ps = pointers_after plain.no_pointers ps

-- a tag, or none
abbrev pub tag_of : Option Tag → plain.MayTag
tag_of None = plain.no_tag
tag_of (Some t) = plain.tag t.place t.name

-- the plain trees of expressions, and of what they reach
abbrev mutual
  -- an expression
  pub expr_of : Expr → plain.Expr
  expr_of (Identifier at n) = plain.identifier at n
  expr_of (Constant at v) = plain.constant at v
  expr_of (StringLiteral at bytes) = plain.string at bytes
  expr_of (Parenthesized' at _ a) = plain.parenthesized at (expr_of a)
  expr_of (Subscript' at _ a _ b) = plain.subscript at (expr_of a) (expr_of b)
  expr_of (Call' at _ a _ xs) = plain.call at (expr_of a) (arguments_row plain.no_arguments xs)
  expr_of (Member' at _ a n) = plain.member at Dot (expr_of a) n
  expr_of (Arrow' at _ a n) = plain.member at ArrowSign (expr_of a) n
  expr_of (PostIncrement' at _ a) = plain.postfix at Increment (expr_of a)
  expr_of (PostDecrement' at _ a) = plain.postfix at Decrement (expr_of a)
  expr_of (PreIncrement' at _ a) = plain.prefix at Increment (expr_of a)
  expr_of (PreDecrement' at _ a) = plain.prefix at Decrement (expr_of a)
  expr_of (Unary' at op _ a) = plain.unary at op (expr_of a)
  expr_of (SizeofExpr' at _ a) = plain.sizeof_expr at (expr_of a)
  expr_of (SizeofType' at _ t) = plain.sizeof_type at (type_name_of t)
  expr_of (Cast' at _ t _ a) = plain.cast at (type_name_of t) (expr_of a)
  expr_of (Multiply' at _ a _ b) = plain.binary at MultiplySign (expr_of a) (expr_of b)
  expr_of (Divide' at _ a _ b) = plain.binary at DivideSign (expr_of a) (expr_of b)
  expr_of (Remainder' at _ a _ b) = plain.binary at RemainderSign (expr_of a) (expr_of b)
  expr_of (Add' at _ a _ b) = plain.binary at AddSign (expr_of a) (expr_of b)
  expr_of (Subtract' at _ a _ b) = plain.binary at SubtractSign (expr_of a) (expr_of b)
  expr_of (ShiftLeft' at _ a _ b) = plain.binary at ShiftLeftSign (expr_of a) (expr_of b)
  expr_of (ShiftRight' at _ a _ b) = plain.binary at ShiftRightSign (expr_of a) (expr_of b)
  expr_of (Less' at _ a _ b) = plain.binary at LessSign (expr_of a) (expr_of b)
  expr_of (Greater' at _ a _ b) = plain.binary at GreaterSign (expr_of a) (expr_of b)
  expr_of (LessEqual' at _ a _ b) = plain.binary at LessEqualSign (expr_of a) (expr_of b)
  expr_of (GreaterEqual' at _ a _ b) = plain.binary at GreaterEqualSign (expr_of a) (expr_of b)
  expr_of (Equal' at _ a _ b) = plain.binary at EqualSign (expr_of a) (expr_of b)
  expr_of (NotEqual' at _ a _ b) = plain.binary at NotEqualSign (expr_of a) (expr_of b)
  expr_of (And' at _ a _ b) = plain.binary at AndSign (expr_of a) (expr_of b)
  expr_of (ExclusiveOr' at _ a _ b) = plain.binary at ExclusiveOrSign (expr_of a) (expr_of b)
  expr_of (Or' at _ a _ b) = plain.binary at OrSign (expr_of a) (expr_of b)
  expr_of (LogicalAnd' at _ a _ b) = plain.binary at LogicalAndSign (expr_of a) (expr_of b)
  expr_of (LogicalOr' at _ a _ b) = plain.binary at LogicalOrSign (expr_of a) (expr_of b)
  expr_of (Conditional' at _ a _ b _ c) = plain.conditional at (expr_of a) (expr_of b) (expr_of c)
  expr_of (Assign' at _ a op _ b) = plain.assign at op (expr_of a) (expr_of b)
  expr_of (Comma' at _ a _ b) = plain.comma at (expr_of a) (expr_of b)

  -- a type name
  pub type_name_of : TypeName → plain.TypeName
  type_name_of (TypeNameOf' at _ xs d) =
      plain.type_name at (type_words_row plain.no_specifiers xs) (may_abstract_in d)

  -- a word of declaration specifiers
  pub declared_word_of : DeclarationSpecifier → plain.Specifier
  declared_word_of (Storage at s) = plain.storage at s
  declared_word_of (DeclaredType' at _ t) = plain.of_type at (type_specifier_of t)
  declared_word_of (DeclaredQualifier at q) = plain.qualifier at q
  declared_word_of (Inline at) = plain.inline at

  -- a word of a specifier-qualifier-list
  pub type_word_of : SpecifierQualifier → plain.Specifier
  type_word_of (PlainType' at _ t) = plain.of_type at (type_specifier_of t)
  type_word_of (PlainQualifier at q) = plain.qualifier at q

  -- a type specifier
  pub type_specifier_of : TypeSpecifier → plain.TypeSpecifier
  type_specifier_of (Void at) = plain.word at plain.void_word
  type_specifier_of (Char at) = plain.word at plain.char_word
  type_specifier_of (Short at) = plain.word at plain.short_word
  type_specifier_of (Int at) = plain.word at plain.int_word
  type_specifier_of (Long at) = plain.word at plain.long_word
  type_specifier_of (Signed at) = plain.word at plain.signed_word
  type_specifier_of (Unsigned at) = plain.word at plain.unsigned_word
  type_specifier_of (BoolWord at) = plain.word at plain.bool_word
  type_specifier_of (Compound' at _ c) = plain.compound at (compound_of c)
  type_specifier_of (Enumeration' at _ e) = plain.enumeration at (enumeration_of e)
  type_specifier_of (TypedefName at n) = plain.typedef_name at n

  -- a structure or union
  pub compound_of : StructOrUnionSpecifier → plain.CompoundSpecifier
  compound_of (Defined' at kind t _ ms) =
      plain.defined at kind (tag_of t) (members_row plain.no_members ms)
  compound_of (Mentioned at kind t) = plain.mentioned at kind t.place t.name

  -- members of one declaration
  pub member_declaration_of : StructDeclaration → plain.MemberDeclaration
  member_declaration_of (StructDeclarationOf' at _ xs _ ds) =
      plain.members_of at (type_words_row plain.no_specifiers xs)
      (declarators_row plain.no_declarators ds)

  -- an enumeration
  pub enumeration_of : EnumSpecifier → plain.EnumSpecifier
  enumeration_of (Listed' at t _ es) =
      plain.listed at (tag_of t) (enumerators_row plain.no_enumerators es) false
  enumeration_of (ListedComma' at t _ es) =
      plain.listed at (tag_of t) (enumerators_row plain.no_enumerators es) true
  enumeration_of (MentionedEnum at t) = plain.listed_before at t.place t.name

  -- an enumeration constant
  pub enumerator_of : Enumerator → plain.Enumerator
  enumerator_of (Plain at n) = plain.plain at n
  enumerator_of (Valued' at n _ e) = plain.valued at n (expr_of e)

  -- a declarator
  pub declarator_of : Declarator → plain.Declarator
  declarator_of (DeclaratorOf' at ps _ c _ ss) =
      plain.declarator at (pointers_of ps) (core_of c) (suffixes_row plain.no_suffixes ss)

  -- the middle of a declarator
  pub core_of : DirectDeclarator → plain.Core
  core_of (Name at n) = plain.named at n
  core_of (Group' at _ d) = plain.group at (declarator_of d)

  -- an abstract declarator
  pub abstract_of : AbstractDeclarator → plain.Declarator
  abstract_of (AbstractDeclaratorOf' at ps c _ ss) =
      plain.declarator at (pointers_of ps) (abstract_core_in c) (suffixes_row plain.no_suffixes ss)

  -- the middle of an abstract declarator
  pub abstract_core_of : DirectAbstractDeclarator → plain.Core
  abstract_core_of (AbstractGroup' at _ d) = plain.group at (abstract_of d)

  -- the middle of an abstract declarator, or nothing
  pub abstract_core_in : Held-AbstractDeclarator-Of-2 → plain.Core
  abstract_core_in AbstractDeclarator-Of-2-None' = plain.nothing
  abstract_core_in (AbstractDeclarator-Of-2-Some' _ c) = abstract_core_of c

  -- an abstract declarator, or none
  pub may_abstract_in : Held-ParameterDeclaration-Abstract-2 → plain.MayDeclarator
  may_abstract_in ParameterDeclaration-Abstract-2-None' = plain.no_declarator
  may_abstract_in (ParameterDeclaration-Abstract-2-Some' _ d) =
      plain.some_declarator (abstract_of d)

  -- what stands after a declarator
  pub suffix_of : Suffix → plain.Suffix
  suffix_of (Unsized at qs) = plain.unsized at (qualifiers_of qs)
  suffix_of (Sized' at qs _ e) = plain.sized at (qualifiers_of qs) (expr_of e)
  suffix_of (Function' at _ ps) = plain.function at (parameter_types_of ps)
  suffix_of (Unprototyped at) = plain.unprototyped at

  -- the parameters of a function
  pub parameter_types_of : ParameterTypeList → plain.ParameterTypes
  parameter_types_of (Fixed' at _ ps) =
      plain.parameter_types at (parameters_row plain.no_parameters ps) false
  parameter_types_of (Variadic' at _ ps) =
      plain.parameter_types at (parameters_row plain.no_parameters ps) true

  -- a parameter
  pub parameter_of : ParameterDeclaration → plain.Parameter
  parameter_of (Named' at _ xs _ d) =
      plain.parameter at (declared_words_row plain.no_specifiers xs)
      (plain.some_declarator (declarator_of d))
  parameter_of (Abstract' at _ xs d) =
      plain.parameter at (declared_words_row plain.no_specifiers xs) (may_abstract_in d)

  -- arguments after others
  pub arguments_row : {m : _} → plain.Arguments → Row_of-Expr-Call-2-1 m → plain.Arguments
  arguments_row xs end_of-Expr-Call-2-1 = xs
  arguments_row xs (more_of-Expr-Call-2-1 _ x rest) =
      arguments_row (plain.then_argument xs (expr_of x)) rest

  -- words of a specifier-qualifier-list after others
  pub type_words_row : {m : _} → plain.Specifiers → Row_of-TypeName-Of-1-1 m → plain.Specifiers
  type_words_row xs end_of-TypeName-Of-1-1 = xs
  type_words_row xs (more_of-TypeName-Of-1-1 _ x rest) =
      type_words_row (plain.then_specifier xs (type_word_of x)) rest

  -- words of declaration specifiers after others
  pub declared_words_row : {m : _} → plain.Specifiers → Row_of-ParameterDeclaration-Named-1-1 m
      → plain.Specifiers
  declared_words_row xs end_of-ParameterDeclaration-Named-1-1 = xs
  declared_words_row xs (more_of-ParameterDeclaration-Named-1-1 _ x rest) =
      declared_words_row (plain.then_specifier xs (declared_word_of x)) rest

  -- member declarations after others
  pub members_row : {m : _} → plain.Members → Row_of-StructOrUnionSpecifier-Defined-3-1 m
      → plain.Members
  members_row xs end_of-StructOrUnionSpecifier-Defined-3-1 = xs
  members_row xs (more_of-StructOrUnionSpecifier-Defined-3-1 _ x rest) =
      members_row (plain.then_member xs (member_declaration_of x)) rest

  -- declarators after others
  pub declarators_row : {m : _} → plain.Declarators → Row_of-StructDeclaration-Of-2-1 m
      → plain.Declarators
  declarators_row xs end_of-StructDeclaration-Of-2-1 = xs
  declarators_row xs (more_of-StructDeclaration-Of-2-1 _ x rest) =
      declarators_row (plain.then_declarator xs (declarator_of x)) rest

  -- enumeration constants after others
  pub enumerators_row : {m : _} → plain.Enumerators → Row_of-EnumSpecifier-Listed-2-1 m
      → plain.Enumerators
  enumerators_row xs end_of-EnumSpecifier-Listed-2-1 = xs
  enumerators_row xs (more_of-EnumSpecifier-Listed-2-1 _ x rest) =
      enumerators_row (plain.then_enumerator xs (enumerator_of x)) rest

  -- suffixes after others
  pub suffixes_row : {m : _} → plain.Suffixes → Row_of-AbstractDeclarator-Of-3-1 m → plain.Suffixes
  suffixes_row xs end_of-AbstractDeclarator-Of-3-1 = xs
  suffixes_row xs (more_of-AbstractDeclarator-Of-3-1 _ x rest) =
      suffixes_row (plain.then_suffix xs (suffix_of x)) rest

  -- parameters after others
  pub parameters_row : {m : _} → plain.Parameters → Row_of-ParameterTypeList-Fixed-1-1 m
      → plain.Parameters
  parameters_row xs end_of-ParameterTypeList-Fixed-1-1 = xs
  parameters_row xs (more_of-ParameterTypeList-Fixed-1-1 _ x rest) =
      parameters_row (plain.then_parameter xs (parameter_of x)) rest

-- arguments of a list, after others
abbrev pub arguments_after : plain.Arguments → List (Rc Expr Global) → plain.Arguments
arguments_after xs [] = xs
arguments_after xs (x ∷ rest) = arguments_after (plain.then_argument xs (expr_of x.value)) rest

-- arguments of a list
abbrev pub arguments_of : List (Rc Expr Global) → plain.Arguments
arguments_of xs = arguments_after plain.no_arguments xs

-- words of a specifier-qualifier-list of a list, after others
abbrev pub type_words_after : plain.Specifiers → List (Rc SpecifierQualifier Global)
    → plain.Specifiers
type_words_after xs [] = xs
type_words_after xs (x ∷ rest) =
    type_words_after (plain.then_specifier xs (type_word_of x.value)) rest

-- words of a specifier-qualifier-list of a list
abbrev pub type_words_of : List (Rc SpecifierQualifier Global) → plain.Specifiers
type_words_of xs = type_words_after plain.no_specifiers xs

-- words of declaration specifiers of a list, after others
abbrev pub declared_words_after : plain.Specifiers → List (Rc DeclarationSpecifier Global)
    → plain.Specifiers
declared_words_after xs [] = xs
declared_words_after xs (x ∷ rest) =
    declared_words_after (plain.then_specifier xs (declared_word_of x.value)) rest

-- words of declaration specifiers of a list
abbrev pub declared_words_of : List (Rc DeclarationSpecifier Global) → plain.Specifiers
declared_words_of xs = declared_words_after plain.no_specifiers xs

-- member declarations of a list, after others
abbrev pub members_after : plain.Members → List (Rc StructDeclaration Global) → plain.Members
members_after xs [] = xs
members_after xs (x ∷ rest) =
    members_after (plain.then_member xs (member_declaration_of x.value)) rest

-- member declarations of a list
abbrev pub members_of : List (Rc StructDeclaration Global) → plain.Members
members_of xs = members_after plain.no_members xs

-- declarators of a list, after others
abbrev pub declarators_after : plain.Declarators → List (Rc Declarator Global) → plain.Declarators
declarators_after xs [] = xs
declarators_after xs (x ∷ rest) =
    declarators_after (plain.then_declarator xs (declarator_of x.value)) rest

-- declarators of a list
abbrev pub declarators_of : List (Rc Declarator Global) → plain.Declarators
declarators_of xs = declarators_after plain.no_declarators xs

-- enumeration constants of a list, after others
abbrev pub enumerators_after : plain.Enumerators → List (Rc Enumerator Global) → plain.Enumerators
enumerators_after xs [] = xs
enumerators_after xs (x ∷ rest) =
    enumerators_after (plain.then_enumerator xs (enumerator_of x.value)) rest

-- enumeration constants of a list
abbrev pub enumerators_of : List (Rc Enumerator Global) → plain.Enumerators
enumerators_of xs = enumerators_after plain.no_enumerators xs

-- suffixes of a list, after others
abbrev pub suffixes_after : plain.Suffixes → List (Rc Suffix Global) → plain.Suffixes
suffixes_after xs [] = xs
suffixes_after xs (x ∷ rest) = suffixes_after (plain.then_suffix xs (suffix_of x.value)) rest

-- suffixes of a list
abbrev pub suffixes_of : List (Rc Suffix Global) → plain.Suffixes
suffixes_of xs = suffixes_after plain.no_suffixes xs

-- parameters of a list, after others
abbrev pub parameters_after : plain.Parameters → List (Rc ParameterDeclaration Global)
    → plain.Parameters
parameters_after xs [] = xs
parameters_after xs (x ∷ rest) =
    parameters_after (plain.then_parameter xs (parameter_of x.value)) rest

-- parameters of a list
abbrev pub parameters_of : List (Rc ParameterDeclaration Global) → plain.Parameters
parameters_of xs = parameters_after plain.no_parameters xs

-- an abstract declarator, or none
abbrev pub may_abstract_of : Option (Rc AbstractDeclarator Global) → plain.MayDeclarator
may_abstract_of None = plain.no_declarator
may_abstract_of (Some d) = plain.some_declarator (abstract_of d.value)

-- the middle of an abstract declarator, or nothing
abbrev pub may_abstract_core_of : Option (Rc DirectAbstractDeclarator Global) → plain.Core
may_abstract_core_of None = plain.nothing
may_abstract_core_of (Some c) = abstract_core_of c.value
