-- The parts of a tree as they are stored, and lists with one more: what a proof about a walk or a builder
-- rewrites by.
use Rattle.std.proofs.Common.{◌≡◌, List, [], ◌∷◌, ◌++◌, Option, Some, None, refl, ap, ◌∙◌}
use Rattle.std.specs.declared.rc.Rc.{Rc}
use Rattle.std.specs.declared.alloc.Global.{Global}
use Rattle.hv_ctree.specs.declared.tree.expr.Expr.{Expr}
use Rattle.hv_ctree.specs.declared.tree.specifier.SpecifierQualifier.{SpecifierQualifier}
use Rattle.hv_ctree.specs.declared.tree.specifier.DeclarationSpecifier.{DeclarationSpecifier}
use Rattle.hv_ctree.specs.declared.tree.specifier.StructDeclaration.{StructDeclaration}
use Rattle.hv_ctree.specs.declared.tree.declarator.Declarator.{Declarator}
use Rattle.hv_ctree.specs.declared.tree.specifier.Enumerator.{Enumerator}
use Rattle.hv_ctree.specs.declared.tree.declarator.Suffix.{Suffix}
use Rattle.hv_ctree.specs.declared.tree.declarator.ParameterDeclaration.{ParameterDeclaration}
use Rattle.hv_ctree.specs.declared.tree.declarator.AbstractDeclarator.{AbstractDeclarator}
use Rattle.hv_ctree.specs.declared.tree.declarator.DirectAbstractDeclarator.{DirectAbstractDeclarator}
use Rattle.hv_ctree.specs.declared.tree.declarator.Pointer.{Pointer}
use Rattle.hv_ctree.specs.declared.tree.words.TypeQualifier.{TypeQualifier}
use Rattle.hv_ctree.specs.declared.tree.declarator.AbstractDeclarator.TheBlock.{Row_of-Expr-Call-2-1, end_of-Expr-Call-2-1, more_of-Expr-Call-2-1, items-the_row-Expr-Call-2-1, items_hidden-the_row-Expr-Call-2-1-3, hidden-the_row-Expr-Call-2-1-3, Row_of-TypeName-Of-1-1, end_of-TypeName-Of-1-1, more_of-TypeName-Of-1-1, items-the_row-TypeName-Of-1-1, items_hidden-the_row-TypeName-Of-1-1-4, hidden-the_row-TypeName-Of-1-1-4, Row_of-ParameterDeclaration-Named-1-1, end_of-ParameterDeclaration-Named-1-1, more_of-ParameterDeclaration-Named-1-1, items-the_row-ParameterDeclaration-Named-1-1, items_hidden-the_row-ParameterDeclaration-Named-1-1-1, hidden-the_row-ParameterDeclaration-Named-1-1-1, Row_of-StructOrUnionSpecifier-Defined-3-1, end_of-StructOrUnionSpecifier-Defined-3-1, more_of-StructOrUnionSpecifier-Defined-3-1, items-the_row-StructOrUnionSpecifier-Defined-3-1, items_hidden-the_row-StructOrUnionSpecifier-Defined-3-1-7, hidden-the_row-StructOrUnionSpecifier-Defined-3-1-7, Row_of-StructDeclaration-Of-2-1, end_of-StructDeclaration-Of-2-1, more_of-StructDeclaration-Of-2-1, items-the_row-StructDeclaration-Of-2-1, items_hidden-the_row-StructDeclaration-Of-2-1-6, hidden-the_row-StructDeclaration-Of-2-1-6, Row_of-EnumSpecifier-Listed-2-1, end_of-EnumSpecifier-Listed-2-1, more_of-EnumSpecifier-Listed-2-1, items-the_row-EnumSpecifier-Listed-2-1, items_hidden-the_row-EnumSpecifier-Listed-2-1-5, hidden-the_row-EnumSpecifier-Listed-2-1-5, Row_of-AbstractDeclarator-Of-3-1, end_of-AbstractDeclarator-Of-3-1, more_of-AbstractDeclarator-Of-3-1, items-the_row-AbstractDeclarator-Of-3-1, items_hidden-the_row-AbstractDeclarator-Of-3-1-0, hidden-the_row-AbstractDeclarator-Of-3-1-0, Row_of-ParameterTypeList-Fixed-1-1, end_of-ParameterTypeList-Fixed-1-1, more_of-ParameterTypeList-Fixed-1-1, items-the_row-ParameterTypeList-Fixed-1-1, items_hidden-the_row-ParameterTypeList-Fixed-1-1-2, hidden-the_row-ParameterTypeList-Fixed-1-1-2, back-AbstractDeclarator-Of-2, back-ParameterDeclaration-Abstract-2}
use Rattle.hv_ctree.specs.tree.Erase.{arguments_row, arguments_after, expr_of, type_words_row, type_words_after, type_word_of, declared_words_row, declared_words_after, declared_word_of, members_row, members_after, member_declaration_of, declarators_row, declarators_after, declarator_of, enumerators_row, enumerators_after, enumerator_of, suffixes_row, suffixes_after, suffix_of, parameters_row, parameters_after, parameter_of, qualifiers_after, qualifiers_of, pointers_after, abstract_core_in, may_abstract_in, may_abstract_of, may_abstract_core_of}
use Rattle.hv_ctree.specs.tree.Expressions as plain

------ arguments
arguments_items : (n : _) (ys : plain.Arguments) (k : Row_of-Expr-Call-2-1 n) → arguments_row ys k ≡ arguments_after ys (items-the_row-Expr-Call-2-1 n k)
arguments_items _ ys end_of-Expr-Call-2-1 = refl
arguments_items _ ys (more_of-Expr-Call-2-1 _ x rest) = arguments_items _ (plain.then_argument ys (expr_of x)) rest

pub arguments_hidden : (ys : plain.Arguments) (xs : List (Rc Expr Global)) → arguments_row ys (hidden-the_row-Expr-Call-2-1-3 xs) ≡ arguments_after ys xs
arguments_hidden ys xs = arguments_items _ ys (hidden-the_row-Expr-Call-2-1-3 xs) ∙ ap (arguments_after ys) (items_hidden-the_row-Expr-Call-2-1-3 xs)

pub arguments_push_after : (ys : plain.Arguments) (xs : List (Rc Expr Global)) (x : Rc Expr Global) → arguments_after ys (xs ++ x ∷ []) ≡ plain.then_argument (arguments_after ys xs) (expr_of x.value)
arguments_push_after ys [] x = refl
arguments_push_after ys (y ∷ rest) x = arguments_push_after (plain.then_argument ys (expr_of y.value)) rest x

------ type_words
type_words_items : (n : _) (ys : plain.Specifiers) (k : Row_of-TypeName-Of-1-1 n) → type_words_row ys k ≡ type_words_after ys (items-the_row-TypeName-Of-1-1 n k)
type_words_items _ ys end_of-TypeName-Of-1-1 = refl
type_words_items _ ys (more_of-TypeName-Of-1-1 _ x rest) = type_words_items _ (plain.then_specifier ys (type_word_of x)) rest

pub type_words_hidden : (ys : plain.Specifiers) (xs : List (Rc SpecifierQualifier Global)) → type_words_row ys (hidden-the_row-TypeName-Of-1-1-4 xs) ≡ type_words_after ys xs
type_words_hidden ys xs = type_words_items _ ys (hidden-the_row-TypeName-Of-1-1-4 xs) ∙ ap (type_words_after ys) (items_hidden-the_row-TypeName-Of-1-1-4 xs)

pub type_words_push_after : (ys : plain.Specifiers) (xs : List (Rc SpecifierQualifier Global)) (x : Rc SpecifierQualifier Global) → type_words_after ys (xs ++ x ∷ []) ≡ plain.then_specifier (type_words_after ys xs) (type_word_of x.value)
type_words_push_after ys [] x = refl
type_words_push_after ys (y ∷ rest) x = type_words_push_after (plain.then_specifier ys (type_word_of y.value)) rest x

------ declared_words
declared_words_items : (n : _) (ys : plain.Specifiers) (k : Row_of-ParameterDeclaration-Named-1-1 n) → declared_words_row ys k ≡ declared_words_after ys (items-the_row-ParameterDeclaration-Named-1-1 n k)
declared_words_items _ ys end_of-ParameterDeclaration-Named-1-1 = refl
declared_words_items _ ys (more_of-ParameterDeclaration-Named-1-1 _ x rest) = declared_words_items _ (plain.then_specifier ys (declared_word_of x)) rest

pub declared_words_hidden : (ys : plain.Specifiers) (xs : List (Rc DeclarationSpecifier Global)) → declared_words_row ys (hidden-the_row-ParameterDeclaration-Named-1-1-1 xs) ≡ declared_words_after ys xs
declared_words_hidden ys xs = declared_words_items _ ys (hidden-the_row-ParameterDeclaration-Named-1-1-1 xs) ∙ ap (declared_words_after ys) (items_hidden-the_row-ParameterDeclaration-Named-1-1-1 xs)

pub declared_words_push_after : (ys : plain.Specifiers) (xs : List (Rc DeclarationSpecifier Global)) (x : Rc DeclarationSpecifier Global) → declared_words_after ys (xs ++ x ∷ []) ≡ plain.then_specifier (declared_words_after ys xs) (declared_word_of x.value)
declared_words_push_after ys [] x = refl
declared_words_push_after ys (y ∷ rest) x = declared_words_push_after (plain.then_specifier ys (declared_word_of y.value)) rest x

------ members
members_items : (n : _) (ys : plain.Members) (k : Row_of-StructOrUnionSpecifier-Defined-3-1 n) → members_row ys k ≡ members_after ys (items-the_row-StructOrUnionSpecifier-Defined-3-1 n k)
members_items _ ys end_of-StructOrUnionSpecifier-Defined-3-1 = refl
members_items _ ys (more_of-StructOrUnionSpecifier-Defined-3-1 _ x rest) = members_items _ (plain.then_member ys (member_declaration_of x)) rest

pub members_hidden : (ys : plain.Members) (xs : List (Rc StructDeclaration Global)) → members_row ys (hidden-the_row-StructOrUnionSpecifier-Defined-3-1-7 xs) ≡ members_after ys xs
members_hidden ys xs = members_items _ ys (hidden-the_row-StructOrUnionSpecifier-Defined-3-1-7 xs) ∙ ap (members_after ys) (items_hidden-the_row-StructOrUnionSpecifier-Defined-3-1-7 xs)

pub members_push_after : (ys : plain.Members) (xs : List (Rc StructDeclaration Global)) (x : Rc StructDeclaration Global) → members_after ys (xs ++ x ∷ []) ≡ plain.then_member (members_after ys xs) (member_declaration_of x.value)
members_push_after ys [] x = refl
members_push_after ys (y ∷ rest) x = members_push_after (plain.then_member ys (member_declaration_of y.value)) rest x

------ declarators
declarators_items : (n : _) (ys : plain.Declarators) (k : Row_of-StructDeclaration-Of-2-1 n) → declarators_row ys k ≡ declarators_after ys (items-the_row-StructDeclaration-Of-2-1 n k)
declarators_items _ ys end_of-StructDeclaration-Of-2-1 = refl
declarators_items _ ys (more_of-StructDeclaration-Of-2-1 _ x rest) = declarators_items _ (plain.then_declarator ys (declarator_of x)) rest

pub declarators_hidden : (ys : plain.Declarators) (xs : List (Rc Declarator Global)) → declarators_row ys (hidden-the_row-StructDeclaration-Of-2-1-6 xs) ≡ declarators_after ys xs
declarators_hidden ys xs = declarators_items _ ys (hidden-the_row-StructDeclaration-Of-2-1-6 xs) ∙ ap (declarators_after ys) (items_hidden-the_row-StructDeclaration-Of-2-1-6 xs)

pub declarators_push_after : (ys : plain.Declarators) (xs : List (Rc Declarator Global)) (x : Rc Declarator Global) → declarators_after ys (xs ++ x ∷ []) ≡ plain.then_declarator (declarators_after ys xs) (declarator_of x.value)
declarators_push_after ys [] x = refl
declarators_push_after ys (y ∷ rest) x = declarators_push_after (plain.then_declarator ys (declarator_of y.value)) rest x

------ enumerators
enumerators_items : (n : _) (ys : plain.Enumerators) (k : Row_of-EnumSpecifier-Listed-2-1 n) → enumerators_row ys k ≡ enumerators_after ys (items-the_row-EnumSpecifier-Listed-2-1 n k)
enumerators_items _ ys end_of-EnumSpecifier-Listed-2-1 = refl
enumerators_items _ ys (more_of-EnumSpecifier-Listed-2-1 _ x rest) = enumerators_items _ (plain.then_enumerator ys (enumerator_of x)) rest

pub enumerators_hidden : (ys : plain.Enumerators) (xs : List (Rc Enumerator Global)) → enumerators_row ys (hidden-the_row-EnumSpecifier-Listed-2-1-5 xs) ≡ enumerators_after ys xs
enumerators_hidden ys xs = enumerators_items _ ys (hidden-the_row-EnumSpecifier-Listed-2-1-5 xs) ∙ ap (enumerators_after ys) (items_hidden-the_row-EnumSpecifier-Listed-2-1-5 xs)

pub enumerators_push_after : (ys : plain.Enumerators) (xs : List (Rc Enumerator Global)) (x : Rc Enumerator Global) → enumerators_after ys (xs ++ x ∷ []) ≡ plain.then_enumerator (enumerators_after ys xs) (enumerator_of x.value)
enumerators_push_after ys [] x = refl
enumerators_push_after ys (y ∷ rest) x = enumerators_push_after (plain.then_enumerator ys (enumerator_of y.value)) rest x

------ suffixes
suffixes_items : (n : _) (ys : plain.Suffixes) (k : Row_of-AbstractDeclarator-Of-3-1 n) → suffixes_row ys k ≡ suffixes_after ys (items-the_row-AbstractDeclarator-Of-3-1 n k)
suffixes_items _ ys end_of-AbstractDeclarator-Of-3-1 = refl
suffixes_items _ ys (more_of-AbstractDeclarator-Of-3-1 _ x rest) = suffixes_items _ (plain.then_suffix ys (suffix_of x)) rest

pub suffixes_hidden : (ys : plain.Suffixes) (xs : List (Rc Suffix Global)) → suffixes_row ys (hidden-the_row-AbstractDeclarator-Of-3-1-0 xs) ≡ suffixes_after ys xs
suffixes_hidden ys xs = suffixes_items _ ys (hidden-the_row-AbstractDeclarator-Of-3-1-0 xs) ∙ ap (suffixes_after ys) (items_hidden-the_row-AbstractDeclarator-Of-3-1-0 xs)

pub suffixes_push_after : (ys : plain.Suffixes) (xs : List (Rc Suffix Global)) (x : Rc Suffix Global) → suffixes_after ys (xs ++ x ∷ []) ≡ plain.then_suffix (suffixes_after ys xs) (suffix_of x.value)
suffixes_push_after ys [] x = refl
suffixes_push_after ys (y ∷ rest) x = suffixes_push_after (plain.then_suffix ys (suffix_of y.value)) rest x

------ parameters
parameters_items : (n : _) (ys : plain.Parameters) (k : Row_of-ParameterTypeList-Fixed-1-1 n) → parameters_row ys k ≡ parameters_after ys (items-the_row-ParameterTypeList-Fixed-1-1 n k)
parameters_items _ ys end_of-ParameterTypeList-Fixed-1-1 = refl
parameters_items _ ys (more_of-ParameterTypeList-Fixed-1-1 _ x rest) = parameters_items _ (plain.then_parameter ys (parameter_of x)) rest

pub parameters_hidden : (ys : plain.Parameters) (xs : List (Rc ParameterDeclaration Global)) → parameters_row ys (hidden-the_row-ParameterTypeList-Fixed-1-1-2 xs) ≡ parameters_after ys xs
parameters_hidden ys xs = parameters_items _ ys (hidden-the_row-ParameterTypeList-Fixed-1-1-2 xs) ∙ ap (parameters_after ys) (items_hidden-the_row-ParameterTypeList-Fixed-1-1-2 xs)

pub parameters_push_after : (ys : plain.Parameters) (xs : List (Rc ParameterDeclaration Global)) (x : Rc ParameterDeclaration Global) → parameters_after ys (xs ++ x ∷ []) ≡ plain.then_parameter (parameters_after ys xs) (parameter_of x.value)
parameters_push_after ys [] x = refl
parameters_push_after ys (y ∷ rest) x = parameters_push_after (plain.then_parameter ys (parameter_of y.value)) rest x

------ qualifiers, pointers
pub qualifiers_push_after : (ys : plain.Qualifiers) (qs : List TypeQualifier) (q : TypeQualifier) → qualifiers_after ys (qs ++ q ∷ []) ≡ plain.then_qualifier (qualifiers_after ys qs) q
qualifiers_push_after ys [] q = refl
qualifiers_push_after ys (r ∷ rest) q = qualifiers_push_after (plain.then_qualifier ys r) rest q

pub pointers_push_after : (ys : plain.Pointers) (ps : List Pointer) (p : Pointer) → pointers_after ys (ps ++ p ∷ []) ≡ plain.then_pointer (pointers_after ys ps) p.place (qualifiers_of p.qualifiers)
pointers_push_after ys [] p = refl
pointers_push_after ys (q ∷ rest) p = pointers_push_after (plain.then_pointer ys q.place (qualifiers_of q.qualifiers)) rest p

------ options
pub may_abstract_back : (x : Option (Rc AbstractDeclarator Global)) → may_abstract_in (back-ParameterDeclaration-Abstract-2 x) ≡ may_abstract_of x
may_abstract_back None = refl
may_abstract_back (Some x) = refl

pub may_abstract_core_back : (x : Option (Rc DirectAbstractDeclarator Global)) → abstract_core_in (back-AbstractDeclarator-Of-2 x) ≡ may_abstract_core_of x
may_abstract_core_back None = refl
may_abstract_core_back (Some x) = refl

-- the stored parts of a node
pub ruleset erasing = (arguments_hidden, type_words_hidden, declared_words_hidden, members_hidden, declarators_hidden, enumerators_hidden, suffixes_hidden, parameters_hidden, may_abstract_back, may_abstract_core_back)

-- lists with one more
pub ruleset pushing = (arguments_push_after, type_words_push_after, declared_words_push_after, members_push_after, declarators_push_after, enumerators_push_after, suffixes_push_after, parameters_push_after, qualifiers_push_after, pointers_push_after)
