-- The tokens of lists of children, from the left: what a loop over a list has still to print.
use Rattle.std.proofs.Common.{◌≡◌, ℕ, ◌+◌, List, [], ◌∷◌, ◌++◌, refl, sym, ap, ◌∙◌, append_assoc, add-one}
use Rattle.std.proofs.lemmas.List.{append-nil}
use Rattle.std.specs.declared.rc.Rc.{Rc}
use Rattle.std.specs.declared.alloc.Global.{Global}
use Rattle.hv_ctree.specs.declared.tree.expr.Expr.{Expr}
use Rattle.hv_ctree.specs.declared.tree.declarator.Declarator.{Declarator}
use Rattle.hv_ctree.specs.declared.tree.declarator.Pointer.{Pointer}
use Rattle.hv_ctree.specs.declared.tree.declarator.Suffix.{Suffix}
use Rattle.hv_ctree.specs.declared.tree.declarator.ParameterDeclaration.{ParameterDeclaration}
use Rattle.hv_ctree.specs.declared.tree.specifier.DeclarationSpecifier.{DeclarationSpecifier}
use Rattle.hv_ctree.specs.declared.tree.specifier.Enumerator.{Enumerator}
use Rattle.hv_ctree.specs.declared.tree.specifier.SpecifierQualifier.{SpecifierQualifier}
use Rattle.hv_ctree.specs.declared.tree.specifier.StructDeclaration.{StructDeclaration}
use Rattle.hv_ctree.specs.declared.tree.words.TypeQualifier.{TypeQualifier}
use Rattle.hv_ctree.specs.tree.Erase.{expr_of, arguments_after, declarator_of, declarators_after, enumerator_of, enumerators_after, parameter_of, parameters_after, type_word_of, type_words_after, declared_word_of, declared_words_after, member_declaration_of, members_after, suffix_of, suffixes_after, qualifiers_of, qualifiers_after, pointers_after}
use Rattle.hv_ctree.specs.tree.Expressions as plain
use Rattle.hv_grammar.specs.Symbols.{Symbol, sign, comma_sign, qualifier_word}
use Rattle.hv_base.specs.declared.punct.Punct.TheVariants as puncts
use Rattle.hv_grammar.specs.Tokens.{tokens_of, arguments_tokens, declarator_tokens, declarators_tokens, enumerator_tokens, enumerators_tokens, parameter_tokens, parameters_tokens, specifier_tokens, specifiers_tokens, member_tokens, members_tokens, suffix_tokens, suffixes_tokens, qualifiers_tokens, pointers_tokens}
use Rattle.hv_print.specs.working.Printed.{comma_before}

-- every phrase but the first has a comma before it
pub comma_next : (i : ℕ) → comma_before (i + 1) ≡ comma_sign ∷ []
comma_next i = ap comma_before (add-one i)

------ qualifiers

-- the tokens of what is left of qualifiers
abbrev pub qualifiers_left : List TypeQualifier → List Symbol
qualifiers_left [] = []
qualifiers_left (x ∷ xs) = (qualifier_word x ∷ []) ++ qualifiers_left xs

qualifiers_after_left : (ys : plain.Qualifiers) (xs : List TypeQualifier)
    → qualifiers_tokens (qualifiers_after ys xs) ≡ qualifiers_tokens ys ++ qualifiers_left xs
qualifiers_after_left ys [] = sym (append-nil (qualifiers_tokens ys))
qualifiers_after_left ys (x ∷ xs) = qualifiers_after_left (plain.then_qualifier ys x) xs ∙ append_assoc (qualifiers_tokens ys) ((qualifier_word x ∷ [])) (qualifiers_left xs)

pub qualifiers_all : (xs : List TypeQualifier) → qualifiers_tokens (qualifiers_after plain.no_qualifiers xs) ≡ qualifiers_left xs
qualifiers_all xs = qualifiers_after_left plain.no_qualifiers xs

------ pointers

-- the tokens of what is left of `*`s
abbrev pub pointers_left : List Pointer → List Symbol
pointers_left [] = []
pointers_left (x ∷ xs) = (sign puncts.Star ∷ qualifiers_tokens (qualifiers_of x.qualifiers)) ++ pointers_left xs

pointers_after_left : (ys : plain.Pointers) (xs : List Pointer)
    → pointers_tokens (pointers_after ys xs) ≡ pointers_tokens ys ++ pointers_left xs
pointers_after_left ys [] = sym (append-nil (pointers_tokens ys))
pointers_after_left ys (x ∷ xs) = pointers_after_left (plain.then_pointer ys x.place (qualifiers_of x.qualifiers)) xs ∙ append_assoc (pointers_tokens ys) ((sign puncts.Star ∷ qualifiers_tokens (qualifiers_of x.qualifiers))) (pointers_left xs)

pub pointers_all : (xs : List Pointer) → pointers_tokens (pointers_after plain.no_pointers xs) ≡ pointers_left xs
pointers_all xs = pointers_after_left plain.no_pointers xs

------ type_words

-- the tokens of what is left of words of a specifier-qualifier-list
abbrev pub type_words_left : List (Rc SpecifierQualifier Global) → List Symbol
type_words_left [] = []
type_words_left (x ∷ xs) = specifier_tokens (type_word_of x.value) ++ type_words_left xs

type_words_after_left : (ys : plain.Specifiers) (xs : List (Rc SpecifierQualifier Global))
    → specifiers_tokens (type_words_after ys xs) ≡ specifiers_tokens ys ++ type_words_left xs
type_words_after_left ys [] = sym (append-nil (specifiers_tokens ys))
type_words_after_left ys (x ∷ xs) = type_words_after_left (plain.then_specifier ys (type_word_of x.value)) xs ∙ append_assoc (specifiers_tokens ys) (specifier_tokens (type_word_of x.value)) (type_words_left xs)

pub type_words_all : (xs : List (Rc SpecifierQualifier Global)) → specifiers_tokens (type_words_after plain.no_specifiers xs) ≡ type_words_left xs
type_words_all xs = type_words_after_left plain.no_specifiers xs

------ declared_words

-- the tokens of what is left of words of declaration specifiers
abbrev pub declared_words_left : List (Rc DeclarationSpecifier Global) → List Symbol
declared_words_left [] = []
declared_words_left (x ∷ xs) = specifier_tokens (declared_word_of x.value) ++ declared_words_left xs

declared_words_after_left : (ys : plain.Specifiers) (xs : List (Rc DeclarationSpecifier Global))
    → specifiers_tokens (declared_words_after ys xs) ≡ specifiers_tokens ys ++ declared_words_left xs
declared_words_after_left ys [] = sym (append-nil (specifiers_tokens ys))
declared_words_after_left ys (x ∷ xs) = declared_words_after_left (plain.then_specifier ys (declared_word_of x.value)) xs ∙ append_assoc (specifiers_tokens ys) (specifier_tokens (declared_word_of x.value)) (declared_words_left xs)

pub declared_words_all : (xs : List (Rc DeclarationSpecifier Global)) → specifiers_tokens (declared_words_after plain.no_specifiers xs) ≡ declared_words_left xs
declared_words_all xs = declared_words_after_left plain.no_specifiers xs

------ members

-- the tokens of what is left of member declarations
abbrev pub members_left : List (Rc StructDeclaration Global) → List Symbol
members_left [] = []
members_left (x ∷ xs) = member_tokens (member_declaration_of x.value) ++ members_left xs

members_after_left : (ys : plain.Members) (xs : List (Rc StructDeclaration Global))
    → members_tokens (members_after ys xs) ≡ members_tokens ys ++ members_left xs
members_after_left ys [] = sym (append-nil (members_tokens ys))
members_after_left ys (x ∷ xs) = members_after_left (plain.then_member ys (member_declaration_of x.value)) xs ∙ append_assoc (members_tokens ys) (member_tokens (member_declaration_of x.value)) (members_left xs)

pub members_all : (xs : List (Rc StructDeclaration Global)) → members_tokens (members_after plain.no_members xs) ≡ members_left xs
members_all xs = members_after_left plain.no_members xs

------ suffixes

-- the tokens of what is left of suffixes
abbrev pub suffixes_left : List (Rc Suffix Global) → List Symbol
suffixes_left [] = []
suffixes_left (x ∷ xs) = suffix_tokens (suffix_of x.value) ++ suffixes_left xs

suffixes_after_left : (ys : plain.Suffixes) (xs : List (Rc Suffix Global))
    → suffixes_tokens (suffixes_after ys xs) ≡ suffixes_tokens ys ++ suffixes_left xs
suffixes_after_left ys [] = sym (append-nil (suffixes_tokens ys))
suffixes_after_left ys (x ∷ xs) = suffixes_after_left (plain.then_suffix ys (suffix_of x.value)) xs ∙ append_assoc (suffixes_tokens ys) (suffix_tokens (suffix_of x.value)) (suffixes_left xs)

pub suffixes_all : (xs : List (Rc Suffix Global)) → suffixes_tokens (suffixes_after plain.no_suffixes xs) ≡ suffixes_left xs
suffixes_all xs = suffixes_after_left plain.no_suffixes xs

------ arguments

-- the tokens of what is left of arguments, from this index on
abbrev pub arguments_left : ℕ → List (Rc Expr Global) → List Symbol
arguments_left i [] = []
arguments_left i (x ∷ xs) =
    comma_before i ++ (tokens_of (expr_of x.value) ++ arguments_left (i + 1) xs)

arguments_after_left : (zs : plain.Arguments) (b : plain.Expr) (xs : List (Rc Expr Global)) (i : ℕ)
    → arguments_tokens (arguments_after (plain.then_argument zs b) xs)
    ≡ arguments_tokens (plain.then_argument zs b) ++ arguments_left (i + 1) xs
arguments_after_left zs b [] i = sym (append-nil (arguments_tokens (plain.then_argument zs b)))
arguments_after_left zs b (x ∷ xs) i =
    arguments_after_left (plain.then_argument zs b) (expr_of x.value) xs (i + 1)
    ∙ rw (comma_next i) (simp append_assoc)

pub arguments_all : (xs : List (Rc Expr Global))
    → arguments_tokens (arguments_after plain.no_arguments xs) ≡ arguments_left 0 xs
arguments_all [] = refl
arguments_all (x ∷ xs) = arguments_after_left plain.no_arguments (expr_of x.value) xs 0

------ declarators

-- the tokens of what is left of declarators, from this index on
abbrev pub declarators_left : ℕ → List (Rc Declarator Global) → List Symbol
declarators_left i [] = []
declarators_left i (x ∷ xs) =
    comma_before i ++ (declarator_tokens (declarator_of x.value) ++ declarators_left (i + 1) xs)

declarators_after_left : (zs : plain.Declarators) (b : plain.Declarator) (xs : List (Rc Declarator Global)) (i : ℕ)
    → declarators_tokens (declarators_after (plain.then_declarator zs b) xs)
    ≡ declarators_tokens (plain.then_declarator zs b) ++ declarators_left (i + 1) xs
declarators_after_left zs b [] i = sym (append-nil (declarators_tokens (plain.then_declarator zs b)))
declarators_after_left zs b (x ∷ xs) i =
    declarators_after_left (plain.then_declarator zs b) (declarator_of x.value) xs (i + 1)
    ∙ rw (comma_next i) (simp append_assoc)

pub declarators_all : (xs : List (Rc Declarator Global))
    → declarators_tokens (declarators_after plain.no_declarators xs) ≡ declarators_left 0 xs
declarators_all [] = refl
declarators_all (x ∷ xs) = declarators_after_left plain.no_declarators (declarator_of x.value) xs 0

------ enumerators

-- the tokens of what is left of enumeration constants, from this index on
abbrev pub enumerators_left : ℕ → List (Rc Enumerator Global) → List Symbol
enumerators_left i [] = []
enumerators_left i (x ∷ xs) =
    comma_before i ++ (enumerator_tokens (enumerator_of x.value) ++ enumerators_left (i + 1) xs)

enumerators_after_left : (zs : plain.Enumerators) (b : plain.Enumerator) (xs : List (Rc Enumerator Global)) (i : ℕ)
    → enumerators_tokens (enumerators_after (plain.then_enumerator zs b) xs)
    ≡ enumerators_tokens (plain.then_enumerator zs b) ++ enumerators_left (i + 1) xs
enumerators_after_left zs b [] i = sym (append-nil (enumerators_tokens (plain.then_enumerator zs b)))
enumerators_after_left zs b (x ∷ xs) i =
    enumerators_after_left (plain.then_enumerator zs b) (enumerator_of x.value) xs (i + 1)
    ∙ rw (comma_next i) (simp append_assoc)

pub enumerators_all : (xs : List (Rc Enumerator Global))
    → enumerators_tokens (enumerators_after plain.no_enumerators xs) ≡ enumerators_left 0 xs
enumerators_all [] = refl
enumerators_all (x ∷ xs) = enumerators_after_left plain.no_enumerators (enumerator_of x.value) xs 0

------ parameters

-- the tokens of what is left of parameters, from this index on
abbrev pub parameters_left : ℕ → List (Rc ParameterDeclaration Global) → List Symbol
parameters_left i [] = []
parameters_left i (x ∷ xs) =
    comma_before i ++ (parameter_tokens (parameter_of x.value) ++ parameters_left (i + 1) xs)

parameters_after_left : (zs : plain.Parameters) (b : plain.Parameter) (xs : List (Rc ParameterDeclaration Global)) (i : ℕ)
    → parameters_tokens (parameters_after (plain.then_parameter zs b) xs)
    ≡ parameters_tokens (plain.then_parameter zs b) ++ parameters_left (i + 1) xs
parameters_after_left zs b [] i = sym (append-nil (parameters_tokens (plain.then_parameter zs b)))
parameters_after_left zs b (x ∷ xs) i =
    parameters_after_left (plain.then_parameter zs b) (parameter_of x.value) xs (i + 1)
    ∙ rw (comma_next i) (simp append_assoc)

pub parameters_all : (xs : List (Rc ParameterDeclaration Global))
    → parameters_tokens (parameters_after plain.no_parameters xs) ≡ parameters_left 0 xs
parameters_all [] = refl
parameters_all (x ∷ xs) = parameters_after_left plain.no_parameters (parameter_of x.value) xs 0

-- a list as a whole is what is left of it at its beginning
pub ruleset lists = (qualifiers_all, pointers_all, type_words_all, declared_words_all, members_all, suffixes_all, arguments_all, declarators_all, enumerators_all, parameters_all)
