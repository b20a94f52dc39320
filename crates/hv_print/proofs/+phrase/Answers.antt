use Rattle.std.proofs.Common.{◌≡◌, ◌++◌, arith, ap, ◌∙◌, sym}
use Rattle.hv_ctree.specs.tree.Erase.{expr_of, type_name_of, compound_of, member_declaration_of, enumeration_of, declarator_of, abstract_of, parameter_types_of, parameter_of}
use Rattle.hv_ctree.specs.tree.Expressions as plain
use Rattle.hv_ctree.proofs.EraseLemmas.{arguments_hidden, type_words_hidden, declared_words_hidden, members_hidden, declarators_hidden, enumerators_hidden, suffixes_hidden, parameters_hidden, may_abstract_back, may_abstract_core_back}
use Rattle.hv_grammar.specs.Tokens.{tokens_of, type_name_tokens, compound_tokens, member_tokens, enumeration_tokens, declarator_tokens, parameter_types_tokens, parameter_tokens}
use Rattle.hv_print.specs.working.Printed.{printed}
use Rattle.hv_print.proofs.PartsLemmas.{declarator_parts, abstract_parts, type_name_parts, member_parts}
use Rattle.hv_print.proofs.PrintedLemmas.{printing}
use Rattle.hv_print.proofs.+phrase.Goals as goal

pub expr::print_expr-returns-in_ok-print_arguments-in-Call : goal.expr::print_expr-returns-in_ok-print_arguments-in-Call
expr::print_expr-returns-in_ok-print_arguments-in-Call t c =
    grind (arith, printing, ap (λ x. printed (tokens_of (expr_of x))) c.in-Call.is, arguments_hidden plain.no_arguments c.in-Call.arguments)

pub declarator::print_parameter-returns-in_ok-print_declared_words-in-Named : goal.declarator::print_parameter-returns-in_ok-print_declared_words-in-Named
declarator::print_parameter-returns-in_ok-print_declared_words-in-Named t c =
    grind (arith, printing, ap (λ x. printed (parameter_tokens (parameter_of x))) c.in-Named.is, declared_words_hidden plain.no_specifiers c.in-Named.specifiers)

pub declarator::print_parameter-returns-in_ok-print_declared_words-in-Abstract : goal.declarator::print_parameter-returns-in_ok-print_declared_words-in-Abstract
declarator::print_parameter-returns-in_ok-print_declared_words-in-Abstract t c =
    grind (arith, printing, ap (λ x. printed (parameter_tokens (parameter_of x))) c.in-Abstract.is, declared_words_hidden plain.no_specifiers c.in-Abstract.specifiers, may_abstract_back c.in-Abstract.declarator)

pub declarator::print_parameter_types-returns-in-Fixed : goal.declarator::print_parameter_types-returns-in-Fixed
declarator::print_parameter_types-returns-in-Fixed t c =
    grind (arith, printing, ap (λ x. printed (parameter_types_tokens (parameter_types_of x))) c.in-Fixed.is, parameters_hidden plain.no_parameters c.in-Fixed.parameters)

pub declarator::print_parameter_types-returns-in_ok-put_punct-in-Variadic : goal.declarator::print_parameter_types-returns-in_ok-put_punct-in-Variadic
declarator::print_parameter_types-returns-in_ok-put_punct-in-Variadic t c =
    grind (arith, printing, ap (λ x. printed (parameter_types_tokens (parameter_types_of x))) c.in-Variadic.is, parameters_hidden plain.no_parameters c.in-Variadic.parameters)

pub specifier::print_compound-returns-in_ok-print_members-in-Defined : goal.specifier::print_compound-returns-in_ok-print_members-in-Defined
specifier::print_compound-returns-in_ok-print_members-in-Defined t c =
    grind (arith, printing, ap (λ x. printed (compound_tokens (compound_of x))) c.in-Defined.is, members_hidden plain.no_members c.in-Defined.members)

pub specifier::print_enumeration-returns-in_ok-print_enumerators-in-Listed : goal.specifier::print_enumeration-returns-in_ok-print_enumerators-in-Listed
specifier::print_enumeration-returns-in_ok-print_enumerators-in-Listed t c =
    grind (arith, printing, ap (λ x. printed (enumeration_tokens (enumeration_of x))) c.in-Listed.is, enumerators_hidden plain.no_enumerators c.in-Listed.enumerators)

pub specifier::print_enumeration-returns-in_ok-put_punct-in-ListedComma-2 : goal.specifier::print_enumeration-returns-in_ok-put_punct-in-ListedComma-2
specifier::print_enumeration-returns-in_ok-put_punct-in-ListedComma-2 t c =
    grind (arith, printing, ap (λ x. printed (enumeration_tokens (enumeration_of x))) c.in-ListedComma.is, enumerators_hidden plain.no_enumerators c.in-ListedComma.enumerators)

pub declarator::print_declarator-returns : goal.declarator::print_declarator-returns
declarator::print_declarator-returns t c =
    grind (
      arith,
      printing,
      ap (λ x. printed (declarator_tokens x))
          (declarator_parts c.args.declarator.now c.suffixes-1.given.0 c.pointers-1.given.0 c.direct-1.given.0 c.suffixes-1.given.0),
    )

pub declarator::print_abstract-returns : goal.declarator::print_abstract-returns
declarator::print_abstract-returns t c =
    grind (
      arith,
      printing,
      ap (λ x. printed (declarator_tokens x))
          (abstract_parts c.args.declarator.now c.suffixes-1.given.0 c.pointers-1.given.0 c.direct-1.given.0 c.suffixes-1.given.0),
    )

pub expr::print_type_name-returns : goal.expr::print_type_name-returns
expr::print_type_name-returns t c =
    grind (
      arith,
      printing,
      ap (λ x. printed (type_name_tokens x))
          (type_name_parts c.args.name.now c.specifiers-1.given.0 c.specifiers-1.given.0 c.declarator-1.given.0),
    )

pub specifier::print_member-returns : goal.specifier::print_member-returns
specifier::print_member-returns t c =
    grind (
      arith,
      printing,
      ap (λ x. printed (member_tokens x))
          (member_parts c.args.member.now c.specifiers-1.given.0 c.specifiers-1.given.0 c.declarators-1.given.0),
    )
