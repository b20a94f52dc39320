-- What is printed, with what is left of the list, is the list.
use Rattle.std.proofs.Common.{◌≡◌, ◌++◌, drop}
use Rattle.hv_ctree.specs.tree.Erase.{arguments_of, declarators_of, declared_words_of, enumerators_of, members_of, parameters_of, suffixes_of, type_words_of}
use Rattle.hv_grammar.specs.Tokens.{arguments_tokens, declarators_tokens, enumerators_tokens, members_tokens, parameters_tokens, specifiers_tokens, suffixes_tokens}
use Rattle.hv_print.specs.working.Printed.{printed}
use Rattle.hv_print.proofs.ListsLemmas.{arguments_left, declarators_left, declared_words_left, enumerators_left, members_left, parameters_left, suffixes_left, type_words_left}
use Rattle.hv_print.proofs.+phrase.Given as goal

abbrev pub invariant-expr::print_arguments-loop-index : goal.invariant-expr::print_arguments-loop-index
invariant-expr::print_arguments-loop-index l =
    l.out ++ printed (arguments_left l.index (drop l.index l.argument-items))
    ≡ l.initial.out ++ printed (arguments_tokens (arguments_of l.argument-items))

abbrev pub invariant-specifier::print_declarators-loop-index : goal.invariant-specifier::print_declarators-loop-index
invariant-specifier::print_declarators-loop-index l =
    l.out ++ printed (declarators_left l.index (drop l.index l.declarator-items))
    ≡ l.initial.out ++ printed (declarators_tokens (declarators_of l.declarator-items))

abbrev pub invariant-specifier::print_enumerators-loop-index : goal.invariant-specifier::print_enumerators-loop-index
invariant-specifier::print_enumerators-loop-index l =
    l.out ++ printed (enumerators_left l.index (drop l.index l.enumerator-items))
    ≡ l.initial.out ++ printed (enumerators_tokens (enumerators_of l.enumerator-items))

abbrev pub invariant-declarator::print_parameters-loop-index : goal.invariant-declarator::print_parameters-loop-index
invariant-declarator::print_parameters-loop-index l =
    l.out ++ printed (parameters_left l.index (drop l.index l.parameter-items))
    ≡ l.initial.out ++ printed (parameters_tokens (parameters_of l.parameter-items))

abbrev pub invariant-specifier::print_type_words-loop-word : goal.invariant-specifier::print_type_words-loop-word
invariant-specifier::print_type_words-loop-word l =
    l.out ++ printed (type_words_left (drop l.word-index l.word-items))
    ≡ l.initial.out ++ printed (specifiers_tokens (type_words_of l.word-items))

abbrev pub invariant-specifier::print_declared_words-loop-word : goal.invariant-specifier::print_declared_words-loop-word
invariant-specifier::print_declared_words-loop-word l =
    l.out ++ printed (declared_words_left (drop l.word-index l.word-items))
    ≡ l.initial.out ++ printed (specifiers_tokens (declared_words_of l.word-items))

abbrev pub invariant-specifier::print_members-loop-member : goal.invariant-specifier::print_members-loop-member
invariant-specifier::print_members-loop-member l =
    l.out ++ printed (members_left (drop l.member-index l.member-items))
    ≡ l.initial.out ++ printed (members_tokens (members_of l.member-items))

abbrev pub invariant-declarator::print_suffixes-loop-suffix : goal.invariant-declarator::print_suffixes-loop-suffix
invariant-declarator::print_suffixes-loop-suffix l =
    l.out ++ printed (suffixes_left (drop l.suffix-index l.suffix-items))
    ≡ l.initial.out ++ printed (suffixes_tokens (suffixes_of l.suffix-items))
