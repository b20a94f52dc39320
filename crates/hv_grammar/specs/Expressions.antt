-- The grammar of expressions, type names, specifiers and declarators (Annex A.2.1 and A.2.2) over
-- marked tokens, a constructor for each production. `Reads d k ts us a`: where d brackets and
-- prefixes are open, the tokens ts begin with an expression of level k whose tree is a, and us is
-- what stands after it; the others likewise. Left recursion is the standard's. What the profile
-- changes is said at the production.
--
-- Not in here: which names are typedef names (Scopes), limits (Refusal), statements (Elements).
use Rattle.std.specs.Prelude.{ℕ, zero, suc, Bool, true, false, List, ◌∷◌, IsTrue}
use Rattle.hv_base.specs.declared.place.Place.{Place}
use Rattle.hv_base.specs.declared.keyword.Keyword.TheVariants as keywords
use Rattle.hv_base.specs.declared.punct.Punct.TheVariants as puncts
use Rattle.hv_ctree.specs.declared.tree.words.AssignmentOperator.{AssignmentOperator}
use Rattle.hv_base.specs.declared.operator.BinaryOperator.{BinaryOperator}
use Rattle.hv_ctree.specs.declared.tree.words.Constant.{Constant}
use Rattle.hv_ctree.specs.declared.tree.words.Selector.{Selector}
use Rattle.hv_ctree.specs.declared.tree.words.Step.{Step}
use Rattle.hv_ctree.specs.declared.tree.words.StorageClass.{StorageClass}
use Rattle.hv_ctree.specs.declared.tree.words.StructOrUnion.{StructOrUnion}
use Rattle.hv_ctree.specs.declared.tree.words.TypeQualifier.{TypeQualifier}
use Rattle.hv_ctree.specs.declared.tree.words.UnaryOperator.{UnaryOperator}
use Rattle.hv_ctree.specs.tree.Expressions.{Expr, identifier, constant, string, parenthesized, subscript, call, member, postfix, prefix, unary, sizeof_expr, sizeof_type, cast, binary, conditional, assign, comma, Arguments, no_arguments, then_argument, TypeName, type_name, Specifiers, no_specifiers, then_specifier, Specifier, storage, of_type, qualifier, inline, TypeSpecifier, word, compound, enumeration, typedef_name, CompoundSpecifier, defined, mentioned, MayTag, no_tag, tag, Members, no_members, then_member, MemberDeclaration, members_of, Declarators, no_declarators, then_declarator, EnumSpecifier, listed, listed_before, Enumerators, no_enumerators, then_enumerator, Enumerator, plain, valued, Declarator, declarator, MayDeclarator, no_declarator, some_declarator, Core, nothing, named, group, Suffixes, no_suffixes, then_suffix, Suffix, unsized, sized, function, unprototyped, ParameterTypes, parameter_types, Parameters, no_parameters, then_parameter, Parameter, parameter, Pointers, no_pointers, then_pointer, Qualifiers, no_qualifiers, then_qualifier, TypeWord, place_of}
use Rattle.hv_grammar.specs.Symbols.{keyword, name, marked, number, text, sign, Role, inside, Marked, at, quiet, counted, BeginsAt, left_paren, right_paren, left_bracket, right_bracket, left_brace, right_brace, comma_sign, colon, semicolon, equal_sign, binary_sign, level, unary_sign, assignment_sign, selector_sign, step_sign, storage_word, qualifier_word, compound_word, type_word}

-- how many are open after the `*`s, where d are open before them: each is open to its declarator's
-- end
abbrev pub stars : Pointers → ℕ → ℕ
stars no_pointers d = d
stars (then_pointer ps p qs) d = suc (stars ps d)

-- how many are open within the `{` of an enumeration, which counts only within an expression, a
-- declarator, an initialiser or a structure's body: wherever something is open already
abbrev pub braced : ℕ → ℕ
braced zero = zero
braced (suc d) = suc (suc d)

-- which words may stand among specifiers: those of a declaration or a parameter, or those of a type
-- name or a member, which has no storage class and no `inline`
pub data Words : Type 0 where
  all_words : Words
  type_words : Words

-- whether a declarator names something
pub data Naming : Type 0 where
  with_name : Naming
  without_name : Naming

-- whether a specifier is a type specifier
abbrev pub is_type : Specifier → Bool
is_type (storage p c) = false
is_type (of_type p t) = true
is_type (qualifier p q) = false
is_type (inline p) = false

-- whether a type specifier is among the words
abbrev pub has_type : Specifiers → Bool
has_type no_specifiers = false
has_type (then_specifier xs (storage p c)) = has_type xs
has_type (then_specifier xs (of_type p t)) = true
has_type (then_specifier xs (qualifier p q)) = has_type xs
has_type (then_specifier xs (inline p)) = has_type xs

-- whether a declarator has any part
abbrev pub has_part : Pointers → Core → Suffixes → Bool
has_part no_pointers nothing no_suffixes = false
has_part no_pointers nothing (then_suffix ss s) = true
has_part no_pointers (named p n) ss = true
has_part no_pointers (group p d) ss = true
has_part (then_pointer ps p qs) c ss = true

-- the place of a structure or union specifier
abbrev pub compound_place : CompoundSpecifier → Place
compound_place (defined p k t ms) = p
compound_place (mentioned p k q n) = p

-- the place of an enumeration specifier
abbrev pub enumeration_place : EnumSpecifier → Place
enumeration_place (listed p t es b) = p
enumeration_place (listed_before p q n) = p

-- the place of a type specifier
abbrev pub type_place : TypeSpecifier → Place
type_place (word p w) = p
type_place (compound p c) = p
type_place (enumeration p e) = p
type_place (typedef_name p n) = p

mutual
  -- an expression of level k
  pub data Reads : ℕ → ℕ → List Marked → List Marked → Expr → Type 0 where
    -- 6.5.1
    r_identifier : {d : ℕ} {ts : List Marked} (p : Place) (n : List ℕ)
        → Reads d 15 (quiet d p (name n) ∷ ts) ts (identifier p n)
    r_constant : {d : ℕ} {ts : List Marked} (p : Place) (v : Constant)
        → Reads d 15 (quiet d p (number v) ∷ ts) ts (constant p v)
    r_string : {d : ℕ} {ts : List Marked} (p : Place) (b : List ℕ)
        → Reads d 15 (quiet d p (text b) ∷ ts) ts (string p b)
    r_parenthesized : {d : ℕ} {ts us : List Marked} {a : Expr} (p q : Place)
        → Reads (suc d) 0 ts (quiet (suc d) q right_paren ∷ us) a
        → Reads d 15 (counted (suc d) p left_paren ∷ ts) us (parenthesized p a)
    -- 6.5.2; there is no compound literal
    r_subscript : {d : ℕ} {ts us vs : List Marked} {a b : Expr} (p q : Place)
        → Reads d 15 ts (counted (suc d) p left_bracket ∷ us) a
        → Reads (suc d) 0 us (quiet (suc d) q right_bracket ∷ vs) b
        → Reads d 15 ts vs (subscript (place_of a) a b)
    r_call_none : {d : ℕ} {ts us : List Marked} {a : Expr} (p q : Place)
        → Reads d 15 ts (counted (suc d) p left_paren ∷ quiet (suc d) q right_paren ∷ us) a
        → Reads d 15 ts us (call (place_of a) a no_arguments)
    r_call : {d : ℕ} {ts us vs : List Marked} {a : Expr} {xs : Arguments} (p q : Place)
        → Reads d 15 ts (counted (suc d) p left_paren ∷ us) a
        → ReadsArguments (suc d) us (quiet (suc d) q right_paren ∷ vs) xs
        → Reads d 15 ts vs (call (place_of a) a xs)
    r_member : {d : ℕ} {ts us : List Marked} {a : Expr} (p q : Place) (n : List ℕ) (s : Selector)
        → Reads d 15 ts (counted d p (selector_sign s) ∷ quiet d q (name n) ∷ us) a
        → Reads d 15 ts us (member (place_of a) s a n)
    r_postfix : {d : ℕ} {ts us : List Marked} {a : Expr} (p : Place) (s : Step)
        → Reads d 15 ts (counted d p (step_sign s) ∷ us) a
        → Reads d 15 ts us (postfix (place_of a) s a)
    -- 6.5.3
    r_prefix : {d : ℕ} {ts us : List Marked} {a : Expr} (p : Place) (s : Step)
        → Reads (suc d) 14 ts us a
        → Reads d 14 (counted (suc d) p (step_sign s) ∷ ts) us (prefix p s a)
    r_unary : {d : ℕ} {ts us : List Marked} {a : Expr} (p : Place) (op : UnaryOperator)
        → Reads (suc d) 13 ts us a
        → Reads d 14 (counted (suc d) p (unary_sign op) ∷ ts) us (unary p op a)
    r_sizeof : {d : ℕ} {ts us : List Marked} {a : Expr} (p : Place)
        → Reads (suc d) 14 ts us a
        → Reads d 14 (counted (suc d) p (keyword keywords.Sizeof) ∷ ts) us (sizeof_expr p a)
    -- `sizeof (type)` counts once, and two are open in it
    r_sizeof_type : {d : ℕ} {ts us : List Marked} {t : TypeName} (p q r : Place)
        → ReadsTypeName (suc (suc d)) ts (quiet (suc (suc d)) r right_paren ∷ us) t
        → Reads d 14 (counted (suc d) p (keyword keywords.Sizeof)
        ∷ quiet (suc (suc d)) q left_paren ∷ ts) us (sizeof_type p t)
    -- 6.5.4; a cast is open once, from its `(` to its operand's end
    r_cast : {d : ℕ} {ts us vs : List Marked} {t : TypeName} {a : Expr} (p q : Place)
        → ReadsTypeName (suc d) ts (quiet (suc d) q right_paren ∷ us) t
        → Reads (suc d) 13 us vs a
        → Reads d 13 (counted (suc d) p left_paren ∷ ts) vs (cast p t a)
    -- 6.5.5 to 6.5.14
    r_binary : {d : ℕ} {ts us vs : List Marked} {a b : Expr} (p : Place) (op : BinaryOperator)
        → Reads d (level op) ts (counted d p (binary_sign op) ∷ us) a
        → Reads d (suc (level op)) us vs b
        → Reads d (level op) ts vs (binary (place_of a) op a b)
    -- 6.5.15; the `?` is open to the end of the whole
    r_conditional : {d : ℕ} {ts us vs ws : List Marked} {a b c : Expr} (p q : Place)
        → Reads d 3 ts (counted (suc d) p (sign puncts.Question) ∷ us) a
        → Reads (suc d) 0 us (quiet (suc d) q colon ∷ vs) b
        → Reads (suc d) 2 vs ws c
        → Reads d 2 ts ws (conditional (place_of a) a b c)
    -- 6.5.16; the right side is open from its own first token
    r_assign : {d : ℕ} {ts us vs : List Marked} {a b : Expr} (p : Place) (op : AssignmentOperator)
        → Reads d 14 ts (counted d p (assignment_sign op) ∷ us) a
        → Reads (suc d) 1 us vs b
        → Reads d 1 ts vs (assign (place_of a) op a b)
    -- 6.5.17
    r_comma : {d : ℕ} {ts us vs : List Marked} {a b : Expr} (p : Place)
        → Reads d 0 ts (counted d p comma_sign ∷ us) a
        → Reads d 1 us vs b
        → Reads d 0 ts vs (comma (place_of a) a b)
    -- an expression of a higher level is one of each lower one
    r_higher : {d k : ℕ} {ts us : List Marked} {a : Expr} → Reads d (suc k) ts us a
        → Reads d k ts us a

  -- argument-expression-list (6.5.2)
  pub data ReadsArguments : ℕ → List Marked → List Marked → Arguments → Type 0 where
    r_argument : {d : ℕ} {ts us : List Marked} {a : Expr}
        → Reads d 1 ts us a
        → ReadsArguments d ts us (then_argument no_arguments a)
    r_arguments : {d : ℕ} {ts us vs : List Marked} {xs : Arguments} {a : Expr} (p : Place)
        → ReadsArguments d ts (quiet d p comma_sign ∷ us) xs
        → Reads d 1 us vs a
        → ReadsArguments d ts vs (then_argument xs a)

  -- type-name (6.7.6); type names stand in expressions alone
  pub data ReadsTypeName : ℕ → List Marked → List Marked → TypeName → Type 0 where
    r_type_name : {d : ℕ} {ts us vs : List Marked} {xs : Specifiers} {m : MayDeclarator} {p : Place}
        → BeginsAt p ts
        → ReadsSpecifiers inside d type_words ts us xs
        → ReadsAbstract inside d us vs m
        → ReadsTypeName d ts vs (type_name p xs m)

  -- declaration-specifiers (6.7), and specifier-qualifier-list (6.7.2.1) where the words are those
  -- of types
  pub data ReadsSpecifiers : Role → ℕ → Words → List Marked → List Marked → Specifiers
      → Type 0 where
    r_specifier : {r : Role} {d : ℕ} {w : Words} {ts us : List Marked} {x : Specifier}
        → ReadsSpecifier r d w false ts us x
        → ReadsSpecifiers r d w ts us (then_specifier no_specifiers x)
    r_specifiers : {r : Role} {d : ℕ} {w : Words} {ts us vs : List Marked} {xs : Specifiers}
        {x : Specifier}
        → ReadsSpecifiers r d w ts us xs
        → ReadsSpecifier r d w (has_type xs) us vs x
        → ReadsSpecifiers r d w ts vs (then_specifier xs x)

  -- one of these words; the truth value says that a type specifier stands before it
  pub data ReadsSpecifier : Role → ℕ → Words → Bool → List Marked → List Marked → Specifier
      → Type 0 where
    r_storage : {r : Role} {d : ℕ} {seen : Bool} {ts : List Marked} (p : Place) (c : StorageClass)
        → ReadsSpecifier r d all_words seen (at r d p (storage_word c) ∷ ts) ts (storage p c)
    r_inline : {r : Role} {d : ℕ} {seen : Bool} {ts : List Marked} (p : Place)
        → ReadsSpecifier r d all_words seen (at r d p (keyword keywords.Inline) ∷ ts) ts (inline p)
    r_qualifier : {r : Role} {d : ℕ} {w : Words} {seen : Bool} {ts : List Marked} (p : Place)
        (q : TypeQualifier)
        → ReadsSpecifier r d w seen (at r d p (qualifier_word q) ∷ ts) ts (qualifier p q)
    r_type : {r : Role} {d : ℕ} {w : Words} {seen : Bool} {ts us : List Marked} {t : TypeSpecifier}
        → ReadsType r d seen ts us t
        → ReadsSpecifier r d w seen ts us (of_type (type_place t) t)

  -- type-specifier (6.7.2); a typedef name is one where no other stands before it
  pub data ReadsType : Role → ℕ → Bool → List Marked → List Marked → TypeSpecifier → Type 0 where
    r_word : {r : Role} {d : ℕ} {seen : Bool} {ts : List Marked} (p : Place) (w : TypeWord)
        → ReadsType r d seen (at r d p (type_word w) ∷ ts) ts (word p w)
    r_compound : {r : Role} {d : ℕ} {seen : Bool} {ts us : List Marked} {c : CompoundSpecifier}
        → ReadsCompound r d ts us c
        → ReadsType r d seen ts us (compound (compound_place c) c)
    r_enumeration : {r : Role} {d : ℕ} {seen : Bool} {ts us : List Marked} {e : EnumSpecifier}
        → ReadsEnumeration r d ts us e
        → ReadsType r d seen ts us (enumeration (enumeration_place e) e)
    r_typedef_name : {r : Role} {d : ℕ} {ts : List Marked} (p : Place) (n : List ℕ)
        → ReadsType r d false (at r d p (marked n) ∷ ts) ts (typedef_name p n)

  -- struct-or-union-specifier (6.7.2.1)
  pub data ReadsCompound : Role → ℕ → List Marked → List Marked → CompoundSpecifier → Type 0 where
    r_defined : {r : Role} {d : ℕ} {ts us vs : List Marked} {t : MayTag} {ms : Members}
        (p q x : Place) (k : StructOrUnion)
        → ReadsTag r d ts (at r (suc d) q left_brace ∷ us) t
        → ReadsMembers r (suc d) us (at r (suc d) x right_brace ∷ vs) ms
        → ReadsCompound r d (at r d p (compound_word k) ∷ ts) vs (defined p k t ms)
    r_mentioned : {r : Role} {d : ℕ} {ts : List Marked} (p q : Place) (k : StructOrUnion)
        (n : List ℕ)
        → ReadsCompound r d (at r d p (compound_word k) ∷ at r d q (name n) ∷ ts) ts
        (mentioned p k q n)

  -- a tag, or none
  pub data ReadsTag : Role → ℕ → List Marked → List Marked → MayTag → Type 0 where
    r_no_tag : {r : Role} {d : ℕ} {ts : List Marked} → ReadsTag r d ts ts no_tag
    r_tag : {r : Role} {d : ℕ} {ts : List Marked} (p : Place) (n : List ℕ)
        → ReadsTag r d (at r d p (name n) ∷ ts) ts (tag p n)

  -- struct-declaration-list (6.7.2.1)
  pub data ReadsMembers : Role → ℕ → List Marked → List Marked → Members → Type 0 where
    r_member_first : {r : Role} {d : ℕ} {ts us : List Marked} {m : MemberDeclaration}
        → ReadsMember r d ts us m
        → ReadsMembers r d ts us (then_member no_members m)
    r_members : {r : Role} {d : ℕ} {ts us vs : List Marked} {ms : Members} {m : MemberDeclaration}
        → ReadsMembers r d ts us ms
        → ReadsMember r d us vs m
        → ReadsMembers r d ts vs (then_member ms m)

  -- struct-declaration (6.7.2.1); there is no bit-field
  pub data ReadsMember : Role → ℕ → List Marked → List Marked → MemberDeclaration → Type 0 where
    r_members_of : {r : Role} {d : ℕ} {ts us vs : List Marked} {xs : Specifiers} {ds : Declarators}
        {p : Place} (q : Place)
        → BeginsAt p ts
        → ReadsSpecifiers r d type_words ts us xs
        → ReadsDeclarators r d us (at r d q semicolon ∷ vs) ds
        → ReadsMember r d ts vs (members_of p xs ds)

  -- struct-declarator-list (6.7.2.1)
  pub data ReadsDeclarators : Role → ℕ → List Marked → List Marked → Declarators → Type 0 where
    r_declarator_first : {r : Role} {d : ℕ} {ts us : List Marked} {x : Declarator}
        → ReadsDeclarator r d with_name ts us x
        → ReadsDeclarators r d ts us (then_declarator no_declarators x)
    r_declarators : {r : Role} {d : ℕ} {ts us vs : List Marked} {xs : Declarators} {x : Declarator}
        (p : Place)
        → ReadsDeclarators r d ts (at r d p comma_sign ∷ us) xs
        → ReadsDeclarator r d with_name us vs x
        → ReadsDeclarators r d ts vs (then_declarator xs x)

  -- enum-specifier (6.7.2.2)
  pub data ReadsEnumeration : Role → ℕ → List Marked → List Marked → EnumSpecifier → Type 0 where
    r_listed : {r : Role} {d : ℕ} {ts us vs ws : List Marked} {t : MayTag} {es : Enumerators}
        {b : Bool} (p q x : Place)
        → ReadsTag r d ts (at r (braced d) q left_brace ∷ us) t
        → ReadsEnumerators r (braced d) us vs es
        → ReadsLastComma r (braced d) vs (at r (braced d) x right_brace ∷ ws) b
        → ReadsEnumeration r d (at r d p (keyword keywords.Enum) ∷ ts) ws (listed p t es b)
    r_listed_before : {r : Role} {d : ℕ} {ts : List Marked} (p q : Place) (n : List ℕ)
        → ReadsEnumeration r d (at r d p (keyword keywords.Enum) ∷ at r d q (name n) ∷ ts) ts
        (listed_before p q n)

  -- enumerator-list (6.7.2.2)
  pub data ReadsEnumerators : Role → ℕ → List Marked → List Marked → Enumerators → Type 0 where
    r_enumerator : {r : Role} {d : ℕ} {ts us : List Marked} {e : Enumerator}
        → ReadsEnumerator r d ts us e
        → ReadsEnumerators r d ts us (then_enumerator no_enumerators e)
    r_enumerators : {r : Role} {d : ℕ} {ts us vs : List Marked} {es : Enumerators} {e : Enumerator}
        (p : Place)
        → ReadsEnumerators r d ts (at r d p comma_sign ∷ us) es
        → ReadsEnumerator r d us vs e
        → ReadsEnumerators r d ts vs (then_enumerator es e)

  -- enumerator (6.7.2.2)
  pub data ReadsEnumerator : Role → ℕ → List Marked → List Marked → Enumerator → Type 0 where
    r_plain : {r : Role} {d : ℕ} {ts : List Marked} (p : Place) (n : List ℕ)
        → ReadsEnumerator r d (at r d p (name n) ∷ ts) ts (plain p n)
    r_valued : {r : Role} {d : ℕ} {ts us : List Marked} {a : Expr} (p q : Place) (n : List ℕ)
        → Reads d 2 ts us a
        → ReadsEnumerator r d (at r d p (name n) ∷ at r d q equal_sign ∷ ts) us (valued p n a)

  -- a comma before a `}`, or none
  pub data ReadsLastComma : Role → ℕ → List Marked → List Marked → Bool → Type 0 where
    r_no_comma : {r : Role} {d : ℕ} {ts : List Marked} → ReadsLastComma r d ts ts false
    r_last_comma : {r : Role} {d : ℕ} {ts : List Marked} (p : Place)
        → ReadsLastComma r d (at r d p comma_sign ∷ ts) ts true

  -- declarator (6.7.5) and abstract-declarator (6.7.6)
  pub data ReadsDeclarator : Role → ℕ → Naming → List Marked → List Marked → Declarator
      → Type 0 where
    r_declarator : {r : Role} {d : ℕ} {m : Naming} {ts us vs : List Marked} {ps : Pointers}
        {c : Core} {ss : Suffixes} {p : Place}
        → BeginsAt p ts
        → ReadsPointers r d ts us ps
        → ReadsDirect r (stars ps d) m us vs c ss
        → IsTrue (has_part ps c ss)
        → ReadsDeclarator r d m ts vs (declarator p ps c ss)

  -- pointer (6.7.5)
  pub data ReadsPointers : Role → ℕ → List Marked → List Marked → Pointers → Type 0 where
    r_no_pointers : {r : Role} {d : ℕ} {ts : List Marked} → ReadsPointers r d ts ts no_pointers
    r_pointer : {r : Role} {d : ℕ} {ts us vs : List Marked} {ps : Pointers} {qs : Qualifiers}
        (p : Place)
        → ReadsPointers r d ts (at r (suc (stars ps d)) p (sign puncts.Star) ∷ us) ps
        → ReadsQualifiers r (suc (stars ps d)) us vs qs
        → ReadsPointers r d ts vs (then_pointer ps p qs)

  -- type-qualifier-list (6.7.5)
  pub data ReadsQualifiers : Role → ℕ → List Marked → List Marked → Qualifiers → Type 0 where
    r_no_qualifiers : {r : Role} {d : ℕ} {ts : List Marked}
        → ReadsQualifiers r d ts ts no_qualifiers
    r_qualifiers : {r : Role} {d : ℕ} {ts us : List Marked} {qs : Qualifiers} (p : Place)
        (q : TypeQualifier)
        → ReadsQualifiers r d ts (at r d p (qualifier_word q) ∷ us) qs
        → ReadsQualifiers r d ts us (then_qualifier qs q)

  -- direct-declarator (6.7.5) and direct-abstract-declarator (6.7.6): the middle and what stands
  -- after it
  pub data ReadsDirect : Role → ℕ → Naming → List Marked → List Marked → Core → Suffixes
      → Type 0 where
    r_core : {r : Role} {d : ℕ} {m : Naming} {ts us : List Marked} {c : Core}
        → ReadsCore r d m ts us c
        → ReadsDirect r d m ts us c no_suffixes
    r_suffix : {r : Role} {d : ℕ} {m : Naming} {ts us vs : List Marked} {c : Core} {ss : Suffixes}
        {s : Suffix}
        → ReadsDirect r d m ts us c ss
        → ReadsSuffix r d us vs s
        → ReadsDirect r d m ts vs c (then_suffix ss s)

  -- the middle: a name, a declarator in parentheses, or nothing in an abstract declarator
  pub data ReadsCore : Role → ℕ → Naming → List Marked → List Marked → Core → Type 0 where
    r_nothing : {r : Role} {d : ℕ} {ts : List Marked} → ReadsCore r d without_name ts ts nothing
    r_named : {r : Role} {d : ℕ} {ts : List Marked} (p : Place) (n : List ℕ)
        → ReadsCore r d with_name (at r d p (name n) ∷ ts) ts (named p n)
    r_group : {r : Role} {d : ℕ} {m : Naming} {ts us : List Marked} {x : Declarator} (p q : Place)
        → ReadsDeclarator r (suc d) m ts (at r (suc d) q right_paren ∷ us) x
        → ReadsCore r d m (at r (suc d) p left_paren ∷ ts) us (group p x)

  -- what stands after the middle (6.7.5.2, 6.7.5.3); there is no `*` and no `static` between
  -- brackets, and no identifier list; an abstract declarator may have qualifiers between brackets,
  -- as in the corrigenda
  pub data ReadsSuffix : Role → ℕ → List Marked → List Marked → Suffix → Type 0 where
    r_unsized : {r : Role} {d : ℕ} {ts us : List Marked} {qs : Qualifiers} (p q : Place)
        → ReadsQualifiers r (suc d) ts (at r (suc d) q right_bracket ∷ us) qs
        → ReadsSuffix r d (at r (suc d) p left_bracket ∷ ts) us (unsized p qs)
    r_sized : {r : Role} {d : ℕ} {ts us vs : List Marked} {qs : Qualifiers} {a : Expr} (p q : Place)
        → ReadsQualifiers r (suc d) ts us qs
        → Reads (suc d) 1 us (at r (suc d) q right_bracket ∷ vs) a
        → ReadsSuffix r d (at r (suc d) p left_bracket ∷ ts) vs (sized p qs a)
    r_function : {r : Role} {d : ℕ} {ts us : List Marked} {ps : ParameterTypes} (p q : Place)
        → ReadsParameterTypes r (suc d) ts (at r (suc d) q right_paren ∷ us) ps
        → ReadsSuffix r d (at r (suc d) p left_paren ∷ ts) us (function p ps)
    r_unprototyped : {r : Role} {d : ℕ} {ts : List Marked} (p q : Place)
        → ReadsSuffix r d (at r (suc d) p left_paren ∷ at r (suc d) q right_paren ∷ ts) ts
        (unprototyped p)

  -- parameter-type-list (6.7.5)
  pub data ReadsParameterTypes : Role → ℕ → List Marked → List Marked → ParameterTypes
      → Type 0 where
    r_fixed : {r : Role} {d : ℕ} {ts us : List Marked} {ps : Parameters} {p : Place}
        → BeginsAt p ts
        → ReadsParameters r d ts us ps
        → ReadsParameterTypes r d ts us (parameter_types p ps false)
    r_variadic : {r : Role} {d : ℕ} {ts us : List Marked} {ps : Parameters} {p : Place}
        (q x : Place)
        → BeginsAt p ts
        → ReadsParameters r d ts (at r d q comma_sign ∷ at r d x (sign puncts.Ellipsis) ∷ us) ps
        → ReadsParameterTypes r d ts us (parameter_types p ps true)

  -- parameter-list (6.7.5)
  pub data ReadsParameters : Role → ℕ → List Marked → List Marked → Parameters → Type 0 where
    r_parameter : {r : Role} {d : ℕ} {ts us : List Marked} {x : Parameter}
        → ReadsParameter r d ts us x
        → ReadsParameters r d ts us (then_parameter no_parameters x)
    r_parameters : {r : Role} {d : ℕ} {ts us vs : List Marked} {ps : Parameters} {x : Parameter}
        (p : Place)
        → ReadsParameters r d ts (at r d p comma_sign ∷ us) ps
        → ReadsParameter r d us vs x
        → ReadsParameters r d ts vs (then_parameter ps x)

  -- parameter-declaration (6.7.5)
  pub data ReadsParameter : Role → ℕ → List Marked → List Marked → Parameter → Type 0 where
    r_parameter_named : {r : Role} {d : ℕ} {ts us vs : List Marked} {xs : Specifiers}
        {x : Declarator} {p : Place}
        → BeginsAt p ts
        → ReadsSpecifiers r d all_words ts us xs
        → ReadsDeclarator r d with_name us vs x
        → ReadsParameter r d ts vs (parameter p xs (some_declarator x))
    r_parameter_abstract : {r : Role} {d : ℕ} {ts us vs : List Marked} {xs : Specifiers}
        {m : MayDeclarator} {p : Place}
        → BeginsAt p ts
        → ReadsSpecifiers r d all_words ts us xs
        → ReadsAbstract r d us vs m
        → ReadsParameter r d ts vs (parameter p xs m)

  -- an abstract declarator, or none
  pub data ReadsAbstract : Role → ℕ → List Marked → List Marked → MayDeclarator → Type 0 where
    r_no_declarator : {r : Role} {d : ℕ} {ts : List Marked} → ReadsAbstract r d ts ts no_declarator
    r_abstract : {r : Role} {d : ℕ} {ts us : List Marked} {x : Declarator}
        → ReadsDeclarator r d without_name ts us x
        → ReadsAbstract r d ts us (some_declarator x)
