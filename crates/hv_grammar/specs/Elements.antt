-- The grammar of initialisers, declarations and elements (Annex A.2.2 to A.2.4). An element is an
-- external declaration, a block item or a statement within a statement; its own tokens are read
-- here, with a hole for each statement within it and one for a block's items. Holes are numbered
-- from 0 in the order of the text.
--
-- Not in here: what stands in the holes (Programs).
use Rattle.std.specs.Prelude.{ℕ, suc, Bool, List, ◌∷◌, Option, Some, None}
use Rattle.hv_base.specs.declared.place.Place.{Place}
use Rattle.hv_base.specs.declared.keyword.Keyword.TheVariants as keywords
use Rattle.hv_base.specs.declared.punct.Punct.TheVariants as puncts
use Rattle.hv_ctree.specs.tree.Expressions.{Expr, Specifiers, Declarator, place_of}
use Rattle.hv_ctree.specs.tree.Statements.{Designation, no_designation, of_index, of_member, Initializer, value, braced, Initializers, no_initializers, then_initializer, InitDeclarator, bare, initialized, InitDeclarators, no_init_declarators, then_init_declarator, Declaration, declaration, Skeleton, hollow_empty, hollow_declaration, hollow_function, hollow_case, hollow_default, hollow_compound, hollow_expression, hollow_if, hollow_if_else, hollow_switch, hollow_while, hollow_do_while, hollow_for, hollow_for_declaration, hollow_continue, hollow_break, hollow_return}
use Rattle.hv_grammar.specs.Symbols.{Symbol, keyword, name, sign, hole, outside, Marked, at, BeginsAt, left_paren, right_paren, left_bracket, right_bracket, left_brace, right_brace, comma_sign, colon, semicolon, equal_sign}
use Rattle.hv_grammar.specs.Expressions.{all_words, with_name, Reads, ReadsSpecifiers, ReadsDeclarator, ReadsLastComma}

-- a token that stands in no expression, where d are open
abbrev pub loose : ℕ → Place → Symbol → Marked
loose d p s = at outside d p s

-- designation (6.7.8), or none: it has one designator
pub data ReadsDesignation : ℕ → List Marked → List Marked → Designation → Type 0 where
  r_no_designation : {d : ℕ} {ts : List Marked} → ReadsDesignation d ts ts no_designation
  r_index : {d : ℕ} {ts us : List Marked} {a : Expr} (p q x : Place)
      → Reads (suc d) 2 ts (loose (suc d) q right_bracket ∷ loose d x equal_sign ∷ us) a
      → ReadsDesignation d (loose (suc d) p left_bracket ∷ ts) us (of_index p a)
  r_designator : {d : ℕ} {ts : List Marked} (p q x : Place) (n : List ℕ)
      → ReadsDesignation d (loose d p (sign puncts.Dot) ∷ loose d q (name n) ∷ loose d x equal_sign
      ∷ ts) ts (of_member p n)

mutual
  -- initializer (6.7.8); between braces there is at least one
  pub data ReadsInitializer : ℕ → List Marked → List Marked → Initializer → Type 0 where
    r_value : {d : ℕ} {ts us : List Marked} {a : Expr}
        → Reads d 1 ts us a
        → ReadsInitializer d ts us (value (place_of a) a)
    r_braced : {d : ℕ} {ts us vs : List Marked} {xs : Initializers} {b : Bool} (p q : Place)
        → ReadsInitializers (suc d) ts us xs
        → ReadsLastComma outside (suc d) us (loose (suc d) q right_brace ∷ vs) b
        → ReadsInitializer d (loose (suc d) p left_brace ∷ ts) vs (braced p xs b)

  -- initializer-list (6.7.8)
  pub data ReadsInitializers : ℕ → List Marked → List Marked → Initializers → Type 0 where
    r_initializer : {d : ℕ} {ts us vs : List Marked} {g : Designation} {x : Initializer} {p : Place}
        → BeginsAt p ts
        → ReadsDesignation d ts us g
        → ReadsInitializer d us vs x
        → ReadsInitializers d ts vs (then_initializer no_initializers p g x)
    r_initializers : {d : ℕ} {ts us vs ws : List Marked} {xs : Initializers} {g : Designation}
        {x : Initializer} {p : Place} (q : Place)
        → ReadsInitializers d ts (loose d q comma_sign ∷ us) xs
        → BeginsAt p us
        → ReadsDesignation d us vs g
        → ReadsInitializer d vs ws x
        → ReadsInitializers d ts ws (then_initializer xs p g x)

-- init-declarator (6.7)
pub data ReadsInitDeclarator : List Marked → List Marked → InitDeclarator → Type 0 where
  r_bare : {ts us : List Marked} {x : Declarator} {p : Place}
      → BeginsAt p ts
      → ReadsDeclarator outside 0 with_name ts us x
      → ReadsInitDeclarator ts us (bare p x)
  r_initialized : {ts us vs : List Marked} {x : Declarator} {i : Initializer} {p : Place}
      (q : Place)
      → BeginsAt p ts
      → ReadsDeclarator outside 0 with_name ts (loose 0 q equal_sign ∷ us) x
      → ReadsInitializer 0 us vs i
      → ReadsInitDeclarator ts vs (initialized p x i)

-- init-declarator-list (6.7)
pub data ReadsInitDeclarators : List Marked → List Marked → InitDeclarators → Type 0 where
  r_init_declarator : {ts us : List Marked} {x : InitDeclarator}
      → ReadsInitDeclarator ts us x
      → ReadsInitDeclarators ts us (then_init_declarator no_init_declarators x)
  r_init_declarators : {ts us vs : List Marked} {xs : InitDeclarators} {x : InitDeclarator}
      (p : Place)
      → ReadsInitDeclarators ts (loose 0 p comma_sign ∷ us) xs
      → ReadsInitDeclarator us vs x
      → ReadsInitDeclarators ts vs (then_init_declarator xs x)

-- declaration (6.7), with its `;`
pub data ReadsDeclaration : List Marked → List Marked → Declaration → Type 0 where
  r_plain_declaration : {ts us : List Marked} {xs : Specifiers} {p : Place} (q : Place)
      → BeginsAt p ts
      → ReadsSpecifiers outside 0 all_words ts (loose 0 q semicolon ∷ us) xs
      → ReadsDeclaration ts us (declaration p xs no_init_declarators)
  r_declaration : {ts us vs : List Marked} {xs : Specifiers} {ds : InitDeclarators} {p : Place}
      (q : Place)
      → BeginsAt p ts
      → ReadsSpecifiers outside 0 all_words ts us xs
      → ReadsInitDeclarators us (loose 0 q semicolon ∷ vs) ds
      → ReadsDeclaration ts vs (declaration p xs ds)

-- an expression, or none
pub data ReadsOption : List Marked → List Marked → Option Expr → Type 0 where
  r_none : {ts : List Marked} → ReadsOption ts ts None
  r_some : {ts us : List Marked} {a : Expr} → Reads 0 0 ts us a → ReadsOption ts us (Some a)

-- statement (6.8), with holes; there is no label with an identifier and no `goto`. The `(` of these
-- is not among the brackets that are counted
pub data ReadsStatement : List Marked → List Marked → Skeleton → Type 0 where
  -- 6.8.1
  r_case : {ts us : List Marked} {a : Expr} (p q h : Place)
      → Reads 0 2 ts (loose 0 q colon ∷ loose 0 h hole ∷ us) a
      → ReadsStatement (loose 0 p (keyword keywords.Case) ∷ ts) us (hollow_case p a 0)
  r_default : {ts : List Marked} (p q h : Place)
      → ReadsStatement (loose 0 p (keyword keywords.Default) ∷ loose 0 q colon ∷ loose 0 h hole
      ∷ ts) ts (hollow_default p 0)
  -- 6.8.2
  r_block : {ts : List Marked} (p h q : Place)
      → ReadsStatement (loose 0 p left_brace ∷ loose 0 h hole ∷ loose 0 q right_brace ∷ ts) ts
      (hollow_compound p 0)
  -- 6.8.3
  r_expression : {ts us : List Marked} {a : Expr} (q : Place)
      → Reads 0 0 ts (loose 0 q semicolon ∷ us) a
      → ReadsStatement ts us (hollow_expression (place_of a) (Some a))
  r_null : {ts : List Marked} (p : Place)
      → ReadsStatement (loose 0 p semicolon ∷ ts) ts (hollow_expression p None)
  -- 6.8.4
  r_if : {ts us : List Marked} {a : Expr} (p q x h : Place)
      → Reads 0 0 ts (loose 0 x right_paren ∷ loose 0 h hole ∷ us) a
      → ReadsStatement (loose 0 p (keyword keywords.If) ∷ loose 0 q left_paren ∷ ts) us
      (hollow_if p a 0)
  r_if_else : {ts us : List Marked} {a : Expr} (p q x h e i : Place)
      → Reads 0 0 ts (loose 0 x right_paren ∷ loose 0 h hole ∷ loose 0 e (keyword keywords.Else)
      ∷ loose 0 i hole ∷ us) a
      → ReadsStatement (loose 0 p (keyword keywords.If) ∷ loose 0 q left_paren ∷ ts) us
      (hollow_if_else p a 0 1)
  r_switch : {ts us : List Marked} {a : Expr} (p q x h : Place)
      → Reads 0 0 ts (loose 0 x right_paren ∷ loose 0 h hole ∷ us) a
      → ReadsStatement (loose 0 p (keyword keywords.Switch) ∷ loose 0 q left_paren ∷ ts) us
      (hollow_switch p a 0)
  -- 6.8.5
  r_while : {ts us : List Marked} {a : Expr} (p q x h : Place)
      → Reads 0 0 ts (loose 0 x right_paren ∷ loose 0 h hole ∷ us) a
      → ReadsStatement (loose 0 p (keyword keywords.While) ∷ loose 0 q left_paren ∷ ts) us
      (hollow_while p a 0)
  r_do_while : {ts us : List Marked} {a : Expr} (p h w q x z : Place)
      → Reads 0 0 ts (loose 0 x right_paren ∷ loose 0 z semicolon ∷ us) a
      → ReadsStatement (loose 0 p (keyword keywords.Do) ∷ loose 0 h hole
      ∷ loose 0 w (keyword keywords.While) ∷ loose 0 q left_paren ∷ ts) us
      (hollow_do_while p 0 a)
  r_for : {ts us vs ws : List Marked} {a b c : Option Expr} (p q x y z h : Place)
      → ReadsOption ts (loose 0 x semicolon ∷ us) a
      → ReadsOption us (loose 0 y semicolon ∷ vs) b
      → ReadsOption vs (loose 0 z right_paren ∷ loose 0 h hole ∷ ws) c
      → ReadsStatement (loose 0 p (keyword keywords.For) ∷ loose 0 q left_paren ∷ ts) ws
      (hollow_for p a b c 0)
  r_for_declaration : {ts us vs ws : List Marked} {g : Declaration} {b c : Option Expr}
      (p q y z h : Place)
      → ReadsDeclaration ts us g
      → ReadsOption us (loose 0 y semicolon ∷ vs) b
      → ReadsOption vs (loose 0 z right_paren ∷ loose 0 h hole ∷ ws) c
      → ReadsStatement (loose 0 p (keyword keywords.For) ∷ loose 0 q left_paren ∷ ts) ws
      (hollow_for_declaration p g b c 0)
  -- 6.8.6
  r_continue : {ts : List Marked} (p q : Place)
      → ReadsStatement (loose 0 p (keyword keywords.Continue) ∷ loose 0 q semicolon ∷ ts) ts
      (hollow_continue p)
  r_break : {ts : List Marked} (p q : Place)
      → ReadsStatement (loose 0 p (keyword keywords.Break) ∷ loose 0 q semicolon ∷ ts) ts
      (hollow_break p)
  r_return : {ts us : List Marked} {a : Option Expr} (p q : Place)
      → ReadsOption ts (loose 0 q semicolon ∷ us) a
      → ReadsStatement (loose 0 p (keyword keywords.Return) ∷ ts) us (hollow_return p a)

-- where an element stands: it is an external declaration (6.9), a block item (6.8.2), or a
-- statement within a statement
pub data Standing : Type 0 where
  External : Standing
  Item : Standing
  Nested : Standing

-- an element's own tokens
pub data ReadsElement : Standing → List Marked → List Marked → Skeleton → Type 0 where
  -- a lone `;` is an external declaration of the profile
  r_lone : {ts : List Marked} (p : Place) → ReadsElement External (loose 0 p semicolon ∷ ts) ts
      (hollow_empty p)
  r_external : {ts us : List Marked} {xs : Specifiers} {ds : InitDeclarators} {p : Place}
      → ReadsDeclaration ts us (declaration p xs ds)
      → ReadsElement External ts us (hollow_declaration p (declaration p xs ds))
  -- 6.9.1: there is no declaration list, and any declarator
  r_function_definition : {ts us vs : List Marked} {xs : Specifiers} {x : Declarator} {p : Place}
      (q h y : Place)
      → BeginsAt p ts
      → ReadsSpecifiers outside 0 all_words ts us xs
      → ReadsDeclarator outside 0 with_name us
      (loose 0 q left_brace ∷ loose 0 h hole ∷ loose 0 y right_brace ∷ vs) x
      → ReadsElement External ts vs (hollow_function p xs x q 0)
  r_item_declaration : {ts us : List Marked} {xs : Specifiers} {ds : InitDeclarators} {p : Place}
      → ReadsDeclaration ts us (declaration p xs ds)
      → ReadsElement Item ts us (hollow_declaration p (declaration p xs ds))
  r_item_statement : {ts us : List Marked} {k : Skeleton} → ReadsStatement ts us k
      → ReadsElement Item ts us k
  r_nested : {ts us : List Marked} {k : Skeleton} → ReadsStatement ts us k
      → ReadsElement Nested ts us k
