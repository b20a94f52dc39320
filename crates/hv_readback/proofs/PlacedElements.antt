-- Initialisers, declarations and an element's own tokens are read again at other places, and only
-- places change.
use Rattle.std.proofs.Common.{ℕ, List, refl, ap, Option, Some, None}
use Rattle.hv_base.specs.declared.place.Place.{Place}
use Rattle.hv_ctree.specs.tree.Expressions.{Expr, place_of}
use Rattle.hv_ctree.specs.tree.Statements.{Designation, no_designation, of_index, of_member, Initializer, value, braced, Initializers, no_initializers, then_initializer, InitDeclarator, bare, initialized, InitDeclarators, no_init_declarators, then_init_declarator, Declaration, declaration, Skeleton, hollow_empty, hollow_declaration, hollow_function, hollow_case, hollow_default, hollow_compound, hollow_expression, hollow_if, hollow_if_else, hollow_switch, hollow_while, hollow_do_while, hollow_for, hollow_for_declaration, hollow_continue, hollow_break, hollow_return}
use Rattle.hv_grammar.specs.Symbols.{Marked}
use Rattle.hv_grammar.specs.Elements.{ReadsDesignation, r_no_designation, r_index, r_designator, ReadsInitializer, r_value, r_braced, ReadsInitializers, r_initializer, r_initializers, ReadsInitDeclarator, r_bare, r_initialized, ReadsInitDeclarators, r_init_declarator, r_init_declarators, ReadsDeclaration, r_plain_declaration, r_declaration, ReadsOption, r_none, r_some, ReadsStatement, r_case, r_default, r_block, r_expression, r_null, r_if, r_if_else, r_switch, r_while, r_do_while, r_for, r_for_declaration, r_continue, r_break, r_return, Standing, External, Item, ReadsElement, r_lone, r_external, r_function_definition, r_item_declaration, r_item_statement, r_nested}
use Rattle.hv_readback.specs.Places.{nowhere, unplaced_expression, unplaced_specifiers, unplaced_declarator, unplaced_designation, unplaced_initializer, unplaced_initializers, unplaced_init_declarator, unplaced_init_declarators, unplaced_declaration, unplaced_option}
use Rattle.hv_readback.proofs.Placing.{next, At, found, begins, two, three}
use Rattle.hv_readback.proofs.PlacedExpressions.{expression_at, specifiers_at, declarator_at, last_comma_at}

-- a skeleton without its places
abbrev pub unplaced_skeleton : Skeleton → Skeleton
unplaced_skeleton (hollow_empty p) = hollow_empty nowhere
unplaced_skeleton (hollow_declaration p g) = hollow_declaration nowhere (unplaced_declaration g)
unplaced_skeleton (hollow_function p xs x q h) =
    hollow_function nowhere (unplaced_specifiers xs) (unplaced_declarator x) nowhere h
unplaced_skeleton (hollow_case p a h) = hollow_case nowhere (unplaced_expression a) h
unplaced_skeleton (hollow_default p h) = hollow_default nowhere h
unplaced_skeleton (hollow_compound p h) = hollow_compound nowhere h
unplaced_skeleton (hollow_expression p a) = hollow_expression nowhere (unplaced_option a)
unplaced_skeleton (hollow_if p a h) = hollow_if nowhere (unplaced_expression a) h
unplaced_skeleton (hollow_if_else p a h i) = hollow_if_else nowhere (unplaced_expression a) h i
unplaced_skeleton (hollow_switch p a h) = hollow_switch nowhere (unplaced_expression a) h
unplaced_skeleton (hollow_while p a h) = hollow_while nowhere (unplaced_expression a) h
unplaced_skeleton (hollow_do_while p h a) = hollow_do_while nowhere h (unplaced_expression a)
unplaced_skeleton (hollow_for p a b c h) =
    hollow_for nowhere (unplaced_option a) (unplaced_option b) (unplaced_option c) h
unplaced_skeleton (hollow_for_declaration p g b c h) =
    hollow_for_declaration nowhere (unplaced_declaration g) (unplaced_option b) (unplaced_option c)
    h
unplaced_skeleton (hollow_continue p) = hollow_continue nowhere
unplaced_skeleton (hollow_break p) = hollow_break nowhere
unplaced_skeleton (hollow_return p a) = hollow_return nowhere (unplaced_option a)

------ initialisers and declarations

designation_at : {d : ℕ} {ts us : List Marked} {g : Designation} (f : ℕ → Place)
    → ReadsDesignation d ts us g
    → At Designation (ReadsDesignation d) unplaced_designation f ts us g
designation_at f r_no_designation = found f no_designation r_no_designation refl
designation_at f (r_index p q x h) = let e = expression_at (next f) h in
    found (next (next e.rest)) (of_index (f 0) e.tree)
    (r_index (f 0) (e.rest 0) (next e.rest 0) e.reads) (ap (λ a. of_index nowhere a) e.same)
designation_at f (r_designator p q x n) =
    found (next (next (next f))) (of_member (f 0) n)
    (r_designator (f 0) (next f 0) (next (next f) 0) n) refl

mutual
  initializer_at : {d : ℕ} {ts us : List Marked} {x : Initializer} (f : ℕ → Place)
      → ReadsInitializer d ts us x
      → At Initializer (ReadsInitializer d) unplaced_initializer f ts us x
  initializer_at f (r_value h) = let e = expression_at f h in
      found e.rest (value (place_of e.tree) e.tree) (r_value e.reads)
      (ap (λ a. value nowhere a) e.same)
  initializer_at f (r_braced p q h l) =
      let e = initializers_at (next f) h in let g = last_comma_at e.rest l in
      found (next g.rest) (braced (f 0) e.tree g.tree) (r_braced (f 0) (g.rest 0) e.reads g.reads)
      (two (λ a b. braced nowhere a b) e.same g.same)

  initializers_at : {d : ℕ} {ts us : List Marked} {xs : Initializers} (f : ℕ → Place)
      → ReadsInitializers d ts us xs
      → At Initializers (ReadsInitializers d) unplaced_initializers f ts us xs
  initializers_at f (r_initializer b h i) =
      let e = designation_at f h in let g = initializer_at e.rest i in
      found g.rest (then_initializer no_initializers (f 0) e.tree g.tree)
      (r_initializer (begins f b) e.reads g.reads)
      (two (λ x y. then_initializer no_initializers nowhere x y) e.same g.same)
  initializers_at f (r_initializers q h b i j) =
      let e = initializers_at f h in let g = designation_at (next e.rest) i in
      let k = initializer_at g.rest j in
      found k.rest (then_initializer e.tree (next e.rest 0) g.tree k.tree)
      (r_initializers (e.rest 0) e.reads (begins (next e.rest) b) g.reads k.reads)
      (three (λ x y z. then_initializer x nowhere y z) e.same g.same k.same)

init_declarator_at : {ts us : List Marked} {x : InitDeclarator} (f : ℕ → Place)
    → ReadsInitDeclarator ts us x
    → At InitDeclarator ReadsInitDeclarator unplaced_init_declarator f ts us x
init_declarator_at f (r_bare b h) = let e = declarator_at f h in
    found e.rest (bare (f 0) e.tree) (r_bare (begins f b) e.reads) (ap (λ x. bare nowhere x) e.same)
init_declarator_at f (r_initialized q b h i) =
    let e = declarator_at f h in let g = initializer_at (next e.rest) i in
    found g.rest (initialized (f 0) e.tree g.tree)
    (r_initialized (e.rest 0) (begins f b) e.reads g.reads)
    (two (λ x y. initialized nowhere x y) e.same g.same)

init_declarators_at : {ts us : List Marked} {xs : InitDeclarators} (f : ℕ → Place)
    → ReadsInitDeclarators ts us xs
    → At InitDeclarators ReadsInitDeclarators unplaced_init_declarators f ts us xs
init_declarators_at f (r_init_declarator h) = let e = init_declarator_at f h in
    found e.rest (then_init_declarator no_init_declarators e.tree) (r_init_declarator e.reads)
    (ap (λ x. then_init_declarator no_init_declarators x) e.same)
init_declarators_at f (r_init_declarators p h i) =
    let e = init_declarators_at f h in let g = init_declarator_at (next e.rest) i in
    found g.rest (then_init_declarator e.tree g.tree)
    (r_init_declarators (e.rest 0) e.reads g.reads)
    (two (λ x y. then_init_declarator x y) e.same g.same)

declaration_at : {ts us : List Marked} {g : Declaration} (f : ℕ → Place)
    → ReadsDeclaration ts us g
    → At Declaration ReadsDeclaration unplaced_declaration f ts us g
declaration_at f (r_plain_declaration q b h) = let e = specifiers_at f h in
    found (next e.rest) (declaration (f 0) e.tree no_init_declarators)
    (r_plain_declaration (e.rest 0) (begins f b) e.reads)
    (ap (λ x. declaration nowhere x no_init_declarators) e.same)
declaration_at f (r_declaration q b h i) =
    let e = specifiers_at f h in let g = init_declarators_at e.rest i in
    found (next g.rest) (declaration (f 0) e.tree g.tree)
    (r_declaration (g.rest 0) (begins f b) e.reads g.reads)
    (two (λ x y. declaration nowhere x y) e.same g.same)

option_at : {ts us : List Marked} {a : Option Expr} (f : ℕ → Place) → ReadsOption ts us a
    → At (Option Expr) ReadsOption unplaced_option f ts us a
option_at f r_none = found f None r_none refl
option_at f (r_some h) = let e = expression_at f h in
    found e.rest (Some e.tree) (r_some e.reads) (ap (λ a. Some a) e.same)

------ elements

pub statement_at : {ts us : List Marked} {k : Skeleton} (f : ℕ → Place) → ReadsStatement ts us k
    → At Skeleton ReadsStatement unplaced_skeleton f ts us k
statement_at f (r_case p q h r) = let e = expression_at (next f) r in
    found (next (next e.rest)) (hollow_case (f 0) e.tree 0)
    (r_case (f 0) (e.rest 0) (next e.rest 0) e.reads) (ap (λ a. hollow_case nowhere a 0) e.same)
statement_at f (r_default p q h) =
    found (next (next (next f))) (hollow_default (f 0) 0)
    (r_default (f 0) (next f 0) (next (next f) 0)) refl
statement_at f (r_block p h q) =
    found (next (next (next f))) (hollow_compound (f 0) 0)
    (r_block (f 0) (next f 0) (next (next f) 0)) refl
statement_at f (r_expression q r) = let e = expression_at f r in
    found (next e.rest) (hollow_expression (place_of e.tree) (Some e.tree))
    (r_expression (e.rest 0) e.reads) (ap (λ a. hollow_expression nowhere (Some a)) e.same)
statement_at f (r_null p) = found (next f) (hollow_expression (f 0) None) (r_null (f 0)) refl
statement_at f (r_if p q x h r) = let e = expression_at (next (next f)) r in
    found (next (next e.rest)) (hollow_if (f 0) e.tree 0)
    (r_if (f 0) (next f 0) (e.rest 0) (next e.rest 0) e.reads)
    (ap (λ a. hollow_if nowhere a 0) e.same)
statement_at f (r_if_else p q x h y i r) = let e = expression_at (next (next f)) r in
    found (next (next (next (next e.rest)))) (hollow_if_else (f 0) e.tree 0 1)
    (r_if_else (f 0) (next f 0) (e.rest 0) (next e.rest 0) (next (next e.rest) 0)
    (next (next (next e.rest)) 0) e.reads)
    (ap (λ a. hollow_if_else nowhere a 0 1) e.same)
statement_at f (r_switch p q x h r) = let e = expression_at (next (next f)) r in
    found (next (next e.rest)) (hollow_switch (f 0) e.tree 0)
    (r_switch (f 0) (next f 0) (e.rest 0) (next e.rest 0) e.reads)
    (ap (λ a. hollow_switch nowhere a 0) e.same)
statement_at f (r_while p q x h r) = let e = expression_at (next (next f)) r in
    found (next (next e.rest)) (hollow_while (f 0) e.tree 0)
    (r_while (f 0) (next f 0) (e.rest 0) (next e.rest 0) e.reads)
    (ap (λ a. hollow_while nowhere a 0) e.same)
statement_at f (r_do_while p h w q x z r) =
    let e = expression_at (next (next (next (next f)))) r in
    found (next (next e.rest)) (hollow_do_while (f 0) 0 e.tree)
    (r_do_while (f 0) (next f 0) (next (next f) 0) (next (next (next f)) 0) (e.rest 0)
    (next e.rest 0) e.reads)
    (ap (λ a. hollow_do_while nowhere 0 a) e.same)
statement_at f (r_for p q x y z h r s t) =
    let e = option_at (next (next f)) r in let g = option_at (next e.rest) s in
    let i = option_at (next g.rest) t in
    found (next (next i.rest)) (hollow_for (f 0) e.tree g.tree i.tree 0)
    (r_for (f 0) (next f 0) (e.rest 0) (g.rest 0) (i.rest 0) (next i.rest 0) e.reads g.reads
    i.reads)
    (three (λ a b c. hollow_for nowhere a b c 0) e.same g.same i.same)
statement_at f (r_for_declaration p q y z h r s t) =
    let e = declaration_at (next (next f)) r in let g = option_at e.rest s in
    let i = option_at (next g.rest) t in
    found (next (next i.rest)) (hollow_for_declaration (f 0) e.tree g.tree i.tree 0)
    (r_for_declaration (f 0) (next f 0) (g.rest 0) (i.rest 0) (next i.rest 0) e.reads g.reads
    i.reads)
    (three (λ a b c. hollow_for_declaration nowhere a b c 0) e.same g.same i.same)
statement_at f (r_continue p q) =
    found (next (next f)) (hollow_continue (f 0)) (r_continue (f 0) (next f 0)) refl
statement_at f (r_break p q) =
    found (next (next f)) (hollow_break (f 0)) (r_break (f 0) (next f 0)) refl
statement_at f (r_return p q r) = let e = option_at (next f) r in
    found (next e.rest) (hollow_return (f 0) e.tree) (r_return (f 0) (e.rest 0) e.reads)
    (ap (λ a. hollow_return nowhere a) e.same)

-- the place of a declaration
abbrev declaration_place : Declaration → Place
declaration_place (declaration p xs ds) = p

as_external : {ts us : List Marked} (g : Declaration) → ReadsDeclaration ts us g
    → ReadsElement External ts us (hollow_declaration (declaration_place g) g)
as_external (declaration p xs ds) h = r_external h

as_item : {ts us : List Marked} (g : Declaration) → ReadsDeclaration ts us g
    → ReadsElement Item ts us (hollow_declaration (declaration_place g) g)
as_item (declaration p xs ds) h = r_item_declaration h

pub element_at : {s : Standing} {ts us : List Marked} {k : Skeleton} (f : ℕ → Place)
    → ReadsElement s ts us k → At Skeleton (ReadsElement s) unplaced_skeleton f ts us k
element_at f (r_lone p) = found (next f) (hollow_empty (f 0)) (r_lone (f 0)) refl
element_at f (r_external h) = let e = declaration_at f h in
    found e.rest (hollow_declaration (declaration_place e.tree) e.tree) (as_external e.tree e.reads)
    (ap (λ g. hollow_declaration nowhere g) e.same)
element_at f (r_function_definition q h y b i j) =
    let e = specifiers_at f i in let g = declarator_at e.rest j in
    found (next (next (next g.rest))) (hollow_function (f 0) e.tree g.tree (g.rest 0) 0)
    (r_function_definition (g.rest 0) (next g.rest 0) (next (next g.rest) 0) (begins f b) e.reads
    g.reads)
    (two (λ xs x. hollow_function nowhere xs x nowhere 0) e.same g.same)
element_at f (r_item_declaration h) = let e = declaration_at f h in
    found e.rest (hollow_declaration (declaration_place e.tree) e.tree) (as_item e.tree e.reads)
    (ap (λ g. hollow_declaration nowhere g) e.same)
element_at f (r_item_statement h) = let e = statement_at f h in
    found e.rest e.tree (r_item_statement e.reads) e.same
element_at f (r_nested h) = let e = statement_at f h in
    found e.rest e.tree (r_nested e.reads) e.same
