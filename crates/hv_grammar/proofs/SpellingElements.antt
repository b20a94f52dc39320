-- An element's own tokens are the tokens that were read.
use Rattle.std.proofs.Common.{◌≡◌, ℕ, List, [], ◌∷◌, ◌++◌, refl, ◌∙◌, append_assoc, Option}
use Rattle.std.proofs.lemmas.List.{append-nil}
use Rattle.hv_ctree.specs.tree.Expressions.{Expr}
use Rattle.hv_ctree.specs.tree.Statements.{Designation, Initializer, Initializers, then_initializer, InitDeclarator, InitDeclarators, then_init_declarator, Declaration, Skeleton}
use Rattle.hv_base.specs.declared.place.Place.{Place}
use Rattle.hv_grammar.specs.Symbols.{Marked, comma_sign}
use Rattle.hv_grammar.specs.Elements.{ReadsDesignation, r_no_designation, r_index, r_designator, ReadsInitializer, r_value, r_braced, ReadsInitializers, r_initializer, r_initializers, ReadsInitDeclarator, r_bare, r_initialized, ReadsInitDeclarators, r_init_declarator, r_init_declarators, ReadsDeclaration, r_plain_declaration, r_declaration, ReadsOption, r_none, r_some, ReadsStatement, r_case, r_default, r_block, r_expression, r_null, r_if, r_if_else, r_switch, r_while, r_do_while, r_for, r_for_declaration, r_continue, r_break, r_return, Standing, ReadsElement, r_lone, r_external, r_function_definition, r_item_declaration, r_item_statement, r_nested}
use Rattle.hv_grammar.specs.Tokens.{designation_tokens, initializer_tokens, initializers_tokens, init_declarator_tokens, init_declarators_tokens, declaration_tokens, option_tokens, own_tokens}
use Rattle.hv_grammar.proofs.Spelling.{symbols, expression_read, specifiers_read, declarator_read, last_comma_read}

designation_read : {d : ℕ} {ts us : List Marked} {g : Designation} → ReadsDesignation d ts us g
    → symbols ts ≡ designation_tokens g ++ symbols us
designation_read r_no_designation = refl
designation_read (r_index p q x h) = let e = expression_read h in rw e (simp append_assoc)
designation_read (r_designator p q x n) = refl

initializers_more : {d : ℕ} {ts us : List Marked} {xs : Initializers} (p : Place) (g : Designation)
    (x : Initializer) → ReadsInitializers d ts us xs
    → initializers_tokens (then_initializer xs p g x) ≡ initializers_tokens xs ++ comma_sign ∷
    (designation_tokens g ++ initializer_tokens x)
initializers_more p g x (r_initializer b h i) = refl
initializers_more p g x (r_initializers q h b i j) = refl

mutual
  initializer_read : {d : ℕ} {ts us : List Marked} {x : Initializer} → ReadsInitializer d ts us x
      → symbols ts ≡ initializer_tokens x ++ symbols us
  initializer_read (r_value h) = expression_read h
  initializer_read (r_braced p q h l) = let e = initializers_read h in let f = last_comma_read l in
      rw (e, f) (simp append_assoc)

  initializers_read : {d : ℕ} {ts us : List Marked} {xs : Initializers}
      → ReadsInitializers d ts us xs → symbols ts ≡ initializers_tokens xs ++ symbols us
  initializers_read (r_initializer b h i) = let e = designation_read h in let f = initializer_read i
      in rw (e, f) (simp append_assoc)
  initializers_read (r_initializers {g = g} {x = x} {p = p} q h b i j) =
      let m = initializers_more p g x h in let e = initializers_read h in let f = designation_read i
      in let k = initializer_read j in
      rw (m, e, f, k) (simp append_assoc)

init_declarator_read : {ts us : List Marked} {x : InitDeclarator} → ReadsInitDeclarator ts us x
    → symbols ts ≡ init_declarator_tokens x ++ symbols us
init_declarator_read (r_bare b h) = declarator_read h
init_declarator_read (r_initialized q b h i) = let e = declarator_read h in let f =
    initializer_read i in rw (e, f) (simp append_assoc)

init_declarators_more : {ts us : List Marked} {xs : InitDeclarators} (x : InitDeclarator)
    → ReadsInitDeclarators ts us xs
    → init_declarators_tokens (then_init_declarator xs x) ≡ init_declarators_tokens xs ++
    comma_sign ∷ init_declarator_tokens x
init_declarators_more x (r_init_declarator h) = refl
init_declarators_more x (r_init_declarators p h i) = refl

init_declarators_read : {ts us : List Marked} {xs : InitDeclarators} → ReadsInitDeclarators ts us xs
    → symbols ts ≡ init_declarators_tokens xs ++ symbols us
init_declarators_read (r_init_declarator h) = init_declarator_read h
init_declarators_read (r_init_declarators {x = x} p h i) =
    let m = init_declarators_more x h in let e = init_declarators_read h in let f =
    init_declarator_read i in rw (m, e, f) (simp append_assoc)

declaration_read : {ts us : List Marked} {g : Declaration} → ReadsDeclaration ts us g
    → symbols ts ≡ declaration_tokens g ++ symbols us
declaration_read (r_plain_declaration q b h) = let e = specifiers_read h in rw e (simp append_assoc)
declaration_read (r_declaration q b h i) = let e = specifiers_read h in let f =
    init_declarators_read i in rw (e, f) (simp append_assoc)

option_read : {ts us : List Marked} {a : Option Expr} → ReadsOption ts us a
    → symbols ts ≡ option_tokens a ++ symbols us
option_read r_none = refl
option_read (r_some h) = expression_read h

statement_read : {ts us : List Marked} {k : Skeleton} → ReadsStatement ts us k
    → symbols ts ≡ own_tokens k ++ symbols us
statement_read (r_case p q h r) = let e = expression_read r in rw e (simp append_assoc)
statement_read (r_default p q h) = refl
statement_read (r_block p h q) = refl
statement_read (r_expression q r) = let e = expression_read r in rw e (simp append_assoc)
statement_read (r_null p) = refl
statement_read (r_if p q x h r) = let e = expression_read r in rw e (simp append_assoc)
statement_read (r_if_else p q x h y i r) = let e = expression_read r in rw e (simp append_assoc)
statement_read (r_switch p q x h r) = let e = expression_read r in rw e (simp append_assoc)
statement_read (r_while p q x h r) = let e = expression_read r in rw e (simp append_assoc)
statement_read (r_do_while p h w q x z r) = let e = expression_read r in rw e (simp append_assoc)
statement_read (r_for p q x y z h r s t) =
    let e = option_read r in let f = option_read s in let g = option_read t in
    rw (e, f, g) (simp append_assoc)
statement_read (r_for_declaration p q y z h r s t) =
    let e = declaration_read r in let f = option_read s in let g = option_read t in
    rw (e, f, g) (simp append_assoc)
statement_read (r_continue p q) = refl
statement_read (r_break p q) = refl
statement_read (r_return p q r) = let e = option_read r in rw e (simp append_assoc)

-- and the rest of the tokens is what stands after the element
pub element_read : {s : Standing} {ts us : List Marked} {k : Skeleton} → ReadsElement s ts us k
    → symbols ts ≡ own_tokens k ++ symbols us
element_read (r_lone p) = refl
element_read (r_external h) = declaration_read h
element_read (r_function_definition q h y b i j) = let e = specifiers_read i in let f =
    declarator_read j in rw (e, f) (simp append_assoc)
element_read (r_item_declaration h) = declaration_read h
element_read (r_item_statement h) = statement_read h
element_read (r_nested h) = statement_read h

-- the own tokens of an element that is read whole are the tokens
pub whole_element_read : {s : Standing} {ts : List Marked} {k : Skeleton} → ReadsElement s ts [] k
    → symbols ts ≡ own_tokens k
whole_element_read {k = k} h = element_read h ∙ append-nil (own_tokens k)
