-- The tokens that a program was read from are those of its tree: an element's own tokens with their
-- holes filled, all the way down.
use Rattle.std.proofs.Common.{◌≡◌, ℕ, true, List, [], ◌∷◌, ◌++◌, refl, sym, ap, ◌∙◌, append_assoc, Option, Some, None}
use Rattle.std.proofs.lemmas.List.{append-nil}
use Rattle.hv_ctree.specs.tree.Statements.{Stmt, case_of, default_of, compound, expression, if_only, if_else, switch, while_do, do_while, for_expressions, for_declaration, continue_loop, break_out, return_with, Items, Item, External, Skeleton, hollow_empty, hollow_declaration, hollow_function, hollow_case, hollow_default, hollow_compound, hollow_expression, hollow_if, hollow_if_else, hollow_switch, hollow_while, hollow_do_while, hollow_for, hollow_for_declaration, hollow_continue, hollow_break, hollow_return}
use Rattle.hv_grammar.specs.Symbols.{Symbol, keyword, name, marked, number, text, sign, hole, foreign, Marked}
use Rattle.hv_grammar.specs.Elements.{r_nested}
use Rattle.hv_grammar.specs.Programs.{Child, a_statement, a_list, filled, IsToken, is_token, Fills, f_end, f_token, f_statement, f_items, ReadsNested, r_filled, ReadsItems, r_no_items, r_items, ReadsItem, r_declares, r_does, ReadsExternal, r_empty, r_declares_outside, r_defines, ReadsExternals, r_ended, r_externals}
use Rattle.hv_grammar.specs.Tokens.{tokens_of, option_tokens, specifiers_tokens, declarator_tokens, declaration_tokens, own_tokens}
use Rattle.hv_grammar.proofs.Spelling.{symbols}
use Rattle.hv_grammar.proofs.SpellingElements.{whole_element_read}
use Rattle.hv_print.specs.ProgramTokens.{statement_tokens, items_tokens, item_tokens, external_tokens, externals_tokens}
use Rattle.hv_print.proofs.SpeltLemmas.{all_spelt, spelt_expr, spelt_option, spelt_specifiers, spelt_declarator, spelt_declaration}

-- the tokens of what fills a hole
abbrev child_tokens : Child → List Symbol
child_tokens (a_statement s) = statement_tokens s
child_tokens (a_list xs) = items_tokens xs

-- own tokens with their holes filled in order
abbrev pub fill : List Symbol → List Child → List Symbol
fill [] cs = []
fill (keyword k ∷ ss) cs = keyword k ∷ fill ss cs
fill (name n ∷ ss) cs = name n ∷ fill ss cs
fill (marked n ∷ ss) cs = marked n ∷ fill ss cs
fill (number v ∷ ss) cs = number v ∷ fill ss cs
fill (text b ∷ ss) cs = text b ∷ fill ss cs
fill (sign p ∷ ss) cs = sign p ∷ fill ss cs
fill (hole ∷ ss) [] = fill ss []
fill (hole ∷ ss) (c ∷ cs) = child_tokens c ++ fill ss cs
fill (foreign ∷ ss) cs = foreign ∷ fill ss cs

------ tokens without holes

fill_token : (s : Symbol) (ss : List Symbol) (cs : List Child) → IsToken s
    → fill (s ∷ ss) cs ≡ s ∷ fill ss cs
fill_token (keyword k) ss cs t = refl
fill_token (name n) ss cs t = refl
fill_token (marked n) ss cs t = refl
fill_token (number v) ss cs t = refl
fill_token (text b) ss cs t = refl
fill_token (sign p) ss cs t = refl
fill_token hole ss cs (is_token h) = absurd (h refl)
fill_token foreign ss cs t = refl

-- tokens are not changed by filling what stands after them
fill_spelt : (ss rest : List Symbol) (cs : List Child) → all_spelt ss ≡ true
    → fill (ss ++ rest) cs ≡ ss ++ fill rest cs
fill_spelt [] rest cs e = refl
fill_spelt (keyword k ∷ ss) rest cs e = ap (λ xs. keyword k ∷ xs) (fill_spelt ss rest cs e)
fill_spelt (name n ∷ ss) rest cs e = ap (λ xs. name n ∷ xs) (fill_spelt ss rest cs e)
fill_spelt (marked n ∷ ss) rest cs e = ap (λ xs. marked n ∷ xs) (fill_spelt ss rest cs e)
fill_spelt (number v ∷ ss) rest cs e = ap (λ xs. number v ∷ xs) (fill_spelt ss rest cs e)
fill_spelt (text b ∷ ss) rest cs e = ap (λ xs. text b ∷ xs) (fill_spelt ss rest cs e)
fill_spelt (sign p ∷ ss) rest cs e = ap (λ xs. sign p ∷ xs) (fill_spelt ss rest cs e)
fill_spelt (hole ∷ ss) rest cs e = cc
fill_spelt (foreign ∷ ss) rest cs e = cc

fill_whole : (ss : List Symbol) (cs : List Child) → all_spelt ss ≡ true → fill ss cs ≡ ss
fill_whole ss cs e =
    ap (λ xs. fill xs cs) (sym (append-nil ss)) ∙ fill_spelt ss [] cs e ∙ append-nil ss

fill_expr : (a : _) (rest : List Symbol) (cs : List Child)
    → fill (tokens_of a ++ rest) cs ≡ tokens_of a ++ fill rest cs
fill_expr a rest cs = fill_spelt (tokens_of a) rest cs (spelt_expr a)

fill_option : (a : _) (rest : List Symbol) (cs : List Child)
    → fill (option_tokens a ++ rest) cs ≡ option_tokens a ++ fill rest cs
fill_option a rest cs = fill_spelt (option_tokens a) rest cs (spelt_option a)

fill_declaration : (g : _) (rest : List Symbol) (cs : List Child)
    → fill (declaration_tokens g ++ rest) cs ≡ declaration_tokens g ++ fill rest cs
fill_declaration g rest cs = fill_spelt (declaration_tokens g) rest cs (spelt_declaration g)

------ statements

-- the own tokens of a statement, filled, are its tokens
filled_tokens : (k : Skeleton) (cs : List Child) (s : Stmt) → filled k cs ≡ Some s
    → fill (own_tokens k) cs ≡ statement_tokens s
filled_tokens (hollow_case p a h) (a_statement t ∷ []) s e =
    let f : case_of p a t ≡ s = cc in simp (fill_expr, append-nil) (ap statement_tokens f)
filled_tokens (hollow_default p h) (a_statement t ∷ []) s e =
    let f : default_of p t ≡ s = cc in simp (append-nil) (ap statement_tokens f)
filled_tokens (hollow_compound p h) (a_list xs ∷ []) s e =
    let f : compound p xs ≡ s = cc in ap statement_tokens f
filled_tokens (hollow_expression p a) [] s e =
    let f : expression p a ≡ s = cc in simp (fill_option) (ap statement_tokens f)
filled_tokens (hollow_if p a h) (a_statement t ∷ []) s e =
    let f : if_only p a t ≡ s = cc in simp (fill_expr, append-nil) (ap statement_tokens f)
filled_tokens (hollow_if_else p a h i) (a_statement t ∷ a_statement u ∷ []) s e =
    let f : if_else p a t u ≡ s = cc in simp (fill_expr, append-nil) (ap statement_tokens f)
filled_tokens (hollow_switch p a h) (a_statement t ∷ []) s e =
    let f : switch p a t ≡ s = cc in simp (fill_expr, append-nil) (ap statement_tokens f)
filled_tokens (hollow_while p a h) (a_statement t ∷ []) s e =
    let f : while_do p a t ≡ s = cc in simp (fill_expr, append-nil) (ap statement_tokens f)
filled_tokens (hollow_do_while p h a) (a_statement t ∷ []) s e =
    let f : do_while p t a ≡ s = cc in simp (fill_expr) (ap statement_tokens f)
filled_tokens (hollow_for p a b c h) (a_statement t ∷ []) s e =
    let f : for_expressions p a b c t ≡ s = cc in simp (fill_option, append-nil) (ap statement_tokens f)
filled_tokens (hollow_for_declaration p g b c h) (a_statement t ∷ []) s e =
    let f : for_declaration p g b c t ≡ s = cc in simp (fill_declaration, fill_option, append-nil) (ap statement_tokens f)
filled_tokens (hollow_continue p) [] s e = let f : continue_loop p ≡ s = cc in ap statement_tokens f
filled_tokens (hollow_break p) [] s e = let f : break_out p ≡ s = cc in ap statement_tokens f
filled_tokens (hollow_return p a) [] s e =
    let f : return_with p a ≡ s = cc in simp (fill_option) (ap statement_tokens f)
filled_tokens _ _ s e = cc

mutual
  fills_read : {n : ℕ} {ts ws vs : List Marked} {cs : List Child} → Fills n ts cs ws vs
      → symbols ws ≡ fill (symbols ts) cs ++ symbols vs
  fills_read f_end = refl
  fills_read (f_token {ts = ts} {vs = vs} {cs = cs} t k h) =
      ap (λ xs. t.token.symbol ∷ xs) (fills_read h)
      ∙ sym (ap (λ xs. xs ++ symbols vs) (fill_token t.token.symbol (symbols ts) cs k))
  fills_read (f_statement {ts = ts} {vs = vs} {s = s} {cs = cs} p r h) =
      let e = nested_read r in let f = fills_read h in rw (e, f) (simp append_assoc)
  fills_read (f_items {ts = ts} {vs = vs} {xs = xs} {cs = cs} p r h) =
      let e = items_read r in let f = fills_read h in rw (e, f) (simp append_assoc)

  nested_read : {n : ℕ} {ws vs : List Marked} {s : Stmt} → ReadsNested n ws vs s
      → symbols ws ≡ statement_tokens s ++ symbols vs
  nested_read (r_filled {vs = vs} {k = k} {cs = cs} {s = s} r h e i) =
      fills_read h
      ∙ ap (λ xs. xs ++ symbols vs) (ap (λ ss. fill ss cs) (whole_element_read (r_nested r))
      ∙ filled_tokens k cs s e)

  items_read : {n : ℕ} {ws vs : List Marked} {xs : Items} → ReadsItems n ws vs xs
      → symbols ws ≡ items_tokens xs ++ symbols vs
  items_read r_no_items = refl
  items_read (r_items r h) = let e = items_read r in let f = item_read h in
      rw (e, f) (simp append_assoc)

  item_read : {n : ℕ} {ws vs : List Marked} {x : Item} → ReadsItem n ws vs x
      → symbols ws ≡ item_tokens x ++ symbols vs
  item_read (r_declares {vs = vs} {g = g} r h) =
      fills_read h
      ∙ ap (λ xs. xs ++ symbols vs) (ap (λ ss. fill ss []) (whole_element_read r)
      ∙ fill_whole (declaration_tokens g) [] (spelt_declaration g))
  item_read (r_does b r) = nested_read r

------ programs

external_read : {ws vs : List Marked} {x : External} → ReadsExternal ws vs x
    → symbols ws ≡ external_tokens x ++ symbols vs
external_read (r_empty {vs = vs} r h) =
    fills_read h ∙ ap (λ xs. fill xs [] ++ symbols vs) (whole_element_read r)
external_read (r_declares_outside {vs = vs} {g = g} r h) =
    fills_read h
    ∙ ap (λ xs. xs ++ symbols vs) (ap (λ ss. fill ss []) (whole_element_read r)
    ∙ fill_whole (declaration_tokens g) [] (spelt_declaration g))
external_read (r_defines {vs = vs} {xs = xs} {x = x} {items = items} n r h) =
    fills_read h
    ∙ ap (λ ss. ss ++ symbols vs) (ap (λ ss. fill ss (a_list items ∷ [])) (whole_element_read r)
    ∙ fill_spelt (specifiers_tokens xs) _ (a_list items ∷ []) (spelt_specifiers xs)
    ∙ ap (λ ss. specifiers_tokens xs ++ ss)
    (fill_spelt (declarator_tokens x) _ (a_list items ∷ []) (spelt_declarator x)))

-- the tokens of a program that is read whole
pub externals_read : {ts : List Marked} {xs : List External} → ReadsExternals ts xs
    → symbols ts ≡ externals_tokens xs
externals_read r_ended = refl
externals_read (r_externals {x = x} r h) =
    external_read r ∙ ap (λ ss. external_tokens x ++ ss) (externals_read h)
