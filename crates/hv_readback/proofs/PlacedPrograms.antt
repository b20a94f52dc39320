-- Programs are derived again from their tokens at other places, and only places change; so a
-- printed program is read again at the places where its tokens stand.
use Rattle.std.proofs.Common.{◌≡◌, ℕ, zero, suc, false, List, [], ◌∷◌, map, refl, sym, ap, ◌∙◌, subst, Option, Some, None}
use Rattle.std.specs.Prelude.{IsTrue, is_some}
use Rattle.hv_base.proofs.Lists.{heads}
use Rattle.hv_base.specs.declared.place.Place.{Place}
use Rattle.hv_base.specs.declared.token.CTok.{CTok}
use Rattle.hv_ctree.specs.tree.Expressions.{Specifiers, Declarator}
use Rattle.hv_ctree.specs.tree.Statements.{Stmt, case_of, default_of, compound, expression, if_only, if_else, switch, while_do, do_while, for_expressions, for_declaration, continue_loop, break_out, return_with, Items, no_items, then_item, Item, declares, does, function_definition, External, defines, declares_outside, empty, Declaration, Skeleton, hollow_empty, hollow_declaration, hollow_function, hollow_case, hollow_default, hollow_compound, hollow_expression, hollow_if, hollow_if_else, hollow_switch, hollow_while, hollow_do_while, hollow_for, hollow_for_declaration, hollow_continue, hollow_break, hollow_return}
use Rattle.hv_grammar.specs.Symbols.{Token, token_at, Marked}
use Rattle.hv_grammar.specs.Elements.{External as Outside, Item as InBlock, ReadsElement}
use Rattle.hv_grammar.specs.Programs.{Child, a_statement, a_list, filled, ends_open, keeps_else, Fills, f_end, f_token, f_statement, f_items, ReadsNested, r_filled, ReadsItems, r_no_items, r_items, ReadsItem, r_declares, r_does, ReadsExternal, r_empty, r_declares_outside, r_defines, ReadsExternals, r_ended, r_externals}
use Rattle.hv_grammar.specs.Scopes.{in_externals}
use Rattle.hv_grammar.specs.Refusal.{Limits, KeepsLimits}
use Rattle.hv_grammar.specs.Grammar.{symbol_of, given}
use Rattle.hv_plainpp.specs.CTokens.{Identity}
use Rattle.hv_readback.specs.Laws.{PlacesChangeNothingElse, ProgramsAreReadInPlace}
use Rattle.hv_readback.specs.Places.{nowhere, unplaced_specifiers, unplaced_declarator, unplaced_declaration, unplaced_statement, unplaced_items, unplaced_item, unplaced_external, unplaced_externals}
use Rattle.hv_readback.specs.Texts.{in_place}
use Rattle.hv_readback.proofs.Placing.{next, moved, placed, At, found, begins, two, three}
use Rattle.hv_readback.proofs.PlacedElements.{unplaced_skeleton, statement_at, element_at}
use Rattle.hv_readback.proofs.PlacedScopes.{externals_bare}
use Rattle.hv_readback.proofs.Programs.{programs_are_read_back}

------ what fills holes

-- what fills a hole, without its places
abbrev unplaced_child : Child → Child
unplaced_child (a_statement s) = a_statement (unplaced_statement s)
unplaced_child (a_list xs) = a_list (unplaced_items xs)

-- what fills holes, without its places
abbrev unplaced_children : List Child → List Child
unplaced_children [] = []
unplaced_children (c ∷ cs) = unplaced_child c ∷ unplaced_children cs

-- a statement without its places, if there is one
abbrev unplaced_some : Option Stmt → Option Stmt
unplaced_some None = None
unplaced_some (Some s) = Some (unplaced_statement s)

filled_bare : (k : Skeleton) (cs : List Child)
    → filled (unplaced_skeleton k) (unplaced_children cs) ≡ unplaced_some (filled k cs)
filled_bare (hollow_case p a h) (a_statement s ∷ []) = refl
filled_bare (hollow_default p h) (a_statement s ∷ []) = refl
filled_bare (hollow_compound p h) (a_list xs ∷ []) = refl
filled_bare (hollow_expression p a) [] = refl
filled_bare (hollow_if p a h) (a_statement s ∷ []) = refl
filled_bare (hollow_if_else p a h i) (a_statement s ∷ a_statement t ∷ []) = refl
filled_bare (hollow_switch p a h) (a_statement s ∷ []) = refl
filled_bare (hollow_while p a h) (a_statement s ∷ []) = refl
filled_bare (hollow_do_while p h a) (a_statement s ∷ []) = refl
filled_bare (hollow_for p a b c h) (a_statement s ∷ []) = refl
filled_bare (hollow_for_declaration p g b c h) (a_statement s ∷ []) = refl
filled_bare (hollow_continue p) [] = refl
filled_bare (hollow_break p) [] = refl
filled_bare (hollow_return p a) [] = refl
filled_bare _ _ = refl

-- a filled skeleton is a statement that is this one up to places
record IsFilled (o : Option Stmt) (s : Stmt) : Type 0 where
  statement : Stmt
  some : o ≡ Some statement
  same : unplaced_statement statement ≡ unplaced_statement s

is_filled : (o : Option Stmt) (s : Stmt) → unplaced_some o ≡ Some (unplaced_statement s)
    → IsFilled o s
is_filled None s e = cc
is_filled (Some t) s e = record { statement = t; some = refl; same = cc }

filled_again : (k m : Skeleton) (cs ds : List Child) (s : Stmt)
    → unplaced_skeleton m ≡ unplaced_skeleton k → unplaced_children ds ≡ unplaced_children cs
    → filled k cs ≡ Some s → IsFilled (filled m ds) s
filled_again k m cs ds s e g h =
    is_filled (filled m ds) s
    (sym (filled_bare m ds) ∙ two filled e g ∙ filled_bare k cs ∙ ap unplaced_some h)

ends_open_bare : (s : Stmt) → ends_open (unplaced_statement s) ≡ ends_open s
ends_open_bare (case_of p a s) = ends_open_bare s
ends_open_bare (default_of p s) = ends_open_bare s
ends_open_bare (compound p xs) = refl
ends_open_bare (expression p a) = refl
ends_open_bare (if_only p a s) = refl
ends_open_bare (if_else p a s t) = ends_open_bare t
ends_open_bare (switch p a s) = ends_open_bare s
ends_open_bare (while_do p a s) = ends_open_bare s
ends_open_bare (do_while p s a) = refl
ends_open_bare (for_expressions p a b c s) = ends_open_bare s
ends_open_bare (for_declaration p g b c s) = ends_open_bare s
ends_open_bare (continue_loop p) = refl
ends_open_bare (break_out p) = refl
ends_open_bare (return_with p a) = refl

keeps_else_bare : (s : Stmt) → keeps_else (unplaced_statement s) ≡ keeps_else s
keeps_else_bare (if_else p a s t) = rw (ends_open_bare s) refl
keeps_else_bare _ = refl

keeps_else_again : (s t : Stmt) → unplaced_statement t ≡ unplaced_statement s
    → IsTrue (keeps_else s) → IsTrue (keeps_else t)
keeps_else_again s t e k =
    sym (keeps_else_bare t) ∙ ap keeps_else e ∙ keeps_else_bare s ∙ k

------ elements with their holes filled

-- these places after one
abbrev after : Place → (ℕ → Place) → ℕ → Place
after p f zero = p
after p f (suc n) = f n

-- an element's own tokens whose holes are filled, at other places
record Filled (n : ℕ) (ts : List Marked) (cs : List Child) (f : ℕ
    → Place) (ws vs : List Marked) : Type 0 where
  own : ℕ → Place
  children : List Child
  rest : ℕ → Place
  fills : Fills n (placed own ts) children (placed f ws) (placed rest vs)
  same : unplaced_children children ≡ unplaced_children cs

-- a declaration's skeleton, which is this one's up to places
record IsDeclaration (P : Skeleton → Type 0) (g : Declaration) : Type 0 where
  place : Place
  declared : Declaration
  holds : P (hollow_declaration place declared)
  same : unplaced_declaration declared ≡ unplaced_declaration g

is_declaration : (P : Skeleton → Type 0) (k : Skeleton) (g : Declaration) → P k
    → unplaced_skeleton k ≡ hollow_declaration nowhere (unplaced_declaration g)
    → IsDeclaration P g
is_declaration P (hollow_declaration p x) g h e =
    record { place = p; declared = x; holds = h; same = cc }
is_declaration P _ g h e = cc

no_children : (cs : List Child) → unplaced_children cs ≡ [] → cs ≡ []
no_children [] e = refl
no_children (c ∷ cs) e = cc

-- own tokens without holes
filled_with_none : {n : ℕ} (ts ws vs : List Marked) (own : ℕ → Place) (cs : List Child)
    (f rest : ℕ → Place) → Fills n (placed own ts) cs (placed f ws) (placed rest vs)
    → unplaced_children cs ≡ [] → Fills n (placed own ts) [] (placed f ws) (placed rest vs)
filled_with_none {n} ts ws vs own cs f rest h e =
    subst (λ (xs : List Child). Fills n (placed own ts) xs (placed f ws) (placed rest vs))
    (no_children cs e) h

mutual
  fills_at : {n : ℕ} {ts ws vs : List Marked} {cs : List Child} (f : ℕ → Place)
      → Fills n ts cs ws vs → Filled n ts cs f ws vs
  fills_at f f_end = record { own = f; children = []; rest = f; fills = f_end; same = refl }
  fills_at f (f_token t k h) = let e = fills_at (next f) h in
      record {
        own = after (f 0) e.own;
        children = e.children;
        rest = e.rest;
        fills = f_token (moved (f 0) t) k e.fills;
        same = e.same;
      }
  fills_at f (f_statement p r h) = let e = nested_at f r in let g = fills_at e.rest h in
      record {
        own = after p g.own;
        children = a_statement e.tree ∷ g.children;
        rest = g.rest;
        fills = f_statement p e.reads g.fills;
        same = two (λ s cs. a_statement s ∷ cs) e.same g.same;
      }
  fills_at f (f_items p r h) = let e = items_at f r in let g = fills_at e.rest h in
      record {
        own = after p g.own;
        children = a_list e.tree ∷ g.children;
        rest = g.rest;
        fills = f_items p e.reads g.fills;
        same = two (λ xs cs. a_list xs ∷ cs) e.same g.same;
      }

  nested_at : {n : ℕ} {ws vs : List Marked} {s : Stmt} (f : ℕ → Place) → ReadsNested n ws vs s
      → At Stmt (ReadsNested n) unplaced_statement f ws vs s
  nested_at f (r_filled {k = k} {cs = cs} {s = s} r h e i) =
      let g = fills_at f h in let j = statement_at g.own r in
      let t = filled_again k j.tree cs g.children s j.same g.same e in
      found g.rest t.statement
      (r_filled j.reads g.fills t.some (keeps_else_again s t.statement t.same i)) t.same

  items_at : {n : ℕ} {ws vs : List Marked} {xs : Items} (f : ℕ → Place) → ReadsItems n ws vs xs
      → At Items (ReadsItems n) unplaced_items f ws vs xs
  items_at f r_no_items = found f no_items r_no_items refl
  items_at f (r_items r h) = let e = items_at f r in let g = item_at e.rest h in
      found g.rest (then_item e.tree g.tree) (r_items e.reads g.reads)
      (two (λ xs x. then_item xs x) e.same g.same)

  item_at : {n : ℕ} {ws vs : List Marked} {x : Item} (f : ℕ → Place) → ReadsItem n ws vs x
      → At Item (ReadsItem n) unplaced_item f ws vs x
  item_at {n} f (r_declares {ts = ts} {ws = ws} {vs = vs} {g = g} r h) =
      let e = fills_at f h in let i = element_at e.own r in
      let d = is_declaration (ReadsElement InBlock (placed e.own ts) []) i.tree g i.reads i.same in
      found e.rest (declares d.place d.declared)
      (r_declares d.holds (filled_with_none ts ws vs e.own e.children f e.rest e.fills e.same))
      (ap (λ x. declares nowhere x) d.same)
  item_at f (r_does b r) = let e = nested_at f r in
      found e.rest (does (f 0) e.tree) (r_does (begins f b) e.reads)
      (ap (λ s. does nowhere s) e.same)

------ external declarations

-- the skeleton of a lone `;`
is_empty : (P : Skeleton → Type 0) (k : Skeleton) → P k
    → unplaced_skeleton k ≡ hollow_empty nowhere → (p : Place) × P (hollow_empty p)
is_empty P (hollow_empty p) h e = (p, h)
is_empty P _ h e = cc

-- the skeleton of a function's definition, which is this one's up to places
record IsFunction (P : Skeleton → Type 0) (xs : Specifiers) (x : Declarator) : Type 0 where
  place : Place
  specifiers : Specifiers
  declarator : Declarator
  body : Place
  items : ℕ
  holds : P (hollow_function place specifiers declarator body items)
  same_specifiers : unplaced_specifiers specifiers ≡ unplaced_specifiers xs
  same_declarator : unplaced_declarator declarator ≡ unplaced_declarator x

is_function : (P : Skeleton → Type 0) (k : Skeleton) (xs : Specifiers) (x : Declarator) (n : ℕ)
    → P k
    → unplaced_skeleton k
    ≡ hollow_function nowhere (unplaced_specifiers xs) (unplaced_declarator x) nowhere n
    → IsFunction P xs x
is_function P (hollow_function p ys y q m) xs x n h e =
    record {
      place = p;
      specifiers = ys;
      declarator = y;
      body = q;
      items = m;
      holds = h;
      same_specifiers = cc;
      same_declarator = cc;
    }
is_function P _ xs x n h e = cc

-- a block's items alone
record IsList (cs : List Child) (xs : Items) : Type 0 where
  items : Items
  alone : cs ≡ a_list items ∷ []
  same : unplaced_items items ≡ unplaced_items xs

is_list : (cs : List Child) (xs : Items) → unplaced_children cs ≡ a_list (unplaced_items xs) ∷ []
    → IsList cs xs
is_list (a_list ys ∷ []) xs e = record { items = ys; alone = refl; same = cc }
is_list _ xs e = cc

external_at : {ws vs : List Marked} {x : External} (f : ℕ → Place) → ReadsExternal ws vs x
    → At External ReadsExternal unplaced_external f ws vs x
external_at f (r_empty {ts = ts} {ws = ws} {vs = vs} r h) =
    let e = fills_at f h in let i = element_at e.own r in
    let d = is_empty (ReadsElement Outside (placed e.own ts) []) i.tree i.reads i.same in
    found e.rest (empty d.0)
    (r_empty d.1 (filled_with_none ts ws vs e.own e.children f e.rest e.fills e.same)) refl
external_at f (r_declares_outside {ts = ts} {ws = ws} {vs = vs} {g = g} r h) =
    let e = fills_at f h in let i = element_at e.own r in
    let d = is_declaration (ReadsElement Outside (placed e.own ts) []) i.tree g i.reads i.same in
    found e.rest (declares_outside d.place d.declared)
    (r_declares_outside d.holds
    (filled_with_none ts ws vs e.own e.children f e.rest e.fills e.same))
    (ap (λ x. declares_outside nowhere x) d.same)
external_at f (r_defines {ts = ts} {ws = ws} {vs = vs} {xs = xs} {x = x} {items = items} n r h) =
    let e = fills_at f h in let i = element_at e.own r in
    let d = is_function (ReadsElement Outside (placed e.own ts) []) i.tree xs x n i.reads i.same in
    let b = is_list e.children items e.same in
    found e.rest
    (defines d.place
    (function_definition d.place d.specifiers d.declarator (compound d.body b.items)))
    (r_defines d.items d.holds
    (subst (λ (cs : List Child). Fills 1 (placed e.own ts) cs (placed f ws) (placed e.rest vs))
    b.alone e.fills))
    (three (λ ys y is. defines nowhere (function_definition nowhere ys y (compound nowhere is)))
    d.same_specifiers d.same_declarator b.same)

-- a program at other places
record Externals (f : ℕ → Place) (ts : List Marked) (xs : List External) : Type 0 where
  tree : List External
  reads : ReadsExternals (placed f ts) tree
  same : unplaced_externals tree ≡ unplaced_externals xs

externals_at : {ts : List Marked} {xs : List External} (f : ℕ → Place) → ReadsExternals ts xs
    → Externals f ts xs
externals_at f r_ended = record { tree = []; reads = r_ended; same = refl }
externals_at f (r_externals r h) = let e = external_at f r in let g = externals_at e.rest h in
    record {
      tree = e.tree ∷ g.tree;
      reads = r_externals e.reads g.reads;
      same = two (λ x xs. x ∷ xs) e.same g.same;
    }

------ programs

-- the places of tokens, in order
abbrev places_of : List Token → ℕ → Place
places_of [] n = nowhere
places_of (t ∷ ts) zero = t.place
places_of (t ∷ ts) (suc n) = places_of ts n

-- tokens at the places of others are these, where they show the same
given_placed : (first : List Marked) (tokens others : List Token) → map given first ≡ tokens
    → map (λ (t : Token). t.symbol) others ≡ map (λ (t : Token). t.symbol) tokens
    → map given (placed (places_of others) first) ≡ others
given_placed [] [] [] e h = refl
given_placed [] [] (u ∷ others) e h = cc
given_placed [] (t ∷ tokens) others e h = cc
given_placed (m ∷ first) [] others e h = cc
given_placed (m ∷ first) (t ∷ tokens) [] e h = cc
given_placed (m ∷ first) (t ∷ tokens) (u ∷ others) e h =
    let shown = heads (given m) t (map given first) tokens e in
    let same =
    heads u.symbol t.symbol (map (λ (t : Token). t.symbol) others)
    (map (λ (t : Token). t.symbol) tokens) h in
    two (λ x xs. x ∷ xs)
    (ap (λ s. token_at u.place s) (ap (λ (t : Token). t.symbol) shown.0 ∙ sym same.0))
    (given_placed first tokens others shown.1 same.1)

-- the marks of depth are those of the tokens, whatever their places
keeps_limits : (l : Limits) (n : ℕ) (f : ℕ → Place) (first : List Marked) → KeepsLimits l n first
    → KeepsLimits l n (placed f first)
keeps_limits l n f [] k = tt
keeps_limits l n f (t ∷ first) k = (k.0, k.1, k.2, keeps_limits l _ (next f) first k.3)

is_marked_again : (xs ys : List External) → unplaced_externals ys ≡ unplaced_externals xs
    → in_externals ys [] ≡ in_externals xs []
is_marked_again xs ys e =
    sym (externals_bare ys []) ∙ ap (λ zs. in_externals zs []) e ∙ externals_bare xs []

pub places_change_nothing_else : PlacesChangeNothingElse
places_change_nothing_else limits tokens others program same d =
    let e = externals_at (places_of others) d.reads in
    record {
      read = record { externals = e.tree };
      derives = record {
        first = placed (places_of others) d.first;
        tokens = given_placed d.first tokens others d.tokens same;
        reads = e.reads;
        marks = subst (λ o. IsTrue (is_some o))
            (sym (is_marked_again program.externals e.tree e.same)) d.marks;
        limits = keeps_limits limits 0 (places_of others) d.first d.limits;
      };
      same = ap (λ xs. record { externals = xs }) e.same;
    }

------ printed programs

symbols_in_place : (unit : List (CTok × Identity))
    → map (λ (t : Token). t.symbol) (in_place unit)
    ≡ map (λ c. symbol_of c false) (map (λ t. t.0) unit)
symbols_in_place [] = refl
symbols_in_place (t ∷ unit) = ap (λ xs. symbol_of t.0 false ∷ xs) (symbols_in_place unit)

pub programs_are_read_in_place : ProgramsAreReadInPlace
programs_are_read_in_place limits file tokens program all d =
    let back = programs_are_read_back limits file tokens program all d in
    let unit = back.preprocessed.unit in
    record {
      unit = unit;
      reached = back.preprocessed.reached;
      derived = places_change_nothing_else limits back.derived.placed (in_place unit) program
          (symbols_in_place unit
          ∙ ap (map (λ c. symbol_of c false)) back.preprocessed.same
          ∙ sym back.derived.same)
          back.derived.derives;
    }
