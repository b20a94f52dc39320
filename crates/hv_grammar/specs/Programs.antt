-- Whole programs: elements whose holes are filled, in order, by whole elements (6.8, 6.9). Each
-- token of a statement has the number of statements that are open at it as its mark, the statement
-- itself included; a function's body counts as one for what stands in it.
use Rattle.std.specs.Prelude.{ℕ, suc, Bool, true, false, List, [], ◌∷◌, Option, Some, None, ◌≡◌, IsTrue}
use Rattle.hv_base.specs.declared.place.Place.{Place}
use Rattle.hv_ctree.specs.tree.Statements.{Stmt, case_of, default_of, compound, expression, if_only, if_else, switch, while_do, do_while, for_expressions, for_declaration, continue_loop, break_out, return_with, Items, no_items, then_item, Item, declares, does, function_definition, External, defines, declares_outside, empty, Declaration, Skeleton, hollow_empty, hollow_declaration, hollow_function, hollow_case, hollow_default, hollow_compound, hollow_expression, hollow_if, hollow_if_else, hollow_switch, hollow_while, hollow_do_while, hollow_for, hollow_for_declaration, hollow_continue, hollow_break, hollow_return}
use Rattle.hv_ctree.specs.tree.Expressions.{Specifiers, Declarator}
use Rattle.hv_grammar.specs.Symbols.{Symbol, hole, Marked, BeginsAt}
use Rattle.hv_grammar.specs.Elements.{loose, External as Outside, Item as InBlock, ReadsElement, ReadsStatement}

-- what fills a hole: a statement, or a block's items
pub data Child : Type 0 where
  a_statement : Stmt → Child
  a_list : Items → Child

-- the statement of a skeleton whose holes are filled; none where the skeleton is no statement's, or
-- the children are not what it asks for
abbrev pub filled : Skeleton → List Child → Option Stmt
filled (hollow_case p a h) (a_statement s ∷ []) = Some (case_of p a s)
filled (hollow_default p h) (a_statement s ∷ []) = Some (default_of p s)
filled (hollow_compound p h) (a_list xs ∷ []) = Some (compound p xs)
filled (hollow_expression p a) [] = Some (expression p a)
filled (hollow_if p a h) (a_statement s ∷ []) = Some (if_only p a s)
filled (hollow_if_else p a h i) (a_statement s ∷ a_statement t ∷ []) = Some (if_else p a s t)
filled (hollow_switch p a h) (a_statement s ∷ []) = Some (switch p a s)
filled (hollow_while p a h) (a_statement s ∷ []) = Some (while_do p a s)
filled (hollow_do_while p h a) (a_statement s ∷ []) = Some (do_while p s a)
filled (hollow_for p a b c h) (a_statement s ∷ []) = Some (for_expressions p a b c s)
filled (hollow_for_declaration p g b c h) (a_statement s ∷ []) = Some (for_declaration p g b c s)
filled (hollow_continue p) [] = Some (continue_loop p)
filled (hollow_break p) [] = Some (break_out p)
filled (hollow_return p a) [] = Some (return_with p a)
filled _ _ = None

-- whether a statement ends with an `if` that an `else` could go on
abbrev pub ends_open : Stmt → Bool
ends_open (case_of p a s) = ends_open s
ends_open (default_of p s) = ends_open s
ends_open (if_only p a s) = true
ends_open (if_else p a s t) = ends_open t
ends_open (switch p a s) = ends_open s
ends_open (while_do p a s) = ends_open s
ends_open (for_expressions p a b c s) = ends_open s
ends_open (for_declaration p g b c s) = ends_open s
ends_open _ = false

-- an `else` belongs to the nearest `if` (6.8.4.1): what stands between an `if` and its `else` is
-- closed
abbrev pub keeps_else : Stmt → Bool
keeps_else (if_else p a s t) = closed (ends_open s) where
  closed : Bool → Bool
  closed true = false
  closed false = true
keeps_else _ = true

-- the token with so many statements open
abbrev pub under : ℕ → Marked → Marked
under n t = record t { statements = n }

-- a token that is no hole
pub data IsToken : Symbol → Type 0 where
  is_token : {s : Symbol} → (s ≡ hole → ⊥) → IsToken s

mutual
  -- an element's own tokens, the holes filled, where so many statements are open
  pub data Fills : ℕ → List Marked → List Child → List Marked → List Marked → Type 0 where
    f_end : {n : ℕ} {ws : List Marked} → Fills n [] [] ws ws
    f_token : {n : ℕ} {ts ws vs : List Marked} {cs : List Child} (t : Marked)
        → IsToken t.token.symbol
        → Fills n ts cs ws vs
        → Fills n (t ∷ ts) cs (under n t ∷ ws) vs
    f_statement : {n : ℕ} {ts us ws vs : List Marked} {s : Stmt} {cs : List Child} (h : Place)
        → ReadsNested n ws us s
        → Fills n ts cs us vs
        → Fills n (loose 0 h hole ∷ ts) (a_statement s ∷ cs) ws vs
    f_items : {n : ℕ} {ts us ws vs : List Marked} {xs : Items} {cs : List Child} (h : Place)
        → ReadsItems n ws us xs
        → Fills n ts cs us vs
        → Fills n (loose 0 h hole ∷ ts) (a_list xs ∷ cs) ws vs

  -- a statement within n statements
  pub data ReadsNested : ℕ → List Marked → List Marked → Stmt → Type 0 where
    r_filled : {n : ℕ} {ts ws vs : List Marked} {k : Skeleton} {cs : List Child} {s : Stmt}
        → ReadsStatement ts [] k
        → Fills (suc n) ts cs ws vs
        → filled k cs ≡ Some s
        → IsTrue (keeps_else s)
        → ReadsNested n ws vs s

  -- a block's items within n statements
  pub data ReadsItems : ℕ → List Marked → List Marked → Items → Type 0 where
    r_no_items : {n : ℕ} {ws : List Marked} → ReadsItems n ws ws no_items
    r_items : {n : ℕ} {ws us vs : List Marked} {xs : Items} {x : Item}
        → ReadsItems n ws us xs
        → ReadsItem n us vs x
        → ReadsItems n ws vs (then_item xs x)

  -- a block item (6.8.2) within n statements
  pub data ReadsItem : ℕ → List Marked → List Marked → Item → Type 0 where
    r_declares : {n : ℕ} {ts ws vs : List Marked} {p : Place} {g : Declaration}
        → ReadsElement InBlock ts [] (hollow_declaration p g)
        → Fills n ts [] ws vs
        → ReadsItem n ws vs (declares p g)
    r_does : {n : ℕ} {ws vs : List Marked} {s : Stmt} {p : Place}
        → BeginsAt p ws
        → ReadsNested n ws vs s
        → ReadsItem n ws vs (does p s)

-- an external declaration (6.9)
pub data ReadsExternal : List Marked → List Marked → External → Type 0 where
  r_empty : {ts ws vs : List Marked} {p : Place}
      → ReadsElement Outside ts [] (hollow_empty p)
      → Fills 0 ts [] ws vs
      → ReadsExternal ws vs (empty p)
  r_declares_outside : {ts ws vs : List Marked} {p : Place} {g : Declaration}
      → ReadsElement Outside ts [] (hollow_declaration p g)
      → Fills 0 ts [] ws vs
      → ReadsExternal ws vs (declares_outside p g)
  -- 6.9.1; the header has the count of the body that it begins
  r_defines : {ts ws vs : List Marked} {p q : Place} {xs : Specifiers} {x : Declarator}
      {items : Items} (h : ℕ)
      → ReadsElement Outside ts [] (hollow_function p xs x q h)
      → Fills 1 ts (a_list items ∷ []) ws vs
      → ReadsExternal ws vs (defines p (function_definition p xs x (compound q items)))

-- translation-unit (6.9), which may be empty
pub data ReadsExternals : List Marked → List External → Type 0 where
  r_ended : ReadsExternals [] []
  r_externals : {ws vs : List Marked} {x : External} {xs : List External}
      → ReadsExternal ws vs x
      → ReadsExternals vs xs
      → ReadsExternals ws (x ∷ xs)
