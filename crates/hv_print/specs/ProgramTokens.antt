-- The tokens of statements, external declarations and programs, in the order of the text (6.8,
-- 6.9). Those of expressions, declarators and declarations are in hv_grammar's `Tokens`.
use Rattle.std.specs.Prelude.{List, [], ◌∷◌, ◌++◌}
use Rattle.hv_base.specs.declared.keyword.Keyword.TheVariants as keywords
use Rattle.hv_ctree.specs.tree.Statements.{Stmt, case_of, default_of, compound, expression, if_only, if_else, switch, while_do, do_while, for_expressions, for_declaration, continue_loop, break_out, return_with, Items, no_items, then_item, Item, declares, does, FunctionDefinition, function_definition, External, defines, declares_outside, empty, Program}
use Rattle.hv_grammar.specs.Symbols.{Symbol, keyword, left_paren, right_paren, left_brace, right_brace, colon, semicolon}
use Rattle.hv_grammar.specs.Tokens.{tokens_of, option_tokens, specifiers_tokens, declarator_tokens, declaration_tokens}

-- the tokens of statements (6.8)
abbrev mutual
  -- a statement
  pub statement_tokens : Stmt → List Symbol
  statement_tokens (case_of p a s) =
      keyword keywords.Case ∷ (tokens_of a ++ colon ∷ statement_tokens s)
  statement_tokens (default_of p s) = keyword keywords.Default ∷ colon ∷ statement_tokens s
  statement_tokens (compound p xs) = left_brace ∷ (items_tokens xs ++ right_brace ∷ [])
  statement_tokens (expression p a) = option_tokens a ++ semicolon ∷ []
  statement_tokens (if_only p a s) =
      keyword keywords.If ∷ left_paren ∷ (tokens_of a ++ right_paren ∷ statement_tokens s)
  statement_tokens (if_else p a s t) =
      keyword keywords.If ∷ left_paren ∷ (tokens_of a ++ right_paren
      ∷ (statement_tokens s ++ keyword keywords.Else ∷ statement_tokens t))
  statement_tokens (switch p a s) =
      keyword keywords.Switch ∷ left_paren ∷ (tokens_of a ++ right_paren ∷ statement_tokens s)
  statement_tokens (while_do p a s) =
      keyword keywords.While ∷ left_paren ∷ (tokens_of a ++ right_paren ∷ statement_tokens s)
  statement_tokens (do_while p s a) =
      keyword keywords.Do ∷ (statement_tokens s ++ keyword keywords.While ∷ left_paren
      ∷ (tokens_of a ++ right_paren ∷ semicolon ∷ []))
  statement_tokens (for_expressions p a b c s) =
      keyword keywords.For ∷ left_paren ∷ (option_tokens a ++ semicolon
      ∷ (option_tokens b ++ semicolon ∷ (option_tokens c ++ right_paren ∷ statement_tokens s)))
  statement_tokens (for_declaration p g b c s) =
      keyword keywords.For ∷ left_paren ∷ (declaration_tokens g
      ++ (option_tokens b ++ semicolon ∷ (option_tokens c ++ right_paren ∷ statement_tokens s)))
  statement_tokens (continue_loop p) = keyword keywords.Continue ∷ semicolon ∷ []
  statement_tokens (break_out p) = keyword keywords.Break ∷ semicolon ∷ []
  statement_tokens (return_with p a) = keyword keywords.Return ∷ (option_tokens a ++ semicolon ∷ [])

  -- the items of a block
  pub items_tokens : Items → List Symbol
  items_tokens no_items = []
  items_tokens (then_item xs x) = items_tokens xs ++ item_tokens x

  -- a block item (6.8.2)
  pub item_tokens : Item → List Symbol
  item_tokens (declares p g) = declaration_tokens g
  item_tokens (does p s) = statement_tokens s

-- a function's definition (6.9.1)
abbrev pub function_tokens : FunctionDefinition → List Symbol
function_tokens (function_definition p xs x s) =
    specifiers_tokens xs ++ (declarator_tokens x ++ statement_tokens s)

-- an external declaration (6.9)
abbrev pub external_tokens : External → List Symbol
external_tokens (defines p f) = function_tokens f
external_tokens (declares_outside p g) = declaration_tokens g
external_tokens (empty p) = semicolon ∷ []

-- external declarations, one after another
abbrev pub externals_tokens : List External → List Symbol
externals_tokens [] = []
externals_tokens (x ∷ xs) = external_tokens x ++ externals_tokens xs

-- a program (6.9)
abbrev pub program_tokens : Program → List Symbol
program_tokens program = externals_tokens program.externals
