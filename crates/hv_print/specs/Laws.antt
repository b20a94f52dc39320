-- What is proved of printed trees: that they are the tokens that the trees were read from.
use Rattle.std.specs.Prelude.{◌≡◌, ℕ, false, List, [], map}
use Rattle.hv_base.specs.declared.token.CTok.{CTok}
use Rattle.hv_ctree.specs.tree.Expressions.{Expr}
use Rattle.hv_ctree.specs.tree.Statements.{External, Program}
use Rattle.hv_grammar.specs.Symbols.{Token, Marked}
use Rattle.hv_grammar.specs.Expressions.{Reads}
use Rattle.hv_grammar.specs.Programs.{ReadsExternals}
use Rattle.hv_grammar.specs.Refusal.{Limits}
use Rattle.hv_grammar.specs.Grammar.{symbol_of, DerivesExpression, DerivesProgram}
use Rattle.hv_grammar.specs.Tokens.{tokens_of}
use Rattle.hv_print.specs.ProgramTokens.{externals_tokens, program_tokens}
use Rattle.hv_print.specs.Shown.{c_tokens}

-- the tokens that a program was read from are those of its tree
abbrev pub ProgramsKeepTokens : Type 0
ProgramsKeepTokens = (ts : List Marked) (xs : List External) → ReadsExternals ts xs
    → map (λ t. t.token.symbol) ts ≡ externals_tokens xs

-- where C tokens, whatever their places, derive an expression, that expression's C tokens are they
abbrev pub ExpressionsAreTheirTokens : Type 0
ExpressionsAreTheirTokens = (l : Limits) (cs : List CTok) (ts : List Token) (a : Expr)
    → map (λ t. t.symbol) ts ≡ map (λ c. symbol_of c false) cs
    → DerivesExpression l ts a
    → c_tokens (tokens_of a) ≡ cs

-- where C tokens, whatever their places, derive a program, that program's C tokens are they
abbrev pub ProgramsAreTheirTokens : Type 0
ProgramsAreTheirTokens = (l : Limits) (cs : List CTok) (ts : List Token) (program : Program)
    → map (λ t. t.symbol) ts ≡ map (λ c. symbol_of c false) cs
    → DerivesProgram l ts program
    → c_tokens (program_tokens program) ≡ cs
