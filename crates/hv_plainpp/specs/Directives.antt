-- Which directive a line is (6.10, paragraph 1).
-- Not in here: what it does, and whether what stands behind its name is well-formed.
use Rattle.std.specs.Prelude.{ℕ, cond, List, [], ◌∷◌, codes}
use Rattle.std.specs.Str.{bytes_eq}
use Rattle.hv_toks.specs.declared.token.PpTok.{PpTok}

-- what the first line of a group asks, by the tokens behind the directive's name (6.10.1)
pub data Question : Type 0 where
  -- `#if`: whether an expression is true
  expression : List PpTok → Question
  -- `#ifdef`: whether a name is a macro
  is_macro : List PpTok → Question
  -- `#ifndef`: whether it is none
  is_no_macro : List PpTok → Question

-- a directive that makes groups (6.10.1)
pub data Conditional : Type 0 where
  if_ : Question → Conditional
  elif : List PpTok → Conditional
  else_ : Conditional
  endif : Conditional

-- another directive, by the tokens behind its name (6.10.2 to 6.10.7)
pub data Action : Type 0 where
  include : List PpTok → Action
  define : List PpTok → Action
  undef : List PpTok → Action
  error : Action
  -- `#pragma`, and `#` alone
  ignored : Action
  -- none of them
  unknown : Action

-- a directive
pub data Directive : Type 0 where
  conditional : Conditional → Directive
  action : Action → Directive

-- the directive of this name, with these tokens behind it
abbrev pub named : (name : List ℕ) → List PpTok → Directive
named name tokens =
    cond (bytes_eq name (codes "if")) (conditional (if_ (expression tokens)))
    (cond (bytes_eq name (codes "ifdef")) (conditional (if_ (is_macro tokens)))
    (cond (bytes_eq name (codes "ifndef")) (conditional (if_ (is_no_macro tokens)))
    (cond (bytes_eq name (codes "elif")) (conditional (elif tokens))
    (cond (bytes_eq name (codes "else")) (conditional else_)
    (cond (bytes_eq name (codes "endif")) (conditional endif)
    (cond (bytes_eq name (codes "include")) (action (include tokens))
    (cond (bytes_eq name (codes "define")) (action (define tokens))
    (cond (bytes_eq name (codes "undef")) (action (undef tokens))
    (cond (bytes_eq name (codes "error")) (action error)
    (cond (bytes_eq name (codes "pragma")) (action ignored)
    (action unknown)))))))))))

-- the directive of a line, by the tokens behind its `#`
abbrev pub directive_of : List PpTok → Directive
directive_of [] = action ignored
directive_of (name ∷ tokens) = named name.text tokens
