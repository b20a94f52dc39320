-- The arguments of a function-like macro (6.10.3, paragraphs 4, 10, 11 and 12).
use Rattle.std.specs.Prelude.{ℕ, zero, suc, Bool, true, false, List, [], ◌∷◌, ◌++◌, codes, Option, Some, None, length, nat_lt, nat_eq, nat_le}
use Rattle.std.specs.Str.{bytes_eq}
use Rattle.hv_toks.specs.declared.macros.Body.{Body}
use Rattle.hv_toks.specs.declared.macros.Body.TheVariants.{Object, Function}
use Rattle.hv_plain.specs.episode.Tokens.{Token}

-- what a token is to an invocation
pub data Mark : Type 0 where
  opening : Mark
  closing : Mark
  comma : Mark
  none : Mark

-- what a token of this spelling is to an invocation
abbrev pub mark : List ℕ → Mark
mark text = elim (bytes_eq text (codes "(")) [
  | true ↦ opening
  | false ↦ elim (bytes_eq text (codes ")")) [
    | true ↦ closing
    | false ↦ elim (bytes_eq text (codes ",")) [ true ↦ comma | false ↦ none ]
  ]
]

-- the arguments of an invocation, the names that its `)` hides, and the tokens after it
pub record Taken : Type 0 where
  pub arguments : List (List Token)
  pub hides : List (List ℕ)
  pub after : List Token

-- whether a comma ends an argument, where there are these before it; the variable arguments keep
-- their commas
abbrev pub ends_argument : Body → (arguments : List (List Token)) → Bool
ends_argument (Object body) arguments = true
ends_argument (Function params true body) arguments = nat_lt (length arguments) (length params)
ends_argument (Function params false body) arguments = true

-- the arguments up to the matching `)`, where so many `(` are open, `argument` is the beginning of
-- the one that is being taken, and `arguments` are those before it; `None` where the tokens end
-- before
abbrev pub take_arguments : Body → (depth : ℕ) → (argument : List Token)
    → (arguments : List (List Token))
    → List Token → Option Taken
take_arguments body depth argument arguments [] = None
take_arguments body depth argument arguments (t ∷ tokens) = elim (mark t.text) [
  | opening ↦ take_arguments body (suc depth) (argument ++ t ∷ []) arguments tokens
  | closing ↦ elim depth [
    | zero ↦ Some (record
        { arguments = arguments ++ argument ∷ []; hides = t.hides; after = tokens })
    | suc outer ↦ take_arguments body outer (argument ++ t ∷ []) arguments tokens
  ]
  | comma ↦ elim depth [
    | zero ↦ elim (ends_argument body arguments) [
      | true ↦ take_arguments body zero [] (arguments ++ argument ∷ []) tokens
      | false ↦ take_arguments body zero (argument ++ t ∷ []) arguments tokens
    ]
    | suc outer ↦ take_arguments body (suc outer) (argument ++ t ∷ []) arguments tokens
  ]
  | none ↦ take_arguments body depth (argument ++ t ∷ []) arguments tokens
]

-- whether a macro with so many parameters takes these arguments; nothing between the parentheses is
-- no argument where there is no parameter
abbrev pub has_count : ℕ → (arguments : List (List Token)) → Bool
has_count zero ([] ∷ []) = true
has_count n arguments = nat_eq (length arguments) n

-- whether the number of arguments is right; the variable ones may be left out
abbrev pub takes : Body → (arguments : List (List Token)) → Bool
takes (Object body) arguments = true
takes (Function params true body) arguments = nat_le (length params) (length arguments)
takes (Function params false body) arguments = has_count (length params) arguments
