-- The parts of a macro's replacement list (6.10.3.1 to 6.10.3.3). A `##` is an operator where a
-- part stands before it and a token after it; a `#` is one before a parameter. An object-like macro
-- has no parameters. Not in here: whether a definition is well-formed.
use Rattle.std.specs.Prelude.{ℕ, ◌+◌, Bool, true, false, List, [], ◌∷◌, ◌++◌, codes, Option, Some, None}
use Rattle.std.specs.Str.{bytes_eq}
use Rattle.hv_toks.specs.Spelled.{Spelled, spelled}
use Rattle.hv_toks.specs.declared.macros.Body.{Body}
use Rattle.hv_toks.specs.declared.macros.Body.TheVariants.{Object, Function}
use Rattle.hv_toks.specs.declared.token.PpTok.{PpTok}

-- what stands for itself or for an argument that isn't expanded. A parameter is known by its index
pub data Operand : Type 0 where
  token : Spelled → Operand
  parameter : (index : ℕ) → (space : Bool) → Operand
  -- `#` and a parameter (6.10.3.2); the white space is that before the `#`
  string : (index : ℕ) → (space : Bool) → Operand

-- a part of a replacement list, as substitution treats it (6.10.3.1 to 6.10.3.3)
pub data Part : Type 0 where
  -- a parameter that stands neither beside `##` nor after `#` (6.10.3.1)
  expanded : (index : ℕ) → (space : Bool) → Part
  -- an operand that no `##` stands before
  single : Operand → Part
  -- an operand after `##` (6.10.3.3)
  joined : Operand → Part

-- the parameters of a macro; `__VA_ARGS__` is the last of a variadic one (6.10.3, paragraph 5)
abbrev pub parameters : Body → List (List ℕ)
parameters (Object body) = []
parameters (Function params true body) = params ++ codes "__VA_ARGS__" ∷ []
parameters (Function params false body) = params

-- the replacement list of a macro
abbrev pub replacement : Body → List PpTok
replacement (Object body) = body
replacement (Function params variadic body) = body

-- the index of the parameter of this name; `None` where there is none
abbrev pub index_of : (parameters : List (List ℕ)) → (name : List ℕ) → Option ℕ
index_of [] name = None
index_of (p ∷ ps) name = elim (bytes_eq p name) [
  | true ↦ Some 0
  | false ↦ elim (index_of ps name) [ None ↦ None | Some i ↦ Some (i + 1) ]
]

-- what stands before a token of a replacement list: nothing, a part, or a part and `##`
pub data Before : Type 0 where
  nothing : Before
  a_part : Before
  a_paste : Before

-- whether a token is spelled `##` (6.10.3.3)
abbrev pub is_paste : PpTok → Bool
is_paste t = bytes_eq t.text (codes "##")

-- whether a `##` before these tokens has its right operand
abbrev pub has_some : List PpTok → Bool
has_some [] = false
has_some (t ∷ tokens) = true

-- whether the token is the operator `##`, where these tokens follow it
abbrev pub pastes : Before → PpTok → List PpTok → Bool
pastes nothing t after = false
pastes a_part t after = elim (is_paste t) [ true ↦ has_some after | false ↦ false ]
pastes a_paste t after = false

-- whether the operator `##` follows
abbrev pub paste_follows : List PpTok → Bool
paste_follows [] = false
paste_follows (t ∷ after) = pastes a_part t after

-- an operand, and whether `##` stands before it
abbrev pub part : Before → Operand → Part
part nothing operand = single operand
part a_part operand = single operand
part a_paste operand = joined operand

-- a parameter, after this and before these tokens
abbrev pub parameter_part : Before → List PpTok → (index : ℕ) → (space : Bool) → Part
parameter_part a_paste after i space = joined (parameter i space)
parameter_part nothing after i space = elim (paste_follows after)
    [ true ↦ single (parameter i space) | false ↦ expanded i space ]
parameter_part a_part after i space = elim (paste_follows after)
    [ true ↦ single (parameter i space) | false ↦ expanded i space ]

-- a token that is no operator
abbrev pub token_part : (parameters : List (List ℕ)) → Before → PpTok → List PpTok → Part
token_part ps before t after = elim (index_of ps t.text) [
  | None ↦ part before (token (spelled t))
  | Some i ↦ parameter_part before after i t.space
]

-- the parameter that the operator `#` stands before; `None` where the token is no such operator
abbrev pub quoted_index : (parameters : List (List ℕ)) → (token next : PpTok) → Option ℕ
quoted_index ps t next =
    elim (bytes_eq t.text (codes "#")) [ true ↦ index_of ps next.text | false ↦ None ]

-- the parts of a replacement list, or of the rest of one after this
abbrev pub parts_after : (parameters : List (List ℕ)) → Before → List PpTok → List Part
parts_after ps before [] = []
parts_after ps before (t ∷ []) = token_part ps before t [] ∷ []
parts_after ps before (t ∷ next ∷ tokens) = elim (pastes before t (next ∷ tokens)) [
  | true ↦ parts_after ps a_paste (next ∷ tokens)
  | false ↦ elim (quoted_index ps t next) [
    | Some i ↦ part before (string i t.space) ∷ parts_after ps a_part tokens
    | None ↦ token_part ps before t (next ∷ tokens) ∷ parts_after ps a_part (next ∷ tokens)
  ]
]

-- the parts of a macro's replacement list
abbrev pub parts : Body → List Part
parts body = parts_after (parameters body) nothing (replacement body)
