-- What a `#define` or `#undef` line says, and when it is well-formed (6.10.3, 6.10.3.2, 6.10.3.3,
-- 6.10.3.5, 6.10.8). No white space is asked for between a macro's name and its replacement list,
-- and a macro may be defined anew in another way.
use Rattle.std.specs.Prelude.{ℕ, Bool, true, false, not, ◌&&◌, ◌||◌, List, [], ◌∷◌, codes, map, Option, Some, None}
use Rattle.std.specs.List.{list_any}
use Rattle.hv_base.specs.Ascii.{is_among}
use Rattle.hv_model.specs.Beginning.{predefined}
use Rattle.hv_model.specs.Name.{are_distinct}
use Rattle.hv_toks.specs.declared.macros.Body.{Body}
use Rattle.hv_toks.specs.declared.macros.Body.TheVariants.{Object, Function}
use Rattle.hv_toks.specs.declared.token.PpTok.{PpTok}
use Rattle.hv_plain.specs.episode.Bodies.{is_paste, parameters, replacement}
use Rattle.hv_plain.specs.episode.Episode.{has_text}
use Rattle.hv_plain.specs.episode.Tokens.{is_identifier}

------ names

-- the names that no source defines or undefines: `defined`, `__VA_ARGS__` and those of the
-- predefined macros (6.10.3, paragraph 5; 6.10.8, paragraph 4)
abbrev pub kept_names : List (List ℕ)
kept_names = codes "defined" ∷ codes "__VA_ARGS__" ∷ map (λ p. p.0) predefined

-- whether a token is a name that a source may define and undefine
abbrev pub is_free_name : PpTok → Bool
is_free_name t = is_identifier t.kind && not (is_among t.text kept_names)

-- the name that an `#undef` line removes, by the tokens behind `undef`; `None` where the line is
-- not well-formed (6.10.3.5)
abbrev pub undefined_name : List PpTok → Option (List ℕ)
undefined_name [] = None
undefined_name (t ∷ tokens) = elim (is_free_name t) [ true ↦ Some t.text | false ↦ None ]

------ parameters (6.10.3, paragraph 10)

-- the parameters of a function-like macro without `...`, whether it has `...`, and the tokens
-- behind the `)`
pub record Parameters : Type 0 where
  pub names : List (List ℕ)
  pub variadic : Bool
  pub behind : List PpTok

-- the end of a parameter list, where no `...` stands before it
abbrev pub no_more : (behind : List PpTok) → Parameters
no_more behind = record { names = []; variadic = false; behind = behind }

-- parameters with one more before them
abbrev pub with_name : (name : List ℕ) → Option Parameters → Option Parameters
with_name name None = None
with_name name (Some ps) = Some (record ps { names = name ∷ ps.names })

-- `...` and `)`, or a parameter with `)`, or with a comma and more such; `None` where the tokens
-- don't begin so
abbrev pub some_parameters : List PpTok → Option Parameters
some_parameters [] = None
some_parameters (t ∷ []) = None
some_parameters (t ∷ mark ∷ tokens) =
    let closes : Bool = has_text mark (codes ")") in
    let continues : Bool = has_text mark (codes ",") in
    elim (has_text t (codes "...")) [
      | true ↦ elim closes
          [ true ↦ Some (record (no_more tokens) { variadic = true }) | false ↦ None ]
      | false ↦ elim (is_identifier t.kind) [
        | true ↦ elim closes [
          | true ↦ with_name t.text (Some (no_more tokens))
          | false ↦ elim continues [
            | true ↦ with_name t.text (some_parameters tokens)
            | false ↦ None
          ]
        ]
        | false ↦ None
      ]
    ]

-- the parameters that stand behind a `(`
abbrev pub parameters_in : List PpTok → Option Parameters
parameters_in [] = None
parameters_in (t ∷ tokens) = elim (has_text t (codes ")")) [
  | true ↦ Some (no_more tokens)
  | false ↦ some_parameters (t ∷ tokens)
]

------ replacement lists

-- the body of a function-like macro with these parameters
abbrev pub function_body : Option Parameters → Option Body
function_body None = None
function_body (Some ps) = Some (Function ps.names ps.variadic ps.behind)

-- the body that the tokens behind a macro's name are: of a function-like macro where they begin
-- with a `(` that no white space stands before; `None` where the parameters are malformed
abbrev pub body_of : List PpTok → Option Body
body_of [] = Some (Object [])
body_of (t ∷ tokens) = elim (has_text t (codes "(") && not t.space) [
  | true ↦ function_body (parameters_in tokens)
  | false ↦ Some (Object (t ∷ tokens))
]

-- whether a replacement list ends with `##`
abbrev pub ends_with_paste : List PpTok → Bool
ends_with_paste [] = false
ends_with_paste (t ∷ []) = is_paste t
ends_with_paste (t ∷ next ∷ tokens) = ends_with_paste (next ∷ tokens)

-- whether it begins with `##`
abbrev pub begins_with_paste : List PpTok → Bool
begins_with_paste [] = false
begins_with_paste (t ∷ tokens) = is_paste t

-- whether it begins with a parameter
abbrev pub begins_with_parameter : (parameters : List (List ℕ)) → List PpTok → Bool
begins_with_parameter ps [] = false
begins_with_parameter ps (t ∷ tokens) = is_among t.text ps

-- whether a parameter stands behind each `#` (6.10.3.2, paragraph 1)
abbrev pub quotes_parameters : (parameters : List (List ℕ)) → List PpTok → Bool
quotes_parameters ps [] = true
quotes_parameters ps (t ∷ tokens) =
    (not (has_text t (codes "#")) || begins_with_parameter ps tokens) && quotes_parameters ps tokens

-- whether `__VA_ARGS__` is among the tokens
abbrev pub names_variable : List PpTok → Bool
names_variable tokens = list_any (λ t. has_text t (codes "__VA_ARGS__")) tokens

-- whether the parameters are distinct, and none is `__VA_ARGS__`; in an object-like macro `#` is a
-- token like others, and in a function-like one it stands before a parameter
abbrev pub is_fit : Body → Bool
is_fit (Object body) = not (names_variable body)
is_fit (Function params true body) = are_distinct (codes "__VA_ARGS__" ∷ params)
    && quotes_parameters (parameters (Function params true body)) body
is_fit (Function params false body) = are_distinct (codes "__VA_ARGS__" ∷ params)
    && quotes_parameters params body && not (names_variable body)

-- whether a macro's parameters and replacement list are well-formed; at both ends of the list
-- stands no `##` (6.10.3.3, paragraph 1)
abbrev pub is_well_formed : Body → Bool
is_well_formed body = is_fit body && not (begins_with_paste (replacement body))
    && not (ends_with_paste (replacement body))

------ a whole line

-- a name and what it is defined as
pub record Definition : Type 0 where
  pub name : List ℕ
  pub body : Body

-- the definition of a name with this body
abbrev pub definition_as : (name : List ℕ) → Option Body → Option Definition
definition_as name None = None
definition_as name (Some body) = elim (is_well_formed body)
    [ true ↦ Some (record { name = name; body = body }) | false ↦ None ]

-- the definition that a `#define` line makes, by the tokens behind `define`; `None` where the line
-- is not well-formed
abbrev pub definition : List PpTok → Option Definition
definition [] = None
definition (t ∷ tokens) = elim (is_free_name t)
    [ true ↦ definition_as t.text (body_of tokens) | false ↦ None ]
