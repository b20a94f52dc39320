-- Substitution (6.10.3.1 to 6.10.3.3): what stands for each part of a replacement list.
use Rattle.std.specs.Prelude.{ℕ, zero, suc, Bool, true, false, ◌||◌, ◌==◌, List, [], ◌∷◌, ◌++◌, Option, Some, None}
use Rattle.hv_base.specs.Ascii as ascii
use Rattle.hv_toks.specs.Cutting.{whole_token}
use Rattle.hv_toks.specs.declared.token.PpKind.{PpKind}
use Rattle.hv_toks.specs.declared.token.PpKind.TheVariants.{Identifier, Number, CharConstant, StringLiteral, HeaderName, Punctuator, Other}
use Rattle.hv_plain.specs.episode.Bodies.{Operand, token, parameter, string, Part, expanded, single, joined}
use Rattle.hv_plain.specs.episode.Tokens.{Token, body_token, both, hiding, spaced, owing, still_owed}

------ `#` (6.10.3.2)

-- a `\` before each `"` and `\`
abbrev pub escaped : List ℕ → List ℕ
escaped [] = []
escaped (byte ∷ bytes) = elim (byte == ascii.quote || byte == ascii.backslash) [
  | true ↦ ascii.backslash ∷ byte ∷ escaped bytes
  | false ↦ byte ∷ escaped bytes
]

-- a token's spelling within a string; only in character constants and string literals `"` and `\`
-- are escaped
abbrev pub quoted : PpKind → List ℕ → List ℕ
quoted Identifier text = text
quoted Number text = text
quoted CharConstant text = escaped text
quoted StringLiteral text = escaped text
quoted HeaderName text = text
quoted Punctuator text = text
quoted Other text = text

-- one blank where white space stands before a token
abbrev pub blank : Bool → List ℕ
blank true = ascii.space ∷ []
blank false = []

-- the spelling of tokens that others stand before
abbrev pub more_quoted : List Token → List ℕ
more_quoted [] = []
more_quoted (t ∷ tokens) = blank t.space ++ quoted t.kind t.text ++ more_quoted tokens

-- the spelling of an argument; white space before its first token is deleted
abbrev pub argument_quoted : List Token → List ℕ
argument_quoted [] = []
argument_quoted (t ∷ tokens) = quoted t.kind t.text ++ more_quoted tokens

-- the string literal of an argument
abbrev pub string_token : List Token → (space : Bool) → Token
string_token tokens space = record {
  kind = StringLiteral;
  text = ascii.quote ∷ (argument_quoted tokens ++ ascii.quote ∷ []);
  space = space;
  hides = [];
}

------ `##` (6.10.3.3)

-- two tokens as one, which hides what both hide; `None` where they are not one preprocessing token
abbrev pub paste : Token → Token → Option Token
paste t u = elim (whole_token (t.text ++ u.text)) [
  | None ↦ None
  | Some kind ↦ Some (record
      { kind = kind; text = t.text ++ u.text; space = t.space; hides = both t.hides u.hides })
]

-- the last of the tokens on the left is joined with the first of those on the right; where there
-- are none on a side, the other side stands. `None` where the two are not one token
abbrev pub join : (left right : List Token) → Option (List Token)
join [] right = Some right
join (t ∷ []) [] = Some (t ∷ [])
join (t ∷ []) (u ∷ right) = elim (paste t u) [ None ↦ None | Some v ↦ Some (v ∷ right) ]
join (t ∷ v ∷ left) right =
    elim (join (v ∷ left) right) [ None ↦ None | Some tokens ↦ Some (t ∷ tokens) ]

------ the parts in order

-- the argument of this index; a variable argument that the invocation lacks is empty
abbrev pub argument : List (List Token) → ℕ → List Token
argument [] i = []
argument (tokens ∷ arguments) zero = tokens
argument (tokens ∷ arguments) (suc i) = argument arguments i

-- whether white space stands before an operand
abbrev pub space_of : Operand → Bool
space_of (token s) = s.space
space_of (parameter i space) = space
space_of (string i space) = space

-- the tokens that stand for an operand, the first one after white space exactly where this is so
abbrev pub stands_for : List (List Token) → (space : Bool) → Operand → List Token
stands_for arguments space (token s) = body_token s space ∷ []
stands_for arguments space (parameter i _) = spaced space (argument arguments i)
stands_for arguments space (string i _) = string_token (argument arguments i) space ∷ []

-- a text that is rescanned: the tokens that stand next, of which the last `unread` are the source's
-- that nothing took yet, and the tokens that it gave
pub record Scan : Type 0 where
  pub ahead : List Token
  pub unread : ℕ
  pub given : List Token

-- a substitution that waits for an argument to be expanded by itself
pub record Frame : Type 0 where
  -- the text around, from after the invocation on
  pub around : Scan
  pub arguments : List (List Token)
  -- the parts after the parameter
  pub rest : List Part
  -- what stands for the parts before it
  pub built : List Token
  -- whether white space stands before what comes next
  pub owed : Bool
  -- what each resulting token hides too
  pub hides : List (List ℕ)
  -- whether white space stands before the macro's name
  pub space : Bool

-- a substitution that goes on until it is whole, waits for the expansion of an argument, or has a
-- `##` that gives no token
pub data Filled : Type 0 where
  whole : Scan → Filled
  waits : (first : Token) → (more : List Token) → Frame → Filled
  broken : Filled

-- the text around, with the result before it. The result's first token stands after white space
-- exactly where the name does; where there is none, the token after the invocation does so too
abbrev pub substituted : Frame → List Token → Scan
substituted f [] = record f.around { ahead = owing f.space f.around.ahead }
substituted f (t ∷ tokens) =
    record f.around { ahead = hiding f.hides (spaced f.space (t ∷ tokens)) ++ f.around.ahead }

-- goes on with these parts, where `owed` is white space that the next one takes, `built` stands for
-- the parts before, and `last` for those of them that a `##` may follow
abbrev pub fill : Frame → List Part → (owed : Bool) → (built last : List Token) → Filled
fill f [] owed built last = whole (substituted f (built ++ last))
fill f (expanded i space ∷ parts) owed built last = elim (argument f.arguments i) [
  | [] ↦ fill f parts (space || owed) (built ++ last) []
  | t ∷ tokens ↦ waits t tokens
      (record f { rest = parts; built = built ++ last; owed = space || owed })
]
fill f (single o ∷ parts) owed built last =
    let space : Bool = space_of o || owed in
    let tokens : List Token = stands_for f.arguments space o in
    fill f parts (still_owed space tokens) (built ++ last) tokens
fill f (joined o ∷ parts) owed built last =
    let space : Bool = space_of o || owed in
    let tokens : List Token = stands_for f.arguments space o in
    elim (join last tokens) [
      | None ↦ broken
      | Some both ↦ fill f parts (still_owed space tokens) built both
    ]

-- goes on after the expansion of an argument, which gave these tokens
abbrev pub resume : Frame → (given : List Token) → Filled
resume f given = fill f f.rest (still_owed f.owed given) f.built (spaced f.owed given)
