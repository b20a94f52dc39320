-- The pieces of a file have its tokens, in order, so they rise where its tokens do.
use Rattle.std.proofs.Common.{◌≡◌, ◌+◌, ◌<◌, ◌≤◌, ℕ, zero, suc, ◌-◌, Bool, true, false, List, [], ◌∷◌, ◌++◌, length, append_assoc, refl, sym, ◌∙◌, ap, inl, inr, subst, arith}
use Rattle.std.specs.Prelude.{All, cond, codes}
use Rattle.std.specs.Str.{bytes_eq}
use Rattle.std.proofs.lemmas.Bool.{cases_eq}
use Rattle.std.proofs.lemmas.List.Elements.{All-cons, All-nil}
use Rattle.hv_base.specs.declared.place.Place.{Place}
use Rattle.hv_plain.specs.declared.episode.RunEnd.{RunEnd}
use Rattle.hv_plain.specs.episode.Episode.{episode}
use Rattle.hv_plain.specs.episode.Expansion.{Episode, Event, Result, expands, fails}
use Rattle.hv_plainpp.proofs.OrdinaryText.{all_of, lines_all}
use Rattle.hv_plainpp.specs.Directives.{Conditional, Directive as Read, action, conditional, define, directive_of, elif, else_, endif, error, expression, if_, ignored, include, is_macro, is_no_macro, named, undef, unknown}
use Rattle.hv_plainpp.specs.Files.{Entered, place_of}
use Rattle.hv_plainpp.specs.Lines.{Piece, begins_directive, directive, lines_of, pieces_of, text, with_line}
use Rattle.hv_plainpp.specs.Reading.{Met, Reading}
use Rattle.hv_plainpp.specs.Text.{episodes, with_episode}
use Rattle.hv_preproc.proofs.KeyOrder.{IsBefore-lower}
use Rattle.hv_preproc.specs.working.Keys.{IsBefore, IsUntil, Rises, key, reached, tokens_in}
use Rattle.hv_preproc.specs.working.Parts.{EndsNoLine, tokens_on}
use Rattle.hv_texts.specs.Readings.{AreApart, IsApart}
use Rattle.hv_toks.specs.Macro.{Macro}
use Rattle.hv_toks.specs.declared.token.PpTok.{PpTok}

------ tokens that rise

pub Rises-until : (low high : ℕ) (tokens : List PpTok) → Rises low high tokens → low ≤ high
Rises-until low high [] r = r
Rises-until low high (t ∷ tokens) r =
    let rest = Rises-until (t.span.start + 1) high tokens r.1 in omega (arith, r.0, rest)

-- they do so from an earlier offset on
pub Rises-from : (low here high : ℕ) (tokens : List PpTok) → low ≤ here → Rises here high tokens
    → Rises low high tokens
Rises-from low here high [] l r = omega (arith, l, r)
Rises-from low here high (t ∷ tokens) l r = (omega (arith, l, r.0), r.1)

-- without the first one
pub Rises-tail : (low high : ℕ) (t : PpTok) (tokens : List PpTok) → Rises low high (t ∷ tokens)
    → Rises low high tokens
Rises-tail low high t tokens r =
    Rises-from low (t.span.start + 1) high tokens (omega (arith, r.0)) r.1

-- of tokens one after another those before end where the others begin
pub Rises-parted : (low high : ℕ) (tokens more : List PpTok) → Rises low high (tokens ++ more)
    → (mid : ℕ) × Rises low mid tokens × Rises mid high more
Rises-parted low high [] more r = (low, omega arith, r)
Rises-parted low high (t ∷ tokens) more r =
    let rest = Rises-parted (t.span.start + 1) high tokens more r.1 in
    (rest.0, (r.0, rest.1), rest.2)

IsApart-from : (t : PpTok) (low high : ℕ) (tokens : List PpTok) → t.span.start < low
    → Rises low high tokens → IsApart t tokens
IsApart-from t low high [] l r = tt
IsApart-from t low high (u ∷ tokens) l r = (
  λ e. absurd (omega (arith, l, r.0, e)),
  IsApart-from t (u.span.start + 1) high tokens (omega (arith, l, r.0)) r.1,
)

-- no two of them begin at one offset
pub Rises-apart : (low high : ℕ) (tokens : List PpTok) → Rises low high tokens → AreApart tokens
Rises-apart low high [] r = tt
Rises-apart low high (t ∷ tokens) r = (
  IsApart-from t (t.span.start + 1) high tokens (omega arith) r.1,
  Rises-apart (t.span.start + 1) high tokens r.1,
)

------ the pieces of a file

-- the tokens of pieces
abbrev pub tokens_of : List Piece → List PpTok
tokens_of [] = []
tokens_of (p ∷ pieces) = tokens_in p ++ tokens_of pieces

with_line-tokens : (line : List PpTok) (pieces : List Piece)
    → tokens_of (with_line line pieces) ≡ line ++ tokens_of pieces
with_line-tokens line [] = refl
with_line-tokens line (text run ends ∷ pieces) = append_assoc line run (tokens_of pieces)
with_line-tokens line (directive hash more ∷ pieces) = refl

line-tokens : (t : PpTok) (line : List PpTok) (pieces : List Piece) (b : Bool)
    → tokens_of (elim b as (λ _. List Piece) [
      | true ↦ directive t line ∷ pieces
      | false ↦ with_line (t ∷ line) pieces
    ]) ≡ t ∷ (line ++ tokens_of pieces)
line-tokens t line pieces true = refl
line-tokens t line pieces false = with_line-tokens (t ∷ line) pieces

lines-tokens : (lines : List (List PpTok)) → tokens_of (pieces_of lines) ≡ all_of lines
lines-tokens [] = refl
lines-tokens ([] ∷ lines) = lines-tokens lines
lines-tokens ((t ∷ line) ∷ lines) =
    line-tokens t line (pieces_of lines) (begins_directive t)
    ∙ ap (λ (rest : List PpTok). t ∷ (line ++ rest)) (lines-tokens lines)

-- the pieces of a file have its tokens
pub pieces-tokens : (toks : List PpTok) → tokens_of (pieces_of (lines_of toks)) ≡ toks
pieces-tokens toks = lines-tokens (lines_of toks) ∙ lines_all toks

-- none of these texts is the rest of a controlling line
abbrev EndNoLine : List Piece → Type 0
EndNoLine [] = Unit {0}
EndNoLine (p ∷ pieces) = EndsNoLine p × EndNoLine pieces

with_line-ends : (line : List PpTok) (pieces : List Piece) → EndNoLine pieces
    → EndNoLine (with_line line pieces)
with_line-ends line [] e = (λ is. cc, tt)
with_line-ends line (text run ends ∷ pieces) e = e
with_line-ends line (directive hash more ∷ pieces) e = (λ is. cc, e)

line-ends : (t : PpTok) (line : List PpTok) (pieces : List Piece) (b : Bool) → EndNoLine pieces
    → EndNoLine (elim b as (λ _. List Piece) [
      | true ↦ directive t line ∷ pieces
      | false ↦ with_line (t ∷ line) pieces
    ])
line-ends t line pieces true e = (tt, e)
line-ends t line pieces false e = with_line-ends (t ∷ line) pieces e

lines-ends : (lines : List (List PpTok)) → EndNoLine (pieces_of lines)
lines-ends [] = tt
lines-ends ([] ∷ lines) = lines-ends lines
lines-ends ((t ∷ line) ∷ lines) =
    line-ends t line (pieces_of lines) (begins_directive t) (lines-ends lines)

-- pieces whose tokens rise, each from the end of the one before; no text is the rest of a
-- controlling line
abbrev pub ArePieces : (low high : ℕ) → List Piece → Type 0
ArePieces low high [] = low ≤ high
ArePieces low high (p ∷ pieces) =
    EndsNoLine p × ((mid : ℕ) × Rises low mid (tokens_in p) × ArePieces mid high pieces)

are_pieces : (low high : ℕ) (pieces : List Piece) → EndNoLine pieces
    → Rises low high (tokens_of pieces) → ArePieces low high pieces
are_pieces low high [] e r = r
are_pieces low high (p ∷ pieces) e r =
    let parted = Rises-parted low high (tokens_in p) (tokens_of pieces) r in
    (e.0, (parted.0, parted.1, are_pieces parted.0 high pieces e.1 parted.2))

-- the pieces of a file are such where its tokens rise
pub pieces_rise : (low high : ℕ) (toks : List PpTok) → Rises low high toks
    → ArePieces low high (pieces_of (lines_of toks))
pieces_rise low high toks r =
    are_pieces low high (pieces_of (lines_of toks)) (lines-ends (lines_of toks))
    (subst (Rises low high) (sym (pieces-tokens toks)) r)

------ the tokens of a directive

-- what is said of the tokens of a directive that makes groups
abbrev ForGroups : (List PpTok → Type 0) → Read → Type 0
ForGroups P (conditional c) = P (tokens_on c)
ForGroups P (action a) = Unit {0}

for_cond : (P : List PpTok → Type 0) (b : Bool) (x y : Read) → ForGroups P x → ForGroups P y
    → ForGroups P (cond b x y)
for_cond P true x y p q = p
for_cond P false x y p q = q

for_named : (P : List PpTok → Type 0) (name : List ℕ) (toks : List PpTok) → P toks → P []
    → ForGroups P (named name toks)
for_named P name toks p none =
    for_cond P (bytes_eq name (codes "if")) (conditional (if_ (expression toks))) _ p
    (for_cond P (bytes_eq name (codes "ifdef")) (conditional (if_ (is_macro toks))) _ p
    (for_cond P (bytes_eq name (codes "ifndef")) (conditional (if_ (is_no_macro toks))) _ p
    (for_cond P (bytes_eq name (codes "elif")) (conditional (elif toks)) _ p
    (for_cond P (bytes_eq name (codes "else")) (conditional else_) _ none
    (for_cond P (bytes_eq name (codes "endif")) (conditional endif) _ none
    (for_cond P (bytes_eq name (codes "include")) (action (include toks)) _ tt
    (for_cond P (bytes_eq name (codes "define")) (action (define toks)) _ tt
    (for_cond P (bytes_eq name (codes "undef")) (action (undef toks)) _ tt
    (for_cond P (bytes_eq name (codes "error")) (action error) _ tt
    (for_cond P (bytes_eq name (codes "pragma")) (action ignored) (action unknown) tt tt))))))))))

for_line : (low high : ℕ) (hash : PpTok) (line : List PpTok) → Rises low high (hash ∷ line)
    → ForGroups (λ toks. Rises low high (hash ∷ toks)) (directive_of line)
for_line low high hash [] r = tt
for_line low high hash (name ∷ tokens) r =
    let P : List PpTok → Type 0 = λ toks. Rises low high (hash ∷ toks) in
    for_named P name.text tokens
    (r.0, Rises-tail (hash.span.start + 1) high name tokens r.1)
    (r.0, Rises-until (hash.span.start + 1) high (name ∷ tokens) r.1)

-- the tokens on its line that are looked at rise with its `#`
pub rises_on : (low high : ℕ) (hash : PpTok) (line : List PpTok) (c : Conditional)
    → directive_of line ≡ conditional c → Rises low high (hash ∷ line)
    → Rises low high (hash ∷ tokens_on c)
rises_on low high hash line c e r =
    subst (ForGroups (λ toks. Rises low high (hash ∷ toks))) e (for_line low high hash line r)

------ places of a file

-- of one file a lower offset is reached before
pub IsUntil-lower : (stack : List ℕ) (low high : ℕ) → low ≤ high
    → IsUntil (stack ++ low ∷ []) (stack ++ high ∷ [])
IsUntil-lower stack low high l = elim (cases_eq low high) [
  | inl e ↦ inl (ap (λ (n : ℕ). stack ++ n ∷ []) e)
  | inr ne ↦ inr (IsBefore-lower stack low high [] (omega (arith, l, ne)))
]

-- a place is reached between two offsets of a file
abbrev pub IsMetBetween : Entered → (low high : ℕ) → Met → Type 0
IsMetBetween at low high m =
    IsUntil (reached at low) (key m.place) × IsBefore (key m.place) (reached at high)

pub token_between : (at : Entered) (low high : ℕ) (t : PpTok) (m : Met)
    → low ≤ t.span.start → t.span.start < high → m.place ≡ place_of at t
    → IsMetBetween at low high m
token_between at low high t m l h e =
    subst (λ (p : Place). IsUntil (reached at low) (key p) × IsBefore (key p) (reached at high))
    (sym e)
    (IsUntil-lower at.stack low t.span.start l, IsBefore-lower at.stack t.span.start high [] h)

with_episode-between : (at : Entered) (low high : ℕ) (t : PpTok) (more : ℕ) (face : List Event)
    (result : Result) (behind : ℕ → Reading (Unit {0}))
    → low ≤ t.span.start → t.span.start < high
    → ((own : ℕ) → All (IsMetBetween at low high) (behind own).met)
    → All (IsMetBetween at low high) (with_episode (place_of at t) more face result behind).met
with_episode-between at low high t more face (fails why) behind l h rest =
    let m : Met = record { place = place_of at t; face = face; gives = [] } in
    All-cons (IsMetBetween at low high) m [] (token_between at low high t m l h refl)
    (All-nil (IsMetBetween at low high))
with_episode-between at low high t more face (expands given unread) behind l h rest =
    let m : Met = record { place = place_of at t; face = face; gives = given } in
    All-cons (IsMetBetween at low high) m (behind (more - unread)).met
    (token_between at low high t m l h refl) (rest (more - unread))

-- the episodes of a text are met between its offsets
pub episodes-between : (at : Entered) (low high : ℕ) (ends : RunEnd) (macros : List ℕ → Macro)
    (own : ℕ) (run : List PpTok) → Rises low high run
    → All (IsMetBetween at low high) (episodes at ends macros own run).met
episodes-between at low high ends macros own [] r = All-nil (IsMetBetween at low high)
episodes-between at low high ends macros (suc own) (t ∷ run) r =
    episodes-between at low high ends macros own run (Rises-tail low high t run r)
episodes-between at low high ends macros zero (t ∷ run) r =
    let e : Episode = episode ends (t ∷ run) 0 macros in
    with_episode-between at low high t (length run) e.face e.result
    (λ own. episodes at ends macros own run) r.0
    (omega (arith, Rises-until (t.span.start + 1) high run r.1))
    (λ own. episodes-between at low high ends macros own run (Rises-tail low high t run r))
