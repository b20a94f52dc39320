-- How the lines of tokens begin, and the pieces that they are.
use Rattle.std.proofs.Common.{◌≡◌, ◌≤◌, ◌∙◌, ℕ, suc, Bool, true, false, List, [], ◌∷◌, refl, sym, ap, take, drop, arith, one-add}
use Rattle.std.specs.List.{position_or_len}
use Rattle.hv_toks.specs.declared.token.PpTok.{PpTok}
use Rattle.hv_plain.specs.declared.episode.RunEnd.{RunEnd}
use Rattle.hv_plain.specs.declared.episode.RunEnd.TheVariants.{Directive}
use Rattle.hv_plainpp.specs.Lines.{Piece, text, directive, begins_directive, lines_of, pieces_of, with_line, with_token}
use Rattle.hv_directives.specs.working.Steps.{end_before}

------ position_or_len

position_or_len-here : {X : Type 0} (p : X → Bool) (x : X) (xs : List X) → p x ≡ true
    → position_or_len p (x ∷ xs) ≡ 0
position_or_len-here p x xs e = rw e refl

position_or_len-there : {X : Type 0} (p : X → Bool) (x : X) (xs : List X) → p x ≡ false
    → position_or_len p (x ∷ xs) ≡ suc (position_or_len p xs)
position_or_len-there p x xs e = rw (e, one-add) refl

------ lines

-- how many of the tokens belong to the line before them
abbrev pub line_len : List PpTok → ℕ
line_len ts = position_or_len (λ t. t.first) ts

-- a token is a line by itself where the next one is the first of its line
module _ (t u : PpTok) (line : List PpTok) (lines : List (List PpTok)) where
  placed : Bool → List (List PpTok)
  placed true = (t ∷ []) ∷ (u ∷ line) ∷ lines
  placed false = (t ∷ u ∷ line) ∷ lines

  with_token-first : u.first ≡ true
      → with_token t ((u ∷ line) ∷ lines) ≡ (t ∷ []) ∷ (u ∷ line) ∷ lines
  unfolding placed
  with_token-first e = ap placed e

  with_token-more : u.first ≡ false
      → with_token t ((u ∷ line) ∷ lines) ≡ (t ∷ u ∷ line) ∷ lines
  unfolding placed
  with_token-more e = ap placed e

-- a token and the rest of its line are the first line
pub lines_of-cons : (t : PpTok) (ts : List PpTok)
    → lines_of (t ∷ ts) ≡ (t ∷ take (line_len ts) ts) ∷ lines_of (drop (line_len ts) ts)
lines_of-cons t [] = refl
lines_of-cons t (u ∷ us) =
    let cut : ℕ → List (List PpTok) = λ n. (t ∷ take n (u ∷ us)) ∷ lines_of (drop n (u ∷ us)) in
    let next = lines_of-cons u us in
    elim u.first as (λ b. u.first ≡ b → lines_of (t ∷ u ∷ us) ≡ cut (line_len (u ∷ us))) [
      | true ↦ λ e.
          ap (with_token t) next ∙ with_token-first t u _ _ e
          ∙ ap (λ lines. (t ∷ []) ∷ lines) (sym next)
          ∙ ap cut (sym (position_or_len-here (λ x. x.first) u us e))
      | false ↦ λ e.
          ap (with_token t) next ∙ with_token-more t u _ _ e
          ∙ ap cut (sym (position_or_len-there (λ x. x.first) u us e))
    ] refl

------ pieces

-- the pieces of tokens
abbrev pub pieces_in : List PpTok → List Piece
pieces_in ts = pieces_of (lines_of ts)

-- how many tokens there are before the next directive
abbrev pub text_len : List PpTok → ℕ
text_len ts = position_or_len begins_directive ts

-- the first piece is a directive, up to the end of its line
pub pieces_in-directive : (t : PpTok) (ts : List PpTok) → begins_directive t ≡ true
    → pieces_in (t ∷ ts) ≡ directive t (take (line_len ts) ts) ∷ pieces_in (drop (line_len ts) ts)
pieces_in-directive t ts e = ap pieces_of (lines_of-cons t ts) ∙ rw (e, pieces_of) refl

pieces_of-text : (t : PpTok) (line : List PpTok) (lines : List (List PpTok))
    → begins_directive t ≡ false
    → pieces_of ((t ∷ line) ∷ lines) ≡ with_line (t ∷ line) (pieces_of lines)
pieces_of-text t line lines e = rw (e, pieces_of) refl

with_line-cons : (t : PpTok) (line : List PpTok) (pieces : List Piece)
    → with_line (t ∷ line) pieces ≡ with_line (t ∷ []) (with_line line pieces)
with_line-cons t line [] = refl
with_line-cons t line (text run ends ∷ pieces) = refl
with_line-cons t line (directive hash more ∷ pieces) = refl

begins_directive-first : (t : PpTok) → t.first ≡ false → begins_directive t ≡ false
begins_directive-first t e = rw e refl

-- a token that begins no directive is text before the pieces after it
pieces_in-token : (t : PpTok) (ts : List PpTok) → begins_directive t ≡ false
    → pieces_in (t ∷ ts) ≡ with_line (t ∷ []) (pieces_in ts)
pieces_in-token t [] e = pieces_of-text t [] [] e
pieces_in-token t (u ∷ us) e =
    let next = lines_of-cons u us in
    let line : List PpTok = u ∷ take (line_len us) us in
    let lines : List (List PpTok) = lines_of (drop (line_len us) us) in
    elim u.first
    as (λ b. u.first ≡ b → pieces_in (t ∷ u ∷ us) ≡ with_line (t ∷ []) (pieces_in (u ∷ us))) [
      | true ↦ λ f.
          ap (λ ls. pieces_of (with_token t ls)) next
          ∙ ap pieces_of (with_token-first t u _ lines f)
          ∙ pieces_of-text t [] (line ∷ lines) e
          ∙ ap (λ ls. with_line (t ∷ []) (pieces_of ls)) (sym next)
      | false ↦ λ f.
          ap (λ ls. pieces_of (with_token t ls)) next
          ∙ ap pieces_of (with_token-more t u _ lines f)
          ∙ pieces_of-text t line lines e
          ∙ with_line-cons t line (pieces_of lines)
          ∙ ap (with_line (t ∷ []))
          (sym (pieces_of-text u _ lines (begins_directive-first u f)))
          ∙ ap (λ ls. with_line (t ∷ []) (pieces_of ls)) (sym next)
    ] refl

-- tokens whose first piece is a text of so many
abbrev text_first : List PpTok → ℕ → List Piece
text_first ts n = text (take n ts) (end_before (drop n ts)) ∷ pieces_in (drop n ts)

-- the first piece is a text, up to the next directive
pub pieces_in-text : (t : PpTok) (ts : List PpTok) → begins_directive t ≡ false
    → pieces_in (t ∷ ts) ≡ text_first (t ∷ ts) (text_len (t ∷ ts))
pieces_in-text t [] e =
    pieces_in-token t [] e
    ∙ ap (text_first (t ∷ [])) (sym (position_or_len-there begins_directive t [] e))
pieces_in-text t (u ∷ us) e =
    let cut = ap (text_first (t ∷ u ∷ us))
    (sym (position_or_len-there begins_directive t (u ∷ us) e)) in
    elim (begins_directive u)
    as (λ b. begins_directive u ≡ b
    → pieces_in (t ∷ u ∷ us) ≡ text_first (t ∷ u ∷ us) (text_len (t ∷ u ∷ us))) [
      | true ↦ λ f.
          let next = pieces_in-directive u us f in
          pieces_in-token t (u ∷ us) e
          ∙ ap (with_line (t ∷ [])) next
          ∙ ap (λ pieces. text (t ∷ []) Directive ∷ pieces) (sym next)
          ∙ ap (λ n. text_first (t ∷ u ∷ us) (suc n))
          (sym (position_or_len-here begins_directive u us f))
          ∙ cut
      | false ↦ λ f.
          pieces_in-token t (u ∷ us) e
          ∙ ap (with_line (t ∷ [])) (pieces_in-text u us f)
          ∙ cut
    ] refl

------ the first piece, as the code cuts it off

pub first_directive : (ts : List PpTok) (t : PpTok) (after line others : List PpTok) (n : ℕ)
    → ts ≡ t ∷ after → begins_directive t ≡ true → n ≡ line_len after
    → line ≡ take n after → others ≡ drop n after
    → pieces_in ts ≡ directive t line ∷ pieces_in others
first_directive ts t after line others n e b len front back =
    ap pieces_in e ∙ pieces_in-directive t after b
    ∙ ap (λ k. directive t (take k after) ∷ pieces_in (drop k after)) (sym len)
    ∙ ap (λ l. directive t l ∷ pieces_in (drop n after)) (sym front)
    ∙ ap (λ o. directive t line ∷ pieces_in o) (sym back)

pub first_text : (ts : List PpTok) (t : PpTok) (after run others : List PpTok) (n : ℕ)
    (ends : RunEnd) → ts ≡ t ∷ after → begins_directive t ≡ false → n ≡ text_len ts
    → run ≡ take n ts → others ≡ drop n ts → ends ≡ end_before others
    → pieces_in ts ≡ text run ends ∷ pieces_in others
first_text ts t after run others n ends e b len front back end =
    ap pieces_in e ∙ pieces_in-text t after b
    ∙ ap (λ xs. text_first xs (text_len xs)) (sym e)
    ∙ ap (text_first ts) (sym len)
    ∙ ap (λ r. text r (end_before (drop n ts)) ∷ pieces_in (drop n ts)) (sym front)
    ∙ ap (λ o. text run (end_before o) ∷ pieces_in o) (sym back)
    ∙ ap (λ r. text run r ∷ pieces_in others) (sym end)

-- a text has one token at least
pub text_len-cons : (ts : List PpTok) (t : PpTok) (after : List PpTok) → ts ≡ t ∷ after
    → begins_directive t ≡ false → 1 ≤ text_len ts
text_len-cons ts t after e b =
    let len : text_len ts ≡ suc (text_len after) =
    ap text_len e ∙ position_or_len-there begins_directive t after b in
    omega arith
