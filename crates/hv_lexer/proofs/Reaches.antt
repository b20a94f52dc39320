-- How far the cutting of a text has come.
use Rattle.std.proofs.Common.{◌≡◌, ℕ, Bool, true, false, List, [], ◌∷◌, ◌++◌, refl, sym, ap, get_or, take, drop}
use Rattle.hv_toks.specs.declared.prefix.Prefix.TheVariants.{End, WhiteSpace, Newline, Comment, OpenComment, Token}
use Rattle.hv_toks.specs.declared.prefix.LinePrefix.{LinePrefix}
use Rattle.hv_toks.specs.declared.prefix.LinePrefix.TheVariants.{Start}
use Rattle.hv_toks.specs.declared.prefix.Match.{Match}
use Rattle.hv_toks.specs.declared.token.PpTok.{PpTok}
use Rattle.hv_toks.specs.Cutting.{Cutting, Cuts, tokens, open_comment, prepend, at_end, at_white, at_newline, at_comment, at_open_comment, at_token, prefix, line_after, token}

abbrev pub prepend_all : List PpTok → Cutting → Cutting
prepend_all [] out = out
prepend_all (tok ∷ toks) out = prepend tok (prepend_all toks out)

prepend_all-push : (toks : List PpTok) (tok : PpTok) (out : Cutting)
    → prepend_all (toks ++ tok ∷ []) out ≡ prepend_all toks (prepend tok out)
prepend_all-push [] tok out = refl
prepend_all-push (t ∷ toks) tok out = ap (prepend t) (prepend_all-push toks tok out)

prepend_all-tokens : (toks : List PpTok) → prepend_all toks (tokens []) ≡ tokens toks
prepend_all-tokens [] = refl
prepend_all-tokens (t ∷ toks) = ap (prepend t) (prepend_all-tokens toks)

prepend_all-open : (toks : List PpTok) (offset : ℕ)
    → prepend_all toks (open_comment offset) ≡ open_comment offset
prepend_all-open [] offset = refl
prepend_all-open (t ∷ toks) offset = ap (prepend t) (prepend_all-open toks offset)

module _ (file : ℕ) (text places : List ℕ) where
  -- the tokens so far, and those of what is left, are those of the text
  abbrev pub Reaches : LinePrefix → Bool → (left left_places : List ℕ) → List PpTok → Type 0
  Reaches line space left left_places toks =
      (out : Cutting) → Cuts file line space left left_places out
      → Cuts file Start false text places (prepend_all toks out)

module _ (file : ℕ) (text places : List ℕ) (line : LinePrefix) (space : Bool)
    (left left_places : List ℕ) (toks : List PpTok)
    (so_far : Reaches file text places line space left left_places toks) where
  pub reaches-white : (more more_places : List ℕ) → WhiteSpace ≡ prefix line left
      → more ≡ drop 1 left → more_places ≡ drop 1 left_places
      → Reaches file text places line true more more_places toks
  reaches-white more more_places e t p = λ out c. so_far out (at_white (sym e) (rw (t, p) at c))

  pub reaches-newline : (more more_places : List ℕ) → Newline ≡ prefix line left
      → more ≡ drop 1 left → more_places ≡ drop 1 left_places
      → Reaches file text places Start false more more_places toks
  reaches-newline more more_places e t p = λ out c. so_far out (at_newline (sym e) (rw (t, p) at c))

  pub reaches-comment : (n : ℕ) (more more_places : List ℕ) → Comment n ≡ prefix line left
      → more ≡ drop n left → more_places ≡ drop n left_places
      → Reaches file text places line true more more_places toks
  reaches-comment n more more_places e t p =
      λ out c. so_far out (at_comment n (sym e) (rw (t, p) at c))

  pub reaches-end : End ≡ prefix line left → Cuts file Start false text places (tokens toks)
  reaches-end e = rw prepend_all-tokens at (so_far (tokens []) (at_end (sym e)))

  pub reaches-open : (offset : ℕ) → OpenComment ≡ prefix line left → offset ≡ get_or left_places 0 0
      → Cuts file Start false text places (open_comment offset)
  reaches-open offset e o = rw o (rw prepend_all-open at (so_far _ (at_open_comment (sym e))))

  pub reaches-token : (m : Match) (next : LinePrefix) (more more_places : List ℕ) (all : List PpTok)
      → Token m ≡ prefix line left
      → all ≡ toks ++ token file line space m.kind (take m.len left) (take m.len left_places) ∷ []
      → next ≡ line_after line (take m.len left) → more ≡ drop m.len left
      → more_places ≡ drop m.len left_places
      → Reaches file text places next false more more_places all
  reaches-token m next more more_places all e pushed l t p = λ out c.
      rw (pushed, prepend_all-push) (so_far _ (at_token m (sym e) (rw (l, t, p) at c)))
