-- The cutting that is computed is the one that a file has.
use Rattle.std.proofs.Common.{◌≡◌, ℕ, zero, suc, ◌+◌, ◌<◌, ◌≤◌, Bool, true, false, List, [], ◌∷◌, refl, arith, length, take, drop}
use Rattle.std.proofs.lemmas.List.{length-drop}
use Rattle.hv_toks.specs.declared.prefix.Prefix.{Prefix}
use Rattle.hv_toks.specs.declared.prefix.LinePrefix.{LinePrefix}
use Rattle.hv_toks.specs.declared.prefix.LinePrefix.TheVariants.{Start}
use Rattle.hv_toks.specs.Splices.{spliced, offsets}
use Rattle.hv_toks.specs.Cutting.{Cutting, Cuts, IsCut, at_end, at_white, at_newline, at_comment, at_open_comment, at_token, prefix, line_after, token_at, line_len}
use Rattle.hv_lexer.proofs.MadeOf.{line_comment-shape}
use Rattle.hv_lexer.proofs.PrefixCases.{View, view, view_newline, view_white, view_line, view_open, view_block, view_token, token_at-fits}
use Rattle.hv_plain.specs.gathering.Mentions.{cut, cut_text, cut_step}

some_line : (text rest : List ℕ) → text ≡ 47 ∷ 47 ∷ rest → 0 < line_len text
some_line text rest e = rw e (omega arith)

shorter : (n k : ℕ) (text : List ℕ) → length text ≤ suc n → 0 < k → length (drop k text) ≤ n
shorter n k text h some = simp length-drop (omega arith)

-- one step cuts as `Cuts` has it, where the rest is cut so
module _ (file n : ℕ) (rest : LinePrefix → Bool → List ℕ → List ℕ → Cutting)
    (deeper : (line : LinePrefix) (space : Bool) (text places : List ℕ) → length text ≤ n → Cuts file line space text places (rest line space text places)) where
  step : (line : LinePrefix) (space : Bool) (byte : ℕ) (bytes places : List ℕ) (f : Prefix) → length (byte ∷ bytes) ≤ suc n
      → View line byte bytes f → prefix line (byte ∷ bytes) ≡ f
      → Cuts file line space (byte ∷ bytes) places (cut_step rest file line space (byte ∷ bytes) places f)
  step line space byte bytes places f h (view_newline a) e = at_newline e (deeper Start false bytes (drop 1 places) (omega arith))
  step line space byte bytes places f h (view_white a) e = at_white e (deeper line true bytes (drop 1 places) (omega arith))
  step line space byte bytes places f h (view_line a) e =
      let shape = line_comment-shape byte bytes a in
      let k : ℕ = line_len (byte ∷ bytes) in
      at_comment k e (deeper line true (drop k (byte ∷ bytes)) (drop k places) (shorter n k (byte ∷ bytes) h (some_line (byte ∷ bytes) shape.0 shape.1)))
  step line space byte bytes places f h view_open e = at_open_comment e
  step line space byte bytes places f h (view_block m a b) e =
      at_comment (2 + suc m) e (deeper line true (drop (2 + suc m) (byte ∷ bytes)) (drop (2 + suc m) places) (shorter n (2 + suc m) (byte ∷ bytes) h (omega arith)))
  step line space byte bytes places f h view_token e =
      let m = token_at line (byte ∷ bytes) in
      let fits = token_at-fits line byte bytes in
      at_token m e (deeper (line_after line (take m.len (byte ∷ bytes))) false (drop m.len (byte ∷ bytes)) (drop m.len places) (shorter n m.len (byte ∷ bytes) h fits.0))

Cuts-cut_text : (file n : ℕ) (line : LinePrefix) (space : Bool) (text places : List ℕ) → length text ≤ n → Cuts file line space text places (cut_text file n line space text places)
unfolding cut_text
Cuts-cut_text file zero line space [] places h = at_end refl
Cuts-cut_text file zero line space (byte ∷ bytes) places h = absurd (omega arith)
Cuts-cut_text file (suc n) line space [] places h = at_end refl
Cuts-cut_text file (suc n) line space (byte ∷ bytes) places h =
    step file n (cut_text file n) (Cuts-cut_text file n) line space byte bytes places _ h (view line byte bytes) refl

-- each file is cut as `cut` says
pub IsCut-cut : (file : ℕ) (bytes : List ℕ) → IsCut file bytes (cut file bytes)
IsCut-cut file bytes = Cuts-cut_text file (length (spliced bytes)) Start false (spliced bytes) (offsets bytes) (omega arith)
