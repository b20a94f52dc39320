-- Each text has a cutting.
use Rattle.std.proofs.Common.{◌≡◌, ℕ, zero, suc, ◌+◌, ◌<◌, ◌≤◌, Bool, true, false, List, [], ◌∷◌, refl, arith, length, get_or, take, drop}
use Rattle.std.proofs.lemmas.List.{length-drop}
use Rattle.hv_toks.specs.declared.prefix.Prefix.{Prefix}
use Rattle.hv_toks.specs.declared.prefix.LinePrefix.{LinePrefix}
use Rattle.hv_toks.specs.declared.prefix.LinePrefix.TheVariants.{Start}
use Rattle.hv_toks.specs.Splices.{spliced, offsets}
use Rattle.hv_toks.specs.Cutting.{Cutting, Cuts, IsCut, tokens, open_comment, at_end, at_white, at_newline, at_comment, at_open_comment, at_token, prefix, line_after, token_at, line_len}
use Rattle.hv_lexer.proofs.MadeOf.{line_comment-shape}
use Rattle.hv_lexer.proofs.PrefixCases.{View, view, view_newline, view_white, view_line, view_open, view_block, view_token, token_at-fits}

abbrev Cuttable : ℕ → LinePrefix → Bool → List ℕ → List ℕ → Type 0
Cuttable file line space text places = (out : Cutting) × Cuts file line space text places out

line-some-of : (text rest : List ℕ) → text ≡ 47 ∷ 47 ∷ rest → 0 < line_len text
line-some-of text rest e = rw e (omega arith)

shorter : (n k : ℕ) (text : List ℕ) → length text ≤ suc n → 0 < k → length (drop k text) ≤ n
shorter n k text h some = simp length-drop (omega arith)

module _ (file n : ℕ) (deeper : (line : LinePrefix) (space : Bool) (text places : List ℕ)
    → length text ≤ n → Cuttable file line space text places) where
  go : (line : LinePrefix) (space : Bool) (byte : ℕ) (bytes places : List ℕ) (f : Prefix)
      → length (byte ∷ bytes) ≤ suc n → View line byte bytes f → prefix line (byte ∷ bytes) ≡ f
      → Cuttable file line space (byte ∷ bytes) places
  go line space byte bytes places f h (view_newline a) e =
      let r = deeper Start false bytes (drop 1 places) (omega arith) in (r.0, at_newline e r.1)
  go line space byte bytes places f h (view_white a) e =
      let r = deeper line true bytes (drop 1 places) (omega arith) in (r.0, at_white e r.1)
  go line space byte bytes places f h (view_line a) e =
      let shape = line_comment-shape byte bytes a in
      let k : ℕ = line_len (byte ∷ bytes) in
      let r =
      deeper line true (drop k (byte ∷ bytes)) (drop k places)
      (shorter n k (byte ∷ bytes) h (line-some-of (byte ∷ bytes) shape.0 shape.1)) in
      (r.0, at_comment k e r.1)
  go line space byte bytes places f h view_open e =
      (open_comment (get_or places 0 0), at_open_comment e)
  go line space byte bytes places f h (view_block m a b) e =
      let r =
      deeper line true (drop (2 + suc m) (byte ∷ bytes)) (drop (2 + suc m) places)
      (shorter n (2 + suc m) (byte ∷ bytes) h (omega arith)) in
      (r.0, at_comment (2 + suc m) e r.1)
  go line space byte bytes places f h view_token e =
      let m = token_at line (byte ∷ bytes) in
      let fits = token_at-fits line byte bytes in
      let r =
      deeper (line_after line (take m.len (byte ∷ bytes))) false (drop m.len (byte ∷ bytes))
      (drop m.len places) (shorter n m.len (byte ∷ bytes) h fits.0) in
      (_, at_token m e r.1)

cuttable : (n file : ℕ) (line : LinePrefix) (space : Bool) (text places : List ℕ) → length text ≤ n
    → Cuttable file line space text places
cuttable n file line space [] places h = (tokens [], at_end refl)
cuttable zero file line space (byte ∷ bytes) places h = absurd (omega arith)
cuttable (suc n) file line space (byte ∷ bytes) places h =
    go file n (cuttable n file) line space byte bytes places _ h (view line byte bytes) refl

pub total : (file : ℕ) (bytes : List ℕ) → (cutting : Cutting) × IsCut file bytes cutting
total file bytes =
    cuttable (length (spliced bytes)) file Start false (spliced bytes) (offsets bytes) (omega arith)
