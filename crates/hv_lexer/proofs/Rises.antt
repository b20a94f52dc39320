-- The spans of a cutting rise.
use Rattle.std.proofs.Common.{◌≡◌, ℕ, zero, suc, ◌+◌, ◌-◌, ◌<◌, ◌≤◌, Bool, List, [], ◌∷◌, refl, sym, ◌∙◌, arith, length, get_or, take, drop}
use Rattle.std.proofs.lemmas.List.{length-take, length-take-le, get_or-take, length-drop, length-map}
use Rattle.hv_toks.specs.declared.prefix.Prefix.{Prefix}
use Rattle.hv_toks.specs.declared.prefix.Prefix.TheVariants.{Token}
use Rattle.hv_toks.specs.declared.prefix.LinePrefix.{LinePrefix}
use Rattle.hv_toks.specs.declared.prefix.Match.{Match}
use Rattle.hv_toks.specs.declared.token.PpTok.{PpTok}
use Rattle.hv_toks.specs.Splices.{marks_from, offsets, splice_len, spliced}
use Rattle.hv_toks.specs.Cutting.{Cutting, Cuts, IsCut, tokens, open_comment, prepend, at_end, at_white, at_newline, at_comment, at_open_comment, at_token, prefix, token, token_at}
use Rattle.hv_lexer.specs.Laws.{Rise}
use Rattle.hv_lexer.proofs.SplicesLemmas.{places, places-shown}
use Rattle.hv_lexer.proofs.PrefixCases.{View, view, view_newline, view_white, view_line, view_open, view_block, view_token, token_at-fits}

-- offsets that rise from `low` to below `high`
abbrev pub Rising : (low high : ℕ) → List ℕ → Type 0
Rising low high [] = low ≤ high
Rising low high (p ∷ ps) = (low ≤ p) × Rising (p + 1) high ps

lower : (low next high : ℕ) (ps : List ℕ) → low ≤ next → Rising next high ps → Rising low high ps
lower low next high [] h r = omega arith
lower low next high (p ∷ ps) h r = (omega arith, r.1)

rising-drop : (low high n : ℕ) (ps : List ℕ) → Rising low high ps → Rising low high (drop n ps)
rising-drop low high zero ps r = r
rising-drop low high (suc n) [] r = r
rising-drop low high (suc n) (p ∷ ps) r =
    lower low (p + 1) high (drop n ps) (omega arith) (rising-drop (p + 1) high n ps r.1)

-- the first n + 1 offsets, and the others
rising-prefix : (low high n : ℕ) (ps : List ℕ) → suc n ≤ length ps → Rising low high ps
    → (low ≤ get_or ps 0 0) × (get_or ps 0 0 ≤ get_or ps n 0)
    × Rising (get_or ps n 0 + 1) high (drop (suc n) ps)
rising-prefix low high n [] h r = absurd (omega arith)
rising-prefix low high zero (p ∷ ps) h r = (r.0, omega arith, r.1)
rising-prefix low high (suc n) (p ∷ []) h r = absurd (omega arith)
rising-prefix low high (suc n) (p ∷ q ∷ ps) h r =
    let more = rising-prefix (p + 1) high n (q ∷ ps) (omega arith) r.1 in
    (r.0, omega arith, more.2)

longer-file : (offset byte : ℕ) (bytes ps : List ℕ)
    → Rising (offset + 1) (offset + 1 + length bytes) ps
    → Rising (offset + 1) (offset + length (byte ∷ bytes)) ps
longer-file offset byte bytes ps r =
    let e : offset + 1 + length bytes ≡ offset + length (byte ∷ bytes) = omega arith in rw e at r

rising-places : (bytes : List ℕ) (deleted offset : ℕ)
    → Rising offset (offset + length bytes) (places deleted offset bytes)
rising-places [] zero offset = omega arith
rising-places [] (suc deleted) offset = omega arith
rising-places (byte ∷ bytes) (suc deleted) offset =
    lower offset (offset + 1) _ _ (omega arith)
    (longer-file offset byte bytes _ (rising-places bytes deleted (offset + 1)))
rising-places (byte ∷ bytes) zero offset =
    elim (splice_len (byte ∷ bytes)) as (λ n. splice_len (byte ∷ bytes) ≡ n
    → Rising offset (offset + length (byte ∷ bytes)) (places 0 offset (byte ∷ bytes))) [
      | zero ↦ λ e. let shown = places-shown offset byte bytes zero e in
          rw shown (
            omega arith,
            longer-file offset byte bytes _
                (rising-places bytes 0 (offset + 1)),
          )
      | suc d ↦ λ e. let shown = places-shown offset byte bytes (suc d) e in
          rw shown (lower offset (offset + 1) _ _ (omega arith)
          (longer-file offset byte bytes _ (rising-places bytes d (offset + 1))))
    ] refl

-- the tokens of a cutting, if it has some
abbrev pub Rises : (file low high : ℕ) → Cutting → Type 0
Rises file low high (tokens toks) = Rise file low high toks
Rises file low high (open_comment offset) = Unit {0}

first-lower : (file low next high : ℕ) (out : Cutting) → low ≤ next → Rises file next high out
    → Rises file low high out
first-lower file low next high (tokens []) h r = omega arith
first-lower file low next high (tokens (tok ∷ toks)) h r = (r.0, omega arith, r.2, r.3)
first-lower file low next high (open_comment offset) h r = tt

rises-end : (file low high : ℕ) (ps : List ℕ) → Rising low high ps → low ≤ high
rises-end file low high [] r = r
rises-end file low high (p ∷ ps) r = let more = rises-end file (p + 1) high ps r.1 in omega arith

of_view : (line : LinePrefix) (byte : ℕ) (bytes : List ℕ) (f : Prefix) (m : Match)
    → View line byte bytes f → f ≡ Token m → (0 < m.len) × (m.len ≤ length (byte ∷ bytes))
of_view line byte bytes f m (view_newline a) e = cc
of_view line byte bytes f m (view_white a) e = cc
of_view line byte bytes f m (view_line a) e = cc
of_view line byte bytes f m view_open e = cc
of_view line byte bytes f m (view_block n a b) e = cc
of_view line byte bytes f m view_token e = let p : token_at line (byte ∷ bytes) ≡ m = cc in
    rw p at (token_at-fits line byte bytes)

pub token-fits : (line : LinePrefix) (text : List ℕ) (m : Match) → prefix line text ≡ Token m
    → (0 < m.len) × (m.len ≤ length text)
token-fits line [] m e = absurd (cc)
token-fits line (byte ∷ bytes) m e =
    of_view line byte bytes (prefix line (byte ∷ bytes)) m (view line byte bytes) e

abbrev last-place : List ℕ → ℕ
last-place ps = get_or ps (length ps - 1) 0

taken-last : (n : ℕ) (ps : List ℕ) → suc n ≤ length ps
    → last-place (take (suc n) ps) ≡ get_or ps n 0
taken-last n ps h =
    let e : length (take (suc n) ps) - 1 ≡ n = omega (arith, length-take-le (suc n) ps h) in
    rw e (get_or-take (suc n) ps n 0 (omega arith))

pub taken-first : (n : ℕ) (ps : List ℕ) → get_or (take (suc n) ps) 0 0 ≡ get_or ps 0 0
taken-first n [] = refl
taken-first n (p ∷ ps) = refl

rises-token : (file low high : ℕ) (line : LinePrefix) (space : Bool) (text ps : List ℕ) (m : Match)
    (n : ℕ) (out : Cutting) → m.len ≡ suc n → suc n ≤ length ps → Rising low high ps
    → ((next : ℕ) → Rising next high (drop (suc n) ps) → Rises file next high out)
    → Rises file low high (prepend (token file line space m.kind (take m.len text) (take m.len ps))
    out)
rises-token file low high line space text ps m n (open_comment offset) e h r more = tt
rises-token file low high line space text ps m n (tokens toks) e h r more =
    let prefix = rising-prefix low high n ps h r in
    rw (e, taken-first n ps, taken-last n ps h)
    (refl, prefix.0, omega arith, more (get_or ps n 0 + 1) prefix.2)

pub dropped : (n : ℕ) (xs ys : List ℕ) → length xs ≡ length ys
    → length (drop n xs) ≡ length (drop n ys)
dropped n xs ys e = simp length-drop (rw e refl)

pub same_take : (n : ℕ) (text places : List ℕ) → length text ≡ length places
    → length (take n text) ≡ length (take n places)
same_take n text places same = simp length-take (rw same refl)

pub rises : (file low high : ℕ) {line : LinePrefix} {space : Bool} {text ps : List ℕ}
    {out : Cutting} → length text ≡ length ps → Rising low high ps
    → Cuts file line space text ps out → Rises file low high out
rises file low high {text = text} {ps = ps} same r (at_end e) = rises-end file low high ps r
rises file low high {text = text} {ps = ps} same r (at_white e c) =
    rises file low high (dropped 1 text ps same) (rising-drop low high 1 ps r) c
rises file low high {text = text} {ps = ps} same r (at_newline e c) =
    rises file low high (dropped 1 text ps same) (rising-drop low high 1 ps r) c
rises file low high {text = text} {ps = ps} same r (at_comment n e c) =
    rises file low high (dropped n text ps same) (rising-drop low high n ps r) c
rises file low high same r (at_open_comment e) = tt
rises file low high {line = line} {space = space} {text = text} {ps = ps} same r
    (at_token {out = out} m e c) =
    let fits = token-fits line text m e in
    let n : ℕ = m.len - 1 in
    let len : m.len ≡ suc (m.len - 1) = omega (arith, fits.0) in
    rises-token file low high line space text ps m (m.len - 1) out len
    (omega (arith, fits.0, fits.1)) r
    (λ next rest. rises file next high (dropped m.len text ps same) (rw (← len) at rest) c)

pub same_lengths : (bytes : List ℕ) → length (spliced bytes) ≡ length (offsets bytes)
same_lengths bytes = length-map (marks_from 0 0 bytes) (λ mark. mark.byte)
    ∙ sym (length-map (marks_from 0 0 bytes) (λ mark. mark.offset))

pub lex-rises : (file : ℕ) (bytes : List ℕ) (toks : List PpTok) → IsCut file bytes (tokens toks)
    → Rise file 0 (length bytes) toks
lex-rises file bytes toks c =
    rises file 0 (length bytes) (same_lengths bytes)
    (let e : 0 + length bytes ≡ length bytes = omega arith in rw e at (rising-places bytes 0 0))
    c
