-- What is printed is cut into what was printed.
use Rattle.std.proofs.Common.{◌≡◌, ℕ, ◌<◌, Bool, true, false, cond, not, List, [], ◌∷◌, ◌++◌, refl, ◌∙◌, ap, arith, length, take, drop, codes}
use Rattle.std.specs.Prelude.{nat_lt, Result, Ok, Err}
use Rattle.std.specs.Str.{bytes_eq}
use Rattle.std.proofs.lemmas.Bool.Decides.{nat_tests}
use Rattle.std.proofs.lemmas.List.{take_at, drop_at}
use Rattle.hv_toks.specs.declared.prefix.Prefix.TheVariants.{Token}
use Rattle.hv_toks.specs.declared.prefix.LinePrefix.{LinePrefix}
use Rattle.hv_toks.specs.declared.prefix.LinePrefix.TheVariants.{Start, Hash, Include, Rest}
use Rattle.hv_toks.specs.declared.prefix.Match.{Match}
use Rattle.hv_toks.specs.declared.token.PpTok.{PpTok}
use Rattle.hv_toks.specs.Splices.{spliced, offsets}
use Rattle.hv_toks.specs.Cutting.{Cutting, Cuts, IsCut, tokens, at_end, at_white, at_newline, at_token, found, longest_token, token_at, prefix, line_after, token}
use Rattle.hv_lexer.specs.declared.refusal.LexRefusal.{LexRefusal}
use Rattle.hv_lexer.specs.declared.refusal.LexRefusal.TheVariants.{OpenComment, Memory}
use Rattle.hv_lexer.specs.Printed.{Piece, gap, spaced, IsPrintable, ArePrintable, Shows, Restores}
use Rattle.hv_lexer.specs.Refusal.{Tells}
use Rattle.hv_lexer.proofs.Unspliced.{IsUnspliced, spliced_same, one_not}
use Rattle.hv_lexer.proofs.Pieces.{Parts, Gap, parts}

gap_is : (newline : Bool) → Gap (gap newline)
gap_is true = record { plain = refl; single = refl; double = refl; slash = refl; star = refl }
gap_is false = record { plain = refl; single = refl; double = refl; slash = refl; star = refl }

piece_parts : (piece : Piece) → IsPrintable piece
    → Parts piece.kind piece.spelling (gap piece.newline)
piece_parts piece h = parts (gap piece.newline) (gap_is piece.newline) piece.kind piece.spelling h.0

-- no splice

gap_unspliced : (newline : Bool) (rest : List ℕ) → IsUnspliced rest
    → IsUnspliced (gap newline ∷ rest)
gap_unspliced true rest u = (one_not 10 rest refl, u)
gap_unspliced false rest u = (one_not 32 rest refl, u)

spaced_unspliced : (pieces : List Piece) → ArePrintable pieces → IsUnspliced (spaced pieces)
spaced_unspliced [] h = tt
spaced_unspliced (piece ∷ pieces) h =
    (piece_parts piece h.0).joins (spaced pieces)
    (gap_unspliced piece.newline (spaced pieces) (spaced_unspliced pieces h.1))

-- no header name

abbrev IsOutside : LinePrefix → Type 0
IsOutside Start = Unit {0}
IsOutside Hash = ⊥
IsOutside Include = ⊥
IsOutside Rest = Unit {0}

stays_outside : (line : LinePrefix) (text : List ℕ) → IsOutside line
    → not (bytes_eq text (codes "#")) ≡ true → IsOutside (line_after line text)
stays_outside Start text o h =
    elim (bytes_eq text (codes "#")) as (λ t. not t ≡ true → IsOutside (cond t Hash Rest)) [
      | true ↦ λ e. absurd (cc)
      | false ↦ λ e. tt
    ] h
stays_outside Hash text o h = absurd o
stays_outside Include text o h = absurd o
stays_outside Rest text o h = tt

positive : (n : ℕ) → 0 < n → nat_lt 0 n ≡ true
positive n h = grind (arith, nat_tests)

token_outside : (line : LinePrefix) (text : List ℕ) (m : Match) → IsOutside line
    → longest_token text ≡ m → 0 < m.len → token_at line text ≡ m
token_outside Start text m o e h = rw (e, positive m.len h) refl
token_outside Hash text m o e h = absurd o
token_outside Include text m o e h = absurd o
token_outside Rest text m o e h = rw (e, positive m.len h) refl

-- a token, a gap, and the rest

abbrev Printed : (file : ℕ) → LinePrefix → Bool → (text places : List ℕ) → List Piece → Type 0
Printed file line space text places pieces = (toks : List PpTok)
    × (Cuts file line space text places (tokens toks) × Shows toks pieces)

over_gap : (file : ℕ) (line : LinePrefix) (newline space : Bool) (rest places : List ℕ)
    (pieces : List Piece)
    → ((next : LinePrefix) (spaced : Bool) (more : List ℕ) → IsOutside next
    → Printed file next spaced rest more pieces) → IsOutside line
    → Printed file line space (gap newline ∷ rest) places pieces
over_gap file line true space rest places pieces deeper o =
    let r = deeper Start false (drop 1 places) tt in (r.0, (at_newline refl r.1.0, r.1.1))
over_gap file line false space rest places pieces deeper o =
    let r = deeper line true (drop 1 places) o in (r.0, (at_white refl r.1.0, r.1.1))

shows_more : (tok : PpTok) (toks : List PpTok) (piece : Piece) (pieces : List Piece)
    → tok.kind ≡ piece.kind → tok.text ≡ piece.spelling → Shows toks pieces
    → Shows (tok ∷ toks) (piece ∷ pieces)
shows_more tok toks piece pieces k t h = (rw (k, h.0) refl, rw (t, h.1) refl)

over_token : (file : ℕ) (line : LinePrefix) (space : Bool) (piece : Piece) (rest places : List ℕ)
    (pieces : List Piece) → IsPrintable piece → IsOutside line
    → ((next : LinePrefix) (spaced : Bool) (more : List ℕ) → IsOutside next
    → Printed file next spaced (gap piece.newline ∷ rest) more pieces)
    → Printed file line space (piece.spelling ++ gap piece.newline ∷ rest) places (piece ∷ pieces)
over_token file line space piece rest places pieces h o deeper =
    let p = piece_parts piece h in
    let n : ℕ = length piece.spelling in
    let text : List ℕ = piece.spelling ++ gap piece.newline ∷ rest in
    let m : Match = found piece.kind n in
    let there : prefix line text ≡ Token m = p.begins line rest
    ∙ ap Token (token_outside line text m o (p.longest_here rest) p.some) in
    let taken : take n text ≡ piece.spelling =
    take_at piece.spelling (gap piece.newline ∷ rest) n refl in
    let left_over : drop n text ≡ gap piece.newline ∷ rest =
    drop_at piece.spelling (gap piece.newline ∷ rest) n refl in
    let r =
    deeper (line_after line piece.spelling) false (drop n places)
    (stays_outside line piece.spelling o h.1) in
    let c : Cuts file (line_after line (take n text)) false (drop n text) (drop n places)
    (tokens r.0) = rw (taken, left_over) r.1.0 in
    let tok : PpTok = token file line space piece.kind (take n text) (take n places) in
    (tok ∷ r.0, (at_token m there c, shows_more tok r.0 piece pieces refl taken r.1.1))

printed : (file : ℕ) (line : LinePrefix) (space : Bool) (places : List ℕ) (pieces : List Piece)
    → ArePrintable pieces → IsOutside line
    → Printed file line space (spaced pieces) places pieces
printed file line space places [] h o = ([], (at_end refl, (refl, refl)))
printed file line space places (piece ∷ pieces) h o =
    over_token file line space piece (spaced pieces) places pieces h.0 o
    (λ next white more outside. over_gap file next piece.newline white (spaced pieces) more pieces
    (λ line space places o. printed file line space places pieces h.1 o) outside)

cut_printed : (file : ℕ) (bytes : List ℕ) (pieces : List Piece) → ArePrintable pieces
    → bytes ≡ spaced pieces
    → (toks : List PpTok) × (IsCut file bytes (tokens toks) × Shows toks pieces)
cut_printed file bytes pieces h e =
    let same : spliced bytes ≡ spaced pieces = ap spliced e
    ∙ spliced_same (spaced pieces) (spaced_unspliced pieces h) in
    let r = printed file Start false (offsets bytes) pieces h tt in
    (r.0, (rw same r.1.0, r.1.1))

told : (answer : Result (List PpTok) LexRefusal) (toks : List PpTok) (pieces : List Piece)
    → Tells answer (tokens toks) → Shows toks pieces → Restores answer pieces
told (Ok list) toks pieces e h = let s : toks ≡ list = cc in rw s at h
told (Err (OpenComment offset)) toks pieces e h = absurd (cc)
told (Err Memory) toks pieces e h = tt

pub restores : (file : ℕ) (bytes : List ℕ) (answer : Result (List PpTok) LexRefusal)
    → ((cutting : Cutting) → IsCut file bytes cutting → Tells answer cutting)
    → (pieces : List Piece) → ArePrintable pieces → bytes ≡ spaced pieces → Restores answer pieces
restores file bytes answer only pieces h e =
    let r = cut_printed file bytes pieces h e in
    told answer r.0 pieces (only (tokens r.0) r.1.0) r.1.1
