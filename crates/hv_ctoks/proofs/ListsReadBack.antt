-- A printed list of C tokens is cut into tokens that become them again.
use Rattle.std.proofs.Common.{◌≡◌, ℕ, ◌<◌, ◌||◌, Bool, true, false, cond, not, List, [], ◌∷◌, ◌++◌, map, refl, ◌∙◌, ap, arith, length, take, drop, codes}
use Rattle.std.specs.Prelude.{nat_lt, Ok}
use Rattle.std.specs.List.{All}
use Rattle.std.specs.Str.{bytes_eq}
use Rattle.std.proofs.lemmas.Bool.Decides.{nat_tests}
use Rattle.std.proofs.lemmas.List.{take_at, drop_at}
use Rattle.std.proofs.lemmas.List.Elements.{All-cons, All-head, All-nil, All-tail}
use Rattle.hv_toks.specs.declared.prefix.Prefix.TheVariants.{Token}
use Rattle.hv_toks.specs.declared.prefix.LinePrefix.{LinePrefix}
use Rattle.hv_toks.specs.declared.prefix.LinePrefix.TheVariants.{Start, Hash, Include, Rest}
use Rattle.hv_toks.specs.declared.prefix.Match.{Match}
use Rattle.hv_toks.specs.declared.token.PpTok.{PpTok}
use Rattle.hv_toks.specs.Splices.{spliced, offsets}
use Rattle.hv_toks.specs.Cutting.{Cuts, tokens, at_end, at_white, at_newline, at_token, found, is_start, longest_token, token_at, prefix, line_after, token}
use Rattle.hv_lexer.specs.Printed.{gap}
use Rattle.hv_lexer.proofs.Pieces.{Parts, Gap, parts}
use Rattle.hv_lexer.proofs.Unspliced.{IsUnspliced, spliced_same, one_not}
use Rattle.hv_ctoks.specs.Conversion.{converted}
use Rattle.hv_ctoks.specs.ReadBack.{Printed, text_of, IsPrintable, becomes, is_apart, AreReadBack}
use Rattle.hv_ctoks.specs.Spelling.{spelling}
use Rattle.hv_ctoks.specs.Tokens.{kind_of}
use Rattle.hv_ctoks.specs.declared.reserved.ReservedNames.{ReservedNames}
use Rattle.hv_ctoks.proofs.ReadBack.{is_spelled, read_back}

abbrev ArePrintable : ReservedNames → List Printed → Type 0
ArePrintable reserved [] = Unit {0}
ArePrintable reserved (p ∷ ps) = IsPrintable reserved p × ArePrintable reserved ps

each : (reserved : ReservedNames) (printed : List Printed) → All (IsPrintable reserved) printed
    → ArePrintable reserved printed
each reserved [] h = tt
each reserved (p ∷ ps) h =
    (All-head (IsPrintable reserved) p ps h, each reserved ps (All-tail (IsPrintable reserved) p ps h))

gap_is : (newline : Bool) → Gap (gap newline)
gap_is true = record { plain = refl; single = refl; double = refl; slash = refl; star = refl }
gap_is false = record { plain = refl; single = refl; double = refl; slash = refl; star = refl }

module _ (reserved : ReservedNames) where
  parts_of : (p : Printed) → IsPrintable reserved p
      → Parts (kind_of p.tok) (spelling p.tok) (gap p.newline)
  parts_of p h =
      parts (gap p.newline) (gap_is p.newline) (kind_of p.tok) (spelling p.tok)
      (is_spelled reserved p.tok h.0)

  ------ no splice

  gap_unspliced : (newline : Bool) (rest : List ℕ) → IsUnspliced rest
      → IsUnspliced (gap newline ∷ rest)
  gap_unspliced true rest u = (one_not 10 rest refl, u)
  gap_unspliced false rest u = (one_not 32 rest refl, u)

  text_unspliced : (printed : List Printed) → ArePrintable reserved printed
      → IsUnspliced (text_of printed)
  text_unspliced [] h = tt
  text_unspliced (p ∷ ps) h =
      (parts_of p h.0).joins (text_of ps)
      (gap_unspliced p.newline (text_of ps) (text_unspliced ps h.1))

  ------ no header name

  abbrev IsOutside : LinePrefix → Type 0
  IsOutside Start = Unit {0}
  IsOutside Hash = ⊥
  IsOutside Include = ⊥
  IsOutside Rest = Unit {0}

  stays_outside : (line : LinePrefix) (text : List ℕ) → IsOutside line
      → not (bytes_eq text (codes "#")) ≡ true → IsOutside (line_after line text)
  stays_outside Start text o h =
      elim (bytes_eq text (codes "#")) as (λ t. not t ≡ true → IsOutside (cond t Hash Rest)) [
        | true ↦ λ e. absurd (cc)
        | false ↦ λ e. tt
      ] h
  stays_outside Hash text o h = absurd o
  stays_outside Include text o h = absurd o
  stays_outside Rest text o h = tt

  positive : (n : ℕ) → 0 < n → nat_lt 0 n ≡ true
  positive n h = grind (arith, nat_tests)

  token_outside : (line : LinePrefix) (text : List ℕ) (m : Match) → IsOutside line
      → longest_token text ≡ m → 0 < m.len → token_at line text ≡ m
  token_outside Start text m o e h = rw (e, positive m.len h) refl
  token_outside Hash text m o e h = absurd o
  token_outside Include text m o e h = absurd o
  token_outside Rest text m o e h = rw (e, positive m.len h) refl

  ------ a token, a gap, and the rest

  -- tokens that become the printed ones, and are apart
  abbrev Shows : List PpTok → List Printed → Type 0
  Shows toks printed = (map (becomes reserved) toks ≡ map (λ p. Ok p.tok) printed)
      × All (λ tok. is_apart tok ≡ true) toks

  abbrev Cut : (file : ℕ) → LinePrefix → Bool → (text places : List ℕ) → List Printed → Type 0
  Cut file line space text places printed = (toks : List PpTok)
      × (Cuts file line space text places (tokens toks) × Shows toks printed)

  -- a line or white space begins here
  abbrev IsApart : LinePrefix → Bool → Type 0
  IsApart line space = (space || is_start line) ≡ true

  over_gap : (file : ℕ) (line : LinePrefix) (newline space : Bool) (rest places : List ℕ)
      (printed : List Printed)
      → ((next : LinePrefix) (white : Bool) (more : List ℕ) → IsOutside next → IsApart next white
      → Cut file next white rest more printed) → IsOutside line
      → Cut file line space (gap newline ∷ rest) places printed
  over_gap file line true space rest places printed deeper o =
      let r = deeper Start false (drop 1 places) tt refl in (r.0, (at_newline refl r.1.0, r.1.1))
  over_gap file line false space rest places printed deeper o =
      let r = deeper line true (drop 1 places) o refl in (r.0, (at_white refl r.1.0, r.1.1))

  shows_more : (tok : PpTok) (toks : List PpTok) (p : Printed) (ps : List Printed)
      → becomes reserved tok ≡ Ok p.tok → is_apart tok ≡ true → Shows toks ps
      → Shows (tok ∷ toks) (p ∷ ps)
  shows_more tok toks p ps b a h =
      (rw (b, h.0) refl, All-cons (λ tok. is_apart tok ≡ true) tok toks a h.1)

  over_token : (file : ℕ) (line : LinePrefix) (space : Bool) (p : Printed) (rest places : List ℕ)
      (ps : List Printed) → IsPrintable reserved p → IsOutside line → IsApart line space
      → ((next : LinePrefix) (white : Bool) (more : List ℕ) → IsOutside next
      → Cut file next white (gap p.newline ∷ rest) more ps)
      → Cut file line space (spelling p.tok ++ gap p.newline ∷ rest) places (p ∷ ps)
  over_token file line space p rest places ps h o a deeper =
      let q = parts_of p h in
      let n : ℕ = length (spelling p.tok) in
      let text : List ℕ = spelling p.tok ++ gap p.newline ∷ rest in
      let m : Match = found (kind_of p.tok) n in
      let there : prefix line text ≡ Token m = q.begins line rest
      ∙ ap Token (token_outside line text m o (q.longest_here rest) q.some) in
      let taken : take n text ≡ spelling p.tok =
      take_at (spelling p.tok) (gap p.newline ∷ rest) n refl in
      let left_over : drop n text ≡ gap p.newline ∷ rest =
      drop_at (spelling p.tok) (gap p.newline ∷ rest) n refl in
      let r =
      deeper (line_after line (spelling p.tok)) false (drop n places)
      (stays_outside line (spelling p.tok) o h.1) in
      let c : Cuts file (line_after line (take n text)) false (drop n text) (drop n places)
      (tokens r.0) = rw (taken, left_over) r.1.0 in
      let tok : PpTok = token file line space (kind_of p.tok) (take n text) (take n places) in
      let back : becomes reserved tok ≡ Ok p.tok =
      ap (converted reserved (kind_of p.tok)) taken ∙ read_back reserved p.tok h.0 in
      (tok ∷ r.0, (at_token m there c, shows_more tok r.0 p ps back a r.1.1))

  cut_of : (file : ℕ) (line : LinePrefix) (space : Bool) (places : List ℕ)
      (printed : List Printed) → ArePrintable reserved printed → IsOutside line
      → IsApart line space → Cut file line space (text_of printed) places printed
  cut_of file line space places [] h o a =
      ([], (at_end refl, (refl, All-nil (λ tok. is_apart tok ≡ true))))
  cut_of file line space places (p ∷ ps) h o a =
      over_token file line space p (text_of ps) places ps h.0 o a
      (λ next white more outside. over_gap file next p.newline white (text_of ps) more ps
      (λ line space places o a. cut_of file line space places ps h.1 o a) outside)

  -- the law
  pub are_read_back : (file : ℕ) (printed : List Printed) → All (IsPrintable reserved) printed
      → AreReadBack reserved file printed
  are_read_back file printed all =
      let h = each reserved printed all in
      let same : spliced (text_of printed) ≡ text_of printed =
      spliced_same (text_of printed) (text_unspliced printed h) in
      let r = cut_of file Start false (offsets (text_of printed)) printed h tt refl in
      record { toks = r.0; cut = rw same r.1.0; same = r.1.1.0; apart = r.1.1.1 }
