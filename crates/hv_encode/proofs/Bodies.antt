-- Reading a body, line by line.
use Rattle.std.proofs.Common.{◌≡◌, ◌≢◌, ℕ, ◌+◌, ◌<◌, Bool, true, false, List, [], ◌∷◌, ◌++◌, map, refl, sym, ◌∙◌, ap, arith, length, get_or, take, drop, codes, Some, None, Option, IfNone, subst, ◌-◌, ◌==◌}
use Rattle.std.specs.List.{All, slice_split, position, position_or_len, join_with_byte}
use Rattle.std.proofs.lemmas.Bool.Decides.{Decides-eqb}
use Rattle.std.proofs.lemmas.List.{nil_from_length, append_assoc, map-append, take_rest, drop_more, take-append-drop, length-take, length-drop, get_or-take}
use Rattle.std.proofs.lemmas.List.Quantifiers.{position-Some}
use Rattle.std.proofs.lemmas.List.Elements.{All-from_get_or, All-push, All-head, All-tail}
use Rattle.std.proofs.lemmas.List.Splits.{slice_split_at, slice_split_none, join_with_byte-slice_split}
use Rattle.std.proofs.lemmas.List.Sums.{fails_before_first}
use Rattle.hv_base.specs.Ascii.{is_newline}
use Rattle.hv_plain.specs.Bytes.{trimmed}
use Rattle.hv_plain.specs.Source as source
use Rattle.hv_plain.specs.Source.{IsSourceLine, spelled, put, if_defined, if_not_defined, otherwise, end_if}
use Rattle.hv_encode.specs.declared.small.line.BodyLine.{BodyLine}
use Rattle.hv_encode.specs.working.Lines.{IsKnown, IsCutInto, plain}
use Rattle.hv_base.proofs.Lists.{heads}
use Rattle.hv_encode.proofs.Reading.{passed}
use Rattle.hv_encode.proofs.Sources.{differ_at}

abbrev pub parts : List ℕ → List (List ℕ)
parts text = slice_split is_newline text

abbrev pub closing : List (List ℕ)
closing = codes "}" ∷ []

pub no_newline : (text : List ℕ) → None ≡ position is_newline text
    → slice_split is_newline text ≡ text ∷ []
no_newline text e =
    let all = passed (position_or_len is_newline text) (length text) e in
    slice_split_none is_newline text
    (λ k d within. fails_before_first is_newline text k d (omega arith))

pub if_none : {T : Type 0} (r : Option T) (P : Type 0) → P → IfNone r P
if_none None P h = h
if_none (Some x) P h = tt

pub empty_is : (text : List ℕ) (empty : Bool) → empty ≡ (length text == 0) → empty ≡ true
    → text ≡ []
empty_is text empty e t = nil_from_length text ((Decides-eqb (length text) 0).0 (sym e ∙ t))

pub some_is : (text : List ℕ) (empty : Bool) → empty ≡ (length text == 0) → empty ≡ false
    → text ≢ []
some_is text empty e f none =
    let yes : (length text == 0) ≡ true = ap (λ t. length t == 0) none in
    let wrong : true ≡ false = sym yes ∙ sym e ∙ f in cc

pub cut_at : (text : List ℕ) (end : ℕ) → Some end ≡ position is_newline text
    → (slice_split is_newline text ≡ take end text ∷
    slice_split is_newline (take (length text - (end + 1)) (drop (end + 1) text)))
    × (length (take (length text - (end + 1)) (drop (end + 1) text)) < length text)
cut_at text end e =
    let is = position-Some is_newline text end 0 (sym e) in
    let rest = take_rest text (end + 1) in
    let within : end < length text = is.0 in
    let first : All (λ byte. is_newline byte ≡ false) (take end text) =
    All-from_get_or (λ byte. is_newline byte ≡ false) (take end text) 0 (λ k h.
    let short = length-take end text in
    let below : k < end = omega arith in
    rw (get_or-take end text k 0 (omega arith)) (is.2 k (omega arith))) in
    let whole : text ≡ take end text ++ get_or text end 0 ∷ drop (end + 1) text =
    sym (take-append-drop end text) ∙ ap (λ t. take end text ++ t) (drop_more text end 0 within)
    in
    let cut = ap (slice_split is_newline) whole
    ∙ slice_split_at is_newline (take end text) (get_or text end 0) (drop (end + 1) text) first
    is.1 in
    let shorter : length (drop (end + 1) text) < length text = simp length-drop (omega arith) in
    (cut ∙ ap (λ t. take end text ∷ slice_split is_newline t) (sym rest), rw (rest) shorter)

pub cut_onto : (text part rest : List ℕ) (lines : List (List ℕ)) → parts text ≡ part ∷ parts rest
    → IsCutInto rest lines → IsCutInto text (trimmed part ∷ lines)
cut_onto text part rest lines e h = record {
  texts = part ∷ h.texts;
  cut = e ∙ ap (λ more. part ∷ more) h.cut;
  is_trimmed = ap (λ more. trimmed part ∷ more) h.is_trimmed;
}

pub behind_onto : (text part rest line : List ℕ) (lines : List (List ℕ))
    → slice_split is_newline text ≡ part ∷ slice_split is_newline rest → trimmed part ≡ line
    → IsCutInto rest lines → IsCutInto text (line ∷ lines)
behind_onto text part rest line lines e t h =
    let P : List (List ℕ) → Type 0 = λ all. IsCutInto text all in
    subst P (ap (λ l. l ∷ lines) t) (cut_onto text part rest lines e h)

first_text : (part : List ℕ) (more texts : List (List ℕ)) (line : List ℕ) (lines : List (List ℕ))
    → part ∷ more ≡ texts ++ [] ∷ [] → map trimmed texts ≡ line ∷ lines
    → (trimmed part ≡ line) × ((rest : List (List ℕ)) × (more ≡ rest ++ [] ∷ [])
    × (map trimmed rest ≡ lines))
first_text part more [] line lines e t = cc
first_text part more (text ∷ texts) line lines e t =
    let one = heads part text more (texts ++ [] ∷ []) e in
    let two = heads (trimmed text) line (map trimmed texts) lines t in
    (ap trimmed one.0 ∙ two.0, (texts, one.1, two.1))

pub cut_kept : (text part rest line : List ℕ) (lines : List (List ℕ))
    → parts text ≡ part ∷ parts rest → IsCutInto text (line ∷ lines) → (trimmed part ≡ line)
    × IsCutInto rest lines
cut_kept text part rest line lines e h =
    let is = first_text part (parts rest) h.texts line lines (sym e ∙ h.cut) h.is_trimmed in
    (is.0, record { texts = is.1.0; cut = is.1.1; is_trimmed = is.1.2 })

no_texts : (texts : List (List ℕ)) → map trimmed texts ≡ [] → texts ≡ []
no_texts [] e = refl
no_texts (text ∷ texts) e = cc

pub cut_end : (text : List ℕ) → IsCutInto text [] → text ≡ []
cut_end text h =
    let is : parts text ≡ [] ∷ [] = h.cut
    ∙ ap (λ texts. texts ++ [] ∷ []) (no_texts h.texts h.is_trimmed) in
    sym (join_with_byte-slice_split 10 text) ∙ ap (join_with_byte 10) is

pub cut_empty : IsCutInto [] []
cut_empty = record { texts = []; cut = refl; is_trimmed = refl }

-- a line of a body is not the closing one
pub not_closing : (line : source.SourceLine) → spelled line ≡ codes "}" → ⊥
not_closing (put n) e = differ_at 0 (spelled (put n)) (codes "}") e refl
not_closing (if_defined name) e = differ_at 0 (spelled (if_defined name)) (codes "}") e refl
not_closing (if_not_defined name) e = differ_at 0 (spelled (if_not_defined name)) (codes "}") e refl
not_closing otherwise e = differ_at 0 (spelled otherwise) (codes "}") e refl
not_closing end_if e = differ_at 0 (spelled end_if) (codes "}") e refl

module _ (names : List (List ℕ)) where
  -- how far the text is read: these lines, and the rest
  pub record IsRead (text rest : List ℕ) (lines : List BodyLine) : Type 0 where
    pub known : All (IsKnown names) lines
    pub onto : (tail : List (List ℕ)) → IsCutInto rest tail
        → IsCutInto text (map spelled (map (plain names) lines) ++ tail)
    pub kept : (body : List source.SourceLine) → All (IsSourceLine names) body
        → IsCutInto text (map spelled body ++ closing)
        → (more : List source.SourceLine) × All (IsSourceLine names) more
        × IsCutInto rest (map spelled more ++ closing)

  next_kept : (part rest behind : List ℕ) (line : source.SourceLine) (more : List source.SourceLine)
      → parts rest ≡ part ∷ parts behind → trimmed part ≡ spelled line
      → All (IsSourceLine names) more
      → IsCutInto rest (map spelled more ++ closing) → (later : List source.SourceLine)
      × All (IsSourceLine names) later × IsCutInto behind (map spelled later ++ closing)
  next_kept part rest behind line [] e t each h =
      absurd (not_closing line (sym t ∙ (cut_kept rest part behind (codes "}") [] e h).0))
  next_kept part rest behind line (first ∷ more) e t each h = (
    more,
    All-tail (IsSourceLine names) first more each,
    (cut_kept rest part behind (spelled first) (map spelled more ++ closing) e h).1,
  )

  pub read_next : (text rest part behind : List ℕ) (lines : List BodyLine) (line : BodyLine)
      → IsRead text rest lines → parts rest ≡ part ∷ parts behind → IsKnown names line
      → trimmed part ≡ spelled (plain names line) → IsRead text behind (lines ++ line ∷ [])
  read_next text rest part behind lines line read e known t = record {
    known = All-push (IsKnown names) lines line read.known known;
    onto = λ tail h.
        let here : IsCutInto rest (spelled (plain names line) ∷ tail) =
        rw t at (cut_onto rest part behind tail e h) in
        let all = read.onto (spelled (plain names line) ∷ tail) here in
        let P : List (List ℕ) → Type 0 = λ lines. IsCutInto text lines in
        subst P (sym
        (ap (λ l. map spelled l ++ tail) (map-append (plain names) lines (line ∷ []))
        ∙ ap (λ l. l ++ tail) (map-append spelled (map (plain names) lines) (plain names line ∷ []))
        ∙ append_assoc (map spelled (map (plain names) lines)) (spelled (plain names line) ∷ [])
        tail)) all;
    kept = λ body each h.
        let before = read.kept body each h in
        next_kept part rest behind (plain names line) before.0 e t before.1 before.2;
  }

  pub read_end : (text rest part behind : List ℕ) (lines : List BodyLine) → IsRead text rest lines
      → parts rest ≡ part ∷ parts behind → trimmed part ≡ codes "}" → behind ≡ []
      → IsCutInto text (map spelled (map (plain names) lines) ++ closing)
  read_end text rest part behind lines read e t none =
      let P : List ℕ → Type 0 = λ behind. IsCutInto behind [] in
      let empty : IsCutInto behind [] = subst P (sym none) cut_empty in
      let here : IsCutInto rest closing = rw t at (cut_onto rest part behind [] e empty) in
      read.onto closing here

  end_none : (part rest behind : List ℕ) (more : List source.SourceLine)
      → parts rest ≡ part ∷ parts behind → trimmed part ≡ codes "}"
      → IsCutInto rest (map spelled more ++ closing) → behind ≡ []
  end_none part rest behind [] e t h =
      cut_end behind (cut_kept rest part behind (codes "}") [] e h).1
  end_none part rest behind (first ∷ more) e t h =
      absurd (not_closing first (sym
      (cut_kept rest part behind (spelled first) (map spelled more ++ closing) e h).0 ∙ t))

  -- what follows the closing line rules out each body
  pub refuse_end : (text rest part behind : List ℕ) (lines : List BodyLine) → IsRead text rest lines
      → parts rest ≡ part ∷ parts behind → trimmed part ≡ codes "}" → behind ≢ []
      → (body : List source.SourceLine) → All (IsSourceLine names) body
      → IsCutInto text (map spelled body ++ closing) → ⊥
  refuse_end text rest part behind lines read e t some body each h =
      let before = read.kept body each h in some (end_none part rest behind before.0 e t before.2)

  line_none : (part rest behind : List ℕ) (more : List source.SourceLine)
      → parts rest ≡ part ∷ parts behind → trimmed part ≢ codes "}"
      → ((line : source.SourceLine) → IsSourceLine names line → trimmed part ≢ spelled line)
      → All (IsSourceLine names) more → IsCutInto rest (map spelled more ++ closing) → ⊥
  line_none part rest behind [] e t not_line each h =
      t (cut_kept rest part behind (codes "}") [] e h).0
  line_none part rest behind (first ∷ more) e t not_line each h =
      not_line first (All-head (IsSourceLine names) first more each)
      (cut_kept rest part behind (spelled first) (map spelled more ++ closing) e h).0

  -- so does a line that is none
  pub refuse_line : (text rest part behind : List ℕ) (lines : List BodyLine)
      → IsRead text rest lines → parts rest ≡ part ∷ parts behind → trimmed part ≢ codes "}"
      → ((line : source.SourceLine) → IsSourceLine names line → trimmed part ≢ spelled line)
      → (body : List source.SourceLine) → All (IsSourceLine names) body
      → IsCutInto text (map spelled body ++ closing) → ⊥
  refuse_line text rest part behind lines read e t not_line body each h =
      let before = read.kept body each h in
      line_none part rest behind before.0 e t not_line before.1 before.2
