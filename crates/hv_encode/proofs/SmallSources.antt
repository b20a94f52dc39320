-- Reading a small source.
use Rattle.std.proofs.Common.{◌≡◌, ℕ, Bool, true, false, List, [], ◌∷◌, ◌++◌, map, refl, sym, ◌∙◌, ap, subst, codes, Some, None, Option, IfSome, IfNone, is_some, not, Contains}
use Rattle.std.specs.List.{All, position}
use Rattle.std.specs.Str.{bytes_eq}
use Rattle.std.proofs.lemmas.List.{append_cancel_left, append_cancel_right}
use Rattle.std.proofs.lemmas.List.Elements.{All-map, All-weaker, Contains-get_or, recursion_from_All}
use Rattle.hv_plain.specs.Bytes.{trimmed}
use Rattle.hv_plain.specs.Source as source
use Rattle.hv_plain.specs.Source.{IsSourceLine, IsSmallSource, spelled, is_nested}
use Rattle.hv_encode.specs.declared.small.line.BodyLine.{BodyLine}
use Rattle.hv_encode.specs.declared.small.line.BodyLine.TheVariants.{Put, IfDefined, IfNotDefined, Else, EndIf}
use Rattle.hv_encode.specs.working.Lines.{IsKnown, IsCutInto, IsFree, plain}
use Rattle.hv_encode.proofs.Bodies.{closing}
use Rattle.hv_encode.proofs.Reading.{not_found, found}
use Rattle.hv_encode.proofs.Sources.{map_spelled-injective}

abbrev pub head_line : List ℕ
head_line = codes "int putchar(int);"

abbrev pub main_line : List ℕ
main_line = codes "int main(void) {"

pub first_none : {T : Type 0} (r : Option T) (text : List ℕ)
    → ((lines : List (List ℕ)) → IsCutInto text (head_line ∷ lines) → ⊥)
    → IfNone r ((lines : List (List ℕ)) → IsCutInto text (head_line ∷ main_line ∷ lines) → ⊥)
first_none None text h = λ lines. h (main_line ∷ lines)
first_none (Some x) text h = tt

pub second_none : {T : Type 0} (r : Option T) (text rest : List ℕ)
    → ((lines : List (List ℕ)) → IsCutInto text (head_line ∷ lines) → IsCutInto rest lines)
    → IfNone r ((lines : List (List ℕ)) → IsCutInto rest (main_line ∷ lines) → ⊥)
    → IfNone r ((lines : List (List ℕ)) → IsCutInto text (head_line ∷ main_line ∷ lines) → ⊥)
second_none None text rest kept h = λ lines is. h lines (kept (main_line ∷ lines) is)
second_none (Some x) text rest kept h = tt

pub absent : (names : List (List ℕ)) (name : List ℕ) (r : Option ℕ) (none : Bool)
    → r ≡ position (bytes_eq name) names → is_some r ≡ not none → none ≡ true → Contains names name
    → ⊥
absent names name None none e told t h = not_found names name e h
absent names name (Some option) true e told t h = cc
absent names name (Some option) false e told t h = cc

pub no_place : (names : List (List ℕ)) (name : List ℕ) (r : Option ℕ) (none : Bool)
    → r ≡ position (bytes_eq name) names → is_some r ≡ not none → (Contains names name → ⊥)
    → none ≡ true
no_place names name None true e told h = refl
no_place names name None false e told h = cc
no_place names name (Some option) none e told h =
    let is = found names name option e in
    let P : List ℕ → Type 0 = λ n. Contains names n in
    absurd (h (subst P (sym is.1) (Contains-get_or names option [] is.0.within)))

pub not_some : {X : Type 0} (o : Option X) → ((x : X) → o ≡ Some x → ⊥) → is_some o ≡ false
not_some None h = refl
not_some (Some x) h = absurd (h x refl)

pub some_at : {T : Type 0} (r : Option T) (x : T) (P : T → Type 0) → r ≡ Some x → IfSome r P → P x
some_at {T} r x P e h = let Q : Option T → Type 0 = λ o. IfSome o P in subst Q e h

pub cut_unique : (text : List ℕ) (one other : List (List ℕ)) → IsCutInto text one
    → IsCutInto text other → one ≡ other
cut_unique text one other p q =
    sym p.is_trimmed ∙ ap (map trimmed) (append_cancel_right p.texts q.texts ([] ∷ [])
    (sym p.cut ∙ q.cut)) ∙ q.is_trimmed

module _ (names : List (List ℕ)) where
  pub known_line : (line : BodyLine) → IsKnown names line → IsSourceLine names (plain names line)
  known_line (Put byte) h = h
  known_line (IfDefined option) h = Contains-get_or names option [] h.within
  known_line (IfNotDefined option) h = Contains-get_or names option [] h.within
  known_line Else h = tt
  known_line EndIf h = tt

  pub known_lines : (lines : List BodyLine) → All (IsKnown names) lines
      → All (IsSourceLine names) (map (plain names) lines)
  known_lines lines h =
      All-map (IsSourceLine names) (plain names) lines
      (All-weaker (IsKnown names) (λ line. IsSourceLine names (plain names line)) known_line lines
      h)

  pub small_cut : (text : List ℕ) (body : List source.SourceLine) → IsSmallSource names text body
      → IsCutInto text (head_line ∷ main_line ∷ (map spelled body ++ closing))
  small_cut text body h = record { texts = h.texts; cut = h.cut; is_trimmed = h.lines }

  pub small_is : (text : List ℕ) (lines : List BodyLine) → IsFree names → All (IsKnown names) lines
      → IsCutInto text (head_line ∷ main_line ∷ (map spelled (map (plain names) lines) ++ closing))
      → is_nested [] (map (plain names) lines) ≡ true
      → IsSmallSource names text (map (plain names) lines)
  small_is text lines free known cut nested = record {
    texts = cut.texts;
    cut = cut.cut;
    lines = cut.is_trimmed;
    each_line = known_lines lines known;
    nested = nested;
    main_is_free = free.main;
    putchar_is_free = free.putchar;
  }

  pub small_none : (text : List ℕ) (lines : List BodyLine) → All (IsKnown names) lines
      → IsCutInto text (head_line ∷ main_line ∷ (map spelled (map (plain names) lines) ++ closing))
      → is_nested [] (map (plain names) lines) ≡ false → (body : List source.SourceLine)
      → IsSmallSource names text body → ⊥
  small_none text lines known cut not_nested body is =
      let own = map spelled body ++ closing in
      let read = map spelled (map (plain names) lines) ++ closing in
      let all =
      cut_unique text (head_line ∷ main_line ∷ own) (head_line ∷ main_line ∷ read)
      (small_cut text body is) cut in
      let ends = append_cancel_left (head_line ∷ main_line ∷ []) own read all in
      let texts =
      append_cancel_right (map spelled body) (map spelled (map (plain names) lines)) closing
      ends in
      let same =
      map_spelled-injective names body (map (plain names) lines)
      (recursion_from_All (IsSourceLine names) body is.each_line)
      (recursion_from_All (IsSourceLine names) (map (plain names) lines) (known_lines lines known))
      texts in
      let wrong : true ≡ false = sym is.nested ∙ ap (is_nested []) same ∙ not_nested in cc
