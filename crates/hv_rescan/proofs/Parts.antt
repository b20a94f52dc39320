-- How a replacement list is cut, one token after another.
use Rattle.std.proofs.Common.{◌≡◌, ℕ, ◌+◌, Bool, true, false, List, [], ◌∷◌, ◌++◌, Option, Some, None, refl, sym, ap, ◌∙◌, arith, length, drop, map, append_assoc}
use Rattle.std.specs.Prelude.{codes}
use Rattle.std.specs.Str.{bytes_eq}
use Rattle.hv_toks.specs.declared.token.PpTok.{PpTok}
use Rattle.hv_plain.specs.episode.Bodies.{Before, nothing, a_part, a_paste, Part, string, part, pastes, is_paste, token_part, parts_after, index_of}
use Rattle.std.proofs.lemmas.List.{map-append}
use Rattle.hv_rescan.specs.Values.{part_of}
use Rattle.hv_rescan.specs.declared.part.Part.{Part as Part'}
use Rattle.hv_rescan.specs.working.Steps.{quoted_after, shifted, variadic_of}

-- the parts from a token on, by whether it is `##`, and by the parameter that it quotes
abbrev pub cut : List (List ℕ) → Before → PpTok → List PpTok → Bool → Option ℕ → List Part
cut ps before t after true q = parts_after ps a_paste after
cut ps before t after false (Some i) =
    part before (string i t.space) ∷ parts_after ps a_part (drop 1 after)
cut ps before t after false None = token_part ps before t after ∷ parts_after ps a_part after

no_paste : (before : Before) (t : PpTok) → pastes before t [] ≡ false
no_paste nothing t = refl
no_paste a_part t = by_text (is_paste t)
  where
    by_text : (b : Bool) → elim b as (λ v. Bool) [ true ↦ false | false ↦ false ] ≡ false
    by_text true = refl
    by_text false = refl
no_paste a_paste t = refl

cut_as : (ps : List (List ℕ)) (before : Before) (t next : PpTok) (tokens : List PpTok) (b : Bool)
    (q : Option ℕ)
    → (elim b as (λ v. List Part) [
      | true ↦ parts_after ps a_paste (next ∷ tokens)
      | false ↦ elim q as (λ v. List Part) [
        | Some i ↦ part before (string i t.space) ∷ parts_after ps a_part tokens
        | None ↦ token_part ps before t (next ∷ tokens) ∷ parts_after ps a_part (next ∷ tokens)
      ]
    ]) ≡ cut ps before t (next ∷ tokens) b q
cut_as ps before t next tokens true q = refl
cut_as ps before t next tokens false (Some i) = refl
cut_as ps before t next tokens false None = refl

pub cuts : (ps : List (List ℕ)) (before : Before) (t : PpTok) (after : List PpTok)
    → parts_after ps before (t ∷ after)
    ≡ cut ps before t after (pastes before t after) (quoted_after ps t after)
cuts ps before t [] =
    ap (λ (b : Bool). cut ps before t [] b None) (sym (no_paste before t))
cuts ps before t (next ∷ tokens) =
    cut_as ps before t next tokens (pastes before t (next ∷ tokens))
    (quoted_after ps t (next ∷ tokens))

------ parameters

abbrev one_later : Option ℕ → Option ℕ
one_later None = None
one_later (Some i) = Some (i + 1)

later_shifted : (n : ℕ) (o : Option ℕ) → shifted n (one_later o) ≡ shifted (n + 1) o
later_shifted n None = refl
later_shifted n (Some i) = let e : n + (i + 1) ≡ (n + 1) + i = omega arith in ap (λ k. Some k) e

pub index_passed : (n : ℕ) (p : List ℕ) (ps : List (List ℕ)) (name : List ℕ)
    → bytes_eq p name ≡ false
    → shifted n (index_of (p ∷ ps) name) ≡ shifted (n + 1) (index_of ps name)
index_passed n p ps name e =
    ap (λ (b : Bool). shifted n (elim b as (λ v. Option ℕ) [
      | true ↦ Some 0
      | false ↦ elim (index_of ps name) as (λ v. Option ℕ) [ None ↦ None | Some i ↦ Some (i + 1) ]
    ])) e
    ∙ same (index_of ps name) ∙ later_shifted n (index_of ps name)
  where
    same : (o : Option ℕ)
        → shifted n (elim o as (λ v. Option ℕ) [ None ↦ None | Some i ↦ Some (i + 1) ])
        ≡ shifted n (one_later o)
    same None = refl
    same (Some i) = refl

pub index_found : (n : ℕ) (p : List ℕ) (ps : List (List ℕ)) (name : List ℕ)
    → bytes_eq p name ≡ true → shifted n (index_of (p ∷ ps) name) ≡ Some n
index_found n p ps name e =
    ap (λ (b : Bool). shifted n (elim b as (λ v. Option ℕ) [
      | true ↦ Some 0
      | false ↦ elim (index_of ps name) as (λ v. Option ℕ) [ None ↦ None | Some i ↦ Some (i + 1) ]
    ])) e
    ∙ (let z : n + 0 ≡ n = omega arith in ap (λ k. Some k) z)

-- the index in more names
abbrev pub index_or : Option ℕ → ℕ → Option ℕ → Option ℕ
index_or (Some i) n o = Some i
index_or None n o = shifted n o

pub index_of-append : (ps qs : List (List ℕ)) (name : List ℕ)
    → index_of (ps ++ qs) name ≡ index_or (index_of ps name) (length ps) (index_of qs name)
index_of-append [] qs name = zero_shifted (index_of qs name)
  where
    zero_shifted : (o : Option ℕ) → o ≡ shifted 0 o
    zero_shifted None = refl
    zero_shifted (Some i) = let z : i ≡ 0 + i = omega arith in ap (λ k. Some k) z
index_of-append (p ∷ ps) qs name =
    ap (λ (o : Option ℕ). elim (bytes_eq p name) as (λ v. Option ℕ) [
      | true ↦ Some 0
      | false ↦ elim o as (λ v. Option ℕ) [ None ↦ None | Some i ↦ Some (i + 1) ]
    ]) (index_of-append ps qs name)
    ∙ by (bytes_eq p name) (index_of ps name) (index_of qs name)
  where
    by : (b : Bool) (o q : Option ℕ)
        → (elim b as (λ v. Option ℕ) [
          | true ↦ Some 0
          | false ↦ elim (index_or o (length ps) q) as (λ v. Option ℕ)
              [ None ↦ None | Some i ↦ Some (i + 1) ]
        ])
        ≡ index_or (elim b as (λ v. Option ℕ) [
          | true ↦ Some 0
          | false ↦ elim o as (λ v. Option ℕ) [ None ↦ None | Some i ↦ Some (i + 1) ]
        ]) (length (p ∷ ps)) q
    by true o q = refl
    by false (Some i) q = refl
    by false None None = refl
    by false None (Some i) =
        let e : (length ps + i) + 1 ≡ length (p ∷ ps) + i = omega arith in ap (λ k. Some k) e

------ a variadic macro's parameters

pub index_named : (names : List (List ℕ)) (v : Bool) (name : List ℕ) (o : Option ℕ) (i : ℕ)
    → o ≡ index_of names name → o ≡ Some i → Some i ≡ index_of (names ++ variadic_of v) name
index_named names v name o i e h =
    sym (index_of-append names (variadic_of v) name
    ∙ ap (λ (x : Option ℕ). index_or x (length names) (index_of (variadic_of v) name))
    (sym e ∙ h))

index_unnamed : (names : List (List ℕ)) (v : Bool) (name : List ℕ) (o : Option ℕ)
    → o ≡ index_of names name → o ≡ None
    → index_of (names ++ variadic_of v) name
    ≡ shifted (length names) (index_of (variadic_of v) name)
index_unnamed names v name o e h =
    index_of-append names (variadic_of v) name
    ∙ ap (λ (x : Option ℕ). index_or x (length names) (index_of (variadic_of v) name))
    (sym e ∙ h)

pub index_variadic : (names : List (List ℕ)) (v : Bool) (name : List ℕ) (o : Option ℕ)
    → o ≡ index_of names name → o ≡ None → v ≡ true
    → bytes_eq (codes "__VA_ARGS__") name ≡ true
    → Some (length names) ≡ index_of (names ++ variadic_of v) name
index_variadic names true name o e h t b =
    sym (index_unnamed names true name o e h
    ∙ index_found (length names) (codes "__VA_ARGS__") [] name b)
index_variadic names false name o e h t b = let f : false ≡ true = t in cc

pub index_fixed : (names : List (List ℕ)) (v : Bool) (name : List ℕ) (o : Option ℕ)
    → o ≡ index_of names name → o ≡ None → v ≡ false
    → None ≡ index_of (names ++ variadic_of v) name
index_fixed names true name o e h t = let f : true ≡ false = t in cc
index_fixed names false name o e h t = sym (index_unnamed names false name o e h)

pub index_other : (names : List (List ℕ)) (v : Bool) (name : List ℕ) (o : Option ℕ)
    → o ≡ index_of names name → o ≡ None
    → bytes_eq (codes "__VA_ARGS__") name ≡ false
    → None ≡ index_of (names ++ variadic_of v) name
index_other names true name o e h b =
    sym (index_unnamed names true name o e h
    ∙ index_passed (length names) (codes "__VA_ARGS__") [] name b)
index_other names false name o e h b = sym (index_unnamed names false name o e h)

------ one step

pub cut_step : (ps : List (List ℕ)) (before : Before) (t : PpTok) (after rest : List PpTok)
    (parts all : List Part) (b : Bool) (q : Option ℕ) → rest ≡ t ∷ after
    → b ≡ pastes before t after → q ≡ quoted_after ps t after
    → parts ++ parts_after ps before rest ≡ all → parts ++ cut ps before t after b q ≡ all
cut_step ps before t after rest parts all b q r e f h =
    ap (λ (x : List Part). parts ++ x)
    (ap (λ (v : Bool). cut ps before t after v q) e
    ∙ ap (λ (o : Option ℕ). cut ps before t after (pastes before t after) o) f
    ∙ sym (cuts ps before t after)
    ∙ sym (ap (parts_after ps before) r))
    ∙ h

pub part_pushed : (parts pushed : List Part') (x : Part') (p : Part) (more all : List Part)
    → pushed ≡ parts ++ x ∷ [] → part_of x ≡ p → map part_of parts ++ p ∷ more ≡ all
    → map part_of pushed ++ more ≡ all
part_pushed parts pushed x p more all e f h =
    ap (λ (l : List Part'). map part_of l ++ more) e
    ∙ ap (λ (l : List Part). l ++ more) (map-append part_of parts (x ∷ []))
    ∙ append_assoc (map part_of parts) (part_of x ∷ []) more
    ∙ ap (λ (u : Part). map part_of parts ++ u ∷ more) f
    ∙ h
