-- Tokens one by one: hide sets, arguments within a literal, joining, and the rest of a run.
use Rattle.std.proofs.Common.{◌≡◌, ◌<◌, ◌≤◌, ◌+◌, ℕ, Bool, true, false, not, cond, List, [], ◌∷◌, ◌++◌, Option, Some, None, refl, sym, ap, ◌∙◌, arith, append_assoc, length, take, drop, get_or, add-one}
use Rattle.std.specs.Prelude.{◌||◌}
use Rattle.std.proofs.lemmas.List.Elements.{filter-append}
use Rattle.hv_base.specs.Ascii.{is_among}
use Rattle.hv_base.proofs.Booleans.{or_false}
use Rattle.hv_toks.specs.Cutting.{whole_token}
use Rattle.hv_toks.specs.declared.token.PpKind.{PpKind}
use Rattle.hv_toks.specs.declared.token.PpKind.TheVariants.{Identifier, Number, CharConstant, StringLiteral, HeaderName, Punctuator, Other}
use Rattle.hv_plain.specs.episode.Substitution.{argument_quoted, blank, join, more_quoted, paste, quoted}
use Rattle.hv_plain.specs.episode.Tokens.{Token, both, owing, still_owed}
use Rattle.hv_rescan.specs.working.Drafts.{within}
use Rattle.hv_toks.specs.Macro.{Macro}
use Rattle.std.specs.Option.{option_map}
use Rattle.std.proofs.Math.Seq.{take-suc}
use Rattle.std.proofs.lemmas.List.{length-take-le, map-append}
use Rattle.hv_base.proofs.Lists.{length-map}
use Rattle.hv_rescan.specs.Values.{token_of, tokens_of}
use Rattle.hv_rescan.specs.declared.token.Token.{Token as Token'}
use Rattle.hv_rescan.specs.working.Steps.{chosen, is_quoted, spelled_at, spelled_within}

------ hide sets

pub chosen-in : (among : Bool) (others names : List (List ℕ)) (name : List ℕ)
    → is_among name others ≡ among
    → chosen among others (names ++ name ∷ []) ≡ chosen among others names ++ name ∷ []
chosen-in true others names name e =
    filter-append (λ n. is_among n others) names (name ∷ [])
    ∙ ap (λ (b : Bool). chosen true others names ++ cond b (name ∷ []) []) e
chosen-in false others names name e =
    filter-append (λ n. not (is_among n others)) names (name ∷ [])
    ∙ ap (λ (b : Bool). chosen false others names ++ cond (not b) (name ∷ []) []) e

pub chosen-out : (among : Bool) (others names : List (List ℕ)) (name : List ℕ) (b : Bool)
    → is_among name others ≡ b → b ≡ not among
    → chosen among others (names ++ name ∷ []) ≡ chosen among others names
chosen-out true others names name b e h =
    filter-append (λ n. is_among n others) names (name ∷ [])
    ∙ ap (λ (b : Bool). chosen true others names ++ cond b (name ∷ []) []) (e ∙ h)
    ∙ nothing_more (chosen true others names)
  where
    nothing_more : (xs : List (List ℕ)) → xs ++ [] ≡ xs
    nothing_more [] = refl
    nothing_more (x ∷ xs) = ap (λ (r : List (List ℕ)). x ∷ r) (nothing_more xs)
chosen-out false others names name b e h =
    filter-append (λ n. not (is_among n others)) names (name ∷ [])
    ∙ ap (λ (b : Bool). chosen false others names ++ cond (not b) (name ∷ []) []) (e ∙ h)
    ∙ nothing_more (chosen false others names)
  where
    nothing_more : (xs : List (List ℕ)) → xs ++ [] ≡ xs
    nothing_more [] = refl
    nothing_more (x ∷ xs) = ap (λ (r : List (List ℕ)). x ∷ r) (nothing_more xs)

------ within a literal

pub quoted_as : (kind : PpKind) (text : List ℕ) → quoted kind text ≡ within (is_quoted kind) text
quoted_as Identifier text = refl
quoted_as Number text = refl
quoted_as CharConstant text = refl
quoted_as StringLiteral text = refl
quoted_as HeaderName text = refl
quoted_as Punctuator text = refl
quoted_as Other text = refl

more_quoted-append : (ts : List Token) (t : Token)
    → more_quoted (ts ++ t ∷ []) ≡ more_quoted ts ++ spelled_within t.space t
more_quoted-append [] t = nothing_more (spelled_within t.space t)
  where
    nothing_more : (xs : List ℕ) → xs ++ [] ≡ xs
    nothing_more [] = refl
    nothing_more (x ∷ xs) = ap (λ (r : List ℕ). x ∷ r) (nothing_more xs)
more_quoted-append (u ∷ ts) t =
    ap (λ (x : List ℕ). blank u.space ++ quoted u.kind u.text ++ x) (more_quoted-append ts t)
    ∙ sym (append_assoc (blank u.space ++ quoted u.kind u.text) (more_quoted ts)
    (spelled_within t.space t))

pub quoted_first : (t : Token) → argument_quoted (t ∷ []) ≡ spelled_within false t
quoted_first t = nothing_more (quoted t.kind t.text)
  where
    nothing_more : (xs : List ℕ) → xs ++ [] ≡ xs
    nothing_more [] = refl
    nothing_more (x ∷ xs) = ap (λ (r : List ℕ). x ∷ r) (nothing_more xs)

pub quoted_next : (ts : List Token) (t : Token) → 0 < length ts
    → argument_quoted (ts ++ t ∷ []) ≡ argument_quoted ts ++ spelled_within t.space t
quoted_next [] t h = absurd (omega arith)
quoted_next (u ∷ ts) t h =
    ap (λ (x : List ℕ). quoted u.kind u.text ++ x) (more_quoted-append ts t)
    ∙ sym (append_assoc (quoted u.kind u.text) (more_quoted ts) (spelled_within t.space t))

quoted_at : (ts : List Token) (t : Token) (is_first : Bool) → (length ts ≡ 0 → is_first ≡ true)
    → (0 < length ts → is_first ≡ false)
    → argument_quoted (ts ++ t ∷ []) ≡ argument_quoted ts ++ spelled_at is_first t
quoted_at [] t is_first h k =
    quoted_first t ∙ ap (λ (b : Bool). spelled_at b t) (sym (h refl))
quoted_at (u ∷ ts) t is_first h k =
    quoted_next (u ∷ ts) t (omega arith)
    ∙ ap (λ (b : Bool). argument_quoted (u ∷ ts) ++ spelled_at b t) (sym (k (omega arith)))

taken_length : (ts : List Token') (i : ℕ) (macros : List ℕ → Macro) → i ≤ length ts
    → length (tokens_of macros (take i ts)) ≡ i
taken_length ts i macros h =
    length-map (token_of macros) (take i ts) ∙ length-take-le i ts h

pub quoted_token : (macros : List ℕ → Macro) (ts : List Token') (i : ℕ) (t : Token')
    (is_first : Bool) → i < length ts → t ≡ get_or ts i t → (i ≡ 0 → is_first ≡ true)
    → (0 < i → is_first ≡ false)
    → argument_quoted (tokens_of macros (take (i + 1) ts))
    ≡ argument_quoted (tokens_of macros (take i ts)) ++ spelled_at is_first (token_of macros t)
quoted_token macros ts i t is_first h e first later =
    let front : List Token = tokens_of macros (take i ts) in
    let within_list : i ≤ length ts = omega arith in
    let count : length front ≡ i = taken_length ts i macros within_list in
    ap (λ (k : ℕ). argument_quoted (tokens_of macros (take k ts))) (add-one i)
    ∙ ap (λ (x : List Token'). argument_quoted (tokens_of macros x)) (take-suc ts i t h)
    ∙ ap (λ (u : Token'). argument_quoted (tokens_of macros (take i ts ++ u ∷ []))) (sym e)
    ∙ ap argument_quoted (map-append (token_of macros) (take i ts) (t ∷ []))
    ∙ quoted_at front (token_of macros t) is_first (λ z. first (sym count ∙ z))
    (λ z. later (omega (arith, count, z)))

------ joining

abbrev pub pasted : Token → Token → List ℕ → Option PpKind → Option Token
pasted t u text None = None
pasted t u text (Some kind) =
    Some (record { kind = kind; text = text; space = t.space; hides = both t.hides u.hides })

pasted_by : (t u : Token) (text : List ℕ) (kind : Option PpKind)
    → (elim kind as (λ v. Option Token) [
      | None ↦ None
      | Some k ↦ Some (record { kind = k; text = text; space = t.space; hides = both t.hides u.hides })
    ]) ≡ pasted t u text kind
pasted_by t u text None = refl
pasted_by t u text (Some kind) = refl

pub pastes_as : (t u : Token) (text : List ℕ) (kind : Option PpKind) → text ≡ t.text ++ u.text
    → whole_token text ≡ kind → paste t u ≡ pasted t u text kind
pastes_as t u text kind e h =
    pasted_by t u (t.text ++ u.text) (whole_token (t.text ++ u.text))
    ∙ ap (λ (x : List ℕ). pasted t u x (whole_token x)) (sym e)
    ∙ ap (pasted t u text) h

pub join_none : (ts : List Token) (t : Token) → join (ts ++ t ∷ []) [] ≡ Some (ts ++ t ∷ [])
join_none [] t = refl
join_none (u ∷ []) t = refl
join_none (u ∷ v ∷ ts) t =
    ap (λ (o : Option (List Token)). elim o as (λ x. Option (List Token))
    [ None ↦ None | Some tokens ↦ Some (u ∷ tokens) ]) (join_none (v ∷ ts) t)

abbrev pub joined_as : List Token → List Token → Option Token → Option (List Token)
joined_as ts us None = None
joined_as ts us (Some v) = Some (ts ++ v ∷ us)

joined_one : (us : List Token) (o : Option Token)
    → (elim o as (λ x. Option (List Token)) [ None ↦ None | Some v ↦ Some (v ∷ us) ])
    ≡ joined_as [] us o
joined_one us None = refl
joined_one us (Some v) = refl

joined_more : (u : Token) (ts us : List Token) (o : Option Token)
    → (elim (joined_as ts us o) as (λ x. Option (List Token))
    [ None ↦ None | Some tokens ↦ Some (u ∷ tokens) ]) ≡ joined_as (u ∷ ts) us o
joined_more u ts us None = refl
joined_more u ts us (Some v) = refl

pub join_some : (ts : List Token) (t u : Token) (us : List Token)
    → join (ts ++ t ∷ []) (u ∷ us) ≡ joined_as ts us (paste t u)
join_some [] t u us = joined_one us (paste t u)
join_some (v ∷ []) t u us =
    ap (λ (o : Option (List Token)). elim o as (λ x. Option (List Token))
    [ None ↦ None | Some tokens ↦ Some (v ∷ tokens) ]) (join_some [] t u us)
    ∙ joined_more v [] us (paste t u)
join_some (v ∷ w ∷ ts) t u us =
    ap (λ (o : Option (List Token)). elim o as (λ x. Option (List Token))
    [ None ↦ None | Some tokens ↦ Some (v ∷ tokens) ]) (join_some (w ∷ ts) t u us)
    ∙ joined_more v (w ∷ ts) us (paste t u)

------ the rest of a run

same_token : (t : Token) (b : Bool) → t.space ≡ b → record t { space = b } ≡ t
same_token t b e = ap (λ (s : Bool). record t { space = s }) (sym e)

pub owing_none : (ts : List Token) → owing false ts ≡ ts
owing_none [] = refl
owing_none (t ∷ ts) =
    ap (λ (u : Token). u ∷ ts) (same_token t (t.space || false) (sym (or_false t.space)))

pub still_owed_as : (owed : Bool) (ts : List Token) (empty : Bool)
    → (empty ≡ true → ts ≡ []) → (empty ≡ false → 0 < length ts)
    → still_owed owed ts ≡ cond empty owed false
still_owed_as owed [] true h k = refl
still_owed_as owed [] false h k = absurd (omega (arith, k refl))
still_owed_as owed (t ∷ ts) true h k = let e : t ∷ ts ≡ [] = h refl in cc
still_owed_as owed (t ∷ ts) false h k = refl

------ joining tokens of the code

pub join_last_none : (macros : List ℕ → Macro) (left ts right joined : List Token') (t : Token')
    → left ≡ ts ++ t ∷ [] → length right ≡ 0 → joined ≡ ts ++ t ∷ []
    → Some (tokens_of macros joined) ≡ join (tokens_of macros left) (tokens_of macros right)
join_last_none macros left ts [] joined t e h n =
    let whole : tokens_of macros (ts ++ t ∷ []) ≡ tokens_of macros ts ++ token_of macros t ∷ [] =
    map-append (token_of macros) ts (t ∷ []) in
    ap (λ (x : List Token'). Some (tokens_of macros x)) n
    ∙ ap (λ (x : List Token). Some x) whole
    ∙ sym (join_none (tokens_of macros ts) (token_of macros t))
    ∙ ap (λ (x : List Token). join x []) (sym (ap (tokens_of macros) e ∙ whole))
join_last_none macros left ts (u ∷ us) joined t e h n = absurd (omega arith)

first_removed : (right us : List Token') (u : Token') → 0 < length right
    → us ≡ take 0 right ++ drop (0 + 1) right → u ≡ get_or right 0 u → right ≡ u ∷ us
first_removed [] us u h e g = absurd (omega arith)
first_removed (v ∷ right) us u h e g =
    ap (λ (w : Token'). w ∷ right) (sym g) ∙ ap (λ (w : List Token'). u ∷ w) (sym e)

pub join_last_some : (macros : List ℕ → Macro) (left ts right us : List Token') (t u : Token')
    (p : Option Token') → left ≡ ts ++ t ∷ [] → 0 < length right
    → us ≡ take 0 right ++ drop (0 + 1) right → u ≡ get_or right 0 u
    → option_map (token_of macros) p ≡ paste (token_of macros t) (token_of macros u)
    → joined_as (tokens_of macros ts) (tokens_of macros us) (option_map (token_of macros) p)
    ≡ join (tokens_of macros left) (tokens_of macros right)
join_last_some macros left ts right us t u p e h r g q =
    let whole : tokens_of macros (ts ++ t ∷ []) ≡ tokens_of macros ts ++ token_of macros t ∷ [] =
    map-append (token_of macros) ts (t ∷ []) in
    ap (joined_as (tokens_of macros ts) (tokens_of macros us)) q
    ∙ sym (join_some (tokens_of macros ts) (token_of macros t) (token_of macros u)
    (tokens_of macros us))
    ∙ ap (λ (x : List Token). join x (tokens_of macros (u ∷ us)))
    (sym (ap (tokens_of macros) e ∙ whole))
    ∙ ap (λ (x : List Token'). join (tokens_of macros left) (tokens_of macros x))
    (sym (first_removed right us u h r g))

pub join_made : (macros : List ℕ → Macro) (ts pushed whole us : List Token') (v : Token')
    → pushed ≡ ts ++ v ∷ [] → whole ≡ pushed ++ us
    → Some (tokens_of macros whole)
    ≡ joined_as (tokens_of macros ts) (tokens_of macros us) (Some (token_of macros v))
join_made macros ts pushed whole us v e h =
    ap (λ (x : List Token'). Some (tokens_of macros x))
    (h ∙ ap (λ (x : List Token'). x ++ us) e ∙ append_assoc ts (v ∷ []) us)
    ∙ ap (λ (x : List Token). Some x) (map-append (token_of macros) ts (v ∷ us))
