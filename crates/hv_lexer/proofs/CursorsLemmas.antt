-- A cursor, one byte on.
use Rattle.std.proofs.Common.{◌≡◌, ℕ, zero, suc, ◌+◌, ◌-◌, ◌<◌, ◌≤◌, List, [], ◌∷◌, refl, sym, ◌∙◌, ap, arith, length, map, get_or, take, drop, ◌++◌, add-zero, Bor}
use Rattle.std.proofs.lemmas.List.{take_rest, drop_more, drop_all, length-drop, length-map, drop-drop, drop-map, get_or-drop, take_more}
use Rattle.hv_toks.specs.Splices.{Mark, marks_from, splice_len}
use Rattle.hv_lexer.specs.declared.cursor.Cursor.{Cursor}
use Rattle.hv_lexer.specs.working.Cursors.{marks_of, text_of, places_of}
use Rattle.hv_lexer.proofs.SplicesLemmas.{marks_from-step}

-- the cursor at this place of a file
abbrev pub there : Bor (List ℕ) → ℕ → Cursor
there bytes at = record { bytes = bytes; at = at }

marks_from-first : (offset byte : ℕ) (bytes : List ℕ) → splice_len (byte ∷ bytes) ≡ 0
    → marks_from 0 offset (byte ∷ bytes) ≡ record { byte = byte; offset = offset } ∷
    marks_from 0 (offset + 1) bytes
marks_from-first offset byte bytes e = rw (e, marks_from) refl

marks_from-later : (offset byte : ℕ) (bytes : List ℕ) (deleted : ℕ)
    → splice_len (byte ∷ bytes) ≡ suc deleted
    → marks_from 0 offset (byte ∷ bytes) ≡ marks_from deleted (offset + 1) bytes
marks_from-later offset byte bytes deleted e = rw (e, marks_from) refl

pub marks-splice : (bytes : Bor (List ℕ)) (at n : ℕ) → (n ≡ 0 → ⊥)
    → n ≡ splice_len (take (length bytes.now - at) (drop at bytes.now))
    → marks_of (there bytes at) ≡ marks_of (there bytes (at + n))
unfolding marks_of
marks-splice bytes at n some e = marks_from-step bytes.now at n some e

pub marks-next : (bytes : Bor (List ℕ)) (at n : ℕ) → at < length bytes.now → n ≡ 0
    → n ≡ splice_len (take (length bytes.now - at) (drop at bytes.now))
    → marks_of (there bytes at) ≡ record { byte = get_or bytes.now at 0; offset = at } ∷
    marks_of (there bytes (at + 1))
unfolding marks_of
marks-next bytes at n h none e =
    let shown = drop_more bytes.now at 0 h in
    let f : splice_len (drop at bytes.now) ≡ 0 = sym (rw take_rest at e) ∙ none in
    rw shown (marks_from-first at (get_or bytes.now at 0) (drop (at + 1) bytes.now) (rw shown at f))

pub marks-end : (bytes : Bor (List ℕ)) (at : ℕ) → length bytes.now ≤ at
    → marks_of (there bytes at) ≡ []
unfolding marks_of
marks-end bytes at h = rw (drop_all at bytes.now h) refl

-- no more is left than there is

marks_from-bounded : (deleted offset : ℕ) (bytes : List ℕ)
    → length (marks_from deleted offset bytes) ≤ length bytes
marks_from-bounded zero offset [] = omega arith
marks_from-bounded (suc deleted) offset [] = omega arith
marks_from-bounded (suc deleted) offset (byte ∷ bytes) = let h =
    marks_from-bounded deleted (offset + 1) bytes in omega arith
marks_from-bounded zero offset (byte ∷ bytes) =
    elim (splice_len (byte ∷ bytes)) as (λ n. splice_len (byte ∷ bytes) ≡ n
    → length (marks_from 0 offset (byte ∷ bytes)) ≤ length (byte ∷ bytes)) [
      | zero ↦ λ e. rw (marks_from-first offset byte bytes e)
          (let h = marks_from-bounded 0 (offset + 1) bytes in omega arith)
      | suc deleted ↦ λ e. rw (marks_from-later offset byte bytes deleted e)
          (let h = marks_from-bounded deleted (offset + 1) bytes in omega arith)
    ] refl

pub text-bounded : (c : Cursor) → length (text_of c) ≤ length c.bytes.now - c.at
unfolding marks_of text_of
text-bounded c =
    let h = marks_from-bounded 0 c.at (drop c.at c.bytes.now) in
    rw length-map (omega (arith, length-drop c.at c.bytes.now))

-- a walk over a list, `i` items on

pub walk-rest : {A : Type 0} (whole : List A) (i : ℕ) (x : A) (xs : List A) → x ∷ xs ≡ drop i whole
    → xs ≡ drop (i + 1) whole
walk-rest whole i x xs e = ap (drop 1) e ∙ drop-drop 1 i whole

walk-within : {A : Type 0} (whole : List A) (i : ℕ) (x : A) (xs : List A) → x ∷ xs ≡ drop i whole
    → i < length whole
walk-within whole i x xs e = omega (arith, ap length e, length-drop i whole)

pub walk-taken : (whole : List ℕ) (i x : ℕ) (xs : List ℕ) → x ∷ xs ≡ drop i whole
    → take (i + 1) whole ≡ take i whole ++ x ∷ []
walk-taken whole i x xs e =
    let h = walk-within whole i x xs e in
    let item : x ≡ get_or whole i 0 = ap (λ ys. get_or ys 0 0) e
    ∙ (get_or-drop i whole 0 0 ∙ ap (λ k. get_or whole k 0) (add-zero i)) in
    rw item (take_more whole i 0 h)

pub as_read-more : (text bytes : List ℕ) (at i byte : ℕ) (after : List ℕ)
    → byte ∷ after ≡ drop i text → take i text ≡ take i (drop at bytes)
    → at + i < length bytes → byte ≡ get_or bytes (at + i) 0
    → take (i + 1) text ≡ take (i + 1) (drop at bytes)
as_read-more text bytes at i byte after e same within here =
    let inside : i < length (drop at bytes) = omega (arith, length-drop at bytes) in
    walk-taken text i byte after e
    ∙ (ap (λ xs. xs ++ byte ∷ []) same
    ∙ (ap (λ x. take i (drop at bytes) ++ x ∷ []) (here ∙ sym (get_or-drop at bytes i 0))
    ∙ sym (take_more (drop at bytes) i 0 inside)))

pub walk-end : {A : Type 0} (whole : List A) (i n : ℕ) (xs : List A) → xs ≡ drop i whole → xs ≡ []
    → i ≤ n → xs ≡ drop n whole
walk-end whole i n xs e none h =
    let short : length whole ≤ n = omega (arith, ap length (sym e ∙ none), length-drop i whole) in
    none ∙ sym (drop_all n whole short)

pub place-first : (c : Cursor) (i : ℕ) (m : Mark) (ms : List Mark) → m ∷ ms ≡ drop i (marks_of c)
    → m.offset ≡ get_or (places_of c) i 0
unfolding places_of
place-first c i m ms e =
    ap (λ marks. get_or (map (λ mark. mark.offset) marks) 0 0) e
    ∙ (ap (λ xs. get_or xs 0 0) (sym (drop-map (λ (mark : Mark). mark.offset) i (marks_of c)))
    ∙ (get_or-drop i (map (λ mark. mark.offset) (marks_of c)) 0 0
    ∙ ap (λ k. get_or (map (λ mark. mark.offset) (marks_of c)) k 0) (add-zero i)))

pub place-none : (c : Cursor) → marks_of c ≡ [] → 0 ≡ get_or (places_of c) 0 0
unfolding places_of
place-none c e = rw e refl

pub places-after : (c rest : Cursor) (n : ℕ) → marks_of rest ≡ drop n (marks_of c)
    → places_of rest ≡ drop n (places_of c)
unfolding places_of
places-after c rest n e = ap (map (λ mark. mark.offset)) e
    ∙ sym (drop-map (λ (mark : Mark). mark.offset) n (marks_of c))

-- where the walk ends early there are no more
pub text-short : (c rest : Cursor) (n : ℕ) → marks_of rest ≡ drop n (marks_of c)
    → marks_of rest ≡ [] → length (text_of c) ≤ n
unfolding text_of
text-short c rest n e none =
    rw length-map (omega (arith, ap length (sym e ∙ none), length-drop n (marks_of c)))

pub places-as-many : (c : Cursor) → length (places_of c) ≡ length (text_of c)
unfolding text_of places_of
places-as-many c = simp length-map refl
