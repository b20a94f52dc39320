-- Texts with open digits: what is spelled within a literal, and that digits don't tell whether a
-- text is one token or a mark.
use Rattle.std.proofs.Common.{◌≡◌, ℕ, Bool, true, false, List, [], ◌∷◌, ◌++◌, Option, refl, sym, ap, ◌∙◌, append_assoc, reverse, take, length, suc, get_or, arith, ◌<◌, ◌≤◌, ◌+◌, add-one}
use Rattle.std.proofs.Math.Seq.{take-suc}
use Rattle.std.proofs.lemmas.List.{append-nil, reverse-append}
use Rattle.std.specs.Prelude.{◌&&◌, ◌||◌, ◌==◌, codes, nat_eq}
use Rattle.std.specs.Str.{bytes_eq}
use Rattle.hv_base.proofs.Booleans.{and_false}
use Rattle.hv_base.specs.Ascii as ascii
use Rattle.hv_toks.specs.Cutting.{whole_token}
use Rattle.hv_toks.specs.Macro.{Macro, undefined, defined}
use Rattle.hv_toks.specs.declared.token.PpKind.{PpKind}
use Rattle.hv_plain.specs.episode.Alike.{AlikeByte, same, zero_one, one_zero, Alike, end, next, alike_refl, alike_append, whole_token_alike}
use Rattle.hv_plain.specs.episode.Episode.{digit}
use Rattle.hv_plain.specs.episode.Invocation.{Mark, opening, closing, comma, none, mark}
use Rattle.hv_plain.specs.episode.Substitution.{escaped}
use Rattle.hv_rescan.specs.Values.{digits_of}
use Rattle.hv_rescan.specs.declared.draft.Draft.{Draft}
use Rattle.hv_rescan.specs.declared.spelling.Digit.{Digit}
use Rattle.hv_rescan.specs.working.Drafts.{digits_within, draft_of, nothing, within}

pub digits-append : (macros : List ℕ → Macro) (ds : List Digit) (d : Digit)
    → digits_of macros (ds ++ d ∷ []) ≡ digits_of macros ds ++ (d.before ++ digit (macros d.name) ∷ [])
digits-append macros [] d = refl
digits-append macros (e ∷ ds) d =
    ap (λ (x : List ℕ). e.before ++ digit (macros e.name) ∷ x) (digits-append macros ds d)
    ∙ sym (append_assoc e.before (digit (macros e.name) ∷ digits_of macros ds)
    (d.before ++ digit (macros d.name) ∷ []))

------ within a literal

abbrev escaped_byte : Bool → ℕ → List ℕ → List ℕ
escaped_byte v byte bytes = elim v [ true ↦ ascii.backslash ∷ byte ∷ bytes | false ↦ byte ∷ bytes ]

escaped_byte-append : (v : Bool) (byte : ℕ) (x y : List ℕ)
    → escaped_byte v byte (x ++ y) ≡ escaped_byte v byte x ++ y
escaped_byte-append true byte x y = refl
escaped_byte-append false byte x y = refl

pub escaped-append : (x y : List ℕ) → escaped (x ++ y) ≡ escaped x ++ escaped y
escaped-append [] y = refl
escaped-append (b ∷ x) y =
    let v : Bool = b == ascii.quote || b == ascii.backslash in
    ap (λ (w : List ℕ). escaped_byte v b w) (escaped-append x y)
    ∙ escaped_byte-append v b (escaped x) (escaped y)

pub within-append : (q : Bool) (x y : List ℕ) → within q (x ++ y) ≡ within q x ++ within q y
within-append true x y = escaped-append x y
within-append false x y = refl

within-digit : (q : Bool) (m : Macro) (x : List ℕ) → within q (digit m ∷ x) ≡ digit m ∷ within q x
within-digit true undefined x = refl
within-digit true (defined place body) x = refl
within-digit false m x = refl

pub within-digits : (q : Bool) (macros : List ℕ → Macro) (ds : List Digit) (tail : List ℕ)
    → within q (digits_of macros ds ++ tail) ≡ digits_within q macros ds ++ within q tail
within-digits q macros [] tail = refl
within-digits q macros (d ∷ ds) tail =
    let x : ℕ = digit (macros d.name) in
    ap (within q) (append_assoc d.before (x ∷ digits_of macros ds) tail)
    ∙ within-append q d.before (x ∷ (digits_of macros ds ++ tail))
    ∙ ap (λ (y : List ℕ). within q d.before ++ y) (within-digit q (macros d.name)
    (digits_of macros ds ++ tail) ∙ ap (λ (y : List ℕ). x ∷ y) (within-digits q macros ds tail))
    ∙ sym (append_assoc (within q d.before) (x ∷ digits_within q macros ds) (within q tail))

next_reversed : (ds : List Digit) (n : ℕ) (d : Digit) → n < length ds
    → reverse (take (suc n) ds) ≡ get_or ds n d ∷ reverse (take n ds)
next_reversed ds n d h = ap reverse (take-suc ds n d h) ∙ reverse-append (take n ds) (get_or ds n d ∷ [])

pub next_digit : (q : Bool) (macros : List ℕ → Macro) (ds : List Digit) (left n : ℕ) (d : Digit)
    (x y z : List ℕ) → left ≡ suc n → left ≤ length ds → d ≡ get_or ds n d
    → y ≡ x ++ within q d.before → z ≡ y ++ digit (macros d.name) ∷ []
    → z ++ digits_within q macros (reverse (take n ds))
    ≡ x ++ digits_within q macros (reverse (take left ds))
next_digit q macros ds left n d x y z l h e py pz =
    let rest : List ℕ = digits_within q macros (reverse (take n ds)) in
    let lt : n < length ds = omega arith in
    let whole : digits_within q macros (reverse (take left ds))
    ≡ within q d.before ++ digit (macros d.name) ∷ rest =
    ap (λ (k : ℕ). digits_within q macros (reverse (take k ds))) l
    ∙ ap (digits_within q macros) (next_reversed ds n d lt)
    ∙ ap (λ (v : Digit). within q v.before ++ digit (macros v.name) ∷ rest) (sym e) in
    ap (λ (v : List ℕ). v ++ rest) pz
    ∙ append_assoc y (digit (macros d.name) ∷ []) rest
    ∙ ap (λ (v : List ℕ). v ++ digit (macros d.name) ∷ rest) py
    ∙ append_assoc x (within q d.before) (digit (macros d.name) ∷ rest)
    ∙ ap (λ (v : List ℕ). x ++ v) (sym whole)

------ digits don't matter

alike_digit : (m n : Macro) → AlikeByte (digit m) (digit n)
alike_digit undefined undefined = same 48
alike_digit undefined (defined place body) = zero_one
alike_digit (defined place body) undefined = one_zero
alike_digit (defined place body) (defined other_place other_body) = same 49

alike_digits : (macros others : List ℕ → Macro) (ds : List Digit)
    → Alike (digits_of macros ds) (digits_of others ds)
alike_digits macros others [] = end
alike_digits macros others (d ∷ ds) =
    alike_append (alike_refl d.before)
    (next (alike_digit (macros d.name) (others d.name)) (alike_digits macros others ds))

pub whole_as_nothing : (macros : List ℕ → Macro) (d : Draft) (kind : Option PpKind)
    → kind ≡ whole_token (draft_of nothing d) → whole_token (draft_of macros d) ≡ kind
whole_as_nothing macros d kind e =
    whole_token_alike (alike_append (alike_digits macros nothing d.digits) (alike_refl d.tail))
    ∙ sym e

-- a text with a digit in it isn't one byte that is no digit
not_byte : (c : ℕ) → nat_eq 48 c ≡ false → nat_eq 49 c ≡ false → (x y : List ℕ) (m : Macro)
    → bytes_eq (x ++ digit m ∷ y) (c ∷ []) ≡ false
not_byte c zero one [] y undefined = ap (λ (b : Bool). b && bytes_eq y []) zero
not_byte c zero one [] y (defined place body) = ap (λ (b : Bool). b && bytes_eq y []) one
not_byte c zero one (b ∷ []) y m = and_false (nat_eq b c)
not_byte c zero one (b ∷ b' ∷ x) y m = and_false (nat_eq b c)

abbrev marked : Bool → Bool → Bool → Mark
marked o c k = elim o [
  | true ↦ opening
  | false ↦ elim c [ true ↦ closing | false ↦ elim k [ true ↦ comma | false ↦ none ] ]
]

pub not_mark : (x y : List ℕ) (m : Macro) → none ≡ mark (x ++ digit m ∷ y)
not_mark x y m =
    let o : bytes_eq (x ++ digit m ∷ y) (codes "(") ≡ false = not_byte 40 refl refl x y m in
    let c : bytes_eq (x ++ digit m ∷ y) (codes ")") ≡ false = not_byte 41 refl refl x y m in
    let k : bytes_eq (x ++ digit m ∷ y) (codes ",") ≡ false = not_byte 44 refl refl x y m in
    sym (ap (λ (v : Bool). marked v (bytes_eq (x ++ digit m ∷ y) (codes ")"))
    (bytes_eq (x ++ digit m ∷ y) (codes ","))) o
    ∙ ap (λ (v : Bool). marked false v (bytes_eq (x ++ digit m ∷ y) (codes ","))) c
    ∙ ap (λ (v : Bool). marked false false v) k)

-- the first digit tells
pub tells_digit : (x y z : List ℕ) (a b : ℕ) → x ++ a ∷ y ≡ x ++ b ∷ z → a ≡ b
tells_digit [] y z a b e = cc
tells_digit (c ∷ x) y z a b e =
    let rest : x ++ a ∷ y ≡ x ++ b ∷ z = cc in tells_digit x y z a b rest

------ one more

pub escaped_next : (xs : List ℕ) (i b : ℕ) → i < length xs
    → escaped (take (i + 1) xs) ≡ escaped (take i xs) ++ escaped (get_or xs i b ∷ [])
escaped_next xs i b h =
    ap (λ (k : ℕ). escaped (take k xs)) (add-one i)
    ∙ ap escaped (take-suc xs i b h)
    ∙ escaped-append (take i xs) (get_or xs i b ∷ [])

pub digits_next : (macros : List ℕ → Macro) (ds : List Digit) (i : ℕ) (d : Digit) → i < length ds
    → d ≡ get_or ds i d
    → digits_of macros (take (i + 1) ds)
    ≡ digits_of macros (take i ds) ++ (d.before ++ digit (macros d.name) ∷ [])
digits_next macros ds i d h e =
    ap (λ (k : ℕ). digits_of macros (take k ds)) (add-one i)
    ∙ ap (digits_of macros) (take-suc ds i d h)
    ∙ ap (λ (v : Digit). digits_of macros (take i ds ++ v ∷ [])) (sym e)
    ∙ digits-append macros (take i ds) d

pub digits_added : (macros : List ℕ → Macro) (ds es : List Digit) (tail left before name asked : List ℕ)
    → es ≡ ds ++ record { before = before; name = name } ∷ [] → left ≡ [] → before ≡ tail
    → name ≡ asked
    → digits_of macros es ++ left
    ≡ (digits_of macros ds ++ tail) ++ digit (macros asked) ∷ []
digits_added macros ds es tail left before name asked e n b a =
    let x : List ℕ = digit (macros name) ∷ [] in
    ap (λ (v : List Digit). digits_of macros v ++ left) e
    ∙ ap (λ (v : List ℕ). digits_of macros (ds ++ record { before = before; name = name } ∷ []) ++ v) n
    ∙ append-nil (digits_of macros (ds ++ record { before = before; name = name } ∷ []))
    ∙ digits-append macros ds (record { before = before; name = name })
    ∙ sym (append_assoc (digits_of macros ds) before x)
    ∙ ap (λ (v : List ℕ). (digits_of macros ds ++ v) ++ x) b
    ∙ ap (λ (v : List ℕ). (digits_of macros ds ++ tail) ++ digit (macros v) ∷ []) a

pub spelling_added : (q : Bool) (macros : List ℕ → Macro) (first : Digit) (more : List Digit)
    (tail old one two three last : List ℕ)
    → one ≡ old ++ within q first.before → two ≡ one ++ digit (macros first.name) ∷ []
    → three ≡ two ++ digits_within q macros more → last ≡ three ++ within q tail
    → last ≡ old ++ within q (digits_of macros (first ∷ more) ++ tail)
spelling_added q macros first more tail old one two three last e f g h =
    let x : List ℕ = digit (macros first.name) ∷ [] in
    let rest : List ℕ = digits_within q macros more in
    h
    ∙ ap (λ (v : List ℕ). v ++ within q tail) (g ∙ ap (λ (v : List ℕ). v ++ rest)
    (f ∙ ap (λ (v : List ℕ). v ++ x) e ∙ append_assoc old (within q first.before) x)
    ∙ append_assoc old (within q first.before ++ x) rest
    ∙ ap (λ (v : List ℕ). old ++ v) (append_assoc (within q first.before) x rest))
    ∙ append_assoc old (digits_within q macros (first ∷ more)) (within q tail)
    ∙ ap (λ (v : List ℕ). old ++ v) (sym (within-digits q macros (first ∷ more) tail))
