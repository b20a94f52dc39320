-- Texts of configurations.
use Rattle.std.proofs.Common.{◌≡◌, ℕ, zero, suc, ◌+◌, ◌<◌, ◌≤◌, Bool, true, false, not, List, [], ◌∷◌, ◌++◌, cond, refl, sym, ◌∙◌, ap, arith, length, take, get_or, set, map, add-one, append_assoc, length-append, Option, Some, replicate}
use Rattle.std.specs.Prelude.{nat_lt, slice_get}
use Rattle.std.specs.List.{All, list_all, list_any, position, position_or_len, slice_split, join_with_byte}
use Rattle.std.specs.Str.{bytes_eq}
use Rattle.std.specs.Borrow.{Bor}
use Rattle.std.proofs.Math.Seq.{get_or-append_seam, set-append_seam}
use Rattle.std.proofs.lemmas.Bool.Decides.{nat_tests}
use Rattle.std.proofs.lemmas.List.{take_all}
use Rattle.std.proofs.lemmas.List.Elements.{All-cons}
use Rattle.std.proofs.lemmas.List.Splits.{slice_split_at, slice_split_none}
use Rattle.std.proofs.lemmas.Slice.Eq.{bytes_eq-Decides}
use Rattle.hv_base.proofs.Booleans.{and_left, and_right, or_left, or_right}
use Rattle.hv_model.specs.Config.{ConfigReading, config, repeated, config_from, config_of, is_comma, names_on, pieces_of, text_of, IsConfigFault}
use Rattle.hv_model.specs.working.Pieces.{rest_len}
use Rattle.hv_model.specs.declared.faults.ConfigFault.{ConfigFault}
use Rattle.hv_base.specs.Ascii.{is_nondigit, is_identifier_byte}
use Rattle.hv_model.specs.Name.{is_name, AllOptionNames, are_distinct}

abbrev pub is_none : List (List ℕ) → Bool
is_none [] = true
is_none (_ ∷ _) = false

-- texts that differ do so either way
bytes_eq-flip : (xs ys : List ℕ) → bytes_eq xs ys ≡ false → bytes_eq ys xs ≡ false
bytes_eq-flip xs ys e =
    elim (bytes_eq ys xs) as (λ b. bytes_eq ys xs ≡ b → b ≡ false) [
      | true ↦ λ h. let same : ys ≡ xs = (bytes_eq-Decides ys xs).0 h in
          sym ((bytes_eq-Decides xs ys).1 (sym same)) ∙ e
      | false ↦ λ h. refl
    ] refl

list_any-push : (p : List ℕ → Bool) (xs : List (List ℕ)) (y : List ℕ) → list_any p xs ≡ false
    → p y ≡ false → list_any p (xs ++ y ∷ []) ≡ false
list_any-push p [] y e f = rw f refl
list_any-push p (x ∷ xs) y e f =
    let first : p x ≡ false = or_left (p x) (list_any p xs) e in
    let others : list_any p (xs ++ y ∷ []) ≡ false =
    list_any-push p xs y (or_right (p x) (list_any p xs) e) f in
    rw (first, others) refl

not_true : (a : Bool) → not a ≡ true → a ≡ false
not_true true e = cc
not_true false e = refl

pub are_distinct-push : (names : List (List ℕ)) (name : List ℕ) → are_distinct names ≡ true
    → list_any (bytes_eq name) names ≡ false → are_distinct (names ++ name ∷ []) ≡ true
are_distinct-push [] name d e = refl
are_distinct-push (x ∷ xs) name d e =
    let other : bytes_eq x name ≡ false =
    bytes_eq-flip name x (or_left (bytes_eq name x) (list_any (bytes_eq name) xs) e) in
    let first : list_any (bytes_eq x) (xs ++ name ∷ []) ≡ false =
    list_any-push (bytes_eq x) xs name
    (not_true _ (and_left (not (list_any (bytes_eq x) xs)) (are_distinct xs) d)) other in
    let others : are_distinct (xs ++ name ∷ []) ≡ true =
    are_distinct-push xs name (and_right (not (list_any (bytes_eq x) xs)) (are_distinct xs) d)
    (or_right (bytes_eq name x) (list_any (bytes_eq name) xs) e) in
    rw (first, others) refl

get_or-from_slice_get : {X : Type 0} (xs : List X) (i : ℕ) (x d : X) → slice_get xs i ≡ Some x
    → get_or xs i d ≡ x
get_or-from_slice_get [] i x d e = cc
get_or-from_slice_get (y ∷ ys) zero x d e = cc
get_or-from_slice_get (y ∷ ys) (suc i) x d e =
    get_or-from_slice_get ys i x d (slice_get-cons ys y i ∙ e)
  where
    slice_get-cons : {X : Type 0} (ys : List X) (y : X) (i : ℕ)
        → slice_get ys i ≡ slice_get (y ∷ ys) (suc i)
    slice_get-cons ys y i = refl

names_on-more : (names : List (List ℕ)) (on : List Bool) (i : ℕ) → i < length names → i < length on
    → names_on (take (suc i) names) (take (suc i) on) ≡ names_on (take i names) (take i on) ++
    cond (get_or on i false) (get_or names i [] ∷ []) []
names_on-more [] on i h k = absurd (omega arith)
names_on-more (name ∷ names) [] i h k = absurd (omega arith)
names_on-more (name ∷ names) (v ∷ on) zero h k = refl
names_on-more (name ∷ names) (true ∷ on) (suc i) h k =
    ap (λ xs. name ∷ xs) (names_on-more names on i (omega arith) (omega arith))
names_on-more (name ∷ names) (false ∷ on) (suc i) h k =
    names_on-more names on i (omega arith) (omega arith)

join-push : (xs : List (List ℕ)) (x : List ℕ)
    → join_with_byte 44 (xs ++ x ∷ []) ≡ cond (is_none xs) x (join_with_byte 44 xs ++ 44 ∷ x)
join-push [] x = refl
join-push (y ∷ []) x = refl
join-push (y ∷ z ∷ xs) x = ap (λ r. y ++ (44 ∷ r)) (join-push (z ∷ xs) x)
    ∙ sym (append_assoc y (44 ∷ join_with_byte 44 (z ∷ xs)) (44 ∷ x))

some_more : (xs : List (List ℕ)) (x : List ℕ) → false ≡ is_none (xs ++ x ∷ [])
some_more [] x = refl
some_more (y ∷ xs) x = refl

joined : (xs : List (List ℕ)) (x text : List ℕ) (first : Bool) → text ≡ join_with_byte 44 xs
    → first ≡ is_none xs → cond first (text ++ x) (text ++ 44 ∷ x) ≡ join_with_byte 44 (xs ++ x ∷
    [])
joined [] x text first e f = rw (e, f) refl
joined (y ∷ xs) x text first e f = rw (e, f) (sym (join-push (y ∷ xs) x))

more_on : (names : List (List ℕ)) (on : List Bool) (i : ℕ) (name : List ℕ) (v : Bool)
    → i < length names → length on ≡ length names → slice_get on i ≡ Some v
    → slice_get names i ≡ Some name
    → names_on (take (i + 1) names) (take (i + 1) on) ≡ names_on (take i names) (take i on) ++
    cond v (name ∷ []) []
more_on names on i name v h n e f =
    ap (λ k. names_on (take k names) (take k on)) (add-one i)
    ∙ (names_on-more names on i h (omega arith)
    ∙ (ap (λ b. names_on (take i names) (take i on) ++ cond b (get_or names i [] ∷ []) [])
    (get_or-from_slice_get on i v false e)
    ∙ ap (λ x. names_on (take i names) (take i on) ++ cond v (x ∷ []) [])
    (get_or-from_slice_get names i name [] f)))

pub printed_on : (names : List (List ℕ)) (on : List Bool) (i : ℕ) (name text now : List ℕ)
    (first : Bool)
    → (text ≡ text_of (take i names) (take i on))
    × (first ≡ is_none (names_on (take i names) (take i on))) → i < length names
    → length on ≡ length names
    → slice_get on i ≡ Some true → slice_get names i ≡ Some name
    → now ≡ cond first (text ++ name) (text ++ 44 ∷ name)
    → (now ≡ text_of (take (i + 1) names) (take (i + 1) on))
    × (false ≡ is_none (names_on (take (i + 1) names) (take (i + 1) on)))
printed_on names on i name text now first h lt n e f g =
    let more = more_on names on i name true lt n e f in (
      g ∙ (joined (names_on (take i names) (take i on)) name text first h.0 h.1
          ∙ sym (ap (join_with_byte 44) more)),
      some_more (names_on (take i names) (take i on)) name ∙ sym (ap is_none more),
    )

pub get_or-slice_get : {X : Type 0} (xs : List X) (i : ℕ) (d : X) → i < length xs
    → slice_get xs i ≡ Some (get_or xs i d)
get_or-slice_get [] i d h = absurd (omega arith)
get_or-slice_get (x ∷ xs) zero d h = refl
get_or-slice_get (x ∷ xs) (suc i) d h = get_or-slice_get xs i d (omega arith)

append_none : {X : Type 0} (xs : List X) → xs ++ [] ≡ xs
append_none [] = refl
append_none (x ∷ xs) = ap (λ ys. x ∷ ys) (append_none xs)

pub printed_off : (names : List (List ℕ)) (on : List Bool) (i : ℕ) (text : List ℕ) (first : Bool)
    → (text ≡ text_of (take i names) (take i on))
    × (first ≡ is_none (names_on (take i names) (take i on))) → i < length names
    → length on ≡ length names
    → slice_get on i ≡ Some false
    → (text ≡ text_of (take (i + 1) names) (take (i + 1) on))
    × (first ≡ is_none (names_on (take (i + 1) names) (take (i + 1) on)))
printed_off names on i text first h lt n e =
    let more = more_on names on i (get_or names i []) false lt n e (get_or-slice_get names i [] lt)
    ∙ append_none (names_on (take i names) (take i on)) in
    (h.0 ∙ sym (ap (join_with_byte 44) more), h.1 ∙ sym (ap is_none more))

-- reading back
position-at : (name : List ℕ) (done rest : List (List ℕ)) → list_any (bytes_eq name) done ≡ false
    → position_or_len (bytes_eq name) (done ++ name ∷ rest) ≡ length done
position-at name [] rest e = let same : bytes_eq name name ≡ true =
    (bytes_eq-Decides name name).1 refl in rw same refl
position-at name (x ∷ done) rest e =
    let other : bytes_eq name x ≡ false =
    or_left (bytes_eq name x) (list_any (bytes_eq name) done) e in
    let more =
    position-at name done rest (or_right (bytes_eq name x) (list_any (bytes_eq name) done) e) in
    rw (other, more) (omega arith)

position_is : (name : List ℕ) (done rest : List (List ℕ)) → list_any (bytes_eq name) done ≡ false
    → position (bytes_eq name) (done ++ name ∷ rest) ≡ Some (length done)
position_is name done rest e =
    let at = position-at name done rest e in
    let lt : nat_lt (length done) (length (done ++ name ∷ rest)) ≡ true =
    below (length done) _ (omega (arith, length-append done (name ∷ rest))) in
    rw (at, lt) refl
  where
    below : (a b : ℕ) → a < b → nat_lt a b ≡ true
    below a b h = grind (arith, nat_tests)

distinct_before : (name : List ℕ) (done rest : List (List ℕ))
    → are_distinct (done ++ name ∷ rest) ≡ true → list_any (bytes_eq name) done ≡ false
distinct_before name [] rest d = refl
distinct_before name (x ∷ done) rest d =
    let none : list_any (bytes_eq x) (done ++ name ∷ rest) ≡ false =
    not_true _ (and_left (not (list_any (bytes_eq x) (done ++ name ∷ rest)))
    (are_distinct (done ++ name ∷ rest)) d) in
    let first : bytes_eq name x ≡ false = bytes_eq-flip x name (among done rest x none) in
    let others =
    distinct_before name done rest
    (and_right (not (list_any (bytes_eq x) (done ++ name ∷ rest)))
    (are_distinct (done ++ name ∷ rest)) d) in
    rw (first, others) refl
  where
    among : (done rest : List (List ℕ)) (x : List ℕ)
        → list_any (bytes_eq x) (done ++ name ∷ rest) ≡ false → bytes_eq x name ≡ false
    among [] rest x e = or_left (bytes_eq x name) (list_any (bytes_eq x) rest) e
    among (y ∷ done) rest x e =
        among done rest x (or_right (bytes_eq x y) (list_any (bytes_eq x) (done ++ name ∷ rest)) e)

abbrev all_off : List (List ℕ) → List Bool
all_off names = map (λ _. false) names

one_more : {X : Type 0} (xs : List X) (y : X) (ys : List X) → xs ++ y ∷ ys ≡ (xs ++ y ∷ []) ++ ys
one_more xs y ys = sym (append_assoc xs (y ∷ []) ys)

read_back_from : (done names : List (List ℕ)) (before on : List Bool) (n : ℕ)
    → length before ≡ length done → length on ≡ length names → are_distinct (done ++ names) ≡ true
    → config_from (done ++ names) (before ++ all_off names) n (names_on names on)
    ≡ config (before ++ on)
read_back_from done [] before [] n b o d = refl
read_back_from done [] before (v ∷ on) n b o d = absurd (omega arith)
read_back_from done (name ∷ names) before [] n b o d = absurd (omega arith)
read_back_from done (name ∷ names) before (false ∷ on) n b o d =
    rw (one_more done name names, one_more before false (all_off names), one_more before false on)
    (read_back_from (done ++ name ∷ []) names (before ++ false ∷ []) on n
    (omega (arith, length-append before (false ∷ []), length-append done (name ∷ []))) (omega arith)
    (rw (one_more done name names) at d))
read_back_from done (name ∷ names) before (true ∷ on) n b o d =
    taken_at (position_is name done names (distinct_before name done names d))
    ∙ (ap (λ k. cond (get_or (before ++ false ∷ all_off names) k false) (repeated n)
    (config_from (done ++ name ∷ names) (set (before ++ false ∷ all_off names) k true) (n + 1)
    (names_on names on))) (sym b)
    ∙ (ap (λ v. cond v (repeated n)
    (config_from (done ++ name ∷ names) (set (before ++ false ∷ all_off names) (length before) true)
    (n + 1) (names_on names on))) (get_or-append_seam before false (all_off names) false)
    ∙ (ap (λ vs. config_from (done ++ name ∷ names) vs (n + 1) (names_on names on))
    (set-append_seam before false (all_off names) true)
    ∙ rw (one_more done name names, one_more before true (all_off names), one_more before true on)
    (read_back_from (done ++ name ∷ []) names (before ++ true ∷ []) on (n + 1)
    (omega (arith, length-append before (true ∷ []), length-append done (name ∷ []))) (omega arith)
    (rw (one_more done name names) at d)))))
  where
    taken_at : position (bytes_eq name) (done ++ name ∷ names) ≡ Some (length done)
        → config_from (done ++ name ∷ names) (before ++ false ∷ all_off names) n
        (name ∷ names_on names on)
        ≡ cond (get_or (before ++ false ∷ all_off names) (length done) false) (repeated n)
        (config_from (done ++ name ∷ names)
        (set (before ++ false ∷ all_off names) (length done) true) (n + 1) (names_on names on))
    taken_at e = rw (e, config_from) refl

letter_no_comma : (byte : ℕ) → is_nondigit byte ≡ true → is_comma byte ≡ false
letter_no_comma byte e = grind (arith, nat_tests)

name_byte_no_comma : (byte : ℕ) → is_identifier_byte byte ≡ true → is_comma byte ≡ false
name_byte_no_comma byte e = grind (arith, nat_tests)

name_bytes_no_comma : (bytes : List ℕ) → list_all is_identifier_byte bytes ≡ true
    → All (λ byte. is_comma byte ≡ false) bytes
name_bytes_no_comma [] e = λ k d h. absurd (omega arith)
name_bytes_no_comma (byte ∷ bytes) e =
    All-cons (λ b. is_comma b ≡ false) byte bytes
    (name_byte_no_comma byte (and_left _ (list_all is_identifier_byte bytes) e))
    (name_bytes_no_comma bytes (and_right (is_identifier_byte byte) _ e))

name_no_comma : (name : List ℕ) → is_name name ≡ true → (0 < length name)
    × All (λ byte. is_comma byte ≡ false) name
name_no_comma [] e = cc
name_no_comma (byte ∷ bytes) e = (
  omega arith,
  All-cons (λ b. is_comma b ≡ false) byte bytes
      (letter_no_comma byte (and_left _ (list_all is_identifier_byte bytes) e))
      (name_bytes_no_comma bytes (and_right (is_nondigit byte) _ e)),
)

-- texts that are not empty and have no comma
abbrev AreClean : List (List ℕ) → Type 0
AreClean [] = Unit {0}
AreClean (x ∷ xs) = ((0 < length x) × All (λ byte. is_comma byte ≡ false) x) × AreClean xs

clean_names_on : (names : List (List ℕ)) (on : List Bool) → AllOptionNames names
    → AreClean (names_on names on)
clean_names_on [] on h = tt
clean_names_on (name ∷ names) [] h = tt
clean_names_on (name ∷ names) (true ∷ on) h = (
  name_no_comma name (and_left (is_name name) _ (and_left _ _ (h 0 [] (omega arith)))),
  clean_names_on names on (λ k d lt. h (suc k) d (omega arith)),
)
clean_names_on (name ∷ names) (false ∷ on) h =
    clean_names_on names on (λ k d lt. h (suc k) d (omega arith))

split_joined : (p : List ℕ) (ps : List (List ℕ)) → AreClean (p ∷ ps)
    → slice_split is_comma (join_with_byte 44 (p ∷ ps)) ≡ p ∷ ps
split_joined p [] h = slice_split_none is_comma p h.0.1
split_joined p (q ∷ ps) h =
    slice_split_at is_comma p 44 (join_with_byte 44 (q ∷ ps)) h.0.1 refl
    ∙ ap (λ xs. p ∷ xs) (split_joined q ps h.1)

pieces_some : (text : List ℕ) → 0 < length text → pieces_of text ≡ slice_split is_comma text
pieces_some [] h = absurd (omega arith)
pieces_some (byte ∷ bytes) h = refl

joined_some : (p : List ℕ) (ps : List (List ℕ)) → 0 < length p
    → 0 < length (join_with_byte 44 (p ∷ ps))
joined_some p [] h = h
joined_some p (q ∷ ps) h = omega (arith, length-append p (44 ∷ join_with_byte 44 (q ∷ ps)))

pieces_joined : (ps : List (List ℕ)) → AreClean ps → pieces_of (join_with_byte 44 ps) ≡ ps
pieces_joined [] h = refl
pieces_joined (p ∷ ps) h = pieces_some (join_with_byte 44 (p ∷ ps)) (joined_some p ps h.0.0)
    ∙ split_joined p ps h

pub read_back : (names : List (List ℕ)) (on : List Bool) → AllOptionNames names
    → are_distinct names ≡ true → length on ≡ length names
    → config_of names (text_of names on) ≡ config on
read_back names on all distinct n =
    ap (config_from names (all_off names) 0)
    (pieces_joined (names_on names on) (clean_names_on names on all))
    ∙ read_back_from [] names [] on 0 refl n distinct

pub read_back_at : (names : List (List ℕ)) (on : List Bool) (i : ℕ) (text : List ℕ)
    → text ≡ text_of (take i names) (take i on) → length names ≤ i → AllOptionNames names
    → are_distinct names ≡ true → length on ≡ length names
    → config_of names text ≡ config on
read_back_at names on i text e h all distinct n =
    ap (config_of names) (e
    ∙ (ap (λ ns. text_of ns (take i on)) (take_all i names h)
    ∙ ap (text_of names) (take_all i on (omega arith)))) ∙ read_back names on all distinct n

pub rest_smaller : (rest more : Option (Bor (List ℕ))) (pieces : Bor (List ℕ)) → rest ≡ Some pieces
    → rest_len more ≤ length pieces.now → rest_len more < rest_len rest
rest_smaller rest more pieces e h = rw e (omega arith)

pub fault_at : (a b : ConfigReading) (fault : ConfigFault) → a ≡ b → IsConfigFault b fault
    → IsConfigFault a fault
fault_at a b fault e h = rw e h

pub all_off-replicate : (names : List (List ℕ)) (n : ℕ) → n ≡ length names
    → map (λ _. false) names ≡ replicate n false
all_off-replicate names n e = counted names ∙ ap (λ k. replicate k false) (sym e)
  where
    counted : (names : List (List ℕ)) → map (λ _. false) names ≡ replicate (length names) false
    counted [] = refl
    counted (name ∷ names) = ap (λ on. false ∷ on) (counted names)

pub length-all_off : (names : List (List ℕ)) → length (map (λ _. false) names) ≡ length names
length-all_off [] = refl
length-all_off (name ∷ names) = rw (length-all_off names) refl
