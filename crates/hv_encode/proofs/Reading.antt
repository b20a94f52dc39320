-- What reading a line rests on.
use Rattle.std.proofs.Common.{◌≡◌, ◌≢◌, ℕ, ◌+◌, ◌<◌, ◌≤◌, true, false, List, [], ◌++◌, cond, nat_lt, sym, ◌∙◌, ap, arith, length, get_or, codes, decimal, Some, None, Option, IfSome, IfNone, Contains, eqb, take, drop, ◌-◌}
use denote.Ref.{Bor}
use Rattle.std.specs.Cmp.Lexicographic.{pointwise}
use Rattle.std.specs.List.{position, position_or_len}
use Rattle.std.specs.Str.{bytes_eq}
use Rattle.std.proofs.lemmas.Bool.Decides.{nat_tests, Decides-eqb}
use Rattle.std.proofs.lemmas.Slice.Eq.{bytes_eq-Decides, strip_prefix_is, strip_suffix_is}
use Rattle.std.proofs.lemmas.List.{append_cancel_left}
use Rattle.std.proofs.lemmas.List.Quantifiers.{position-Some}
use Rattle.std.proofs.lemmas.List.Sums.{fails_before_first}
use Rattle.hv_plain.specs.Source.{put, spelled}
use Rattle.hv_encode.specs.working.Lines.{name_at, IsOption}

-- no name behind a directive that the text does not begin with
pub no_directive : (names : List (List ℕ)) (directive text : List ℕ) (r : Option ℕ)
    → ((rest : List ℕ) → text ≢ directive ++ rest)
    → IfNone r ((name : List ℕ) → Contains names name → text ≢ directive ++ name)
no_directive names directive text None h = λ name among. h name
no_directive names directive text (Some option) h = tt

pub front_is : (s p : List ℕ) (x : Bor (List ℕ)) → (pointwise eqb (take (length p) s) p ≡ true)
    × (x.now ≡ drop (length p) s) × (length x.now + length p ≡ length s) → s ≡ p ++ x.now
front_is s p x h = strip_prefix_is Decides-eqb s p (Some x) h

pub back_is : (s p : List ℕ) (x : Bor (List ℕ))
    → (pointwise eqb (drop (length s - length p) s) p ≡ true)
    × (x.now ≡ take (length s - length p) s) × (length x.now + length p ≡ length s) → s ≡ x.now ++ p
back_is s p x h = strip_suffix_is Decides-eqb s p (Some x) h

pub found : (names : List (List ℕ)) (name : List ℕ) (option : ℕ)
    → Some option ≡ position (bytes_eq name) names → IsOption names option
    × (name ≡ name_at names option)
found names name option e =
    let is = position-Some (bytes_eq name) names option [] (sym e) in
    let same : name ≡ name_at names option = (bytes_eq-Decides name (name_at names option)).0 is.1
    in (
      record { within = is.0; first = ap (λ n. position (bytes_eq n) names) (sym same) ∙ sym e },
      same,
    )

pub passed : (n m : ℕ) → None ≡ cond (nat_lt n m) (Some n) None → m ≤ n
passed n m e = grind (arith, nat_tests)

pub not_found : (names : List (List ℕ)) (name : List ℕ) → None ≡ position (bytes_eq name) names
    → Contains names name → ⊥
not_found names name e h =
    let all = passed (position_or_len (bytes_eq name) names) (length names) e in
    let here : bytes_eq name (get_or names h.0 name) ≡ true =
    (bytes_eq-Decides name (get_or names h.0 name)).1 (sym h.2) in
    let before = fails_before_first (bytes_eq name) names h.0 name (omega (arith, h.1)) in
    let wrong : true ≡ false = sym here ∙ before in cc

pub some_option : (names : List (List ℕ)) (directive text name : List ℕ) (r : Option ℕ)
    → r ≡ position (bytes_eq name) names → text ≡ directive ++ name
    → IfSome r (λ option. IsOption names option × (text ≡ directive ++ name_at names option))
some_option names directive text name None e t = tt
some_option names directive text name (Some option) e t =
    let is = found names name option e in (is.0, t ∙ ap (λ n. directive ++ n) is.1)

pub no_option : (names : List (List ℕ)) (directive text name : List ℕ) (r : Option ℕ)
    → r ≡ position (bytes_eq name) names → text ≡ directive ++ name
    → IfNone r ((other : List ℕ) → Contains names other → text ≢ directive ++ other)
no_option names directive text name (Some option) e t = tt
no_option names directive text name None e t = λ other h u.
    let same : name ≡ other = append_cancel_left directive name other (sym t ∙ u) in
    not_found names name e (rw same h)

pub some_put : (text behind digits : List ℕ) (r : Option ℕ) → text ≡ codes "putchar(" ++ behind
    → behind ≡ digits ++ codes ");"
    → IfSome r (λ n. (n < 256) × (digits ≡ decimal n))
    → IfSome r (λ n. (n < 256) × (text ≡ spelled (put n)))
some_put text behind digits None t b h = tt
some_put text behind digits (Some n) t b h =
    (h.0, t ∙ ap (λ rest. codes "putchar(" ++ rest) (b ∙ ap (λ d. d ++ codes ");") h.1))
