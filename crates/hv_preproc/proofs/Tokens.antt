-- The tokens of C that entries give are those of their episodes: each is the same token, and what it
-- comes from belongs to what identifies it.
use Rattle.std.proofs.Common.{◌≡◌, ◌+◌, ◌<◌, suc, ℕ, List, [], ◌∷◌, ◌++◌, length, refl, sym, ◌∙◌, ap, ap₂, subst, arith}
use Rattle.std.specs.Prelude.{map, zip, Result, Ok, Err}
use Rattle.std.specs.List.{All, Contains}
use Rattle.std.proofs.lemmas.List.Elements.{All-cons, All-head, All-tail, All-nil}
use Rattle.hv_base.specs.declared.place.Place.{Place}
use Rattle.hv_base.specs.declared.place.Start.{Start}
use Rattle.hv_base.specs.declared.token.CTok.{CTok}
use Rattle.hv_base.specs.declared.token.CTok.TheVariants.{Keyword, Name, Int, Char, Str, Punct}
use Rattle.hv_base.specs.declared.why.Why.{Why}
use Rattle.hv_ctoks.specs.Conversion.{converted}
use Rattle.hv_ctoks.specs.Joining.{before_joined, joined}
use Rattle.hv_ctoks.specs.declared.reserved.ReservedNames.{ReservedNames}
use Rattle.hv_given.specs.Given.{AreEpisodes, IsEpisode, tokens_of, with_starts}
use Rattle.hv_given.specs.declared.given.Given.{Given}
use Rattle.hv_plainpp.specs.CTokens.{Identity, c_tokens, given, identified, with_token}
use Rattle.hv_plainpp.specs.Reading.{Ending, Met, reaches, refused}
use Rattle.hv_preproc.specs.Preprocessed.{AreTokens}
use Rattle.hv_toks.specs.Spelled.{Spelled, all_spelled}

------ tokens in step

-- a start belongs to an identity
abbrev pub Belongs : Type 1
Belongs = Start → Identity → Type 0

-- the same tokens, in order, whose starts belong to their identities
abbrev pub AreOne : {T : Type 0} → Belongs → List (T × Start) → List (T × Identity) → Type 0
AreOne R [] [] = Unit {0}
AreOne R [] (u ∷ us) = ⊥
AreOne R (t ∷ ts) [] = ⊥
AreOne R (t ∷ ts) (u ∷ us) = (t.0 ≡ u.0) × R t.1 u.1 × AreOne R ts us

-- a start has the place and the index of an identity
pub record IsAt (s : Start) (i : Identity) : Type 0 where
  pub place : s.place ≡ i.place
  pub index : s.index ≡ i.index

pub one_append : {T : Type 0} (R : Belongs) (ts more : List (T × Start))
    (us rest : List (T × Identity)) → AreOne R ts us → AreOne R more rest
    → AreOne R (ts ++ more) (us ++ rest)
one_append R [] more [] rest p q = q
one_append R [] more (u ∷ us) rest p q = absurd p
one_append R (t ∷ ts) more [] rest p q = absurd p
one_append R (t ∷ ts) more (u ∷ us) rest p q = (p.0, p.1, one_append R ts more us rest p.2 q)

pub one_weaker : {T : Type 0} (R Q : Belongs) → ((s : Start) (i : Identity) → R s i → Q s i)
    → (ts : List (T × Start)) (us : List (T × Identity)) → AreOne R ts us → AreOne Q ts us
one_weaker R Q f [] [] p = tt
one_weaker R Q f [] (u ∷ us) p = absurd p
one_weaker R Q f (t ∷ ts) [] p = absurd p
one_weaker R Q f (t ∷ ts) (u ∷ us) p = (p.0, f t.1 u.1 p.1, one_weaker R Q f ts us p.2)

------ the tokens that episodes give

-- an entry with its episode is among these, and a start with this place, this number and some index
-- belongs to the identity with the episode's face and the same index
pub record IsFrom (pairs : List (Given × Met)) (s : Start) (i : Identity) : Type 0 where
  pub from : Given × Met
  pub among : Contains pairs from
  pub place : s.place ≡ i.place
  pub index : s.index ≡ i.index
  pub spot : s.place ≡ from.0.place
  pub number : s.face ≡ from.0.face
  pub face : i.face ≡ from.1.face

later : {X : Type 0} (x : X) (xs : List X) (y : X) → Contains xs y → Contains (x ∷ xs) y
later x xs y c = (suc c.0, omega (arith, c.1), c.2)

from_later : (p : Given × Met) (pairs : List (Given × Met)) (s : Start) (i : Identity)
    → IsFrom pairs s i → IsFrom (p ∷ pairs) s i
from_later p pairs s i f = record {
  from = f.from;
  among = later p pairs f.from f.among;
  place = f.place;
  index = f.index;
  spot = f.spot;
  number = f.number;
  face = f.face;
}

first_of : (p : Given × Met) (pairs : List (Given × Met)) → Contains (p ∷ pairs) p
first_of p pairs = (0, omega arith, refl)

episode_one : (g : Given) (m : Met) (pairs : List (Given × Met)) → g.place ≡ m.place
    → (index : ℕ) (tokens : List Spelled)
    → AreOne (IsFrom ((g, m) ∷ pairs)) (with_starts g index tokens)
    (identified m.place m.face index tokens)
episode_one g m pairs e index [] = tt
episode_one g m pairs e index (s ∷ tokens) = (
  refl,
  record {
    from = (g, m);
    among = first_of (g, m) pairs;
    place = e;
    index = refl;
    spot = refl;
    number = refl;
    face = refl;
  },
  episode_one g m pairs e (index + 1) tokens,
)

-- the tokens that entries give are those of their episodes
pub episodes_one : (gs : List Given) (ms : List Met) → AreEpisodes gs ms
    → AreOne (IsFrom (zip gs ms)) (tokens_of gs) (given ms)
episodes_one [] [] p = tt
episodes_one [] (m ∷ ms) p = absurd p
episodes_one (g ∷ gs) [] p = absurd p
episodes_one (g ∷ gs) (m ∷ ms) p =
    one_append (IsFrom ((g, m) ∷ zip gs ms)) (with_starts g 0 (all_spelled g.tokens)) (tokens_of gs)
    (identified m.place m.face 0 m.gives) (given ms)
    (subst (λ (tokens : List Spelled). AreOne (IsFrom ((g, m) ∷ zip gs ms))
    (with_starts g 0 (all_spelled g.tokens)) (identified m.place m.face 0 tokens)) p.0.tokens
    (episode_one g m (zip gs ms) p.0.place 0 (all_spelled g.tokens)))
    (one_weaker (IsFrom (zip gs ms)) (IsFrom ((g, m) ∷ zip gs ms)) (from_later (g, m) (zip gs ms))
    (tokens_of gs) (given ms) (episodes_one gs ms p.1))

------ tokens of C

-- tokens of C that end alike: the same tokens, or one refusal
abbrev pub EndAlike : Belongs → Ending (List (CTok × Start)) → Ending (List (CTok × Identity))
    → Type 0
EndAlike R (reaches ts) (reaches us) = AreOne R ts us
EndAlike R (reaches ts) (refused why place) = ⊥
EndAlike R (refused why place) (reaches us) = ⊥
EndAlike R (refused why place) (refused cause at) = (why ≡ cause) × (place ≡ at)

abbrev pub start_place : Start → Place
start_place s = s.place

abbrev pub identity_place : Identity → Place
identity_place i = i.place

with_alike : (R : Belongs) → ((s : Start) (i : Identity) → R s i → s.place ≡ i.place)
    → (r : Result CTok Why) (s : Start) (i : Identity) → R s i
    → (x : Ending (List (CTok × Start))) (y : Ending (List (CTok × Identity))) → EndAlike R x y
    → EndAlike R (with_token start_place r s x) (with_token identity_place r i y)
with_alike R at (Err why) s i here x y p = (refl, at s i here)
with_alike R at (Ok tok) s i here (reaches ts) (reaches us) p = (refl, here, p)
with_alike R at (Ok tok) s i here (reaches ts) (refused why place) p = absurd p
with_alike R at (Ok tok) s i here (refused why place) (reaches us) p = absurd p
with_alike R at (Ok tok) s i here (refused why place) (refused cause spot) p = p

pub c_tokens_alike : (R : Belongs) → ((s : Start) (i : Identity) → R s i → s.place ≡ i.place)
    → (reserved : ReservedNames) (ts : List (Spelled × Start)) (us : List (Spelled × Identity))
    → AreOne R ts us
    → EndAlike R (c_tokens start_place reserved ts) (c_tokens identity_place reserved us)
c_tokens_alike R at reserved [] [] p = tt
c_tokens_alike R at reserved [] (u ∷ us) p = absurd p
c_tokens_alike R at reserved (t ∷ ts) [] p = absurd p
c_tokens_alike R at reserved (t ∷ ts) (u ∷ us) p =
    subst (λ (s : Spelled). EndAlike R (c_tokens start_place reserved (t ∷ ts))
    (with_token identity_place (converted reserved s.kind s.text) u.1
    (c_tokens identity_place reserved us))) p.0
    (with_alike R at (converted reserved t.0.kind t.0.text) t.1 u.1 p.1
    (c_tokens start_place reserved ts) (c_tokens identity_place reserved us)
    (c_tokens_alike R at reserved ts us p.2))

pub alike_reaches : (R : Belongs) (ts : List (CTok × Start))
    (y : Ending (List (CTok × Identity))) → EndAlike R (reaches ts) y
    → (us : List (CTok × Identity)) × (y ≡ reaches us) × AreOne R ts us
alike_reaches R ts (reaches us) p = (us, refl, p)
alike_reaches R ts (refused why place) p = absurd p

abbrev pub refused_so : {A : Type 0} → Why → Place → Ending A
refused_so why place = refused why place

pub alike_refused : (R : Belongs) (why : Why) (place : Place)
    (y : Ending (List (CTok × Identity))) → EndAlike R (refused why place) y
    → y ≡ refused why place
alike_refused R why place (reaches us) p = absurd p
alike_refused R why place (refused cause at) p =
    ap₂ (λ (w : Why) (q : Place). refused_so {A = List (CTok × Identity)} w q) (sym p.0) (sym p.1)

------ string literals that are joined

string_one : (R : Belongs) (bytes : List ℕ) (s : Start) (i : Identity) (d : CTok) (x : Start)
    (y : Identity) (ts : List (CTok × Start)) (us : List (CTok × Identity)) → R s i → R x y
    → AreOne R ts us
    → AreOne R (before_joined (Str bytes, s) ((d, x) ∷ ts))
    (before_joined (Str bytes, i) ((d, y) ∷ us))
string_one R bytes s i (Str more) x y ts us here next p = (refl, here, p)
string_one R bytes s i (Keyword word) x y ts us here next p = (refl, here, (refl, next, p))
string_one R bytes s i (Name name) x y ts us here next p = (refl, here, (refl, next, p))
string_one R bytes s i (Int value kind) x y ts us here next p = (refl, here, (refl, next, p))
string_one R bytes s i (Char value) x y ts us here next p = (refl, here, (refl, next, p))
string_one R bytes s i (Punct sign) x y ts us here next p = (refl, here, (refl, next, p))

before_string : (R : Belongs) (bytes : List ℕ) (s : Start) (i : Identity)
    (ts : List (CTok × Start)) (us : List (CTok × Identity)) → R s i → AreOne R ts us
    → AreOne R (before_joined (Str bytes, s) ts) (before_joined (Str bytes, i) us)
before_string R bytes s i [] [] here p = (refl, here, tt)
before_string R bytes s i [] (u ∷ us) here p = absurd p
before_string R bytes s i (t ∷ ts) [] here p = absurd p
before_string R bytes s i (t ∷ ts) (u ∷ us) here p =
    subst (λ (d : CTok). AreOne R (before_joined (Str bytes, s) (t ∷ ts))
    (before_joined (Str bytes, i) ((d, u.1) ∷ us))) p.0
    (string_one R bytes s i t.0 t.1 u.1 ts us here p.1 p.2)

before_one : (R : Belongs) (c : CTok) (s : Start) (i : Identity) (ts : List (CTok × Start))
    (us : List (CTok × Identity)) → R s i → AreOne R ts us
    → AreOne R (before_joined (c, s) ts) (before_joined (c, i) us)
before_one R (Str bytes) s i ts us here p = before_string R bytes s i ts us here p
before_one R (Keyword word) s i ts us here p = (refl, here, p)
before_one R (Name name) s i ts us here p = (refl, here, p)
before_one R (Int value kind) s i ts us here p = (refl, here, p)
before_one R (Char value) s i ts us here p = (refl, here, p)
before_one R (Punct sign) s i ts us here p = (refl, here, p)

-- the first part of a joined literal says where it comes from
pub joined_one : (R : Belongs) (ts : List (CTok × Start)) (us : List (CTok × Identity))
    → AreOne R ts us → AreOne R (joined ts) (joined us)
joined_one R [] [] p = tt
joined_one R [] (u ∷ us) p = absurd p
joined_one R (t ∷ ts) [] p = absurd p
joined_one R (t ∷ ts) (u ∷ us) p =
    subst (λ (d : CTok). AreOne R (before_joined t (joined ts)) (before_joined (d, u.1) (joined us)))
    p.0
    (before_one R t.0 t.1 u.1 (joined ts) (joined us) p.1 (joined_one R ts us p.2))

------ in other words

abbrev Row : Type 0
Row = CTok × Place × ℕ

abbrev row : CTok → Place → ℕ → Row
row tok place index = (tok, place, index)

abbrev start_rows : List (CTok × Start) → List Row
start_rows ts = map (λ (t : CTok × Start). row t.0 t.1.place t.1.index) ts

abbrev identity_rows : List (CTok × Identity) → List Row
identity_rows us = map (λ (u : CTok × Identity). row u.0 u.1.place u.1.index) us

row_same : (a b : CTok) (p q : Place) (m n : ℕ) → a ≡ b → p ≡ q → m ≡ n
    → row a p m ≡ row b q n
row_same a b p q m n e f g = λ k. row (e k) (f k) (g k)

nil_cons : (x : Row) (xs : List Row) → [] ≡ x ∷ xs → ⊥
nil_cons x xs e = cc

cons_nil : (x : Row) (xs : List Row) → x ∷ xs ≡ [] → ⊥
cons_nil x xs e = cc

cons_head : (x y : Row) (xs ys : List Row) → x ∷ xs ≡ y ∷ ys → x ≡ y
cons_head x y xs ys e = cc

cons_tail : (x y : Row) (xs ys : List Row) → x ∷ xs ≡ y ∷ ys → xs ≡ ys
cons_tail x y xs ys e = cc

pub tokens_from_one : (ts : List (CTok × Start)) (us : List (CTok × Identity)) → AreOne IsAt ts us
    → AreTokens ts us
tokens_from_one [] [] p = refl
tokens_from_one [] (u ∷ us) p = absurd p
tokens_from_one (t ∷ ts) [] p = absurd p
tokens_from_one (t ∷ ts) (u ∷ us) p =
    ap₂ (λ (r : Row) (rs : List Row). r ∷ rs)
    (row_same t.0 u.0 t.1.place u.1.place t.1.index u.1.index p.0 p.1.place p.1.index)
    (tokens_from_one ts us p.2)

pub one_from_tokens : (ts : List (CTok × Start)) (us : List (CTok × Identity)) → AreTokens ts us
    → AreOne IsAt ts us
one_from_tokens [] [] e = tt
one_from_tokens [] (u ∷ us) e =
    nil_cons (row u.0 u.1.place u.1.index) (identity_rows us) e
one_from_tokens (t ∷ ts) [] e =
    cons_nil (row t.0 t.1.place t.1.index) (start_rows ts) e
one_from_tokens (t ∷ ts) (u ∷ us) e =
    let first : row t.0 t.1.place t.1.index ≡ row u.0 u.1.place u.1.index =
    cons_head (row t.0 t.1.place t.1.index) (row u.0 u.1.place u.1.index) (start_rows ts)
    (identity_rows us) e in (
      ap (λ (r : Row). r.0) first,
      record { place = ap (λ (r : Row). r.1) first; index = ap (λ (r : Row). r.2) first },
      one_from_tokens ts us
          (cons_tail (row t.0 t.1.place t.1.index) (row u.0 u.1.place u.1.index) (start_rows ts)
          (identity_rows us) e),
    )

abbrev pub Pair : Type 0
Pair = (CTok × Start) × (CTok × Identity)

-- each token with its identity
pub all_from_one : (R : Belongs) (ts : List (CTok × Start)) (us : List (CTok × Identity))
    → AreOne R ts us → All (λ (p : Pair). R p.0.1 p.1.1) (zip ts us)
all_from_one R [] [] p = All-nil (λ (p : Pair). R p.0.1 p.1.1)
all_from_one R [] (u ∷ us) p = absurd p
all_from_one R (t ∷ ts) [] p = absurd p
all_from_one R (t ∷ ts) (u ∷ us) p =
    All-cons (λ (p : Pair). R p.0.1 p.1.1) (t, u) (zip ts us) p.1 (all_from_one R ts us p.2)

pub one_from_all : (R Q : Belongs) (ts : List (CTok × Start)) (us : List (CTok × Identity))
    → AreOne R ts us → All (λ (p : Pair). Q p.0.1 p.1.1) (zip ts us) → AreOne Q ts us
one_from_all R Q [] [] p all = tt
one_from_all R Q [] (u ∷ us) p all = absurd p
one_from_all R Q (t ∷ ts) [] p all = absurd p
one_from_all R Q (t ∷ ts) (u ∷ us) p all = (
  p.0,
  All-head (λ (p : Pair). Q p.0.1 p.1.1) (t, u) (zip ts us) all,
  one_from_all R Q ts us p.2 (All-tail (λ (p : Pair). Q p.0.1 p.1.1) (t, u) (zip ts us) all),
)
