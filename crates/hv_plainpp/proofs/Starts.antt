-- No two tokens of C of a configuration have one place and one index.
use Rattle.std.proofs.Common.{◌≡◌, ℕ, ◌+◌, ◌<◌, List, [], ◌∷◌, ◌++◌, subst, arith, Result, Ok, Err}
use Rattle.hv_base.specs.declared.place.Place.{Place}
use Rattle.hv_base.specs.declared.token.CTok.{CTok}
use Rattle.hv_base.specs.declared.token.CTok.TheVariants.{Keyword, Name, Int, Char, Str, Punct}
use Rattle.hv_base.specs.declared.why.Why.{Why}
use Rattle.hv_ctoks.specs.Conversion.{converted}
use Rattle.hv_ctoks.specs.Joining.{before_joined, joined}
use Rattle.hv_ctoks.specs.declared.reserved.ReservedNames.{ReservedNames}
use Rattle.hv_model.specs.Beginning.{beginning}
use Rattle.hv_plain.specs.episode.Expansion.{Event}
use Rattle.hv_plainpp.proofs.Items.{Each, each_append}
use Rattle.hv_plainpp.proofs.FilePlacement.{places_differ}
use Rattle.hv_plainpp.specs.CTokens.{Identity, identified, given, with_token, c_tokens, with_strings_joined, ending_of}
use Rattle.hv_plainpp.specs.Laws.{IsFree, DifferInPlace, IsNew, DifferInStart, StartsDiffer}
use Rattle.hv_plainpp.specs.Preprocessing.{unit}
use Rattle.hv_plainpp.specs.Reading.{Met, Ending, reaches, refused, Reading}
use Rattle.hv_toks.specs.MacroState.{Entry, entries_of}
use Rattle.hv_toks.specs.Spelled.{Spelled}

------ identities

-- the place of a token's episode
abbrev place_of : Identity → Place
place_of i = i.place

-- two identities have one place and one index
abbrev Same : Identity → Identity → Type 0
Same i j = (i.place ≡ j.place) × (i.index ≡ j.index)

-- none of these preprocessing tokens has this place and index
abbrev Fresh : Identity → List (Spelled × Identity) → Type 0
Fresh i ts = Each (λ t. ¬ (Same i t.1)) ts

-- no two of these have one place and one index
abbrev Differ : List (Spelled × Identity) → Type 0
Differ [] = Unit {0}
Differ (t ∷ ts) = Fresh t.1 ts × Differ ts

differ_append : (ts us : List (Spelled × Identity)) → Differ ts → Differ us
    → Each (λ t. Fresh t.1 us) ts → Differ (ts ++ us)
differ_append [] us p q h = q
differ_append (t ∷ ts) us p q h =
    (each_append (λ u. ¬ (Same t.1 u.1)) ts us p.0 h.0, differ_append ts us p.1 q h.1)

------ the tokens of episodes

fresh_behind : (i : Identity) (place : Place) (face : List Event) (index : ℕ) (ts : List Spelled)
    → i.index < index → Fresh i (identified place face index ts)
fresh_behind i place face index [] h = tt
fresh_behind i place face index (s ∷ ts) h =
    ((λ e. omega (arith, h, e.1)), fresh_behind i place face (index + 1) ts (omega (arith, h)))

own_differ : (place : Place) (face : List Event) (index : ℕ) (ts : List Spelled)
    → Differ (identified place face index ts)
own_differ place face index [] = tt
own_differ place face index (s ∷ ts) = (
  fresh_behind (record { place = place; face = face; index = index }) place face (index + 1) ts
      (omega arith),
  own_differ place face (index + 1) ts,
)

fresh_elsewhere : (i : Identity) (place : Place) (face : List Event) (index : ℕ)
    (ts : List Spelled) → ¬ (i.place ≡ place) → Fresh i (identified place face index ts)
fresh_elsewhere i place face index [] h = tt
fresh_elsewhere i place face index (s ∷ ts) h =
    ((λ e. h e.0), fresh_elsewhere i place face (index + 1) ts h)

fresh_given : (i : Identity) (ms : List Met) → IsFree i.place ms → Fresh i (given ms)
fresh_given i [] h = tt
fresh_given i (m ∷ ms) h =
    each_append (λ t. ¬ (Same i t.1)) (identified m.place m.face 0 m.gives) (given ms)
    (fresh_elsewhere i m.place m.face 0 m.gives h.0) (fresh_given i ms h.1)

all_fresh : (place : Place) (face : List Event) (index : ℕ) (ts : List Spelled) (ms : List Met)
    → IsFree place ms → Each (λ t. Fresh t.1 (given ms)) (identified place face index ts)
all_fresh place face index [] ms h = tt
all_fresh place face index (s ∷ ts) ms h = (
  fresh_given (record { place = place; face = face; index = index }) ms h,
  all_fresh place face (index + 1) ts ms h,
)

given_differ : (ms : List Met) → DifferInPlace ms → Differ (given ms)
given_differ [] h = tt
given_differ (m ∷ ms) h =
    differ_append (identified m.place m.face 0 m.gives) (given ms)
    (own_differ m.place m.face 0 m.gives) (given_differ ms h.1)
    (all_fresh m.place m.face 0 m.gives ms h.0)

------ tokens of C

-- what is said of the tokens where there are some
abbrev Reached : (List (CTok × Identity) → Type 0) → Ending (List (CTok × Identity)) → Type 0
Reached P (reaches toks) = P toks
Reached P (refused why place) = Unit {0}

token_new : (i j : Identity) → ¬ (Same i j) → (r : Result CTok Why)
    (rest : Ending (List (CTok × Identity))) → Reached (IsNew i) rest
    → Reached (IsNew i) (with_token place_of r j rest)
token_new i j h (Err why) rest p = tt
token_new i j h (Ok tok) (refused why place) p = tt
token_new i j h (Ok tok) (reaches toks) p = (h, p)

c_new : (reserved : ReservedNames) (i : Identity) (ts : List (Spelled × Identity)) → Fresh i ts
    → Reached (IsNew i) (c_tokens place_of reserved ts)
c_new reserved i [] h = tt
c_new reserved i (t ∷ ts) h =
    token_new i t.1 h.0 (converted reserved t.0.kind t.0.text) (c_tokens place_of reserved ts)
    (c_new reserved i ts h.1)

token_differ : (j : Identity) (r : Result CTok Why) (rest : Ending (List (CTok × Identity)))
    → Reached (IsNew j) rest → Reached DifferInStart rest
    → Reached DifferInStart (with_token place_of r j rest)
token_differ j (Err why) rest p q = tt
token_differ j (Ok tok) (refused why place) p q = tt
token_differ j (Ok tok) (reaches toks) p q = (p, q)

c_differ : (reserved : ReservedNames) (ts : List (Spelled × Identity)) → Differ ts
    → Reached DifferInStart (c_tokens place_of reserved ts)
c_differ reserved [] h = tt
c_differ reserved (t ∷ ts) h =
    token_differ t.1 (converted reserved t.0.kind t.0.text) (c_tokens place_of reserved ts)
    (c_new reserved t.1 ts h.0) (c_differ reserved ts h.1)

------ string literals that are joined

before_new : (i : Identity) (t : CTok × Identity) (ts : List (CTok × Identity))
    → ¬ (Same i t.1) → IsNew i ts → IsNew i (before_joined t ts)
before_new i (Str bytes, at) [] h p = (h, p)
before_new i (Str bytes, at) ((Str more, other) ∷ ts) h p = (h, p.1)
before_new i (Str bytes, at) ((Keyword word, other) ∷ ts) h p = (h, p)
before_new i (Str bytes, at) ((Name name, other) ∷ ts) h p = (h, p)
before_new i (Str bytes, at) ((Int value kind, other) ∷ ts) h p = (h, p)
before_new i (Str bytes, at) ((Char value, other) ∷ ts) h p = (h, p)
before_new i (Str bytes, at) ((Punct sign, other) ∷ ts) h p = (h, p)
before_new i (Keyword word, at) ts h p = (h, p)
before_new i (Name name, at) ts h p = (h, p)
before_new i (Int value kind, at) ts h p = (h, p)
before_new i (Char value, at) ts h p = (h, p)
before_new i (Punct sign, at) ts h p = (h, p)

joined_new : (i : Identity) (ts : List (CTok × Identity)) → IsNew i ts → IsNew i (joined ts)
joined_new i [] p = tt
joined_new i (t ∷ ts) p = before_new i t (joined ts) p.0 (joined_new i ts p.1)

before_differ : (t : CTok × Identity) (ts : List (CTok × Identity)) → IsNew t.1 ts
    → DifferInStart ts → DifferInStart (before_joined t ts)
before_differ (Str bytes, at) [] p q = (p, q)
before_differ (Str bytes, at) ((Str more, other) ∷ ts) p q = (p.1, q.1)
before_differ (Str bytes, at) ((Keyword word, other) ∷ ts) p q = (p, q)
before_differ (Str bytes, at) ((Name name, other) ∷ ts) p q = (p, q)
before_differ (Str bytes, at) ((Int value kind, other) ∷ ts) p q = (p, q)
before_differ (Str bytes, at) ((Char value, other) ∷ ts) p q = (p, q)
before_differ (Str bytes, at) ((Punct sign, other) ∷ ts) p q = (p, q)
before_differ (Keyword word, at) ts p q = (p, q)
before_differ (Name name, at) ts p q = (p, q)
before_differ (Int value kind, at) ts p q = (p, q)
before_differ (Char value, at) ts p q = (p, q)
before_differ (Punct sign, at) ts p q = (p, q)

joined_differ : (ts : List (CTok × Identity)) → DifferInStart ts → DifferInStart (joined ts)
joined_differ [] p = tt
joined_differ (t ∷ ts) p =
    before_differ t (joined ts) (joined_new t.1 ts p.0) (joined_differ ts p.1)

strings_differ : (o : Ending (List (CTok × Identity))) → Reached DifferInStart o
    → Reached DifferInStart (with_strings_joined o)
strings_differ (reaches toks) p = joined_differ toks p
strings_differ (refused why place) p = tt

ending_differ : {A : Type 0} (reserved : ReservedNames) (ms : List Met) (o : Ending A)
    → DifferInPlace ms → Reached DifferInStart (ending_of reserved (record { met = ms; ending = o }))
ending_differ reserved ms (reaches value) h =
    strings_differ (c_tokens place_of reserved (given ms)) (c_differ reserved (given ms) (given_differ ms h))
ending_differ reserved ms (refused why place) h = tt

pub starts_differ : StartsDiffer
starts_differ bundle names values reserved toks e =
    let macros : List Entry = entries_of (beginning names values) in
    let r : Reading (List Entry) = unit bundle macros in
    subst (Reached DifferInStart) e
    (ending_differ reserved r.met r.ending (places_differ bundle macros))
