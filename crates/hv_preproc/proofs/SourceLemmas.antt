-- The files of a bundle by their numbers, and the built-in headers by their rows.
use Rattle.std.proofs.Common.{◌≡◌, ◌∙◌, ◌+◌, ◌<◌, ◌≤◌, ◌⊎◌, ℕ, zero, suc, Bool, true, false, List, [], ◌∷◌, ◌++◌, Option, Some, None, refl, sym, ap, subst, arith, length, get_or, take, inl, inr}
use Rattle.std.proofs.Math.Seq.{take-suc}
use Rattle.std.specs.Prelude.{slice_get, unwrap_or, option_map, is_some, not}
use Rattle.std.specs.Str.{bytes_eq}
use Rattle.std.proofs.lemmas.List.{length-map}
use Rattle.std.proofs.lemmas.List.Quantifiers.{position-Some}
use Rattle.std.proofs.lemmas.Option.{get_or_from_slice_get, slice_get-get_or, slice_get_within}
use Rattle.std.proofs.lemmas.Slice.Eq.{bytes_eq-Decides}
use Rattle.hv_base.specs.Bundles.{NamedFiles, held_at, name_at, names_in, number_at}
use Rattle.hv_base.specs.declared.held.Held.{Held}
use Rattle.hv_base.specs.declared.limits.TheConstants.{FIRST_HEADER_FILE}
use Rattle.hv_plain.specs.gathering.Headers.{header_text}
use Rattle.hv_plainpp.specs.Files.{built_in, file_in, file_of, header_names}
use Rattle.hv_preproc.specs.declared.source.Source.{Source}
use Rattle.hv_preproc.specs.working.Sources.{AreHeadersOf, IsSourceFor, IsSourceOf}

------ numbers of a bundle

-- the name of which a number is has this number
pub name_at-number_at : (bundle : NamedFiles) (name : List ℕ) (number : ℕ)
    → number_at bundle name ≡ Some number → name_at bundle number ≡ Some name
name_at-number_at bundle name number e =
    let at = position-Some (bytes_eq name) (names_in bundle) number [] e in
    slice_get-get_or (names_in bundle) number [] at.0
    ∙ ap Some (sym ((bytes_eq-Decides name (get_or (names_in bundle) number [])).0 at.1))

-- and it is one of the bundle
pub number_at-below : (bundle : NamedFiles) (name : List ℕ) (number : ℕ)
    → number_at bundle name ≡ Some number → number < length bundle.entries
number_at-below bundle name number e =
    let at = position-Some (bytes_eq name) (names_in bundle) number [] e in
    subst (λ (n : ℕ). number < n)
    (length-map bundle.entries (λ (entry : List ℕ × Held). entry.0)) at.0

-- no value is mapped where none is there
pub none_mapped : {A B : Type 0} (f : A → B) (o : Option A) (b : Bool) (x : Option B)
    → is_some o ≡ not b → b ≡ true → option_map f o ≡ x → None ≡ x
none_mapped f None b x s t e = e
none_mapped f (Some a) b x s t e = absurd (differ (s ∙ ap not t))
  where
    differ : true ≡ false → ⊥
    differ h = cc

-- a list has no more elements than a position that it doesn't have
pub none_past : {A : Type 0} (xs : List A) (n : ℕ) → None ≡ slice_get xs n → length xs ≤ n
none_past [] n e = omega arith
none_past (x ∷ xs) zero e = absurd (never x e)
  where
    never : {A : Type 0} (x : A) → None ≡ Some x → ⊥
    never x e = cc
none_past (x ∷ xs) (suc n) e = omega (arith, none_past xs n e)

-- a bundle has no more names than a number that no name has
pub number_past : (bundle : NamedFiles) (number : ℕ) → None ≡ name_at bundle number
    → length bundle.entries ≤ number
number_past bundle number e =
    subst (λ (n : ℕ). n ≤ number)
    (length-map bundle.entries (λ (entry : List ℕ × Held). entry.0))
    (none_past (names_in bundle) number e)

-- no name has a number that has no name
pub source-unnamed : (bundle : NamedFiles) (number : ℕ) (source : Option Source)
    → None ≡ name_at bundle number
    → (name : List ℕ) → number_at bundle name ≡ Some number
    → IsSourceFor source (file_in bundle name)
source-unnamed bundle number source none name e =
    absurd (differ name (none ∙ name_at-number_at bundle name number e))
  where
    differ : (name : List ℕ) → None ≡ Some name → ⊥
    differ name h = cc

-- a source of what is held under the name of a number is that of the file of this number
pub source-named : (bundle : NamedFiles) (number : ℕ) (this : List ℕ) (held : Option Held)
    (source : Option Source) → Some this ≡ name_at bundle number → held ≡ held_at bundle this
    → IsSourceFor source (file_of this (Some number) held)
    → (name : List ℕ) → number_at bundle name ≡ Some number
    → IsSourceFor source (file_in bundle name)
source-named bundle number this held source named holds right name e =
    subst (IsSourceFor source)
    (ap (file_of this (Some number)) holds
    ∙ (ap (λ (n : List ℕ). file_of n (Some number) (held_at bundle n)) same
    ∙ ap (λ (o : Option ℕ). file_of name o (held_at bundle name)) (sym e))) right
  where
    inside : (a b : List ℕ) → Some a ≡ Some b → a ≡ b
    inside a b h = cc

    same : this ≡ name
    same = inside this name (named ∙ name_at-number_at bundle name number e)

-- sources are the first files of a bundle
abbrev pub AreFilesOf : NamedFiles → List (Option Source) → Type 0
AreFilesOf bundle sources = (name : List ℕ) (number : ℕ) (source : Option Source)
    → number_at bundle name ≡ Some number → slice_get sources number ≡ Some source
    → IsSourceFor source (file_in bundle name)

at_end_or_before : {A : Type 0} (xs : List A) (x : A) (n : ℕ) (y : A)
    → slice_get (xs ++ x ∷ []) n ≡ Some y
    → (slice_get xs n ≡ Some y) ⊎ ((length xs ≡ n) × (x ≡ y))
at_end_or_before [] x zero y e = inr (refl, inside x y e)
  where
    inside : {A : Type 0} (x y : A) → Some x ≡ Some y → x ≡ y
    inside x y e = cc
at_end_or_before [] x (suc n) y e = absurd (never y e)
  where
    never : {A : Type 0} (y : A) → None ≡ Some y → ⊥
    never y e = cc
at_end_or_before (z ∷ xs) x zero y e = inl e
at_end_or_before (z ∷ xs) x (suc n) y e = more (at_end_or_before xs x n y e)
  where
    more : (slice_get xs n ≡ Some y) ⊎ ((length xs ≡ n) × (x ≡ y))
        → (slice_get (z ∷ xs) (suc n) ≡ Some y) ⊎ ((length (z ∷ xs) ≡ suc n) × (x ≡ y))
    more (inl h) = inl h
    more (inr h) = inr (ap suc h.0, h.1)

pub AreFilesOf-none : (bundle : NamedFiles) → AreFilesOf bundle []
AreFilesOf-none bundle name number source e there = absurd (never source there)
  where
    never : (source : Option Source) → None ≡ Some source → ⊥
    never source h = cc

pub AreFilesOf-add : (bundle : NamedFiles) (sources : List (Option Source))
    (source : Option Source) (number : ℕ) → AreFilesOf bundle sources → length sources ≡ number
    → ((name : List ℕ) → number_at bundle name ≡ Some number
    → IsSourceFor source (file_in bundle name))
    → AreFilesOf bundle (sources ++ source ∷ [])
AreFilesOf-add bundle sources source number are count right name n other e there =
    by (at_end_or_before sources source n other there)
  where
    by : (slice_get sources n ≡ Some other) ⊎ ((length sources ≡ n) × (source ≡ other))
        → IsSourceFor other (file_in bundle name)
    by (inl h) = are name n other e h
    by (inr h) = subst (λ (o : Option Source). IsSourceFor o (file_in bundle name)) h.1
        (right name (e ∙ ap Some (sym h.0 ∙ count)))

------ built-in headers

pub AreHeadersOf-add : (sources : List Source) (names : List (List ℕ)) (source : Source)
    (name : List ℕ) → AreHeadersOf sources names → IsSourceFor (Some source) (built_in name)
    → AreHeadersOf (sources ++ source ∷ []) (names ++ name ∷ [])
AreHeadersOf-add [] [] source name r h = (h, tt)
AreHeadersOf-add [] (n ∷ names) source name r h = absurd r
AreHeadersOf-add (s ∷ sources) [] source name r h = absurd r
AreHeadersOf-add (s ∷ sources) (n ∷ names) source name r h =
    (r.0, AreHeadersOf-add sources names source name r.1 h)

-- the header of a row
abbrev HeaderAt : (row : ℕ) → (name : List ℕ) → Source → Type 0
HeaderAt row name source = IsSourceOf source (record {
  number = FIRST_HEADER_FILE + row;
  name = name;
  bytes = unwrap_or (header_text name) [];
}) → IsSourceFor (Some source) (built_in name)

pub at_row : (row : ℕ) (source : Source) → row < 7
    → HeaderAt row (get_or header_names row []) source
at_row zero source h = λ r. r
at_row (suc zero) source h = λ r. r
at_row (suc (suc zero)) source h = λ r. r
at_row (suc (suc (suc zero))) source h = λ r. r
at_row (suc (suc (suc (suc zero)))) source h = λ r. r
at_row (suc (suc (suc (suc (suc zero))))) source h = λ r. r
at_row (suc (suc (suc (suc (suc (suc zero)))))) source h = λ r. r
at_row (suc (suc (suc (suc (suc (suc (suc row))))))) source h = absurd (omega (arith, h))

-- a row that has a name is one of seven
pub row-below : (row : ℕ) (name : List ℕ) → Some name ≡ slice_get header_names row → row < 7
row-below row name e = slice_get_within header_names row name (sym e)

pub header_at_row : (row : ℕ) (name : List ℕ) (source : Source)
    → Some name ≡ slice_get header_names row → HeaderAt row name source
header_at_row row name source e =
    subst (λ (n : List ℕ). HeaderAt row n source)
    (get_or_from_slice_get header_names row name [] (sym e))
    (at_row row source (row-below row name e))

-- the headers before a row, and the one in it
pub AreHeadersOf-row : (sources : List Source) (source : Source) (row : ℕ) (name : List ℕ)
    → Some name ≡ slice_get header_names row → AreHeadersOf sources (take row header_names)
    → IsSourceFor (Some source) (built_in name)
    → AreHeadersOf (sources ++ source ∷ []) (take (row + 1) header_names)
AreHeadersOf-row sources source row name e r h =
    subst (AreHeadersOf (sources ++ source ∷ []))
    (ap (λ (n : List ℕ). take row header_names ++ n ∷ [])
    (sym (get_or_from_slice_get header_names row name [] (sym e)))
    ∙ (sym (take-suc header_names row [] (row-below row name e))
    ∙ ap (λ (n : ℕ). take n header_names) (next row)))
    (AreHeadersOf-add sources (take row header_names) source name r h)
  where
    next : (row : ℕ) → suc row ≡ row + 1
    next row = omega arith

-- where no row is left all headers are there
pub AreHeadersOf-all : (sources : List Source) (row : ℕ) → None ≡ slice_get header_names row
    → row ≤ 7 → AreHeadersOf sources (take row header_names) → AreHeadersOf sources header_names
AreHeadersOf-all sources row e within r =
    subst (λ (n : ℕ). AreHeadersOf sources (take n header_names))
    (all row (none_past header_names row e) within) r
  where
    all : (row : ℕ) → 7 ≤ row → row ≤ 7 → row ≡ 7
    all row a b = omega arith
