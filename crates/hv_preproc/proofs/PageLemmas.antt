-- The files of a bundle and the built-in headers as pages.
use Rattle.std.proofs.Common.{◌≡◌, ◌∙◌, ◌+◌, ◌<◌, ◌≤◌, ℕ, zero, suc, Bool, true, false, cond, List, [], ◌∷◌, ◌++◌, map, length, get_or, take, drop, Option, Some, None, refl, sym, ap, subst, subst₂, arith, inl, inr}
use Rattle.std.proofs.Math.Seq.{drop-cons, take-suc}
use Rattle.std.proofs.lemmas.List.{map-append}
use Rattle.std.specs.Bool.{Decides}
use Rattle.std.specs.Prelude.{slice_get, unwrap_or, option_map, position}
use Rattle.std.specs.Str.{bytes_eq}
use Rattle.std.proofs.lemmas.List.Quantifiers.{position-Some}
use Rattle.std.proofs.lemmas.Option.{slice_get-get_or}
use Rattle.std.proofs.lemmas.Slice.Eq.{bytes_eq-Decides}
use Rattle.hv_base.specs.Bundles.{NamedFiles, held_at, number_at}
use Rattle.hv_base.specs.declared.held.Held.{Held}
use Rattle.hv_base.specs.declared.held.Held.TheVariants.{Absent, Bytes}
use Rattle.hv_base.specs.declared.limits.TheConstants.{FIRST_HEADER_FILE, MOST_NAMES}
use Rattle.hv_plain.specs.gathering.Headers.{header_text}
use Rattle.hv_plain.specs.gathering.Mentions.{cut}
use Rattle.hv_plainpp.proofs.CutPlaces.{Increasing, cut_increasing}
use Rattle.hv_plainpp.specs.Files.{File, built_in, file_in, file_of, first_there, header_names}
use Rattle.hv_plainpp.specs.Lines.{Piece, lines_of, pieces_of}
use Rattle.hv_preproc.proofs.SourceLemmas.{number_at-below}
use Rattle.hv_preproc.specs.declared.page.Page.{Page}
use Rattle.hv_preproc.specs.declared.page.Pages.{Pages}
use Rattle.hv_preproc.specs.declared.source.Cut.{Cut}
use Rattle.hv_preproc.specs.declared.source.Cut.TheVariants.{OpenComment, Tokens}
use Rattle.hv_preproc.specs.declared.source.Source.{Source}
use Rattle.hv_preproc.specs.declared.source.Sources.{Sources}
use Rattle.hv_preproc.specs.working.Keys.{IsOfInitial, Rises}
use Rattle.hv_preproc.specs.working.Pages.{ArePagesFor, HasFileNumber, IsPageFor}
use Rattle.hv_preproc.specs.working.Parts.{ArePages, IsFound, IsPageOf, page_at, page_named}
use Rattle.hv_preproc.specs.working.Sources.{AreHeadersOf, AreSources, IsSourceFor, IsSourceOf, cutting_of}
use Rattle.hv_toks.specs.Cutting.{open_comment, tokens}
use Rattle.hv_toks.specs.declared.token.PpTok.{PpTok}

------ contents

-- tokens that begin at rising offsets rise up to some offset
rises : (low : ℕ) (toks : List PpTok) → Increasing low toks → (high : ℕ) × Rises low high toks
rises low [] h = (low, omega arith)
rises low (t ∷ toks) h =
    let rest : (high : ℕ) × Rises (suc t.span.start) high toks = rises (suc t.span.start) toks h.1 in
    let next : suc t.span.start ≡ t.span.start + 1 = omega arith in
    (rest.0, (h.0, subst (λ (n : ℕ). Rises n rest.0 toks) next rest.1))

-- these are the pieces of a file
abbrev pub HasPieces : File → List Piece → Type 0
HasPieces file ps = (toks : List PpTok) × (cut file.number file.bytes ≡ tokens toks)
    × (ps ≡ pieces_of (lines_of toks)) × ((high : ℕ) × Rises 0 high toks)

pub content_of_tokens : (file : File) (source : Cut) (toks given : List PpTok) (ps : List Piece)
    → source ≡ Tokens toks → given ≡ toks → ps ≡ pieces_of (lines_of given)
    → cut file.number file.bytes ≡ cutting_of source → HasPieces file ps
content_of_tokens file source toks given ps is same right cuts =
    let so : cut file.number file.bytes ≡ tokens toks = cuts ∙ ap cutting_of is in (
      toks,
      so,
      right ∙ ap (λ (ts : List PpTok). pieces_of (lines_of ts)) same,
      rises 0 toks (cut_increasing file.number file.bytes toks so),
    )

pub content_of_comment : (file : File) (source : Cut) (offset : ℕ) → source ≡ OpenComment offset
    → cut file.number file.bytes ≡ cutting_of source
    → cut file.number file.bytes ≡ open_comment offset
content_of_comment file source offset is cuts = cuts ∙ ap cutting_of is

------ the page of a source

pub IsPageFor-some : (source : Source) (page : Page)
    → ((file : File) → IsSourceOf source file → ¬ IsOfInitial file.number → IsPageOf page file)
    → IsPageFor (Some source) (Some page)
IsPageFor-some source page h None r n = absurd r
IsPageFor-some source page h (Some file) r n = h file r n

pub IsPageFor-none : IsPageFor None None
IsPageFor-none None r n = tt
IsPageFor-none (Some file) r n = absurd r

pub ArePagesFor-add : (sources : List (Option Source)) (pages : List (Option Page))
    (source : Option Source) (page : Option Page) → ArePagesFor sources pages
    → IsPageFor source page → ArePagesFor (sources ++ source ∷ []) (pages ++ page ∷ [])
ArePagesFor-add [] [] source page r h = (h, tt)
ArePagesFor-add [] (p ∷ pages) source page r h = absurd r
ArePagesFor-add (s ∷ sources) [] source page r h = absurd r
ArePagesFor-add (s ∷ sources) (p ∷ pages) source page r h =
    (r.0, ArePagesFor-add sources pages source page r.1 h)

take_next : {A : Type 0} (xs : List A) (i : ℕ) (x : A) → i < length xs → x ≡ get_or xs i x
    → take (i + 1) xs ≡ take i xs ++ x ∷ []
take_next xs i x within is =
    let next : i + 1 ≡ suc i = omega arith in
    ap (λ (n : ℕ). take n xs) next
    ∙ (take-suc xs i x within ∙ ap (λ y. take i xs ++ y ∷ []) (sym is))

-- one more page
pub ArePagesFor-next : (sources : List (Option Source)) (pages now : List (Option Page)) (i : ℕ)
    (source : Option Source) (page : Option Page) → i < length sources
    → source ≡ get_or sources i source → ArePagesFor (take i sources) pages
    → IsPageFor source page → now ≡ pages ++ page ∷ [] → ArePagesFor (take (i + 1) sources) now
ArePagesFor-next sources pages now i source page within is are right made =
    subst₂ ArePagesFor (sym (take_next sources i source within is)) (sym made)
    (ArePagesFor-add (take i sources) pages source page are right)

-- one more page of a built-in header
pub ArePagesFor-header : (sources : List Source) (pages now : List Page) (i : ℕ)
    (source : Source) (page : Page) → i < length sources → source ≡ get_or sources i source
    → ArePagesFor (map Some (take i sources)) (map Some pages)
    → ((file : File) → IsSourceOf source file → ¬ IsOfInitial file.number → IsPageOf page file)
    → now ≡ pages ++ page ∷ []
    → ArePagesFor (map Some (take (i + 1) sources)) (map Some now)
ArePagesFor-header sources pages now i source page within is are right made =
    subst₂ ArePagesFor
    (sym (ap (map Some) (take_next sources i source within is)
    ∙ map-append Some (take i sources) (source ∷ [])))
    (sym (ap (map Some) made ∙ map-append Some pages (page ∷ [])))
    (ArePagesFor-add (map Some (take i sources)) (map Some pages) (Some source) (Some page) are
    (IsPageFor-some source page right))

none_is_some : {A : Type 0} (x : A) → None ≡ Some x → ⊥
none_is_some x e = cc

some_inside : {A : Type 0} (x y : A) → Some x ≡ Some y → x ≡ y
some_inside x y e = cc

page_for_source : (sources : List (Option Source)) (pages : List (Option Page)) (n : ℕ)
    (source : Option Source) → ArePagesFor sources pages → slice_get sources n ≡ Some source
    → IsPageFor source (unwrap_or (slice_get pages n) None)
page_for_source [] pages n source r e = absurd (none_is_some source e)
page_for_source (s ∷ sources) [] n source r e = absurd r
page_for_source (s ∷ sources) (p ∷ pages) zero source r e =
    subst (λ (o : Option Source). IsPageFor o p) (some_inside s source e) r.0
page_for_source (s ∷ sources) (p ∷ pages) (suc n) source r e =
    page_for_source sources pages n source r.1 e

------ the files of a bundle

file_number : (name : List ℕ) (number : ℕ) (held : Option Held) → ¬ IsOfInitial number
    → HasFileNumber (file_of name (Some number) held)
file_number name number None h = tt
file_number name number (Some Absent) h = tt
file_number name number (Some (Bytes bytes)) h = h

small_number : (number : ℕ) → number < FIRST_HEADER_FILE + 7 → ¬ IsOfInitial number
small_number number h (inl e) = absurd (omega (arith, h, e))
small_number number h (inr e) = absurd (omega (arith, h, e))

-- each page of a file is what the bundle has under its name
module _ (pages : Pages) (sources : List (Option Source))
    (count : length sources ≡ length pages.bundle.now.entries)
    (few : length pages.bundle.now.entries ≤ MOST_NAMES)
    (right : (name : List ℕ) (number : ℕ) (source : Option Source)
    → number_at pages.bundle.now name ≡ Some number → slice_get sources number ≡ Some source
    → IsSourceFor source (file_in pages.bundle.now name))
    (are : ArePagesFor sources pages.files.items) where
  by_number : (name : List ℕ) (o : Option ℕ) → number_at pages.bundle.now name ≡ o
      → IsFound (page_at pages o) (file_of name o (held_at pages.bundle.now name))
  by_number name None e = tt
  by_number name (Some number) e =
      let below : number < length pages.bundle.now.entries =
      number_at-below pages.bundle.now name number e in
      let source : Option Source = get_or sources number None in
      let there : slice_get sources number ≡ Some source =
      slice_get-get_or sources number None (omega (arith, below, count)) in
      page_for_source sources pages.files.items number source are there
      (file_of name (Some number) (held_at pages.bundle.now name))
      (subst (λ (o : Option ℕ). IsSourceFor source (file_of name o (held_at pages.bundle.now name)))
      e (right name number source e there))
      (file_number name number (held_at pages.bundle.now name)
      (small_number number (omega (arith, below, few))))

  files_found : (name : List ℕ) → IsFound (page_at pages (number_at pages.bundle.now name))
      (file_in pages.bundle.now name)
  files_found name = by_number name (number_at pages.bundle.now name) refl

------ the built-in headers

-- pages are the built-in headers of these names, in order
abbrev AreHeaderPages : List Page → (names : List (List ℕ)) → Type 0
AreHeaderPages [] [] = Unit {0}
AreHeaderPages [] (name ∷ names) = ⊥
AreHeaderPages (page ∷ pages) [] = ⊥
AreHeaderPages (page ∷ pages) (name ∷ names) =
    IsFound (Some page) (built_in name) × AreHeaderPages pages names

by_row : (name : List ℕ) (o : Option ℕ) → position (bytes_eq name) header_names ≡ o
    → HasFileNumber (file_of name (option_map (λ (row : ℕ). FIRST_HEADER_FILE + row) o)
    (option_map Bytes (header_text name)))
by_row name None e = tt
by_row name (Some row) e =
    let within : row < 7 = (position-Some (bytes_eq name) header_names row [] e).0 in
    file_number name (FIRST_HEADER_FILE + row) (option_map Bytes (header_text name))
    (small_number (FIRST_HEADER_FILE + row) (omega (arith, within)))

header_number : (name : List ℕ) → HasFileNumber (built_in name)
header_number name = by_row name (position (bytes_eq name) header_names) refl

header_pages_of : (sources : List Source) (pages : List Page) (names : List (List ℕ))
    → ArePagesFor (map Some sources) (map Some pages) → AreHeadersOf sources names
    → AreHeaderPages pages names
header_pages_of [] [] [] are right = tt
header_pages_of [] [] (name ∷ names) are right = absurd right
header_pages_of [] (page ∷ pages) names are right = absurd are
header_pages_of (source ∷ sources) [] names are right = absurd are
header_pages_of (source ∷ sources) (page ∷ pages) [] are right = absurd right
header_pages_of (source ∷ sources) (page ∷ pages) (name ∷ names) are right = (
  are.0 (built_in name) right.0 (header_number name),
  header_pages_of sources pages names are.1 right.1,
)

-- the name is none of these
abbrev IsNoneOf : List ℕ → (names : List (List ℕ)) → Type 0
IsNoneOf name [] = Unit {0}
IsNoneOf name (n ∷ names) = ¬ (n ≡ name) × IsNoneOf name names

-- the first page of this name is its built-in header; where there is none, no name is this
abbrev IsNamed : List ℕ → (names : List (List ℕ)) → Option Page → Type 0
IsNamed name names None = IsNoneOf name names
IsNamed name names (Some page) = IsFound (Some page) (built_in name)

one_more : (name n : List ℕ) (names : List (List ℕ)) (o : Option Page) → ¬ (n ≡ name)
    → IsNamed name names o → IsNamed name (n ∷ names) o
one_more name n names None h r = (h, r)
one_more name n names (Some page) h r = r

file_name : (page : Page) (name : List ℕ) (o : Option ℕ) (held : Option Held)
    → IsFound (Some page) (file_of name o held) → page.name.now ≡ name
file_name page name None held r = absurd r
file_name page name (Some number) None r = absurd r
file_name page name (Some number) (Some Absent) r = absurd r
file_name page name (Some number) (Some (Bytes bytes)) r = r.name

by_test : (name n : List ℕ) (names : List (List ℕ)) (page : Page) (o : Option Page) (b : Bool)
    → Decides b (page.name.now ≡ name) → page.name.now ≡ n → IsFound (Some page) (built_in n)
    → IsNamed name names o → IsNamed name (n ∷ names) (cond b (Some page) o)
by_test name n names page o true d same found rest =
    subst (λ (m : List ℕ). IsFound (Some page) (built_in m)) (sym same ∙ d.0 refl) found
by_test name n names page o false d same found rest =
    one_more name n names o (λ e. differ (d.1 (same ∙ e))) rest
  where
    differ : false ≡ true → ⊥
    differ h = cc

named_page : (name : List ℕ) (pages : List Page) (names : List (List ℕ))
    → AreHeaderPages pages names → IsNamed name names (page_named name pages)
named_page name [] [] r = tt
named_page name [] (n ∷ names) r = absurd r
named_page name (page ∷ pages) [] r = absurd r
named_page name (page ∷ pages) (n ∷ names) r =
    by_test name n names page (page_named name pages) (bytes_eq page.name.now name)
    (bytes_eq-Decides page.name.now name)
    (file_name page n (option_map (λ (row : ℕ). FIRST_HEADER_FILE + row)
    (position (bytes_eq n) header_names)) (option_map Bytes (header_text n)) r.0)
    r.0 (named_page name pages names r.1)

is_there : (name : List ℕ) (names : List (List ℕ)) (row : ℕ) → IsNoneOf name names
    → row < length names → ¬ (get_or names row [] ≡ name)
is_there name [] row none h = λ e. absurd (omega (arith, h))
is_there name (n ∷ names) zero none h = none.0
is_there name (n ∷ names) (suc row) none h = is_there name names row none.1 (omega (arith, h))

no_row : (name : List ℕ) (o : Option ℕ) → position (bytes_eq name) header_names ≡ o
    → IsNoneOf name header_names
    → IsFound None (file_of name (option_map (λ (row : ℕ). FIRST_HEADER_FILE + row) o)
    (option_map Bytes (header_text name)))
no_row name None e none = tt
no_row name (Some row) e none =
    let at = position-Some (bytes_eq name) header_names row [] e in
    absurd (is_there name header_names row none at.0
    (sym ((bytes_eq-Decides name (get_or header_names row [])).0 at.1)))

header_there : (name : List ℕ) (o : Option Page) → IsNamed name header_names o
    → IsFound o (built_in name)
header_there name None r = no_row name (position (bytes_eq name) header_names) refl r
header_there name (Some page) r = r

------ all pages

-- pages of the sources of a bundle are its files and the built-in headers
pub are_pages : (pages : Pages) (sources : Sources)
    → AreSources pages.bundle.now sources
    → ArePagesFor sources.files.items pages.files.items
    → ArePagesFor (map Some sources.headers.items) (map Some pages.headers.items)
    → ArePages pages
are_pages pages sources right files headers = record {
  files = files_found pages sources.files.items right.count right.few right.files files;
  headers = λ name. header_there name (page_named name pages.headers.items)
      (named_page name pages.headers.items header_names
      (header_pages_of sources.headers.items pages.headers.items header_names headers
      right.headers));
}

------ the file that a header means

-- no file is found where no page is
pub none_found : (o : Option File) → IsFound None o → o ≡ None
none_found None r = refl
none_found (Some file) r = absurd r

found_or : (page : Page) (o rest : Option File) → IsFound (Some page) o
    → IsFound (Some page) (elim o as (λ _. Option File) [ Some file ↦ Some file | None ↦ rest ])
found_or page None rest r = absurd r
found_or page (Some file) rest r = r

-- a name of a list, as a byte string
named_at : {A : Type 0} (f : A → List ℕ) (xs : List A) (i : ℕ) (x : A) → i < length xs
    → x ≡ get_or xs i x → (i < length (map f xs)) × (get_or (map f xs) i [] ≡ f x)
named_at f [] i x h e = absurd (omega (arith, h))
named_at f (y ∷ xs) zero x h e = (omega arith, ap f (sym e))
named_at f (y ∷ xs) (suc i) x h e =
    let rest : (i < length (map f xs)) × (get_or (map f xs) i [] ≡ f x) =
    named_at f xs i x (omega (arith, h)) e in
    (omega (arith, rest.0), rest.1)

-- a candidate that is there
pub first_there-here : {A : Type 0} (f : A → List ℕ) (bundle : NamedFiles) (header : List ℕ)
    (names : List A) (i : ℕ) (name : A) (page : Page) → i < length names
    → name ≡ get_or names i name → IsFound (Some page) (file_in bundle (f name))
    → IsFound (Some page) (first_there bundle header (drop i (map f names)))
first_there-here f bundle header names i name page within is r =
    let at : (i < length (map f names)) × (get_or (map f names) i [] ≡ f name) =
    named_at f names i name within is in
    let below : i < length (map f names) = at.0 in
    subst (λ (ns : List (List ℕ)). IsFound (Some page) (first_there bundle header ns))
    (sym (drop-cons (map f names) i [] below
    ∙ ap (λ (n : List ℕ). n ∷ drop (suc i) (map f names)) at.1))
    (found_or page (file_in bundle (f name))
    (first_there bundle header (drop (suc i) (map f names))) r)

-- one that is absent
pub first_there-past : {A : Type 0} (f : A → List ℕ) (bundle : NamedFiles) (header : List ℕ)
    (names : List A) (i : ℕ) (name : A) → i < length names → name ≡ get_or names i name
    → IsFound None (file_in bundle (f name))
    → first_there bundle header (drop i (map f names))
    ≡ first_there bundle header (drop (i + 1) (map f names))
first_there-past f bundle header names i name within is r =
    let at : (i < length (map f names)) × (get_or (map f names) i [] ≡ f name) =
    named_at f names i name within is in
    let next : suc i ≡ i + 1 = omega arith in
    ap (first_there bundle header) (drop-cons (map f names) i [] at.0
    ∙ ap (λ (n : List ℕ). n ∷ drop (suc i) (map f names)) at.1)
    ∙ (skipped (file_in bundle (f name)) (first_there bundle header (drop (suc i) (map f names))) r
    ∙ ap (λ (n : ℕ). first_there bundle header (drop n (map f names))) next)
  where
    skipped : (o rest : Option File) → IsFound None o
        → elim o as (λ _. Option File) [ Some file ↦ Some file | None ↦ rest ] ≡ rest
    skipped None rest h = refl
    skipped (Some file) rest h = absurd h

ended : {A : Type 0} (f : A → List ℕ) (xs : List A) (i : ℕ) → length xs ≤ i
    → drop i (map f xs) ≡ []
ended f [] zero h = refl
ended f [] (suc i) h = refl
ended f (x ∷ xs) zero h = absurd (omega (arith, h))
ended f (x ∷ xs) (suc i) h = ended f xs i (omega (arith, h))

-- no candidate is left
pub first_there-end : {A : Type 0} (f : A → List ℕ) (bundle : NamedFiles) (header : List ℕ)
    (names : List A) (i : ℕ) → length names ≤ i
    → first_there bundle header (drop i (map f names)) ≡ built_in header
first_there-end f bundle header names i h =
    ap (first_there bundle header) (ended f names i h)
