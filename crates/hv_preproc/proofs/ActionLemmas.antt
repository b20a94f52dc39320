-- What the directives that make no groups come to.
use Rattle.std.proofs.Common.{◌≡◌, ◌∙◌, ◌<◌, ◌≤◌, ◌⊎◌, ◌&&◌, ◌++◌, ℕ, zero, suc, Bool, true, false, cond, List, [], ◌∷◌, Option, Some, None, Result, Ok, Err, IfOk, refl, sym, ap, subst, inl, inr, arith}
use Rattle.std.specs.Prelude.{IfNone, IfSome}
use Rattle.hv_base.specs.Bundles.{NamedFiles}
use Rattle.hv_base.specs.declared.place.Place.{Place}
use Rattle.hv_base.specs.declared.why.Why.{Why}
use Rattle.hv_base.specs.declared.why.Why.TheVariants.{BadDefine, BadDirective, ErrorDirective, IncludeTooDeep, NoFile}
use Rattle.hv_cond.specs.Diagram.{Diagram, Keeps, holds}
use Rattle.hv_cond.specs.declared.conditions.Cond.{Cond}
use Rattle.hv_macros.specs.Table.{HasOneBody, IsFreeFor, IsTableOf, SetsUnder}
use Rattle.hv_macros.specs.declared.tables.MacroTable.{MacroTable}
use Rattle.hv_plain.specs.gathering.Mentions.{Header}
use Rattle.hv_plainpp.specs.Definitions.{Definition, definition, undefined_name}
use Rattle.hv_plainpp.specs.Directives.{Action, define, error, ignored, include, undef, unknown}
use Rattle.hv_plainpp.specs.Files.{Entered, File, found, place_of}
use Rattle.hv_plainpp.specs.Groups.{Group, is_processed}
use Rattle.hv_plainpp.specs.Preprocessing.{Reader, define_macro, entered, header_on, include_file, obeyed, remove_macro}
use Rattle.hv_plainpp.specs.Reading.{Reading, reading, refusal}
use Rattle.hv_preproc.proofs.Defining.{defining_reads}
use Rattle.hv_preproc.proofs.Kept.{IsUnit-kept}
use Rattle.hv_preproc.proofs.KeyOrder.{IsBefore-irreflexive, IsBefore-lower, IsBefore-trans}
use Rattle.hv_preproc.proofs.Later.{nothing_reads, reads_as, reads_later, reads_same}
use Rattle.hv_preproc.specs.declared.page.Page.{Page}
use Rattle.hv_preproc.specs.declared.unit.Unit.{Unit as UnitSoFar}
use Rattle.hv_preproc.specs.working.Keys.{IsBefore, IsInitial, IsUntil, key, reached}
use Rattle.hv_preproc.specs.working.Parts.{IsFileAt, IsFound, IsInclusion, IsOf, IsPageOf, action_part, reader_at}
use Rattle.hv_preproc.specs.working.Walk.{IsSound, IsUnit, Part, Reads}
use Rattle.hv_texts.specs.Readings.{IsOriginOf}
use Rattle.hv_texts.specs.declared.origin.Origin.{Origin}
use Rattle.hv_toks.specs.Macro.{defined, undefined}
use Rattle.hv_toks.specs.MacroState.{Entry}
use Rattle.hv_toks.specs.declared.macros.Body.{Body}
use Rattle.hv_toks.specs.declared.token.PpTok.{PpTok}

------ answers

pub none-weaker : {A E : Type 0} {P Q : Type 0} (r : Result (Option A) E) → (P → Q)
    → IfOk r (λ o. IfNone o P) → IfOk r (λ o. IfNone o Q)
none-weaker (Ok None) h p = h p
none-weaker (Ok (Some x)) h p = p
none-weaker (Err e) h p = p

pub some-weaker : {A E : Type 0} (P Q : A → Type 0) (r : Result (Option A) E)
    → ((x : A) → P x → Q x) → IfOk r (λ o. IfSome o P) → IfOk r (λ o. IfSome o Q)
some-weaker P Q (Ok None) h p = p
some-weaker P Q (Ok (Some x)) h p = h x p
some-weaker P Q (Err e) h p = p

------ places

until_before : (here key there : List ℕ) → IsUntil here key → IsBefore key there
    → IsBefore here there
until_before here key there (inl e) b =
    subst (λ (ns : List ℕ). IsBefore ns there) (sym e) b
until_before here key there (inr a) b = IsBefore-trans here key there a b

-- a lower offset of a file is reached until a higher one is
pub reached_until : (at : Entered) (low high : ℕ) → low ≤ high
    → IsUntil (reached at low) (reached at high)
reached_until at low high h = by (le_cases low high h)
  where
    le_cases : (m n : ℕ) → m ≤ n → (m ≡ n) ⊎ (m < n)
    le_cases zero zero h = inl refl
    le_cases zero (suc n) h = inr (omega arith)
    le_cases (suc m) zero h = absurd (omega (arith, h))
    le_cases (suc m) (suc n) h = more (le_cases m n (omega (arith, h)))
      where
        more : (m ≡ n) ⊎ (m < n) → (suc m ≡ suc n) ⊎ (suc m < suc n)
        more (inl e) = inl (ap suc e)
        more (inr l) = inr (omega (arith, l))

    by : (low ≡ high) ⊎ (low < high) → IsUntil (reached at low) (reached at high)
    by (inl e) = inl (ap (reached at) e)
    by (inr l) = inr (IsBefore-lower at.stack low high [] l)

-- a place of a file is that of its token
pub of_token : (place : Place) (origin : Origin) (hash : PpTok)
    → ((at : Entered) → IsOriginOf origin at → place ≡ place_of at hash)
    → place ≡ record { stack = origin.stack; file = origin.file; offset = hash.span.start }
of_token place origin hash h = h (record {
  file = record { number = origin.file; name = []; bytes = [] };
  stack = origin.stack;
}) (record { file = refl; stack = refl })

------ what a unit is when a name is set

-- where each macro was defined before a place, nothing is defined there
pub free_place : (d : Diagram) (u : UnitSoFar) (hash : Place) (name : List ℕ) (body : Body)
    → IsSound d u (key hash) → ¬ IsInitial hash → IsFreeFor d u.table hash name body
unfolding IsFreeFor
free_place d u hash name body sound file = λ values other second is.
    absurd (nowhere (sound.defines_before values other hash second is))
  where
    nowhere : IsInitial hash ⊎ IsBefore (key hash) (key hash) → ⊥
    nowhere (inl i) = file i
    nowhere (inr b) = IsBefore-irreflexive (key hash) b

pub IsUnit-set : (old new : Diagram) (before : UnitSoFar) (table : MacroTable) → Keeps old new
    → IsUnit old before → IsTableOf new table → HasOneBody new table
    → IsUnit new (record before { table = table })
IsUnit-set old new before table keeps unit is one =
    let kept : IsUnit new before = IsUnit-kept keeps before unit in
    record { table = is; one_body = one; live = kept.live; refusals = kept.refusals }

------ `#define` and `#undef`

module _ (old new : Diagram) (before : UnitSoFar) (table : MacroTable) (cond' : Cond)
    (keeps : Keeps old new) where
  pub define_reads : (here there : List ℕ) (hash : Place) (name : List ℕ) (body : Body)
      (line : List PpTok) → Some (record { name = name; body = body }) ≡ definition line
      → SetsUnder old new before.table table name cond' (defined hash body)
      → IsUnit new (record before { table = table })
      → IsUntil here (key hash) → IsBefore (key hash) there → IsSound old before here
      → Reads old new before (record before { table = table }) here there cond'
      (λ values. define_macro hash (definition line))
  define_reads here there hash name body line is sets unit until later sound =
      subst (λ (o : Option Definition). Reads old new before (record before { table = table })
      here there cond' (λ values. define_macro hash o)) is
      (defining_reads old new before (record before { table = table }) here there cond' cond' name
      (defined hash body) keeps sound (inr (until_before here (key hash) there until later)) unit
      refl refl refl sets
      (λ place other e. inr (subst (λ (p : Place). IsBefore (key p) there) (same place other e)
      later))
      (λ values l. refl))
    where
      same : (place : Place) (other : Body) → defined hash body ≡ defined place other
          → hash ≡ place
      same place other e = cc

  pub undef_reads : (here : List ℕ) (hash : Place) (name : List ℕ) (line : List PpTok)
      → Some name ≡ undefined_name line
      → SetsUnder old new before.table table name cond' undefined
      → IsUnit new (record before { table = table }) → IsSound old before here
      → Reads old new before (record before { table = table }) here here cond'
      (λ values. remove_macro hash (undefined_name line))
  undef_reads here hash name line is sets unit sound =
      subst (λ (o : Option (List ℕ)). Reads old new before (record before { table = table })
      here here cond' (λ values. remove_macro hash o)) is
      (defining_reads old new before (record before { table = table }) here here cond' cond' name
      undefined keeps sound (inl refl) unit refl refl refl sets
      (λ place other e. absurd (never place other e)) (λ values l. refl))
    where
      never : (place : Place) (other : Body) → undefined ≡ defined place other → ⊥
      never place other e = cc

-- a line that isn't well-formed
pub no_define_reads : (old new : Diagram) (before now : UnitSoFar) (here there : List ℕ)
    (cond' : Cond) (hash : Place) (line : List PpTok) → None ≡ definition line
    → ((here : List ℕ) → IsSound old before here → Reads old new before now here here cond'
    (λ values macros. refusal BadDefine hash))
    → IsUntil here (key hash) → IsBefore (key hash) there → IsSound old before here
    → Reads old new before now here there cond' (λ values. define_macro hash (definition line))
no_define_reads old new before now here there cond' hash line is read until later sound =
    subst (λ (o : Option Definition). Reads old new before now here there cond'
    (λ values. define_macro hash o)) is
    (reads_later old new before now here here here there cond' (λ values. define_macro hash None)
    (inl refl) (inr (until_before here (key hash) there until later)) (read here sound))

pub no_undef_reads : (old new : Diagram) (before now : UnitSoFar) (here : List ℕ) (cond' : Cond)
    (hash : Place) (line : List PpTok) → None ≡ undefined_name line
    → Reads old new before now here here cond' (λ values macros. refusal BadDefine hash)
    → Reads old new before now here here cond' (λ values. remove_macro hash (undefined_name line))
no_undef_reads old new before now here cond' hash line is read =
    subst (λ (o : Option (List ℕ)). Reads old new before now here here cond'
    (λ values. remove_macro hash o)) is read

------ `#include`

-- what an `#include` of a header comes to by the file that the header means
abbrev by_file : (reader : Reader) → Entered → (hash : PpTok) → Option File → List Entry
    → Reading (List Entry)
by_file reader at hash o macros = elim o [
  | None ↦ refusal NoFile (place_of at hash)
  | Some file ↦ reader (record { file = file; stack = at.stack ++ hash.span.start ∷ [] }) macros
]

-- what an `#include` comes to by the header that it names
abbrev by_header : NamedFiles → (reader : Option Reader) → Entered → (hash : PpTok)
    → Option Header → List Entry → Reading (List Entry)
by_header bundle reader at hash o macros = elim o [
  | None ↦ refusal BadDirective (place_of at hash)
  | Some header ↦ include_file bundle reader at hash header macros
]

-- what refuses reads a part that is refused so
pub refused_as : (old new : Diagram) (before now : UnitSoFar) (here : List ℕ) (cond' : Cond)
    (why : Why) (place there : Place) (part : List Entry → Reading (List Entry)) → Keeps old new
    → place ≡ there → ((macros : List Entry) → refusal why there ≡ part macros)
    → ((here : List ℕ) → IsSound old before here → Reads old new before now here here cond'
    (λ values macros. refusal why place))
    → IsSound old before here → Reads old new before now here here cond' (λ values. part)
refused_as old new before now here cond' why place there part keeps is same read sound =
    reads_same old new before now here here cond' (λ values macros. refusal why there)
    (λ values. part) keeps (λ values macros w l m. same macros)
    (subst (λ (p : Place). Reads old new before now here here cond'
    (λ values macros. refusal why p)) is (read here sound))

-- the same directive
pub same_action : (old new : Diagram) (before now : UnitSoFar) (here there : List ℕ)
    (cond' : Cond) (bundle : NamedFiles) (reader : Option Reader) (at : Entered) (hash : PpTok)
    (a b : Action) → b ≡ a
    → Reads old new before now here there cond' (λ values. obeyed bundle reader at hash a)
    → Reads old new before now here there cond' (λ values. obeyed bundle reader at hash b)
same_action old new before now here there cond' bundle reader at hash a b is =
    subst (λ (c : Action). Reads old new before now here there cond'
    (λ values. obeyed bundle reader at hash c)) (sym is)

pub no_file_reads : (bundle : NamedFiles) (at : Entered) (hash : PpTok) (header : Header)
    (left : ℕ) → 0 < left → found bundle at.file.name header ≡ None → (macros : List Entry)
    → refusal NoFile (place_of at hash)
    ≡ include_file bundle (reader_at left bundle) at hash header macros
no_file_reads bundle at hash header zero some none macros = absurd (omega (arith, some))
no_file_reads bundle at hash header (suc left) some none macros =
    ap (λ (o : Option File). by_file (entered left bundle) at hash o macros) (sym none)

pub too_deep_reads : (bundle : NamedFiles) (at : Entered) (hash : PpTok) (header : Header)
    (left : ℕ) → left ≡ 0 → (macros : List Entry) → refusal IncludeTooDeep (place_of at hash)
    ≡ include_file bundle (reader_at left bundle) at hash header macros
too_deep_reads bundle at hash header zero none macros = refl
too_deep_reads bundle at hash header (suc left) none macros = absurd (omega (arith, none))

pub header_reads : (bundle : NamedFiles) (reader : Option Reader) (at : Entered) (hash : PpTok)
    (o : Option Header) (line : List PpTok) → o ≡ header_on line → (macros : List Entry)
    → by_header bundle reader at hash o macros ≡ obeyed bundle reader at hash (include line) macros
header_reads bundle reader at hash o line is macros =
    ap (λ (o : Option Header). by_header bundle reader at hash o macros) is

found_file : (page : Page) (o : Option File) → IsFound (Some page) o
    → (file : File) × (o ≡ Some file) × IsPageOf page file
found_file page None r = absurd r
found_file page (Some file) r = (file, refl, r)

pub file_at : (bundle : NamedFiles) (at : Entered) (name : List ℕ) (origin : Origin)
    (hash : PpTok) (header : Header) (left : ℕ) (page : Page) (stack : List ℕ) → 0 < left
    → IsFound (Some page) (found bundle name header)
    → stack ≡ origin.stack ++ hash.span.start ∷ [] → IsOf name origin at
    → IsFileAt bundle at hash header left page stack
file_at bundle at name origin hash header zero page stack some there reach is =
    absurd (omega (arith, some))
file_at bundle at name origin hash header (suc left) page stack some there reach is =
    let file : (file : File) × (found bundle name header ≡ Some file) × IsPageOf page file =
    found_file page (found bundle name header) there in
    record {
      file = file.0;
      fewer = left;
      one_less = refl;
      is_found = ap (λ (n : List ℕ). found bundle n header) (sym is.same_name) ∙ file.1;
      is_page = file.2;
      reached_by = reach
          ∙ ap (λ (ns : List ℕ). ns ++ hash.span.start ∷ []) is.same_origin.stack;
    }

-- a line that names a header means the file that the header means
pub inclusion : (bundle : NamedFiles) (at : Entered) (hash : PpTok) (header : Header)
    (line : List PpTok) (left : ℕ) (page : Page) (stack : List ℕ)
    → Some header ≡ header_on line → IsFileAt bundle at hash header left page stack
    → IsInclusion bundle at hash (include line) left page stack
inclusion bundle at hash header line left page stack is f = record {
  file = f.file;
  fewer = f.fewer;
  one_less = f.one_less;
  is_page = f.is_page;
  reached_by = f.reached_by;
  reads = λ macros.
      sym (header_reads bundle (reader_at left bundle) at hash (Some header) line is macros)
      ∙ (ap (λ (n : ℕ). include_file bundle (reader_at n bundle) at hash header macros) f.one_less
      ∙ (ap (λ (o : Option File). by_file (entered f.fewer bundle) at hash o macros) f.is_found
      ∙ ap (λ (ns : List ℕ). entered f.fewer bundle (record { file = f.file; stack = ns }) macros)
      (sym f.reached_by)));
}

------ a directive in live configurations

-- a step that stays at each place is one from an offset of a file to a later one
pub still_reads : (old new : Diagram) (before now : UnitSoFar) (at : Entered) (low high : ℕ)
    (cond' : Cond) (part : Part) → low ≤ high
    → ((here : List ℕ) → IsSound old before here
    → Reads old new before now here here cond' part)
    → IsSound old before (reached at low)
    → Reads old new before now (reached at low) (reached at high) cond' part
still_reads old new before now at low high cond' part h read sound =
    reads_later old new before now (reached at low) (reached at low) (reached at low)
    (reached at high) cond' part (inl refl) (reached_until at low high h)
    (read (reached at low) sound)

pub define_acts : (old new : Diagram) (before now : UnitSoFar) (at : Entered) (low high : ℕ)
    (cond' : Cond) (bundle : NamedFiles) (reader : Option Reader) (hash : PpTok)
    (line : List PpTok) (place : Place) → place ≡ place_of at hash
    → low ≤ hash.span.start → hash.span.start < high
    → ((here there : List ℕ) → IsUntil here (key place) → IsBefore (key place) there
    → IsSound old before here
    → Reads old new before now here there cond' (λ values. define_macro place (definition line)))
    → IsSound old before (reached at low)
    → Reads old new before now (reached at low) (reached at high) cond'
    (λ values. obeyed bundle reader at hash (define line))
define_acts old new before now at low high cond' bundle reader hash line place is first second read
    sound =
    subst (λ (p : Place). (here there : List ℕ) → IsUntil here (key p) → IsBefore (key p) there
    → IsSound old before here
    → Reads old new before now here there cond' (λ values. define_macro p (definition line)))
    is read (reached at low) (reached at high)
    (reached_until at low hash.span.start first)
    (IsBefore-lower at.stack hash.span.start high [] second) sound

pub undef_acts : (old new : Diagram) (before now : UnitSoFar) (at : Entered) (low high : ℕ)
    (cond' : Cond) (bundle : NamedFiles) (reader : Option Reader) (hash : PpTok)
    (line : List PpTok) (place : Place) → place ≡ place_of at hash
    → low ≤ hash.span.start → hash.span.start < high
    → ((here : List ℕ) → IsSound old before here → Reads old new before now here here cond'
    (λ values. remove_macro place (undefined_name line)))
    → IsSound old before (reached at low)
    → Reads old new before now (reached at low) (reached at high) cond'
    (λ values. obeyed bundle reader at hash (undef line))
undef_acts old new before now at low high cond' bundle reader hash line place is first second read =
    still_reads old new before now at low high cond'
    (λ values. obeyed bundle reader at hash (undef line)) (omega (arith, first, second))
    (subst (λ (p : Place). (here : List ℕ) → IsSound old before here
    → Reads old new before now here here cond' (λ values. remove_macro p (undefined_name line)))
    is read)

pub error_acts : (old new : Diagram) (before now : UnitSoFar) (at : Entered) (low high : ℕ)
    (cond' : Cond) (bundle : NamedFiles) (reader : Option Reader) (hash : PpTok) (place : Place)
    → place ≡ place_of at hash → low ≤ hash.span.start → hash.span.start < high
    → ((here : List ℕ) → IsSound old before here → Reads old new before now here here cond'
    (λ values macros. refusal ErrorDirective place))
    → IsSound old before (reached at low)
    → Reads old new before now (reached at low) (reached at high) cond'
    (λ values. obeyed bundle reader at hash error)
error_acts old new before now at low high cond' bundle reader hash place is first second read =
    still_reads old new before now at low high cond'
    (λ values. obeyed bundle reader at hash error) (omega (arith, first, second))
    (subst (λ (p : Place). (here : List ℕ) → IsSound old before here
    → Reads old new before now here here cond' (λ values macros. refusal ErrorDirective p))
    is read)

pub unknown_acts : (old new : Diagram) (before now : UnitSoFar) (at : Entered) (low high : ℕ)
    (cond' : Cond) (bundle : NamedFiles) (reader : Option Reader) (hash : PpTok) (place : Place)
    → place ≡ place_of at hash → low ≤ hash.span.start → hash.span.start < high
    → ((here : List ℕ) → IsSound old before here → Reads old new before now here here cond'
    (λ values macros. refusal BadDirective place))
    → IsSound old before (reached at low)
    → Reads old new before now (reached at low) (reached at high) cond'
    (λ values. obeyed bundle reader at hash unknown)
unknown_acts old new before now at low high cond' bundle reader hash place is first second read =
    still_reads old new before now at low high cond'
    (λ values. obeyed bundle reader at hash unknown) (omega (arith, first, second))
    (subst (λ (p : Place). (here : List ℕ) → IsSound old before here
    → Reads old new before now here here cond' (λ values macros. refusal BadDirective p))
    is read)

pub ignored_acts : (store : Diagram) (before : UnitSoFar) (at : Entered) (low high : ℕ)
    (cond' : Cond) (bundle : NamedFiles) (reader : Option Reader) (hash : PpTok)
    → Keeps store store → low ≤ hash.span.start → hash.span.start < high
    → IsSound store before (reached at low)
    → Reads store store before before (reached at low) (reached at high) cond'
    (λ values. obeyed bundle reader at hash ignored)
ignored_acts store before at low high cond' bundle reader hash keeps first second =
    still_reads store store before before at low high cond'
    (λ values. obeyed bundle reader at hash ignored) (omega (arith, first, second))
    (λ here sound. nothing_reads store store before here cond'
    (λ values. obeyed bundle reader at hash ignored) keeps sound
    (λ values macros w l m. refl))

------ a directive where it is processed

-- a part is read where lines are processed
by_processed : (own within processed live : Bool) (r s : Reading (List Entry))
    → own ≡ ((within && processed) && live) → live ≡ true
    → cond own r s ≡ cond within
    (elim processed as (λ _. Reading (List Entry)) [ true ↦ r | false ↦ s ]) s
by_processed own true true true r s e l = ap (λ (b : Bool). cond b r s) e
by_processed own true false true r s e l = ap (λ (b : Bool). cond b r s) e
by_processed own false p true r s e l = ap (λ (b : Bool). cond b r s) (e ∙ outside p)
  where
    outside : (p : Bool) → ((false && p) && true) ≡ false
    outside p = refl
by_processed own within p false r s e l = absurd (differ l)
  where
    differ : false ≡ true → ⊥
    differ h = cc

not_processed : (own within processed live : Bool) → own ≡ ((within && processed) && live)
    → own ≡ false → within ≡ true → live ≡ true → processed ≡ false
not_processed own within false live e n w l = refl
not_processed own within true live e n w l = absurd (differ (sym n ∙ (e ∙ all)))
  where
    differ : false ≡ true → ⊥
    differ h = cc

    both : (a b : Bool) → a ≡ true → b ≡ true → ((a && true) && b) ≡ true
    both true true p q = refl
    both true false p q = q
    both false b p q = absurd (differ p)

    all : ((within && true) && live) ≡ true
    all = both within live w l

module _ (old mid : Diagram) (before : UnitSoFar) (within own : Cond)
    (groups : List Bool → List Group) (bundle : NamedFiles) (reader : Option Reader) (at : Entered)
    (hash : PpTok) (a : Action)
    (meaning : (values : List Bool) → holds mid own values
    ≡ ((holds old within values && is_processed (groups values))
    && holds old before.live values)) where
  -- what is read in the configurations that process lines is read in those of the file
  pub processed_reads : (new : Diagram) (now : UnitSoFar) (here there : List ℕ) → Keeps old mid
      → Keeps mid new → IsUnit old before
      → Reads mid new before now here there own (λ values. obeyed bundle reader at hash a)
      → Reads old new before now here there within
      (λ values. action_part bundle reader at (groups values) hash a)
  processed_reads new now here there first second unit read =
      reads_as old mid new before now here there within own
      (λ values. obeyed bundle reader at hash a)
      (λ values. action_part bundle reader at (groups values) hash a) first second unit
      (λ values macros l m. by_processed (holds mid own values) (holds old within values)
      (is_processed (groups values)) (holds old before.live values)
      (obeyed bundle reader at hash a macros) (reading macros) (meaning values) l)
      read

  skipped : (values : List Bool) (macros : List Entry) (processed : Bool) → processed ≡ false
      → elim processed as (λ _. Reading (List Entry)) [
        | true ↦ obeyed bundle reader at hash a macros
        | false ↦ reading macros
      ] ≡ reading macros
  skipped values macros true e = absurd (differ e)
    where
      differ : true ≡ false → ⊥
      differ h = cc
  skipped values macros false e = refl

  -- where no live configuration processes lines nothing is read
  pub unprocessed_reads : (low high : ℕ) → Keeps old mid
      → ((values : List Bool) → holds mid own values ≡ false) → low ≤ high
      → IsSound old before (reached at low)
      → Reads old mid before before (reached at low) (reached at high) within
      (λ values. action_part bundle reader at (groups values) hash a)
  unprocessed_reads low high keeps never h =
      still_reads old mid before before at low high within
      (λ values. action_part bundle reader at (groups values) hash a) h
      (λ here sound. nothing_reads old mid before here within
      (λ values. action_part bundle reader at (groups values) hash a) keeps sound
      (λ values macros w l m. skipped values macros (is_processed (groups values))
      (not_processed (holds mid own values) (holds old within values)
      (is_processed (groups values)) (holds old before.live values) (meaning values)
      (never values) w l)))
