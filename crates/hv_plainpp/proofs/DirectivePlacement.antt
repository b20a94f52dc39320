-- Directives meet their episodes at different places of their line.
use Rattle.std.proofs.Common.{◌≡◌, ℕ, suc, ◌<◌, ◌≤◌, Bool, true, false, cond, List, [], ◌∷◌, ◌++◌, length, not, refl, sym, ◌∙◌, subst, arith, Option, Some, None, codes, nat_lt, bytes_eq}
use Rattle.hv_base.specs.Bundles.{NamedFiles}
use Rattle.hv_base.specs.declared.limits.TheConstants.{MOST_GROUPS}
use Rattle.hv_base.specs.declared.place.Place.{Place}
use Rattle.hv_base.specs.declared.why.Why.TheVariants.{BadDirective, NoFile}
use Rattle.hv_toks.specs.Macro.{Macro}
use Rattle.hv_toks.specs.MacroState.{Entry}
use Rattle.hv_toks.specs.declared.token.PpTok.{PpTok}
use Rattle.hv_plain.specs.declared.episode.RunEnd.TheVariants.{Line}
use Rattle.hv_plain.specs.episode.Episode.{episode}
use Rattle.hv_plain.specs.episode.Expansion.{Result, expands, fails, Episode}
use Rattle.hv_plain.specs.episode.Tokens.{is_identifier}
use Rattle.hv_plain.specs.gathering.Mentions.{Header}
use Rattle.hv_plainpp.specs.Definitions.{Definition, definition, undefined_name}
use Rattle.hv_plainpp.specs.Directives.{Question, expression, is_macro, is_no_macro, Conditional, if_, elif, else_, endif, Action, include, define, undef, error, ignored, unknown, Directive, conditional, action, named}
use Rattle.hv_plainpp.specs.Expressions.{truth_of}
use Rattle.hv_plainpp.specs.Files.{File, Entered, place_of, found}
use Rattle.hv_plainpp.specs.Groups.{Progress, searching, processing, over, Group, is_processed, judged, line_truth, expression_truth, is_defined, name_truth, answer, progress_at, open_group, going_on, elif_in, regrouped}
use Rattle.hv_plainpp.specs.Preprocessing.{Reader, include_file, header_on, define_macro, remove_macro, obeyed, file}
use Rattle.hv_plainpp.specs.Reading.{Met, Reading, reading, refusal, and_then}
use Rattle.hv_plainpp.proofs.Items.{each_weaken}
use Rattle.std.proofs.lemmas.List.{append_assoc}
use Rattle.hv_plainpp.proofs.Placement.{Between, From, Block, Rest, block_wider, own_block, no_block, and_then_block, if_block}

------ directives that make groups

-- the first of these tokens begins between two offsets
abbrev pub FirstIn : ℕ → ℕ → List PpTok → Type 0
FirstIn lo hi [] = Unit {0}
FirstIn lo hi (t ∷ toks) = (lo ≤ t.span.start) × (t.span.start < hi)

-- what is said of the tokens of an expression
abbrev pub ForQuestion : (List PpTok → Type 0) → Question → Type 0
ForQuestion P (expression toks) = P toks
ForQuestion P (is_macro toks) = Unit {0}
ForQuestion P (is_no_macro toks) = Unit {0}

abbrev pub ForConditional : (List PpTok → Type 0) → Conditional → Type 0
ForConditional P (if_ asked) = ForQuestion P asked
ForConditional P (elif toks) = P toks
ForConditional P else_ = Unit {0}
ForConditional P endif = Unit {0}

abbrev pub ForDirective : (List PpTok → Type 0) → Directive → Type 0
ForDirective P (conditional c) = ForConditional P c
ForDirective P (action a) = Unit {0}

pub for_cond : (P : List PpTok → Type 0) (b : Bool) (x y : Directive) → ForDirective P x
    → ForDirective P y → ForDirective P (cond b x y)
for_cond P true x y p q = p
for_cond P false x y p q = q

pub for_named : (P : List PpTok → Type 0) (name : List ℕ) (toks : List PpTok) → P toks
    → ForDirective P (named name toks)
for_named P name toks p =
    for_cond P (bytes_eq name (codes "if")) (conditional (if_ (expression toks))) _ p
    (for_cond P (bytes_eq name (codes "ifdef")) (conditional (if_ (is_macro toks))) _ tt
    (for_cond P (bytes_eq name (codes "ifndef")) (conditional (if_ (is_no_macro toks))) _ tt
    (for_cond P (bytes_eq name (codes "elif")) (conditional (elif toks)) _ p
    (for_cond P (bytes_eq name (codes "else")) (conditional else_) _ tt
    (for_cond P (bytes_eq name (codes "endif")) (conditional endif) _ tt
    (for_cond P (bytes_eq name (codes "include")) (action (include toks)) _ tt
    (for_cond P (bytes_eq name (codes "define")) (action (define toks)) _ tt
    (for_cond P (bytes_eq name (codes "undef")) (action (undef toks)) _ tt
    (for_cond P (bytes_eq name (codes "error")) (action error) _ tt
    (for_cond P (bytes_eq name (codes "pragma")) (action ignored) (action unknown) tt tt))))))))))

pub judged_met : (hash : Place) (o : Option Bool) → (judged hash o).met ≡ []
judged_met hash None = refl
judged_met hash (Some b) = refl

pub line_met : (hash first : Place) (r : Result) → (line_truth hash first r).met ≡ []
line_met hash first (fails why) = refl
line_met hash first (expands given unread) = judged_met hash (truth_of given)

pub expression_block : (at : Entered) (macros : List ℕ → Macro) (hash : Place) (toks : List PpTok)
    (lo hi : ℕ) → FirstIn lo hi toks
    → Block at.stack lo hi (expression_truth at macros hash toks).met
expression_block at macros hash [] lo hi p = (tt, tt)
expression_block at macros hash (t ∷ toks) lo hi p =
    let e : Episode = episode Line (t ∷ toks) 0 macros in
    let m : Met = record { place = place_of at t; face = e.face; gives = [] } in
    subst (λ (ms : List Met). Block at.stack lo hi (m ∷ ms))
    (sym (line_met hash (place_of at t) e.result))
    (block_wider at.stack t.span.start (suc t.span.start) lo hi p.0 p.1 (m ∷ [])
    (own_block at t e.face []))

pub if_met : {A : Type 0} (b : Bool) (x y : Reading A) → x.met ≡ [] → y.met ≡ []
    → (elim b as (λ _. Reading A) [ true ↦ x | false ↦ y ]).met ≡ []
if_met true x y p q = p
if_met false x y p q = q

pub name_met : (macros : List ℕ → Macro) (hash : Place) (toks : List PpTok)
    → (name_truth macros hash toks).met ≡ []
name_met macros hash [] = refl
name_met macros hash (t ∷ toks) = if_met (is_identifier t.kind) (reading (is_defined (macros t.text))) _ refl refl

pub answer_block : (at : Entered) (macros : List ℕ → Macro) (hash : Place) (asked : Question)
    (lo hi : ℕ) → ForQuestion (FirstIn lo hi) asked
    → Block at.stack lo hi (answer at macros hash asked).met
answer_block at macros hash (expression toks) lo hi p =
    expression_block at macros hash toks lo hi p
answer_block at macros hash (is_macro toks) lo hi p =
    no_block at.stack lo hi (name_truth macros hash toks).met (name_met macros hash toks)
answer_block at macros hash (is_no_macro toks) lo hi p =
    and_then_block at.stack lo hi (name_truth macros hash toks) (λ truth. reading (not truth))
    (no_block at.stack lo hi (name_truth macros hash toks).met (name_met macros hash toks))
    (λ truth. refl)

pub open_met : (hash : Place) (progress : Progress) (groups : List Group)
    → (open_group hash progress groups).met ≡ []
open_met hash progress groups =
    if_met (nat_lt (length groups) MOST_GROUPS)
    (reading (record { opened = hash; progress = progress; behind_else = false } ∷ groups)) _
    refl refl

pub elif_block : (at : Entered) (macros : List ℕ → Macro) (hash : Place) (toks : List PpTok)
    (g : Group) (groups : List Group) (progress : Progress) (lo hi : ℕ) → FirstIn lo hi toks
    → Block at.stack lo hi (elif_in at macros hash toks g groups progress).met
elif_block at macros hash toks g groups searching lo hi p =
    and_then_block at.stack lo hi (expression_truth at macros hash toks)
    (λ truth. going_on g (progress_at truth) groups)
    (expression_block at macros hash toks lo hi p) (λ truth. refl)
elif_block at macros hash toks g groups processing lo hi p = (tt, tt)
elif_block at macros hash toks g groups over lo hi p = (tt, tt)

pub regrouped_block : (at : Entered) (macros : List ℕ → Macro) (hash : Place) (c : Conditional)
    (groups : List Group) (lo hi : ℕ) → ForConditional (FirstIn lo hi) c
    → Block at.stack lo hi (regrouped at macros hash c groups).met
regrouped_block at macros hash (if_ asked) groups lo hi p =
    if_block at.stack lo hi (is_processed groups)
    (and_then (answer at macros hash asked)
    (λ truth. open_group hash (progress_at truth) groups))
    (open_group hash over groups)
    (and_then_block at.stack lo hi (answer at macros hash asked)
    (λ truth. open_group hash (progress_at truth) groups)
    (answer_block at macros hash asked lo hi p)
    (λ truth. open_met hash (progress_at truth) groups))
    (no_block at.stack lo hi (open_group hash over groups).met (open_met hash over groups))
regrouped_block at macros hash (elif toks) [] lo hi p = (tt, tt)
regrouped_block at macros hash (elif toks) (g ∷ groups) lo hi p =
    if_block at.stack lo hi g.behind_else _ (elif_in at macros hash toks g groups g.progress)
    (tt, tt) (elif_block at macros hash toks g groups g.progress lo hi p)
regrouped_block at macros hash else_ [] lo hi p = (tt, tt)
regrouped_block at macros hash else_ (g ∷ groups) lo hi p =
    if_block at.stack lo hi g.behind_else _ _ (tt, tt) (tt, tt)
regrouped_block at macros hash endif [] lo hi p = (tt, tt)
regrouped_block at macros hash endif (g ∷ groups) lo hi p = (tt, tt)

------ other directives

-- a reader meets no two episodes at one place, and all of them in the file that it is given
abbrev pub ReaderPlaced : Option Reader → Type 0
ReaderPlaced None = Unit {0}
ReaderPlaced (Some reader) = (at : Entered) (macros : List Entry)
    → Rest at.stack 0 (reader at macros).met

pub included_block : (stack : List ℕ) (offset : ℕ) (ms : List Met) → Rest (stack ++ offset ∷ []) 0 ms
    → Block stack offset (suc offset) ms
included_block stack offset ms p = (
  p.0,
  each_weaken (From (stack ++ offset ∷ []) 0) (Between stack offset (suc offset))
      (λ m q. (
        offset,
        omega arith,
        omega arith,
        (q.0 ∷ q.2.0, q.2.1 ∙ append_assoc stack (offset ∷ []) (q.0 ∷ q.2.0)),
      )) ms p.1,
)

pub found_block : (reader : Reader) → ReaderPlaced (Some reader) → (at : Entered) (hash : PpTok)
    (macros : List Entry) (o : Option File)
    → Block at.stack hash.span.start (suc hash.span.start) (elim o as (λ _. Reading (List Entry)) [
      | None ↦ refusal NoFile (place_of at hash)
      | Some file ↦
          reader (record { file = file; stack = at.stack ++ hash.span.start ∷ [] }) macros
    ]).met
found_block reader h at hash macros None = (tt, tt)
found_block reader h at hash macros (Some file) =
    let inner : Entered = record { file = file; stack = at.stack ++ hash.span.start ∷ [] } in
    included_block at.stack hash.span.start (reader inner macros).met (h inner macros)

pub include_block : (bundle : NamedFiles) (reader : Option Reader) → ReaderPlaced reader
    → (at : Entered) (hash : PpTok) (macros : List Entry) (o : Option Header)
    → Block at.stack hash.span.start (suc hash.span.start) (elim o as (λ _. Reading (List Entry)) [
      | None ↦ refusal BadDirective (place_of at hash)
      | Some header ↦ include_file bundle reader at hash header macros
    ]).met
include_block bundle reader h at hash macros None = (tt, tt)
include_block bundle None h at hash macros (Some header) = (tt, tt)
include_block bundle (Some reader) h at hash macros (Some header) =
    found_block reader h at hash macros (found bundle at.file.name header)

pub define_met : (hash : Place) (o : Option Definition) (macros : List Entry)
    → (define_macro hash o macros).met ≡ []
define_met hash None macros = refl
define_met hash (Some d) macros = refl

pub remove_met : (hash : Place) (o : Option (List ℕ)) (macros : List Entry)
    → (remove_macro hash o macros).met ≡ []
remove_met hash None macros = refl
remove_met hash (Some name) macros = refl

pub obeyed_block : (bundle : NamedFiles) (reader : Option Reader) → ReaderPlaced reader
    → (at : Entered) (hash : PpTok) (a : Action) (macros : List Entry)
    → Block at.stack hash.span.start (suc hash.span.start)
    (obeyed bundle reader at hash a macros).met
obeyed_block bundle reader h at hash (include line) macros =
    include_block bundle reader h at hash macros (header_on line)
obeyed_block bundle reader h at hash (define line) macros =
    no_block at.stack hash.span.start (suc hash.span.start)
    (define_macro (place_of at hash) (definition line) macros).met
    (define_met (place_of at hash) (definition line) macros)
obeyed_block bundle reader h at hash (undef line) macros =
    no_block at.stack hash.span.start (suc hash.span.start)
    (remove_macro (place_of at hash) (undefined_name line) macros).met
    (remove_met (place_of at hash) (undefined_name line) macros)
obeyed_block bundle reader h at hash error macros = (tt, tt)
obeyed_block bundle reader h at hash ignored macros = (tt, tt)
obeyed_block bundle reader h at hash unknown macros = (tt, tt)
