-- Which answer is told, where a step found a file with which a limit is passed.
use Rattle.std.proofs.Common.{◌≡◌, ◌∙◌, ◌+◌, ◌-◌, ◌^◌, ◌<◌, ◌≤◌, ◌⊎◌, ℕ, zero, suc, Bool, List, [], ◌∷◌, ◌++◌, Option, Some, None, Result, Ok, Err, IfErr, IsTrue, refl, sym, ap, subst, arith, fold, get_or, length, min, take}
use Rattle.hv_base.specs.Bundles.{NamedFiles}
use Rattle.hv_base.specs.declared.held.Held.{Held}
use Rattle.hv_base.specs.declared.held.Held.TheVariants.{Bytes, Absent}
use Rattle.hv_base.specs.declared.limits.TheConstants.{MOST_FILE_BYTES, MOST_BUNDLE_BYTES, MOST_INCLUDES}
use Rattle.hv_outside.specs.Files.{FileState}
use Rattle.hv_plain.specs.gathering.Mentions.{Header}
use Rattle.hv_plain.specs.gathering.SearchOrder.{candidates}
use Rattle.hv_plain.specs.gathering.Told.{Reached, Search, ask, begin, beginning, deepen, follow, follow_all, look_up, told, with_file}
use Rattle.hv_gather.specs.declared.fault.GatherFault.{GatherFault}
use Rattle.hv_gather.specs.declared.fault.GatherFault.TheVariants.{Read, MainAbsent, TooBig, Memory}
use Rattle.hv_gather.specs.Causes.{Answers, IsCaused, told_answer, too_big, within_limits}
use Rattle.hv_gather.specs.Limits.{Beyond, first_beyond, total_of}
use Rattle.hv_gather.specs.working.Searches.{Extends}
use Rattle.hv_gather.specs.working.Steps.{IsCausedByStep, IsWithin, NamesFirst, NamesThis}
use Rattle.hv_gather.proofs.ExtendsLemmas.{Extends-deepen, Extends-follow, Extends-look_up, Extends-rest}
use Rattle.hv_gather.proofs.LimitsLemmas.{none-absent, none-file, some-append, some-file, total_of-absent, total_of-file}
use Rattle.hv_gather.proofs.SearchLemmas.{deepen-next}

------ NamesFirst

-- with more files it is still the first one
pub NamesFirst-more : (entries more : List (List ℕ × Held)) (fault : GatherFault) → NamesFirst entries fault → NamesFirst (entries ++ more) fault
NamesFirst-more entries more (Read name) names = tt
NamesFirst-more entries more MainAbsent names = tt
NamesFirst-more entries more (TooBig name size total) names = (names.0, some-append entries more 0 names.0 names.1, names.2)
NamesFirst-more entries more Memory names = tt

-- a search that goes on names the same file
pub NamesFirst-later : (before now : Search) (fault : GatherFault) → Extends before now → NamesFirst before.entries fault → NamesFirst now.entries fault
NamesFirst-later before now fault extends names =
    rw extends.entries (NamesFirst-more before.entries extends.more fault names)

-- a file with which a limit is passed, after files within the limits
pub NamesFirst-file : (entries : List (List ℕ × Held)) (file name bytes : List ℕ) (so_far size total : ℕ) → IsWithin so_far entries
    → file ≡ name → length bytes ≡ size → total ≡ min (so_far + size) (2 ^ 64 - 1)
    → ((MOST_FILE_BYTES < size) ⊎ (MOST_BUNDLE_BYTES < so_far + size))
    → NamesFirst (entries ++ (name, Bytes bytes) ∷ []) (TooBig file size total)
NamesFirst-file entries file name bytes so_far size total within same long sum passed =
    let beyond : Beyond = record { name = name; size = length bytes; total = total_of entries + length bytes } in
    (beyond, some-file entries name bytes within.none (rw (long, ← within.counted) passed), rw (same, sum, within.counted, ← long) refl)

-- what is named when a name is asked for is named by the search for the header
pub NamesThis-asked : (result : Result Bool GatherFault) (name : List ℕ) (held : Option (List ℕ)) (found : Option Held) (go_on : Search → Search) (before : Search)
    → found ≡ None → IfErr result (NamesThis name held before.entries)
    → IfErr result (NamesFirst (ask name held found go_on before).entries)
NamesThis-asked (Ok _) name held found go_on before unasked names = tt
NamesThis-asked (Err (Read _)) name held found go_on before unasked names = tt
NamesThis-asked (Err MainAbsent) name held found go_on before unasked names = tt
NamesThis-asked (Err (TooBig file size total)) name held found go_on before unasked names = rw (unasked, names.1) names.2
NamesThis-asked (Err Memory) name held found go_on before unasked names = tt

------ IsWithin

-- one more file, within the limits
pub IsWithin-file : (entries now : List (List ℕ × Held)) (name bytes : List ℕ) (so_far size total : ℕ) → IsWithin so_far entries
    → length bytes ≡ size → size ≤ MOST_FILE_BYTES → total ≡ min (so_far + size) (2 ^ 64 - 1) → total ≤ MOST_BUNDLE_BYTES
    → now ≡ entries ++ (name, Bytes bytes) ∷ [] → IsWithin total now
IsWithin-file entries now name bytes so_far size total within long small sum all is =
    let so_far_is : so_far ≡ total_of entries = within.counted in
    rw is (record {
      counted = omega (arith, total_of-file entries name bytes);
      none = none-file entries name bytes within.none (omega arith) (omega arith);
    })

-- one more name without a file
pub IsWithin-absent : (entries now : List (List ℕ × Held)) (name : List ℕ) (before total : ℕ) → IsWithin before entries
    → total ≡ before → now ≡ entries ++ (name, Absent) ∷ [] → IsWithin total now
IsWithin-absent entries now name before total within same is =
    rw is (record {
      counted = same ∙ (within.counted ∙ sym (total_of-absent entries name));
      none = none-absent entries name within.none;
    })

------ told_answer

told_answer-there : (held : Option (List ℕ)) (bytes : List ℕ) (rest : Result NamedFiles GatherFault) → held ≡ Some bytes
    → elim held [ None ↦ Err MainAbsent | Some _ ↦ rest ] ≡ rest
told_answer-there held bytes rest e = rw e refl

told_answer-none : (held : Option (List ℕ)) (rest : Result NamedFiles GatherFault) → held ≡ None
    → ◌≡◌ {A = Result NamedFiles GatherFault} (elim held [ None ↦ Err MainAbsent | Some _ ↦ rest ]) (Err MainAbsent)
told_answer-none held rest e = rw e refl

within_limits-first : (found : NamedFiles) (beyond : Beyond) → first_beyond found.entries 0 ≡ Some beyond
    → within_limits found ≡ Err (too_big beyond)
within_limits-first found beyond e = rw (e, within_limits) refl

within_limits-none : (found : NamedFiles) → first_beyond found.entries 0 ≡ None → within_limits found ≡ Ok found
within_limits-none found e = rw (e, within_limits) refl

-- the bundle that was found is the answer
pub Answers-bundle : (held : List ℕ → Option (List ℕ)) (main : List ℕ) (dirs : List (List ℕ)) (bytes : List ℕ) (bundle : NamedFiles)
    → held main ≡ Some bytes → bundle ≡ told held main dirs → first_beyond bundle.entries 0 ≡ None
    → Answers (told_answer held main dirs) (Ok bundle)
Answers-bundle held main dirs bytes bundle there is none =
    told_answer-there (held main) bytes (within_limits (told held main dirs)) there
    ∙ (ap within_limits (sym is) ∙ within_limits-none bundle none)

-- a fault after the main file was found
pub Answers-fault : (held : List ℕ → Option (List ℕ)) (main : List ℕ) (dirs : List (List ℕ)) (bytes : List ℕ) (before now : FileState) (fault : GatherFault)
    → held main ≡ Some bytes → IsCausedByStep before now fault → NamesFirst (told held main dirs).entries fault
    → Answers (told_answer held main dirs) (Err fault)
Answers-fault held main dirs bytes before now (Read name) there cause names = tt
Answers-fault held main dirs bytes before now MainAbsent there cause names = absurd cause
Answers-fault held main dirs bytes before now (TooBig name size total) there cause names =
    told_answer-there (held main) bytes (within_limits (told held main dirs)) there
    ∙ (within_limits-first (told held main dirs) names.0 names.1 ∙ ap Err (sym names.2))
Answers-fault held main dirs bytes before now Memory there cause names = tt

-- a fault at the main file
pub Answers-begin : (held : List ℕ → Option (List ℕ)) (main : List ℕ) (dirs : List (List ℕ)) (before now : FileState) (fault : GatherFault)
    → IsTrue before.told → before.held main ≡ held main → IsCaused main before now fault → NamesThis main (held main) [] fault
    → Answers (told_answer held main dirs) (Err fault)
Answers-begin held main dirs before now (Read name) told_so same cause names = tt
Answers-begin held main dirs before now MainAbsent told_so same cause names =
    told_answer-none (held main) (within_limits (told held main dirs)) (sym same ∙ cause.1 told_so)
Answers-begin held main dirs before now (TooBig name size total) told_so same cause names =
    let first : Search = with_file main names.0 beginning in
    let begun : begin main (held main) ≡ first = ap (begin main) names.1 in
    let later = Extends-deepen MOST_INCLUDES held dirs first in
    let all : (told held main dirs).entries ≡ first.entries ++ later.more =
    ap (λ (search : Search). (deepen MOST_INCLUDES held dirs search).entries) begun ∙ later.entries in
    let found = some-append first.entries later.more 0 names.2.0 names.2.1 in
    told_answer-there (held main) names.0 (within_limits (told held main dirs)) names.1
    ∙ (within_limits-first (told held main dirs) names.2.0 (ap (λ entries. first_beyond entries 0) all ∙ found) ∙ ap Err (sym names.2.2))
Answers-begin held main dirs before now Memory told_so same cause names = tt

-- a fault some mentions deep
pub NamesFirst-deepen : (left counter : ℕ) (held : List ℕ → Option (List ℕ)) (main : List ℕ) (dirs folders : List (List ℕ)) (begun before : Search) (fault : GatherFault)
    → counter < MOST_INCLUDES → left + counter ≡ MOST_INCLUDES
    → deepen MOST_INCLUDES held folders begun ≡ deepen left held folders before
    → folders ≡ dirs → begun ≡ begin main (held main)
    → NamesFirst (follow_all held folders before.waiting (record before { waiting = [] })).entries fault
    → NamesFirst (told held main dirs).entries fault
NamesFirst-deepen zero counter held main dirs folders begun before fault more count so_far same first names = absurd (omega arith)
NamesFirst-deepen (suc n) counter held main dirs folders begun before fault more count so_far same first names =
    let next : Search = follow_all held folders before.waiting (record before { waiting = [] }) in
    let later = NamesFirst-later next (deepen n held folders next) fault (Extends-deepen n held folders next) names in
    let all : (told held main dirs).entries ≡ (deepen n held folders next).entries =
    ap (λ (search : Search). search.entries)
    (ap (deepen MOST_INCLUDES held dirs) (sym first)
    ∙ (ap (λ names. deepen MOST_INCLUDES held names begun) (sym same) ∙ (so_far ∙ deepen-next n held folders before))) in
    rw all later

-- a fault at one of the headers that a file mentions
pub NamesFirst-follow : (held : List ℕ → Option (List ℕ)) (dirs folders : List (List ℕ)) (file name : List ℕ) (items mentioned : List Header) (i : ℕ) (item this : Header) (start so_far : Search) (fault : GatherFault)
    → i < length items → get_or items i item ≡ this → folders ≡ dirs → name ≡ file → mentioned ≡ items
    → so_far ≡ follow held dirs file (take i items) start
    → NamesFirst (look_up held this.name (candidates folders name this) so_far).entries fault
    → NamesFirst (follow held dirs file mentioned start).entries fault
NamesFirst-follow held dirs folders file name items mentioned i item this start so_far fault within same folders_same name_same items_same found names =
    let step : Search → Header → Search = λ now header. look_up held header.name (candidates dirs file header) now in
    let here : Search = step (fold step start (take i items)) (get_or items i item) in
    let rest = Extends-rest step (λ now header. Extends-look_up held header.name (candidates dirs file header) now) item items i start within in
    let is : (look_up held this.name (candidates folders name this) so_far).entries ≡ here.entries = rw (← same, folders_same, name_same, found) refl in
    rw items_same (NamesFirst-later here (follow held dirs file items start) fault rest (subst (λ entries. NamesFirst entries fault) is names))

-- a fault at one of the files that wait
pub NamesFirst-follow_all : (held : List ℕ → Option (List ℕ)) (dirs folders : List (List ℕ)) (items waiting : List Reached) (i : ℕ) (item this : Reached) (start so_far : Search) (fault : GatherFault)
    → i < length items → get_or items i item ≡ this → folders ≡ dirs → waiting ≡ items
    → so_far ≡ follow_all held dirs (take i items) start
    → NamesFirst (follow held folders this.name this.mentioned so_far).entries fault
    → NamesFirst (follow_all held dirs waiting start).entries fault
NamesFirst-follow_all held dirs folders items waiting i item this start so_far fault within same folders_same items_same found names =
    let step : Search → Reached → Search = λ now reached. follow held dirs reached.name reached.mentioned now in
    let here : Search = step (fold step start (take i items)) (get_or items i item) in
    let rest = Extends-rest step (λ now reached. Extends-follow held dirs reached.name reached.mentioned now) item items i start within in
    let is : (follow held folders this.name this.mentioned so_far).entries ≡ here.entries = rw (← same, folders_same, found) refl in
    rw items_same (NamesFirst-later here (follow_all held dirs items start) fault rest (subst (λ entries. NamesFirst entries fault) is names))
