-- What the steps of the search make of it.
use Rattle.std.proofs.Common.{◌≡◌, ◌∙◌, ◌<◌, ◌≤◌, ◌+◌, ℕ, zero, suc, Bool, true, false, List, [], ◌∷◌, ◌++◌, Option, Some, None, Result, Ok, Err, IfOk, refl, sym, ap, subst, arith, length, take, drop, map, get_or}
use Rattle.std.specs.Map.{lookup}
use Rattle.std.specs.Str.{bytes_eq}
use Rattle.std.proofs.Math.Seq.{drop-cons}
use Rattle.hv_base.specs.Bundles.{NamedFiles}
use Rattle.hv_base.specs.declared.limits.TheConstants.{MOST_INCLUDES}
use Rattle.hv_base.specs.declared.held.Held.{Held}
use Rattle.hv_base.specs.declared.held.Held.TheVariants.{Bytes, Absent}
use Rattle.hv_plain.specs.gathering.Told.{Search, Reached, ask, begin, beginning, deepen, follow_all, look_up, told, with_absent, with_file}
use Rattle.hv_gather.specs.working.Steps.{IsRead, Leads}

-- a name that was not asked for before
ask-unread : (there : Bool) (name : List ℕ) (held : Option (List ℕ)) (found : Option Held) (go_on : Search → Search) (before now : Search)
    → found ≡ None → IsRead there name held before now → Leads there (ask name held found go_on before) go_on now
ask-unread true name held found go_on before now unasked read = rw (unasked, read.1) (sym read.2)
ask-unread false name held found go_on before now unasked read = rw (unasked, read.0) (ap go_on (sym read.1))

-- the same of an answer
pub ask-read : {E : Type 0} (result : Result Bool E) (name : List ℕ) (held : Option (List ℕ)) (found : Option Held) (go_on : Search → Search) (before now : Search)
    → found ≡ None → IfOk result (λ there. IsRead there name held before now) → IfOk result (λ there. Leads there (ask name held found go_on before) go_on now)
ask-read (Ok there) name held found go_on before now unasked read = ask-unread there name held found go_on before now unasked read
ask-read (Err _) name held found go_on before now unasked read = tt

-- the main file was read
pub begin-read : (main : List ℕ) (held : Option (List ℕ)) (fresh now : Search) → fresh ≡ beginning → IsRead true main held fresh now → now ≡ begin main held
begin-read main held fresh now new read = rw read.1 (read.2 ∙ ap (with_file main read.0) new)

-- one name after the other is asked for
pub look_up-step : {X : Type 0} (bytes_of : X → List ℕ) (held : List ℕ → Option (List ℕ)) (header : List ℕ) (names : List X) (i m : ℕ) (name : X) (asked : List ℕ) (before now : Search)
    → i < length names → m ≡ suc i → bytes_of (get_or names i name) ≡ asked
    → ask asked (held asked) (lookup (bytes_eq asked) before.entries) (look_up held header (map bytes_of (drop m names))) before ≡ now
    → look_up held header (map bytes_of (drop i names)) before ≡ now
look_up-step bytes_of held header names i m name asked before now within next same given =
    let parts : drop i names ≡ get_or names i name ∷ drop m names = rw next (drop-cons names i name within) in
    rw (parts, same) given

-- the search for a header asks for the next name first
pub look_up-here : {X : Type 0} (bytes_of : X → List ℕ) (held : List ℕ → Option (List ℕ)) (header : List ℕ) (names : List X) (i m : ℕ) (name : X) (asked : List ℕ) (before : Search)
    → i < length names → m ≡ suc i → bytes_of (get_or names i name) ≡ asked
    → look_up held header (map bytes_of (drop i names)) before
    ≡ ask asked (held asked) (lookup (bytes_eq asked) before.entries) (look_up held header (map bytes_of (drop m names))) before
look_up-here bytes_of held header names i m name asked before within next same =
    let parts : drop i names ≡ get_or names i name ∷ drop m names = rw next (drop-cons names i name within) in
    rw (parts, same) refl

-- one mention deeper
pub deepen-next : (n : ℕ) (held : List ℕ → Option (List ℕ)) (dirs : List (List ℕ)) (search : Search)
    → deepen (suc n) held dirs search ≡ deepen n held dirs (follow_all held dirs search.waiting (record search { waiting = [] }))
unfolding deepen
deepen-next n held dirs search = refl

pub deepen-end : (held : List ℕ → Option (List ℕ)) (dirs : List (List ℕ)) (search : Search) → deepen 0 held dirs search ≡ search
unfolding deepen
deepen-end held dirs search = refl

-- one more of the mentions that may be nested
pub deepen-step : (total k counter : ℕ) (held : List ℕ → Option (List ℕ)) (dirs : List (List ℕ)) (start before now : Search)
    → counter < total → k + counter ≡ total → deepen total held dirs start ≡ deepen k held dirs before
    → now ≡ follow_all held dirs before.waiting (record before { waiting = [] })
    → (left : ℕ) × (left + (counter + 1) ≡ total) × (deepen total held dirs start ≡ deepen left held dirs now)
deepen-step total zero counter held dirs start before now more count so_far is = absurd (omega arith)
deepen-step total (suc n) counter held dirs start before now more count so_far is =
    (n, omega arith, so_far ∙ (deepen-next n held dirs before ∙ ap (deepen n held dirs) (sym is)))

-- the search came to its end
pub told-end : (held : List ℕ → Option (List ℕ)) (main : List ℕ) (dirs : List (List ℕ)) (begun bundle : NamedFiles) (start now : Search) (k counter : ℕ)
    → MOST_INCLUDES ≤ counter → k + counter ≡ MOST_INCLUDES
    → deepen MOST_INCLUDES held begun.dirs start ≡ deepen k held begun.dirs now
    → start ≡ begin main (held main) → begun.main ≡ main → begun.dirs ≡ dirs → bundle.main ≡ begun.main → bundle.dirs ≡ begun.dirs → bundle.entries ≡ now.entries
    → bundle ≡ told held main dirs
told-end held main dirs begun bundle start now k counter all count so_far first a b c d e =
    let make : List ℕ → List (List ℕ) → List (List ℕ × Held) → NamedFiles = λ x y z. record { main = x; dirs = y; entries = z } in
    let none_left : k ≡ 0 = omega arith in
    let last : now ≡ deepen MOST_INCLUDES held dirs (begin main (held main)) =
    sym (deepen-end held begun.dirs now) ∙ (ap (λ n. deepen n held begun.dirs now) (sym none_left) ∙ (sym so_far ∙ (ap (deepen MOST_INCLUDES held begun.dirs) first ∙ ap (λ folders. deepen MOST_INCLUDES held folders (begin main (held main))) b))) in
    ap (λ x. make x bundle.dirs bundle.entries) (c ∙ a) ∙ (ap (λ y. make main y bundle.entries) (d ∙ b) ∙ ap (λ z. make main dirs z) (e ∙ ap (λ (search : Search). search.entries) last))
