-- A search that goes on asks for more names, after those that it has asked for.
use Rattle.std.proofs.Common.{◌≡◌, ◌∙◌, ◌<◌, ℕ, zero, suc, Bool, true, false, cond, List, [], ◌∷◌, ◌++◌, fold, Option, Some, None, refl, sym, ap, arith, length, take, drop, get_or, append_assoc, append-nil}
use Rattle.std.proofs.Math.Seq.{drop-cons}
use Rattle.std.proofs.lemmas.List.{take-append-drop}
use Rattle.std.proofs.lemmas.List.Sums.{fold-append}
use Rattle.std.specs.Map.{lookup}
use Rattle.std.specs.Str.{bytes_eq}
use Rattle.hv_base.specs.Ascii.{is_among}
use Rattle.hv_base.specs.declared.held.Held.{Held}
use Rattle.hv_base.specs.declared.held.Held.TheVariants.{Bytes, Absent}
use Rattle.hv_plain.specs.gathering.Headers.{header_text}
use Rattle.hv_plain.specs.gathering.Mentions.{Header}
use Rattle.hv_plain.specs.gathering.SearchOrder.{candidates}
use Rattle.hv_plain.specs.gathering.Told.{Search, Reached, ask, deepen, follow, follow_all, look_up, reach_header, with_absent, with_file, with_header}
use Rattle.hv_gather.specs.working.Searches.{Extends}

pub Extends-refl : (search : Search) → Extends search search
Extends-refl search = record { more = []; entries = sym (append-nil search.entries) }

pub Extends-trans : (before middle now : Search) → Extends before middle → Extends middle now → Extends before now
Extends-trans before middle now first second = record {
  more = first.more ++ second.more;
  entries = second.entries ∙ (ap (λ entries. entries ++ second.more) first.entries ∙ append_assoc before.entries first.more second.more);
}

Extends-cond : (test : Bool) (search a b : Search) → Extends search a → Extends search b → Extends search (cond test a b)
Extends-cond true search a b first second = first
Extends-cond false search a b first second = second

Extends-reached : (text : Option (List ℕ)) (name : List ℕ) (search : Search) → Extends search (elim text [
  | None ↦ search
  | Some text ↦ cond (is_among name search.headers) search (with_header name text search)
])
Extends-reached None name search = Extends-refl search
Extends-reached (Some text) name search =
    Extends-cond (is_among name search.headers) search search (with_header name text search) (Extends-refl search)
    (record { more = []; entries = sym (append-nil search.entries) })

pub Extends-reach_header : (name : List ℕ) (search : Search) → Extends search (reach_header name search)
Extends-reach_header name search = Extends-reached (header_text name) name search

pub Extends-ask : (name : List ℕ) (held : Option (List ℕ)) (found : Option Held) (go_on : Search → Search) (search : Search)
    → ((next : Search) → Extends next (go_on next)) → Extends search (ask name held found go_on search)
Extends-ask name held (Some (Bytes _)) go_on search later = Extends-refl search
Extends-ask name held (Some Absent) go_on search later = later search
Extends-ask name (Some bytes) None go_on search later = record { more = (name, Bytes bytes) ∷ []; entries = refl }
Extends-ask name None None go_on search later =
    Extends-trans search (with_absent name search) (go_on (with_absent name search))
    (record { more = (name, Absent) ∷ []; entries = refl }) (later (with_absent name search))

pub Extends-look_up : (held : List ℕ → Option (List ℕ)) (name : List ℕ) (names : List (List ℕ)) (search : Search)
    → Extends search (look_up held name names search)
Extends-look_up held name [] search = Extends-reach_header name search
Extends-look_up held name (candidate ∷ more) search =
    Extends-ask candidate (held candidate) (lookup (bytes_eq candidate) search.entries) (look_up held name more) search
    (Extends-look_up held name more)

pub Extends-fold : {X : Type 0} (step : Search → X → Search) → ((search : Search) (x : X) → Extends search (step search x))
    → (xs : List X) (search : Search) → Extends search (fold step search xs)
Extends-fold step each [] search = Extends-refl search
Extends-fold step each (x ∷ xs) search =
    Extends-trans search (step search x) (fold step (step search x) xs) (each search x) (Extends-fold step each xs (step search x))

pub Extends-follow : (held : List ℕ → Option (List ℕ)) (dirs : List (List ℕ)) (file : List ℕ) (mentioned : List Header) (search : Search)
    → Extends search (follow held dirs file mentioned search)
Extends-follow held dirs file mentioned search =
    Extends-fold (λ now header. look_up held header.name (candidates dirs file header) now)
    (λ now header. Extends-look_up held header.name (candidates dirs file header) now) mentioned search

pub Extends-follow_all : (held : List ℕ → Option (List ℕ)) (dirs : List (List ℕ)) (all : List Reached) (search : Search)
    → Extends search (follow_all held dirs all search)
Extends-follow_all held dirs all search =
    Extends-fold (λ now reached. follow held dirs reached.name reached.mentioned now)
    (λ now reached. Extends-follow held dirs reached.name reached.mentioned now) all search

pub Extends-deepen : (n : ℕ) (held : List ℕ → Option (List ℕ)) (dirs : List (List ℕ)) (search : Search)
    → Extends search (deepen n held dirs search)
unfolding deepen
Extends-deepen zero held dirs search = Extends-refl search
Extends-deepen (suc n) held dirs search =
    let started : Search = record search { waiting = [] } in
    let next : Search = follow_all held dirs search.waiting started in
    let first = Extends-follow_all held dirs search.waiting started in
    Extends-trans search next (deepen n held dirs next) (record { more = first.more; entries = first.entries }) (Extends-deepen n held dirs next)

-- the rest of the steps comes after those so far
pub Extends-rest : {X : Type 0} (step : Search → X → Search) → ((search : Search) (x : X) → Extends search (step search x))
    → (x : X) (xs : List X) (i : ℕ) (search : Search) → i < length xs
    → Extends (step (fold step search (take i xs)) (get_or xs i x)) (fold step search xs)
Extends-rest step each x xs i search within =
    let so_far : Search = fold step search (take i xs) in
    let next : Search = step so_far (get_or xs i x) in
    let parts : drop i xs ≡ get_or xs i x ∷ drop (suc i) xs = drop-cons xs i x within in
    let whole : fold step search xs ≡ fold step next (drop (suc i) xs) =
    ap (fold step search) (sym (take-append-drop i xs))
    ∙ (fold-append step search (take i xs) (drop i xs) ∙ ap (fold step so_far) parts) in
    let rest = Extends-fold step each (drop (suc i) xs) next in
    record { more = rest.more; entries = ap (λ (found : Search). found.entries) whole ∙ rest.entries }
