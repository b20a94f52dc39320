-- The tokens of entries with where they come from, by parts.
use Rattle.std.proofs.Common.{◌≡◌, ◌<◌, ◌+◌, ◌++◌, ℕ, Bool, true, false, cond, List, [], ◌∷◌, length, take, drop, get_or, refl, sym, ◌∙◌, ap, arith, append-nil, add-zero}
use Rattle.std.specs.Prelude.{if◌then◌else◌}
use Rattle.std.specs.List.{All}
use Rattle.std.proofs.lemmas.List.{drop_more, length-take-le, map-append, take-append-drop, take_more, length-map}
use Rattle.std.proofs.lemmas.List.Concat.{flat_map-append}
use Rattle.std.proofs.lemmas.List.Elements.{All-head, All-tail, filter-append}
use Rattle.hv_base.specs.declared.place.Start.{Start}
use Rattle.hv_cond.specs.Diagram.{Diagram, IsNode, Keeps, holds}
use Rattle.hv_cstream.specs.working.Converting.{entry_tokens}
use Rattle.hv_given.specs.Given.{given_in, tokens_of, with_starts}
use Rattle.hv_given.specs.declared.given.Given.{Given}
use Rattle.hv_toks.specs.Spelled.{Spelled, all_spelled, spelled}
use Rattle.hv_toks.specs.declared.token.PpTok.{PpTok}

-- where a token of an entry comes from
abbrev pub start_of : Given → ℕ → Start
start_of g i = record { place = g.place; face = g.face; index = i }

-- what an entry gives before a token
abbrev pub tokens_until : Given → ℕ → List (Spelled × Start)
tokens_until g i = with_starts g 0 (all_spelled (take i g.tokens))

-- what it gives after a token
abbrev pub tokens_after : Given → ℕ → List (Spelled × Start)
tokens_after g i = with_starts g (i + 1) (all_spelled (drop (i + 1) g.tokens))

starts_append : (g : Given) (n : ℕ) (xs ys : List Spelled)
    → with_starts g n (xs ++ ys) ≡ with_starts g n xs ++ with_starts g (n + length xs) ys
starts_append g n [] ys = ap (λ (k : ℕ). with_starts g k ys) (sym (add-zero n))
starts_append g n (x ∷ xs) ys =
    let same : n + 1 + length xs ≡ n + length (x ∷ xs) = omega arith in
    ap (λ (l : List (Spelled × Start)). (x, start_of g n) ∷ l) (starts_append g (n + 1) xs ys
    ∙ ap (λ (k : ℕ). with_starts g (n + 1) xs ++ with_starts g k ys) same)

-- after as many tokens the next one has their count as its index
at_count : (g : Given) (xs ys : List PpTok) (i : ℕ) → length xs ≡ i
    → with_starts g 0 (all_spelled (xs ++ ys))
    ≡ with_starts g 0 (all_spelled xs) ++ with_starts g i (all_spelled ys)
at_count g xs ys i e =
    let count : 0 + length (all_spelled xs) ≡ i =
    let mapped = length-map xs spelled in omega (arith, mapped, e) in
    ap (with_starts g 0) (map-append spelled xs ys)
    ∙ (starts_append g 0 (all_spelled xs) (all_spelled ys)
    ∙ ap (λ (k : ℕ). with_starts g 0 (all_spelled xs) ++ with_starts g k (all_spelled ys)) count)

pub until_more : (g : Given) (i : ℕ) (d : PpTok) → i < length g.tokens
    → tokens_until g (i + 1)
    ≡ tokens_until g i ++ (spelled (get_or g.tokens i d), start_of g i) ∷ []
until_more g i d l =
    ap (λ (ts : List PpTok). with_starts g 0 (all_spelled ts)) (take_more g.tokens i d l)
    ∙ at_count g (take i g.tokens) (get_or g.tokens i d ∷ []) i
    (length-take-le i g.tokens (omega arith))

pub split_at : (g : Given) (i : ℕ) (d : PpTok) → i < length g.tokens
    → entry_tokens g ≡ tokens_until g i
    ++ (spelled (get_or g.tokens i d), start_of g i) ∷ tokens_after g i
split_at g i d l =
    ap (λ (ts : List PpTok). with_starts g 0 (all_spelled ts))
    (sym (take-append-drop i g.tokens)
    ∙ ap (λ (ts : List PpTok). take i g.tokens ++ ts) (drop_more g.tokens i d l))
    ∙ at_count g (take i g.tokens) (get_or g.tokens i d ∷ drop (i + 1) g.tokens) i
    (length-take-le i g.tokens (omega arith))

------ entries

pub entries_push : (d : Diagram) (gs : List Given) (g : Given) (values : List Bool)
    → tokens_of (given_in d (gs ++ g ∷ []) values)
    ≡ tokens_of (given_in d gs values)
    ++ (if holds d g.cond values then entry_tokens g else [])
entries_push d gs g values =
    ap tokens_of (filter-append (λ (x : Given). holds d x.cond values) gs (g ∷ []))
    ∙ (flat_map-append (λ (x : Given). entry_tokens x) (given_in d gs values)
    (cond (holds d g.cond values) (g ∷ []) [])
    ∙ ap (λ (l : List (Spelled × Start)). tokens_of (given_in d gs values) ++ l)
    (one (holds d g.cond values)))
  where
    one : (b : Bool) → tokens_of (cond b (g ∷ []) []) ≡ cond b (entry_tokens g) []
    one true = append-nil (entry_tokens g)
    one false = refl

pub entries_kept : {old new : Diagram} → Keeps old new → (gs : List Given)
    → All (λ (g : Given). IsNode old g.cond) gs → (values : List Bool)
    → given_in new gs values ≡ given_in old gs values
entries_kept keeps [] nodes values = refl
entries_kept {old} {new} keeps (g ∷ gs) nodes values =
    ap (λ (b : Bool). cond b (g ∷ given_in new gs values) (given_in new gs values))
    (keeps.meaning g.cond (All-head (λ (g : Given). IsNode old g.cond) g gs nodes) values)
    ∙ ap (λ (l : List Given). cond (holds old g.cond values) (g ∷ l) l)
    (entries_kept keeps gs (All-tail (λ (g : Given). IsNode old g.cond) g gs nodes) values)
