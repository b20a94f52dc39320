-- The rest of a run: its first token, and white space that is owed before it.
use Rattle.std.proofs.Common.{◌≡◌, ◌<◌, ◌≤◌, ◌+◌, ◌-◌, ℕ, Bool, false, List, [], ◌∷◌, refl, sym, ap, ◌∙◌, arith, length, map, drop, get_or, suc, add-one, drop-cons}
use Rattle.std.specs.Prelude.{◌||◌}
use Rattle.hv_base.proofs.Booleans.{or_assoc}
use Rattle.hv_base.proofs.Lists.{drop-past}
use Rattle.hv_toks.specs.declared.token.PpTok.{PpTok}
use Rattle.hv_plain.specs.episode.Episode.{starting}
use Rattle.hv_plain.specs.episode.Expansion.{at}
use Rattle.hv_plain.specs.episode.Tokens.{Token, owing, source_token}
use Rattle.hv_rescan.proofs.Scans.{scanned}
use Rattle.hv_rescan.proofs.Tokens.{owing_none}

pub length_owing : (b : Bool) (ts : List Token) → length (owing b ts) ≡ length ts
length_owing b [] = refl
length_owing b (t ∷ ts) = refl

pub owing_twice : (a b : Bool) (ts : List Token) → owing b (owing a ts) ≡ owing (a || b) ts
owing_twice a b [] = refl
owing_twice a b (t ∷ ts) =
    ap (λ (s : Bool). record t { space = s } ∷ ts) (or_assoc t.space a b)

first_of_run : (run : List PpTok) (i : ℕ) (t : PpTok) → i < length run → t ≡ get_or run i t
    → drop i run ≡ t ∷ drop (i + 1) run
first_of_run run i t h e =
    drop-cons run i t h
    ∙ ap (λ (u : PpTok). u ∷ drop (suc i) run) (sym e)
    ∙ ap (λ (k : ℕ). t ∷ drop k run) (sym (add-one i))

pub run_over : (run : List PpTok) (i : ℕ) (b : Bool) → length run ≤ i
    → owing b (map source_token (drop i run)) ≡ []
run_over run i b h = ap (λ (ts : List PpTok). owing b (map source_token ts)) (drop-past i run h)

pub run_first : (run : List PpTok) (i : ℕ) (b : Bool) (t : PpTok) → i < length run
    → t ≡ get_or run i t
    → owing b (map source_token (drop i run))
    ≡ record (source_token t) { space = (source_token t).space || b }
    ∷ owing false (map source_token (drop (i + 1) run))
run_first run i b t h e =
    let u : Token = record (source_token t) { space = (source_token t).space || b } in
    ap (λ (ts : List PpTok). owing b (map source_token ts)) (first_of_run run i t h e)
    ∙ ap (λ (ts : List Token). u ∷ ts) (sym (owing_none (map source_token (drop (i + 1) run))))

pub run_starts : (run : List PpTok) (i : ℕ) (t : PpTok) → i < length run → t ≡ get_or run i t
    → at (source_token t) (scanned (owing false (map source_token (drop (i + 1) run)))
    (length (owing false (map source_token (drop (i + 1) run)))) []) []
    ≡ starting (map source_token (drop i run)) (length (drop i run) - 1)
run_starts run i t h e =
    let rest : List PpTok = drop (i + 1) run in
    let ahead : List Token = map source_token rest in
    let count : length ahead ≡ length (t ∷ rest) - 1 = length_rest rest in
    ap (λ (ts : List Token). at (source_token t) (scanned ts (length ts) []) []) (owing_none ahead)
    ∙ ap (λ (n : ℕ). at (source_token t) (scanned ahead n []) []) count
    ∙ ap (λ (ts : List PpTok). starting (map source_token ts) (length ts - 1))
    (sym (first_of_run run i t h e))
  where
    length_rest : (ts : List PpTok) → length (map source_token ts) ≡ length (t ∷ ts) - 1
    length_rest [] = refl
    length_rest (u ∷ ts) =
        let more : length (map source_token ts) ≡ length (t ∷ ts) - 1 = length_rest ts in
        omega arith
