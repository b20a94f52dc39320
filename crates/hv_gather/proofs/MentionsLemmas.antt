-- The headers that a file mentions, from its tokens.
use Rattle.std.proofs.Common.{◌≡◌, ◌∙◌, ℕ, Bool, List, [], ◌++◌, Result, Ok, Err, IfOk, IsTrue, sym, ap, take, drop}
use Rattle.std.specs.List.{list_all}
use Rattle.std.proofs.lemmas.List.{take-append-drop}
use Rattle.std.proofs.lemmas.List.Folds.{list_all-append}
use Rattle.hv_base.proofs.Booleans.{and_left, and_right}
use Rattle.hv_toks.specs.declared.token.PpTok.{PpTok}
use Rattle.hv_toks.specs.Cutting.{tokens, open_comment}
use Rattle.hv_plain.specs.gathering.Mentions.{Header, cut, headers_in, headers_of, mentions}

-- what was cut mentions what its tokens do
pub mentions-tokens : {E : Type 0} (bytes : List ℕ) (toks slice : List PpTok) (result : Result (List Header) E) → cut 0 bytes ≡ tokens toks → slice ≡ toks
    → IfOk result (λ headers. headers ≡ headers_in slice) → IfOk result (λ headers. headers ≡ mentions bytes)
mentions-tokens bytes toks slice (Ok headers) e same is = is ∙ (ap headers_in same ∙ sym (ap headers_of e))
mentions-tokens bytes toks slice (Err _) e same is = tt

-- a comment that isn't closed hides all of them
pub mentions-open : (bytes : List ℕ) (offset : ℕ) → cut 0 bytes ≡ open_comment offset → [] ≡ mentions bytes
mentions-open bytes offset e = sym (ap headers_of e)

list_all-take : (p : ℕ → Bool) (n : ℕ) (xs : List ℕ) → IsTrue (list_all p xs) → IsTrue (list_all p (take n xs))
list_all-take p n xs all =
    and_left (list_all p (take n xs)) (list_all p (drop n xs)) (sym (list_all-append p (take n xs) (drop n xs)) ∙ (ap (list_all p) (take-append-drop n xs) ∙ all))

list_all-drop : (p : ℕ → Bool) (n : ℕ) (xs : List ℕ) → IsTrue (list_all p xs) → IsTrue (list_all p (drop n xs))
list_all-drop p n xs all =
    and_right (list_all p (take n xs)) (list_all p (drop n xs)) (sym (list_all-append p (take n xs) (drop n xs)) ∙ (ap (list_all p) (take-append-drop n xs) ∙ all))

-- what holds of all bytes holds of some in a row
pub list_all-within : (p : ℕ → Bool) (n k : ℕ) (xs : List ℕ) → IsTrue (list_all p xs) → IsTrue (list_all p (take n (drop k xs)))
list_all-within p n k xs all = list_all-take p n (drop k xs) (list_all-drop p k xs all)
