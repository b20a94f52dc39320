-- Folders of names.
use Rattle.std.proofs.Common.{◌≡◌, ◌∙◌, ℕ, suc, ◌<◌, false, ◌==◌, List, [], ◌∷◌, ◌++◌, Some, None, refl, sym, ap, length, take, drop, get_or}
use Rattle.std.proofs.Math.Seq.{drop-cons}
use Rattle.std.proofs.lemmas.List.{take-append-drop}
use Rattle.hv_plain.specs.gathering.SearchOrder.{folder_of}

folder_of-at : (before rest : List ℕ) → folder_of rest ≡ None → folder_of (before ++ 47 ∷ rest) ≡ Some before
folder_of-at [] rest e = rw e refl
folder_of-at (byte ∷ before) rest e = rw (folder_of-at before rest e) refl

folder_of-past : (byte : ℕ) (rest : List ℕ) → folder_of rest ≡ None → (byte == 47) ≡ false → folder_of (byte ∷ rest) ≡ None
folder_of-past byte rest e differs = rw (e, differs) refl

-- the last `/` parts the folder from the rest
pub folder_of-found : (file : List ℕ) (n m : ℕ) → n < length file → m ≡ suc n → get_or file n 0 ≡ 47 → folder_of (drop m file) ≡ None → folder_of file ≡ Some (take n file)
folder_of-found file n m within next slash none =
    let here : drop n file ≡ 47 ∷ drop (suc n) file = rw (drop-cons file n 0 within, slash) refl in
    let whole : take n file ++ 47 ∷ drop (suc n) file ≡ file = ap (λ rest. take n file ++ rest) (sym here) ∙ take-append-drop n file in
    ap folder_of (sym whole) ∙ folder_of-at (take n file) (drop (suc n) file) (rw next at none)

-- no `/` from here on, and none one byte before
pub folder_of-earlier : (file : List ℕ) (n m : ℕ) → n < length file → m ≡ suc n → (get_or file n 0 == 47) ≡ false → folder_of (drop m file) ≡ None → folder_of (drop n file) ≡ None
folder_of-earlier file n m within next differs none =
    rw (drop-cons file n 0 within) (folder_of-past (get_or file n 0) (drop (suc n) file) (rw next at none) differs)
