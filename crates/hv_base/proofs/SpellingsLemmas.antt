-- Tables of spellings: an item is found by its spelling. Of keywords and of punctuators.
use Rattle.std.proofs.Common.{◌≡◌, ◌≢◌, ℕ, ◌∷◌, [], List, sym, ◌∙◌, ap, subst, true, Option, Some, None}
use Rattle.std.specs.Option.{IfSome, IfNone}
use Rattle.std.specs.List.{find, slice_get}
use Rattle.std.specs.Str.{bytes_eq}
use Rattle.std.proofs.lemmas.Slice.Eq.{bytes_eq-Decides}
use Rattle.hv_base.proofs.Lists.{find-passes}

-- the first item of a table that has this spelling
abbrev pub spelt_in : {X : Type 0} → (X → List ℕ) → List X → List ℕ → Option X
spelt_in spelling table text = find (λ it. bytes_eq text (spelling it)) table

-- of those that begin with the same byte, the one that is found is the one that is meant
pub found : {X : Type 0} (spelling : X → List ℕ) (table : List X) (text : List ℕ) (first : ℕ)
    (among : List X) (result : Option X)
    → slice_get text 0 ≡ Some first
    → result ≡ spelt_in spelling among text
    → ((rest : List ℕ)
    → spelt_in spelling among (first ∷ rest) ≡ spelt_in spelling table (first ∷ rest))
    → result ≡ spelt_in spelling table text
found spelling table [] first among result e is same = cc
found spelling table (byte ∷ rest) first among result e is same =
    let b : byte ≡ first = cc in
    is ∙ (ap (λ t. spelt_in spelling among t) (ap (λ c. c ∷ rest) b)
    ∙ (same rest ∙ ap (λ c. spelt_in spelling table (c ∷ rest)) (sym b)))

-- what is found has the spelling
pub some : {X : Type 0} (spelling : X → List ℕ) (table : List X) (text : List ℕ)
    (result : Option X) → result ≡ spelt_in spelling table text
    → IfSome result (λ it. text ≡ spelling it)
some spelling table text None e = tt
some {X} spelling table text (Some it) e =
    (bytes_eq-Decides text (spelling it)).0
    (subst (λ o. IfSome o (λ one. bytes_eq text (spelling one) ≡ true)) (sym e)
    (find-passes {X = X} (λ one. bytes_eq text (spelling one)) table))

-- where nothing is found, no item has the spelling
pub none : {X : Type 0} (spelling : X → List ℕ) (table : List X)
    → ((it : X) → spelt_in spelling table (spelling it) ≡ Some it)
    → (text : List ℕ) (result : Option X) → result ≡ spelt_in spelling table text
    → IfNone result ((it : X) → text ≢ spelling it)
none spelling table read_back text None e =
    λ it is. cc (read_back it, ap (spelt_in spelling table) is, e)
none spelling table read_back text (Some it) e = tt
