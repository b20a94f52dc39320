-- Lemmas on the values that clap gives for words.
use Rattle.std.specs.Prelude.{ℕ, ◌≡◌, List, [], ◌∷◌, Some, None}
use Rattle.std.proofs.Common.{ap, inl, inr}
use Rattle.clap.specs.Words.{App, Kinds, HasKind, fault_of, kind_of, matches_of}
use Rattle.clap.specs.declared.error.Error.{Error}
use Rattle.clap.specs.declared.error.kind.ErrorKind.TheVariants.{OutOfMemory}
use Rattle.hv_words.specs.Commands.{given_unless, values_of}

-- a parse that succeeds gives the values
pub values_given : (a : App) (words : List (List ℕ)) → fault_of a words ≡ []
    → values_of a words ≡ Some (matches_of a words)
unfolding values_of
values_given a words e = ap (λ kinds. given_unless kinds (matches_of a words)) e

-- an error that isn't out of memory comes of a fault
pub values_refused : (a : App) (words : List (List ℕ)) (e : Error) (kinds : Kinds)
    → fault_of a words ≡ kinds → HasKind kinds e → (kind_of e ≡ OutOfMemory → ⊥)
    → values_of a words ≡ None
unfolding values_of
values_refused a words e kinds is (inl memory) other = absurd (other memory)
values_refused a words e [] is (inr among) other = absurd among
values_refused a words e (k ∷ ks) is (inr among) other =
    ap (λ kinds. given_unless kinds (matches_of a words)) is
