-- What stands within a header name that is printable is text.
use Rattle.std.proofs.Common.{◌≡◌, ◌<◌, ℕ, true, List, [], ◌∷◌, arith, take, drop}
use Rattle.std.specs.List.{All, list_all}
use Rattle.std.specs.Str.{IsUtf8}
use Rattle.std.proofs.lemmas.Bool.Decides.{nat_tests}
use Rattle.std.proofs.lemmas.List.Elements.{All-cons, All-take, All-drop}
use Rattle.std.proofs.lemmas.Str.{IsUtf8-from_ascii}
use Rattle.std.proofs.lemmas.Str.Ascii.{IsAscii-from_all}
use Rattle.hv_base.proofs.Booleans.{and_left, and_right}
use Rattle.hv_base.specs.Ascii.{is_printable}

is_printable-small : (byte : ℕ) → is_printable byte ≡ true → byte < 128
is_printable-small byte e = grind (arith, nat_tests)

all_printable-small : (bytes : List ℕ) → list_all is_printable bytes ≡ true
    → All (λ byte. byte < 128) bytes
all_printable-small [] e = λ k d h. absurd (omega arith)
all_printable-small (byte ∷ bytes) e =
    All-cons (λ b. b < 128) byte bytes
    (is_printable-small byte (and_left _ (list_all is_printable bytes) e))
    (all_printable-small bytes (and_right (is_printable byte) _ e))

-- some bytes in a row
pub IsUtf8-within : (n k : ℕ) (bytes : List ℕ) → list_all is_printable bytes ≡ true
    → IsUtf8 (take n (drop k bytes))
IsUtf8-within n k bytes e =
    IsUtf8-from_ascii _ (IsAscii-from_all _
    (All-take (λ b. b < 128) n (drop k bytes)
    (All-drop (λ b. b < 128) k bytes (all_printable-small bytes e))))
