-- Names of options are ASCII.
use Rattle.std.proofs.Common.{◌≡◌, ℕ, ◌<◌, true, List, [], ◌∷◌, arith}
use Rattle.std.specs.List.{All, list_all}
use Rattle.std.specs.Str.{IsUtf8}
use Rattle.std.proofs.lemmas.Bool.Decides.{nat_tests}
use Rattle.std.proofs.lemmas.List.Elements.{All-cons}
use Rattle.std.proofs.lemmas.Str.{IsUtf8-from_ascii}
use Rattle.std.proofs.lemmas.Str.Ascii.{IsAscii-from_all}
use Rattle.hv_base.proofs.Booleans.{and_left, and_right}
use Rattle.hv_base.specs.Ascii.{is_nondigit, is_identifier_byte}
use Rattle.hv_model.specs.Name.{is_name, is_option_name}

letter-small : (byte : ℕ) → is_nondigit byte ≡ true → byte < 128
letter-small byte e = grind (arith, nat_tests)

name_byte-small : (byte : ℕ) → is_identifier_byte byte ≡ true → byte < 128
name_byte-small byte e = grind (arith, nat_tests)

name_bytes-small : (bytes : List ℕ) → list_all is_identifier_byte bytes ≡ true
    → All (λ byte. byte < 128) bytes
name_bytes-small [] e = λ k d h. absurd (omega arith)
name_bytes-small (byte ∷ bytes) e =
    All-cons (λ b. b < 128) byte bytes
    (name_byte-small byte (and_left _ (list_all is_identifier_byte bytes) e))
    (name_bytes-small bytes (and_right (is_identifier_byte byte) _ e))

name-small : (name : List ℕ) → is_name name ≡ true → All (λ byte. byte < 128) name
name-small [] e = λ k d h. absurd (omega arith)
name-small (byte ∷ bytes) e =
    All-cons (λ b. b < 128) byte bytes
    (letter-small byte (and_left _ (list_all is_identifier_byte bytes) e))
    (name_bytes-small bytes (and_right (is_nondigit byte) _ e))

pub IsUtf8-option_name : (name : List ℕ) → is_option_name name ≡ true → IsUtf8 name
IsUtf8-option_name name e =
    IsUtf8-from_ascii name (IsAscii-from_all name
    (name-small name (and_left (is_name name) _ (and_left _ _ e))))
