-- Small tokens and what they become, and string literals that are joined.
use Rattle.std.proofs.Common.{◌≡◌, ℕ, [], ◌∷◌, refl}
use Rattle.std.specs.Prelude.{codes, pos, Ok, Err}
use Rattle.hv_base.specs.declared.punct.Punct.TheVariants.{Semicolon}
use Rattle.hv_base.specs.declared.token.CTok.TheVariants.{Char, Int, Name, Punct, Str}
use Rattle.hv_base.specs.declared.token.IntType.TheVariants.{UInt}
use Rattle.hv_base.specs.declared.why.Why.TheVariants.{LeftOut, Reserved}
use Rattle.hv_toks.specs.declared.token.PpKind.TheVariants.{Identifier, Number}
use Rattle.hv_ctoks.specs.Conversion.{converted}
use Rattle.hv_ctoks.specs.Joining.{joined}
use Rattle.hv_ctoks.specs.Spelling.{spelling}
use Rattle.hv_ctoks.specs.declared.reserved.ReservedNames.TheVariants.{Allowed, Refused}

joined_parts : joined {A = ℕ} ((Str (codes "a"), 1) ∷ (Str (codes "b"), 2) ∷ (Str [], 3)
    ∷ (Punct Semicolon, 4) ∷ (Str (codes "c"), 5) ∷ [])
    ≡ (Str (codes "ab"), 1) ∷ (Punct Semicolon, 4) ∷ (Str (codes "c"), 5) ∷ []
joined_parts = refl

hexadecimal : converted Refused Number (codes "0x80000000") ≡ Ok (Int 2147483648 UInt)
hexadecimal = refl

floating : converted Refused Number (codes "0x1.8p+3") ≡ Err LeftOut
floating = refl

reserved : converted Refused Identifier (codes "hv_x") ≡ Err Reserved
reserved = refl

allowed : converted Allowed Identifier (codes "hv_x") ≡ Ok (Name (codes "hv_x"))
allowed = refl

escaped : spelling (Char (pos 39)) ≡ 39 ∷ 92 ∷ 48 ∷ 52 ∷ 55 ∷ 39 ∷ []
escaped = refl
