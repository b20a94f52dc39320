-- A file has one cutting, so the answer that has it is the only one.
use Rattle.std.proofs.Common.{◌≡◌, ℕ, false, List}
use Rattle.std.specs.Prelude.{Result, Ok, Err, IfOk, IfErr}
use Rattle.hv_toks.specs.declared.prefix.LinePrefix.TheVariants.{Start}
use Rattle.hv_toks.specs.declared.token.PpTok.{PpTok}
use Rattle.hv_toks.specs.Cutting.{Cutting, Cuts, IsCut, tokens}
use Rattle.hv_toks.specs.Splices.{spliced, offsets}
use Rattle.hv_toks.proofs.Unique.{unique}
use Rattle.hv_lexer.specs.declared.refusal.LexRefusal.{LexRefusal}
use Rattle.hv_lexer.specs.declared.refusal.LexRefusal.TheVariants.{OpenComment, Memory}
use Rattle.hv_lexer.specs.Refusal.{IsRefusalOf, Tells}

tells-only : (file : ℕ) (text places : List ℕ) (answer : Result (List PpTok) LexRefusal)
    → IfOk answer (λ list. Cuts file Start false text places (tokens list))
    → IfErr answer (IsRefusalOf (Cuts file Start false text places))
    → (cutting : Cutting) → Cuts file Start false text places cutting → Tells answer cutting
tells-only file text places (Ok list) ok refused cutting other = unique other ok
tells-only file text places (Err (OpenComment offset)) ok refused cutting other =
    unique other refused
tells-only file text places (Err Memory) ok refused cutting other = tt

pub tells : (file : ℕ) (bytes text places : List ℕ) (answer : Result (List PpTok) LexRefusal)
    → text ≡ spliced bytes → places ≡ offsets bytes
    → IfOk answer (λ list. Cuts file Start false text places (tokens list))
    → IfErr answer (IsRefusalOf (Cuts file Start false text places))
    → (cutting : Cutting) → IsCut file bytes cutting → Tells answer cutting
tells file bytes text places answer t p ok refused cutting other =
    tells-only file text places answer ok refused cutting (rw (t, p) other)

-- what every cutting keeps, the answer keeps
pub if_cut : (file : ℕ) (bytes text places : List ℕ) (answer : Result (List PpTok) LexRefusal)
    (P : List PpTok → Type 0)
    → text ≡ spliced bytes → places ≡ offsets bytes
    → ((list : List PpTok) → IsCut file bytes (tokens list) → P list)
    → IfOk answer (λ list. Cuts file Start false text places (tokens list)) → IfOk answer P
if_cut file bytes text places (Ok list) P t p law ok = law list (rw (t, p) at ok)
if_cut file bytes text places (Err refusal) P t p law ok = tt
