-- Arguments by their index, and what taking a token leaves.
use Rattle.std.proofs.Common.{◌≡◌, ◌<◌, ◌≤◌, ◌+◌, ℕ, zero, suc, List, [], ◌∷◌, ◌++◌, Option, Some, None, refl, sym, ap, ◌∙◌, arith, length, get_or}
use Rattle.std.specs.Option.{option_map}
use Rattle.std.specs.Prelude.{min}
use Rattle.hv_base.proofs.Lists.{length-map}
use Rattle.hv_toks.specs.Macro.{Macro}
use Rattle.hv_plain.specs.episode.Substitution.{argument}
use Rattle.hv_plain.specs.episode.Tokens.{Token}
use Rattle.hv_rescan.specs.Values.{arguments_of, token_of, tokens_of}
use Rattle.hv_rescan.specs.declared.token.Token.{Token as Token'}
use Rattle.hv_rescan.specs.working.Steps.{Fewer, Takes}

pub argument_at : (macros : List ℕ → Macro) (xs : List (List Token')) (i : ℕ) (v : List Token')
    → i < length xs → v ≡ get_or xs i v
    → tokens_of macros v ≡ argument (arguments_of macros xs) i
argument_at macros [] i v h e = absurd (omega arith)
argument_at macros (x ∷ xs) zero v h e = ap (tokens_of macros) e
argument_at macros (x ∷ xs) (suc i) v h e = argument_at macros xs i v (omega arith) e

pub argument_past : (macros : List ℕ → Macro) (xs : List (List Token')) (i : ℕ) → length xs ≤ i
    → [] ≡ argument (arguments_of macros xs) i
argument_past macros [] i h = refl
argument_past macros (x ∷ xs) zero h = absurd (omega arith)
argument_past macros (x ∷ xs) (suc i) h = argument_past macros xs i (omega arith)

pub takes_left : (macros : List ℕ → Macro) (o : Option Token') (before after : List Token)
    → Takes (option_map (token_of macros) o) before after → length after ≤ length before
takes_left macros None before after t =
    let e = ap length t.1 in omega (arith, e)
takes_left macros (Some u) before after t =
    let e = ap length t in omega (arith, e)

pub takes_fewer : (macros : List ℕ → Macro) (o : Option Token') (before after : List Token)
    (b a m : ℕ)
    → Takes (option_map (token_of macros) o) before after → b ≡ m → a ≡ m
    → Fewer o (b + length before) (a + length after)
takes_fewer macros None before after b a m t p q =
    let e = ap length t.1 in omega (arith, e)
takes_fewer macros (Some u) before after b a m t p q =
    let e = ap length t in omega (arith, e)

-- where nothing is taken, nothing is left
pub none_left : (macros : List ℕ → Macro) (o : Option Token') (before : List Token)
    (front : List Token') (rest : List Token) (m : ℕ) → o ≡ None
    → Takes (option_map (token_of macros) o) before (tokens_of macros front ++ rest)
    → length rest ≡ min m (length front + length rest)
none_left macros (Some t) before front rest m e h = let f : Some t ≡ None = e in absurd (cc)
none_left macros None before [] rest m e h =
    let n : length rest ≡ 0 = ap length h.1 in omega (arith, n)
none_left macros None before (t ∷ front) rest m e h =
    let n : suc (length (tokens_of macros front ++ rest)) ≡ 0 = ap length h.1 in
    absurd (omega (arith, n))

-- where one is taken off, fewer stand next
pub some_front : (macros : List ℕ → Macro) (o : Option Token') (t : Token')
    (before after : List Token') → o ≡ Some t
    → Takes (option_map (token_of macros) o) (tokens_of macros before) (tokens_of macros after)
    → length after < length before
some_front macros None t before after e h = let f : None ≡ Some t = e in absurd (cc)
some_front macros (Some u) t before after e h =
    let b = length-map (token_of macros) before in
    let a = length-map (token_of macros) after in
    let n = ap length h in omega (arith, a, b, n)

-- where none is taken off, none stands next
pub none_front : (macros : List ℕ → Macro) (o : Option Token') (before after : List Token')
    → o ≡ None
    → Takes (option_map (token_of macros) o) (tokens_of macros before) (tokens_of macros after)
    → (length before ≡ 0) × (length after ≡ 0)
none_front macros (Some t) before after e h = let f : Some t ≡ None = e in absurd (cc)
none_front macros None before after e h = (
  sym (length-map (token_of macros) before) ∙ ap length h.0,
  sym (length-map (token_of macros) after) ∙ ap length h.1,
)
