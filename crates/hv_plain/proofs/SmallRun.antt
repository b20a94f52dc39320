-- A run of the reader, token by token.
use Rattle.std.proofs.Common.{◌≡◌, ℕ, ◌<◌, ◌≤◌, ◌+◌, Bool, true, false, cond, List, [], ◌∷◌, codes, length, get_or, drop, refl, sym, ap, subst, ◌∙◌, Option, None, Some}
use Rattle.std.specs.Option.{option_and_then, IfSome}
use Rattle.std.specs.Str.{bytes_eq}
use Rattle.std.proofs.lemmas.List.{at_drop_more, at_drop_all, length-set}
use Rattle.hv_plain.specs.working.SmallReader.{Wanted, Reading, run_from, moved, next, next_by, next_in, declared, after_variable, after_negated, after_argument, known_value, option_number, byte_of, known_after, output_after, is_done, IsWithin}
use Rattle.hv_plain.specs.declared.small.reader.State.{State}
use Rattle.hv_plain.specs.declared.small.reader.State.TheVariants.{Declarations, Variable, Body, Operand, Negated, AfterOperand, Byte, End}
use Rattle.hv_plain.specs.declared.small.reader.Action.{Action}
use Rattle.hv_plain.specs.declared.small.reader.Action.TheVariants.{Nothing, Declare, Write}
use Rattle.hv_plain.proofs.OptionVariables.{option_number-Some}

-- the run after a token
abbrev pub after : List (List ℕ) → List Bool → List (Option Bool) → List ℕ → List (List ℕ) → Reading
    → Option (List ℕ)
after names values known output tokens step =
    run_from names values step.due (known_after values step.action known)
    (output_after step.action output) tokens

run_from-turn : (names : List (List ℕ)) (values : List Bool) (due : Wanted)
    (known : List (Option Bool)) (output : List ℕ) (tokens : List (List ℕ)) (n : ℕ) (token : List ℕ)
    → (n < length tokens) × (token ≡ get_or tokens n token)
    → run_from names values due known output (drop n tokens)
    ≡ option_and_then (after names values known output (drop (n + 1) tokens))
    (next names known due token)
run_from-turn names values due known output tokens n token h =
    at_drop_more (run_from names values due known output) tokens n token h.0
    ∙ ap (λ x. option_and_then (after names values known output (drop (n + 1) tokens))
    (next names known due x)) (sym h.1)

pub run_from-refuses : (names : List (List ℕ)) (values : List Bool) (due : Wanted)
    (known : List (Option Bool)) (output : List ℕ) (tokens : List (List ℕ)) (n : ℕ) (token : List ℕ)
    (seen : List (Option Bool)) → seen ≡ known → (n < length tokens)
    × (token ≡ get_or tokens n token) → None ≡ next names seen due token
    → None ≡ run_from names values due known output (drop n tokens)
run_from-refuses names values due known output tokens n token seen s h e =
    ap (option_and_then (after names values known output (drop (n + 1) tokens)))
    (e ∙ ap (λ k. next names k due token) s)
    ∙ sym (run_from-turn names values due known output tokens n token h)

pub run_from-goes : (names : List (List ℕ)) (values : List Bool) (due : Wanted)
    (known : List (Option Bool)) (output : List ℕ) (tokens : List (List ℕ)) (n : ℕ) (token : List ℕ)
    (seen : List (Option Bool)) (step : Reading) (known_then : List (Option Bool))
    (output_then : List ℕ) (m : ℕ) → seen ≡ known → (n < length tokens)
    × (token ≡ get_or tokens n token) → Some step ≡ next names seen due token
    → known_then ≡ known_after values step.action known
    → output_then ≡ output_after step.action output → m ≡ n + 1
    → run_from names values step.due known_then output_then (drop m tokens)
    ≡ run_from names values due known output (drop n tokens)
run_from-goes names values due known output tokens n token seen step known_then output_then m s h e
    k o i =
    rw (k, o, i)
    (ap (option_and_then (after names values known output (drop (n + 1) tokens)))
    (e ∙ ap (λ x. next names x due token) s)
    ∙ sym (run_from-turn names values due known output tokens n token h))

pub run_from-ends : (names : List (List ℕ)) (values : List Bool) (due : Wanted)
    (known : List (Option Bool)) (output : List ℕ) (tokens : List (List ℕ)) (n : ℕ) (done : Bool)
    → length tokens ≤ n → done ≡ is_done due
    → run_from names values due known output (drop n tokens) ≡ cond done (Some output) None
run_from-ends names values due known output tokens n done h e =
    at_drop_all (run_from names values due known output) tokens n h
    ∙ ap (λ (b : Bool). cond b (Some output) None) (sym e)

pub length-known_after : (values : List Bool) (action : Action) (known : List (Option Bool))
    → length (known_after values action known) ≡ length known
length-known_after values Nothing known = refl
length-known_after values (Declare i) known = length-set known i _
length-known_after values (Write byte) known = refl

record DeclaresWithin (n : ℕ) (o : Option Reading) : Type 0 where
  within : IfSome o (λ step. IsWithin n step.action)

within-none : {n : ℕ} → DeclaresWithin n None
within-none {n} = record { within = tt }

within-moved : {n : ℕ} {words : List (List ℕ)} {state : State}
    → DeclaresWithin n (moved words state)
within-moved {n} {words} {state} = record { within = tt }

within-cond : {n : ℕ} {x y : Option Reading} (b : Bool) → DeclaresWithin n x → DeclaresWithin n y
    → DeclaresWithin n (cond b x y)
within-cond true h k = h
within-cond false h k = k

within-declared : (names : List (List ℕ)) (token : List ℕ) (o : Option ℕ)
    → option_number names token ≡ o → DeclaresWithin (length names) (declared o)
within-declared names token None e = within-none
within-declared names token (Some i) e = record { within = (option_number-Some names token i e).0 }

within-operand : (n : ℕ) (holds : Bool) (o : Option Bool)
    → DeclaresWithin n (after_variable holds o)
within-operand n holds None = within-none
within-operand n holds (Some value) = within-moved

within-negated : (n : ℕ) (holds : Bool) (o : Option Bool) → DeclaresWithin n (after_negated holds o)
within-negated n holds None = within-none
within-negated n holds (Some value) = within-moved

within-byte : (n : ℕ) (holds : Bool) (o : Option ℕ) → DeclaresWithin n (after_argument holds o)
within-byte n holds None = within-none
within-byte n true (Some byte) = record { within = tt }
within-byte n false (Some byte) = record { within = tt }

within-in : (names : List (List ℕ)) (known : List (Option Bool)) (state : State) (token : List ℕ)
    → DeclaresWithin (length names) (next_in names known state token)
within-in names known Declarations token =
    within-cond (bytes_eq token (codes "extern")) within-moved
    (within-cond (bytes_eq token (codes "int")) within-moved within-none)
within-in names known Variable token = within-declared names token (option_number names token) refl
within-in names known Body token =
    within-cond (bytes_eq token (codes "putchar")) within-moved
    (within-cond (bytes_eq token (codes "if")) within-moved
    (within-cond (bytes_eq token (codes "}")) within-moved within-none))
within-in names known (Operand holds) token =
    within-cond (bytes_eq token (codes "!")) within-moved
    (within-operand (length names) holds (known_value names known token))
within-in names known (Negated holds) token =
    within-negated (length names) holds (known_value names known token)
within-in names known (AfterOperand holds) token =
    within-cond (bytes_eq token (codes "&&")) within-moved
    (within-cond (bytes_eq token (codes ")")) within-moved within-none)
within-in names known (Byte holds) token = within-byte (length names) holds (byte_of token)
within-in names known End token = within-none

within-by : (names : List (List ℕ)) (known : List (Option Bool)) (words : List (List ℕ))
    (state : State) (token : List ℕ)
    → DeclaresWithin (length names) (next_by names known words state token)
within-by names known [] state token = within-in names known state token
within-by names known (word ∷ words) state token =
    within-cond (bytes_eq token word) within-moved within-none

-- what is declared is an option of the model
pub next-within : (names : List (List ℕ)) (known : List (Option Bool)) (due : Wanted)
    (token : List ℕ) (step : Reading) (n : ℕ) → Some step ≡ next names known due token
    → n ≡ length names → IsWithin n step.action
next-within names known due token step n e l =
    let Within : Option Reading → Type 0 = DeclaresWithin (length names) in
    let found : IsWithin (length names) step.action =
    (subst Within (sym e) (within-by names known due.words due.state token)).within in
    rw l found
