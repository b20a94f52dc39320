-- Tokens that stand in a row in a list, and the arguments of an invocation among them.
use Rattle.std.proofs.Common.{◌≡◌, ◌<◌, ◌≤◌, ◌+◌, ◌-◌, ℕ, zero, suc, Bool, true, false, List, [], ◌∷◌, ◌++◌, Option, Some, refl, sym, ap, ◌∙◌, arith, length, take, drop, get_or, add-one, drop-cons}
use Rattle.std.proofs.Math.Seq.{take-suc, take-take, drop-drop, get_or-drop}
use Rattle.std.proofs.lemmas.List.{length-take, length-drop, map-append}
use Rattle.hv_toks.specs.Macro.{Macro}
use Rattle.hv_toks.specs.declared.macros.Body.{Body}
use Rattle.hv_plain.specs.episode.Invocation.{Mark, opening, closing, comma, none, mark, Taken, ends_argument, take_arguments}
use Rattle.hv_plain.specs.episode.Tokens.{Token}
use Rattle.hv_rescan.specs.Values.{token_of, tokens_of}
use Rattle.hv_rescan.specs.declared.token.Token.{Token as Token'}

------ tokens in a row

take_none : {X : Type 0} (k : ℕ) (xs : List X) → xs ≡ [] → xs ≡ take k xs
take_none zero xs e = e
take_none (suc k) [] e = refl
take_none (suc k) (x ∷ xs) e = cc

drop_of_take : {X : Type 0} (n m : ℕ) (xs : List X) → drop n (take m xs) ≡ take (m - n) (drop n xs)
drop_of_take zero m xs =
    let e : m - 0 ≡ m = omega arith in rw e refl
drop_of_take (suc n) zero [] =
    let e : 0 - suc n ≡ 0 = omega arith in rw e refl
drop_of_take (suc n) zero (x ∷ xs) =
    let e : 0 - suc n ≡ 0 = omega arith in rw e refl
drop_of_take (suc n) (suc m) [] = take_none (suc m - suc n) [] refl
drop_of_take (suc n) (suc m) (x ∷ xs) =
    let e : suc m - suc n ≡ m - n = omega arith in rw e (drop_of_take n m xs)

-- the tokens after the first `c` of those in a row
pub row_after : {X : Type 0} (xs : List X) (b e c : ℕ)
    → take (e - (b + c)) (drop (b + c) xs) ≡ drop c (take (e - b) (drop b xs))
row_after xs b e c =
    let n : e - (b + c) ≡ e - b - c = omega arith in
    ap (λ (k : ℕ). take k (drop (b + c) xs)) n
    ∙ ap (take (e - b - c)) (sym (drop-drop c b xs))
    ∙ sym (drop_of_take c (e - b) (drop b xs))

-- the tokens between two indices of those in a row
pub row_within : {X : Type 0} (xs : List X) (b e f t : ℕ)
    → t ≤ length (take (e - b) (drop b xs))
    → take ((b + t) - (b + f)) (drop (b + f) xs) ≡ take (t - f) (drop f (take (e - b) (drop b xs)))
row_within xs b e f t h =
    let l = length-take (e - b) (drop b xs) in
    let n : (b + t) - (b + f) ≡ t - f = omega arith in
    let m : t - f ≤ e - b - f = omega (arith, l, h) in
    ap (λ (k : ℕ). take k (drop (b + f) xs)) n
    ∙ ap (take (t - f)) (sym (drop-drop f b xs))
    ∙ sym (take-take (t - f) (e - b - f) (drop f (drop b xs)) m)
    ∙ ap (take (t - f)) (sym (drop_of_take f (e - b) (drop b xs)))

------ one token of an invocation

-- the token at an index, and those after it
first_at : (xs : List Token') (i : ℕ) (t : Token') → i < length xs → t ≡ get_or xs i t
    → drop i xs ≡ t ∷ drop (i + 1) xs
first_at xs i t h e =
    drop-cons xs i t h
    ∙ ap (λ (u : Token'). u ∷ drop (suc i) xs) (sym e)
    ∙ ap (λ (k : ℕ). t ∷ drop k xs) (sym (add-one i))

-- the argument that is being taken, with the token at the index
grown : (xs : List Token') (b i : ℕ) (t : Token') → b ≤ i → i < length xs → t ≡ get_or xs i t
    → take (i + 1 - b) (drop b xs) ≡ take (i - b) (drop b xs) ++ t ∷ []
grown xs b i t h k e =
    let n : i + 1 - b ≡ suc (i - b) = omega arith in
    let l = length-drop b xs in
    let m : i - b < length (drop b xs) = omega (arith, l) in
    let at : b + (i - b) ≡ i = omega arith in
    let item : get_or (drop b xs) (i - b) t ≡ t =
    get_or-drop b xs (i - b) t ∙ ap (λ (k : ℕ). get_or xs k t) at ∙ sym e in
    ap (λ (k : ℕ). take k (drop b xs)) n
    ∙ take-suc (drop b xs) (i - b) t m
    ∙ ap (λ (u : Token'). take (i - b) (drop b xs) ++ u ∷ []) item

-- what is left to be taken at an index, where the argument that is being taken begins at `b`
abbrev pub going : (macros : List ℕ → Macro) → Body → List Token' → List Token → (depth b i : ℕ)
    → List (List Token) → Option Taken
going macros body xs rest depth b i args =
    take_arguments body depth (tokens_of macros (take (i - b) (drop b xs))) args
    (tokens_of macros (drop i xs) ++ rest)

-- what is left to be taken after a token, by what it is to the invocation
abbrev pub taking : Mark → Body → (depth : ℕ) → (t : Token) → (argument : List Token)
    → (args : List (List Token)) → (tokens : List Token) → Option Taken
taking opening body depth t argument args tokens =
    take_arguments body (suc depth) (argument ++ t ∷ []) args tokens
taking closing body zero t argument args tokens =
    Some (record { arguments = args ++ argument ∷ []; hides = t.hides; after = tokens })
taking closing body (suc outer) t argument args tokens =
    take_arguments body outer (argument ++ t ∷ []) args tokens
taking comma body zero t argument args tokens = elim (ends_argument body args) [
  | true ↦ take_arguments body zero [] (args ++ argument ∷ []) tokens
  | false ↦ take_arguments body zero (argument ++ t ∷ []) args tokens
]
taking comma body (suc outer) t argument args tokens =
    take_arguments body (suc outer) (argument ++ t ∷ []) args tokens
taking none body depth t argument args tokens =
    take_arguments body depth (argument ++ t ∷ []) args tokens

taking_by : (m : Mark) (body : Body) (depth : ℕ) (t : Token) (argument : List Token)
    (args : List (List Token)) (tokens : List Token)
    → (elim m as (λ v. Option Taken) [
      | opening ↦ take_arguments body (suc depth) (argument ++ t ∷ []) args tokens
      | closing ↦ elim depth as (λ v. Option Taken) [
        | zero ↦ Some (record
            { arguments = args ++ argument ∷ []; hides = t.hides; after = tokens })
        | suc outer ↦ take_arguments body outer (argument ++ t ∷ []) args tokens
      ]
      | comma ↦ elim depth as (λ v. Option Taken) [
        | zero ↦ elim (ends_argument body args) as (λ v. Option Taken) [
          | true ↦ take_arguments body zero [] (args ++ argument ∷ []) tokens
          | false ↦ take_arguments body zero (argument ++ t ∷ []) args tokens
        ]
        | suc outer ↦ take_arguments body (suc outer) (argument ++ t ∷ []) args tokens
      ]
      | none ↦ take_arguments body depth (argument ++ t ∷ []) args tokens
    ]) ≡ taking m body depth t argument args tokens
taking_by opening body depth t argument args tokens = refl
taking_by closing body zero t argument args tokens = refl
taking_by closing body (suc outer) t argument args tokens = refl
taking_by comma body zero t argument args tokens = refl
taking_by comma body (suc outer) t argument args tokens = refl
taking_by none body depth t argument args tokens = refl

-- one token is taken
pub goes : (macros : List ℕ → Macro) (body : Body) (xs : List Token') (rest : List Token)
    (depth b i : ℕ) (args : List (List Token)) (t : Token') (m : Mark)
    → i < length xs → t ≡ get_or xs i t → m ≡ mark (token_of macros t).text
    → going macros body xs rest depth b i args
    ≡ taking m body depth (token_of macros t) (tokens_of macros (take (i - b) (drop b xs))) args
    (tokens_of macros (drop (i + 1) xs) ++ rest)
goes macros body xs rest depth b i args t m h e k =
    let argument : List Token = tokens_of macros (take (i - b) (drop b xs)) in
    let tokens : List Token = tokens_of macros (drop (i + 1) xs) ++ rest in
    ap (λ (ts : List Token'). take_arguments body depth argument args
    (tokens_of macros ts ++ rest)) (first_at xs i t h e)
    ∙ taking_by (mark (token_of macros t).text) body depth (token_of macros t) argument args tokens
    ∙ ap (λ (n : Mark). taking n body depth (token_of macros t) argument args tokens) (sym k)

-- a token that goes into the argument
pub adds : (macros : List ℕ → Macro) (body : Body) (xs : List Token') (rest : List Token)
    (depth b i : ℕ) (args : List (List Token)) (t : Token')
    → b ≤ i → i < length xs → t ≡ get_or xs i t
    → take_arguments body depth
    (tokens_of macros (take (i - b) (drop b xs)) ++ token_of macros t ∷ []) args
    (tokens_of macros (drop (i + 1) xs) ++ rest)
    ≡ going macros body xs rest depth b (i + 1) args
adds macros body xs rest depth b i args t h k e =
    sym (ap (λ (ts : List Token). take_arguments body depth ts args
    (tokens_of macros (drop (i + 1) xs) ++ rest))
    (ap (tokens_of macros) (grown xs b i t h k e)
    ∙ map-append (token_of macros) (take (i - b) (drop b xs)) (t ∷ [])))

-- the same at the next index, where the token goes into the argument
pub added : (macros : List ℕ → Macro) (body : Body) (xs : List Token') (rest : List Token)
    (depth depth' b b' i : ℕ) (args args' : List (List Token)) (t : Token') (m : Mark)
    → b ≤ i → i < length xs → t ≡ get_or xs i t → m ≡ mark (token_of macros t).text
    → taking m body depth (token_of macros t) (tokens_of macros (take (i - b) (drop b xs))) args
    (tokens_of macros (drop (i + 1) xs) ++ rest)
    ≡ take_arguments body depth'
    (tokens_of macros (take (i - b) (drop b xs)) ++ token_of macros t ∷ []) args
    (tokens_of macros (drop (i + 1) xs) ++ rest)
    → b' ≡ b → args' ≡ args
    → going macros body xs rest depth' b' (i + 1) args'
    ≡ going macros body xs rest depth b i args
added macros body xs rest depth depth' b b' i args args' t m k h e is step eb ea =
    ap (λ (n : ℕ). going macros body xs rest depth' n (i + 1) args') eb
    ∙ ap (going macros body xs rest depth' b (i + 1)) ea
    ∙ sym (adds macros body xs rest depth' b i args t k h e)
    ∙ sym step
    ∙ sym (goes macros body xs rest depth b i args t m h e is)

pub taking_opening : (body : Body) (depth depth' : ℕ) (t : Token) (argument : List Token)
    (args : List (List Token)) (tokens : List Token) → depth' ≡ depth + 1
    → taking opening body depth t argument args tokens
    ≡ take_arguments body depth' (argument ++ t ∷ []) args tokens
taking_opening body depth depth' t argument args tokens e =
    let n : suc depth ≡ depth' = omega arith in
    ap (λ (k : ℕ). take_arguments body k (argument ++ t ∷ []) args tokens) n

pub taking_closing : (body : Body) (depth depth' : ℕ) (t : Token) (argument : List Token)
    (args : List (List Token)) (tokens : List Token) → 0 < depth → depth' ≡ depth - 1
    → taking closing body depth t argument args tokens
    ≡ take_arguments body depth' (argument ++ t ∷ []) args tokens
taking_closing body zero depth' t argument args tokens h e = absurd (omega arith)
taking_closing body (suc outer) depth' t argument args tokens h e =
    let n : outer ≡ depth' = omega arith in
    ap (λ (k : ℕ). take_arguments body k (argument ++ t ∷ []) args tokens) n

pub taking_none : (body : Body) (depth depth' : ℕ) (t : Token) (argument : List Token)
    (args : List (List Token)) (tokens : List Token) → depth' ≡ depth
    → taking none body depth t argument args tokens
    ≡ take_arguments body depth' (argument ++ t ∷ []) args tokens
taking_none body depth depth' t argument args tokens e =
    ap (λ (k : ℕ). take_arguments body k (argument ++ t ∷ []) args tokens) (sym e)

abbrev at_comma : Bool → Body → Token → List Token → List (List Token) → List Token → Option Taken
at_comma true body t argument args tokens =
    take_arguments body zero [] (args ++ argument ∷ []) tokens
at_comma false body t argument args tokens =
    take_arguments body zero (argument ++ t ∷ []) args tokens

at_comma_by : (b : Bool) (body : Body) (t : Token) (argument : List Token)
    (args : List (List Token)) (tokens : List Token)
    → (elim b as (λ v. Option Taken) [
      | true ↦ take_arguments body zero [] (args ++ argument ∷ []) tokens
      | false ↦ take_arguments body zero (argument ++ t ∷ []) args tokens
    ]) ≡ at_comma b body t argument args tokens
at_comma_by true body t argument args tokens = refl
at_comma_by false body t argument args tokens = refl

-- a comma within parentheses
pub taking_deep : (body : Body) (depth depth' : ℕ) (t : Token) (argument : List Token)
    (args : List (List Token)) (tokens : List Token) → 0 < depth → depth' ≡ depth
    → taking comma body depth t argument args tokens
    ≡ take_arguments body depth' (argument ++ t ∷ []) args tokens
taking_deep body zero depth' t argument args tokens h e = absurd (omega arith)
taking_deep body (suc outer) depth' t argument args tokens h e =
    ap (λ (k : ℕ). take_arguments body k (argument ++ t ∷ []) args tokens) (sym e)

-- a comma of the variable arguments
pub taking_variable : (body : Body) (depth depth' : ℕ) (t : Token) (argument : List Token)
    (args : List (List Token)) (tokens : List Token) → depth ≡ 0 → depth' ≡ depth
    → ends_argument body args ≡ false
    → taking comma body depth t argument args tokens
    ≡ take_arguments body depth' (argument ++ t ∷ []) args tokens
taking_variable body zero depth' t argument args tokens h e k =
    at_comma_by (ends_argument body args) body t argument args tokens
    ∙ ap (λ (v : Bool). at_comma v body t argument args tokens) k
    ∙ ap (λ (n : ℕ). take_arguments body n (argument ++ t ∷ []) args tokens) (sym e)
taking_variable body (suc outer) depth' t argument args tokens h e k = absurd (omega arith)

taking_split : (body : Body) (depth depth' : ℕ) (t : Token) (argument : List Token)
    (args : List (List Token)) (tokens : List Token) → depth ≡ 0 → depth' ≡ depth
    → ends_argument body args ≡ true
    → taking comma body depth t argument args tokens
    ≡ take_arguments body depth' [] (args ++ argument ∷ []) tokens
taking_split body zero depth' t argument args tokens h e k =
    at_comma_by (ends_argument body args) body t argument args tokens
    ∙ ap (λ (v : Bool). at_comma v body t argument args tokens) k
    ∙ ap (λ (n : ℕ). take_arguments body n [] (args ++ argument ∷ []) tokens) (sym e)
taking_split body (suc outer) depth' t argument args tokens h e k = absurd (omega arith)

-- the same at the next index, after a comma that ends the argument
pub split : (macros : List ℕ → Macro) (body : Body) (xs : List Token') (rest : List Token)
    (depth depth' b b' i : ℕ) (args args' : List (List Token)) (t : Token')
    → i < length xs → t ≡ get_or xs i t → comma ≡ mark (token_of macros t).text
    → depth ≡ 0 → depth' ≡ depth → ends_argument body args ≡ true → b' ≡ i + 1
    → args' ≡ args ++ tokens_of macros (take (i - b) (drop b xs)) ∷ []
    → going macros body xs rest depth' b' (i + 1) args'
    ≡ going macros body xs rest depth b i args
split macros body xs rest depth depth' b b' i args args' t h e is z d k eb ea =
    let argument : List Token = tokens_of macros (take (i - b) (drop b xs)) in
    let tokens : List Token = tokens_of macros (drop (i + 1) xs) ++ rest in
    let n : i + 1 - b' ≡ 0 = omega arith in
    ap (λ (k : ℕ). take_arguments body depth' (tokens_of macros (take k (drop b' xs))) args'
    tokens) n
    ∙ ap (λ (ls : List (List Token)). take_arguments body depth' [] ls tokens) ea
    ∙ sym (taking_split body depth depth' (token_of macros t) argument args tokens z d k)
    ∙ sym (goes macros body xs rest depth b i args t comma h e is)
