-- What an invocation comes to, by what is taken after the name.
use Rattle.std.proofs.Common.{◌≡◌, ◌≤◌, ◌+◌, ℕ, Bool, true, false, List, [], ◌++◌, Option, Some, None, refl, sym, ap, ◌∙◌, arith, length, length-append}
use Rattle.std.specs.Prelude.{min}
use Rattle.hv_base.proofs.Lists.{length-map}
use Rattle.hv_base.specs.declared.why.Why.{Why}
use Rattle.hv_base.specs.declared.why.Why.TheVariants.{BadInvocation}
use Rattle.hv_toks.specs.Macro.{Macro}
use Rattle.hv_toks.specs.declared.macros.Body.{Body}
use Rattle.hv_toks.specs.declared.macros.Body.TheVariants.{Object}
use Rattle.hv_toks.specs.declared.token.PpTok.{PpTok}
use Rattle.hv_plain.specs.declared.episode.RunEnd.{RunEnd}
use Rattle.hv_plain.specs.episode.Expansion.{State, refused, begin, invoke, left_after, tail, unclosed, used}
use Rattle.hv_plain.specs.episode.Invocation.{Taken, take_arguments, takes}
use Rattle.hv_plain.specs.episode.Substitution.{Frame, Scan}
use Rattle.hv_plain.specs.episode.Tokens.{Token, both}
use Rattle.hv_rescan.specs.Values.{arguments_of, token_of, tokens_of}
use Rattle.hv_rescan.specs.declared.arguments.Taken.{Taken as Taken'}
use Rattle.hv_rescan.specs.declared.token.Token.{Token as Token'}
use Rattle.hv_rescan.specs.working.Steps.{Takes, taken_of}

-- the tokens after the first are those that are left once it is taken
pub tail_taken : (o : Option Token) (before after : List Token) → Takes o before after
    → after ≡ tail before
tail_taken None before after h = h.1 ∙ sym (ap tail h.0)
tail_taken (Some t) before after h = sym (ap tail h)

-- the arguments that are taken after the first token
pub taken_after : (macros : List ℕ → Macro) (body : Body) (o : Option Taken') (p : Option Token)
    (before rest after : List Token)
    → taken_of macros o after ≡ take_arguments body 0 [] [] rest → Takes p before rest
    → taken_of macros o after ≡ take_arguments body 0 [] [] (tail before)
taken_after macros body o p before rest after h k =
    h ∙ ap (take_arguments body 0 [] []) (tail_taken p before rest k)

------ the three outcomes

-- an invocation whose arguments are taken, by whether their number is right
abbrev taking : Bool → Token → Scan → List Frame → Body → Taken → State
taking true t s fs body taken =
    begin t (left_after s taken) fs body taken.arguments (both t.hides taken.hides)
taking false t s fs body taken = refused BadInvocation

taking_by : (t : Token) (s : Scan) (fs : List Frame) (body : Body) (taken : Taken) (b : Bool)
    → (elim b as (λ v. State) [
      | true ↦ begin t (left_after s taken) fs body taken.arguments (both t.hides taken.hides)
      | false ↦ refused BadInvocation
    ]) ≡ taking b t s fs body taken
taking_by t s fs body taken true = refl
taking_by t s fs body taken false = refl

taken_is : (ends : RunEnd) (t : Token) (s : Scan) (fs : List Frame) (body : Body) (taken : Taken)
    (x : Option Taken) (b : Bool) → Some taken ≡ x → takes body taken.arguments ≡ b
    → taking b t s fs body taken ≡ invoke ends t s fs body x
taken_is ends t s fs body taken x b e h =
    sym (ap (invoke ends t s fs body) (sym e)
    ∙ taking_by t s fs body taken (takes body taken.arguments)
    ∙ ap (λ (v : Bool). taking v t s fs body taken) h)

pub none_taken : (ends : RunEnd) (t : Token) (s : Scan) (fs : List Frame) (body : Body)
    (x : Option Taken) (why : Why) → None ≡ x → why ≡ unclosed ends fs
    → refused why ≡ invoke ends t s fs body x
none_taken ends t s fs body x why e h = ap refused h ∙ ap (invoke ends t s fs body) e

pub wrong_taken : (ends : RunEnd) (t : Token) (s : Scan) (fs : List Frame) (body : Body)
    (taken : Taken) (x : Option Taken) (b : Bool) → Some taken ≡ x
    → b ≡ takes body taken.arguments → b ≡ false
    → refused BadInvocation ≡ invoke ends t s fs body x
wrong_taken ends t s fs body taken x b e h k = taken_is ends t s fs body taken x false e (sym h ∙ k)

pub right_taken : (ends : RunEnd) (t : Token) (s : Scan) (fs : List Frame) (body : Body)
    (taken : Taken) (x : Option Taken) (b : Bool) → Some taken ≡ x
    → b ≡ takes body taken.arguments → b ≡ true
    → begin t (left_after s taken) fs body taken.arguments (both t.hides taken.hides)
    ≡ invoke ends t s fs body x
right_taken ends t s fs body taken x b e h k = taken_is ends t s fs body taken x true e (sym h ∙ k)

------ what is left unread

-- of the tokens that were unread before an invocation, those are unread after it that are left
pub unread_left : (macros : List ℕ → Macro) (front : List Token') (rest : List Token)
    (u₀ u₁ f₁ : ℕ) → u₁ ≡ min u₀ (f₁ + u₁) → length rest ≡ min u₁ (length front + length rest)
    → length front + length rest ≤ f₁ + u₁
    → length rest ≡ min u₀ (length (tokens_of macros front ++ rest))
unread_left macros front rest u₀ u₁ f₁ h k m =
    let count : length (tokens_of macros front ++ rest) ≡ length front + length rest =
    length-append (tokens_of macros front) rest
    ∙ ap (λ (n : ℕ). n + length rest) (length-map (token_of macros) front) in
    omega (arith, count)

------ object-like macros

pub object_used : (macros : List ℕ → Macro) (ends : RunEnd) (t : Token) (s : Scan)
    (fs : List Frame) (body : Body) (replacement : List PpTok) (arguments : List (List Token'))
    (hides : List (List ℕ)) → body ≡ Object replacement → arguments ≡ [] → hides ≡ t.hides
    → begin t s fs body (arguments_of macros arguments) hides ≡ used ends t s fs body
object_used macros ends t s fs body replacement arguments hides e h k =
    ap (λ (xs : List (List Token')). begin t s fs body (arguments_of macros xs) hides) h
    ∙ ap (begin t s fs body []) k
    ∙ ap (λ (b : Body). begin t s fs b [] t.hides) e
    ∙ sym (ap (used ends t s fs) e)
