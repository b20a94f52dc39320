-- What one step of rescanning is, by what is left.
use Rattle.std.proofs.Common.{◌≡◌, ◌<◌, ◌≤◌, ℕ, Bool, true, false, List, [], ◌∷◌, ◌++◌, Option, Some, None, refl, sym, ap, ◌∙◌, arith, length, length-append}
use Rattle.std.specs.Option.{option_map}
use Rattle.std.proofs.lemmas.Bool.{lt-leb, le-leb}
use Rattle.hv_base.specs.declared.why.Why.TheVariants.{BadPaste}
use Rattle.hv_plain.specs.episode.Expansion.{State, at, done, refused, first_of_text, alone, settle}
use Rattle.hv_plain.specs.episode.Substitution.{Scan, Frame, Filled, whole, waits, broken, resume}
use Rattle.hv_plain.specs.episode.Tokens.{Token}
use Rattle.hv_toks.specs.Macro.{Macro}
use Rattle.hv_rescan.specs.Values.{token_of}
use Rattle.hv_rescan.specs.declared.token.Token.{Token as Token'}
use Rattle.hv_rescan.specs.working.Steps.{Takes}

abbrev pub scanned : List Token → ℕ → List Token → Scan
scanned ahead unread given = record { ahead = ahead; unread = unread; given = given }

abbrev first_as : Bool → List Token → ℕ → List Token → List Frame → State → State
first_as v ahead unread given fs at_end = elim v [
  | true ↦ at_end
  | false ↦ elim ahead [ [] ↦ at_end | t ∷ tokens ↦ at t (scanned tokens unread given) fs ]
]

first_pends : (t : Token) (ts unread given : List Token) (fs : List Frame) (at_end : State)
    → first_of_text (scanned (t ∷ (ts ++ unread)) (length unread) given) fs at_end
    ≡ at t (scanned (ts ++ unread) (length unread) given) fs
first_pends t ts unread given fs at_end =
    let more : length unread < length (t ∷ (ts ++ unread)) =
    omega (arith, length-append ts unread) in
    ap (λ (v : Bool). first_as v (t ∷ (ts ++ unread)) (length unread) given fs at_end)
    (lt-leb (length (t ∷ (ts ++ unread))) (length unread) more)

first_ends : (unread given : List Token) (fs : List Frame) (at_end : State)
    → first_of_text (scanned unread (length unread) given) fs at_end ≡ at_end
first_ends unread given fs at_end =
    let all : length unread ≤ length unread = omega arith in
    ap (λ (v : Bool). first_as v unread (length unread) given fs at_end)
    (le-leb (length unread) (length unread) all)

pub pends : (fs : List Frame) (t : Token) (ts unread given : List Token)
    → settle fs (scanned (t ∷ (ts ++ unread)) (length unread) given)
    ≡ at t (scanned (ts ++ unread) (length unread) given) fs
pends [] t ts unread given =
    first_pends t ts unread given []
    (done (scanned (t ∷ (ts ++ unread)) (length unread) given))
pends (f ∷ fs) t ts unread given = first_pends t ts unread given (f ∷ fs) _

pub ends : (unread given : List Token)
    → settle [] (scanned unread (length unread) given) ≡ done (scanned unread (length unread) given)
ends unread given = first_ends unread given [] (done (scanned unread (length unread) given))

-- what comes of a substitution
abbrev pub went : List Frame → Filled → State
went fs (whole around) = settle fs around
went fs (waits t tokens waiting) = at t (alone tokens) (waiting ∷ fs)
went fs broken = refused BadPaste

went_as : (fs : List Frame) (x : Filled)
    → (elim x as (λ v. State) [
      | whole around ↦ settle fs around
      | waits t tokens waiting ↦ at t (alone tokens) (waiting ∷ fs)
      | broken ↦ refused BadPaste
    ]) ≡ went fs x
went_as fs (whole around) = refl
went_as fs (waits t tokens waiting) = refl
went_as fs broken = refl

pub resumes : (f : Frame) (fs : List Frame) (unread given : List Token) (x : Filled)
    → x ≡ resume f given
    → settle (f ∷ fs) (scanned unread (length unread) given) ≡ went fs x
resumes f fs unread given x e =
    first_ends unread given (f ∷ fs) _
    ∙ went_as fs (resume f given)
    ∙ ap (went fs) (sym e)

------ the token that is taken off a text

pub taken_is : (macros : List ℕ → Macro) (o : Option Token') (t : Token') (before after : List Token)
    → o ≡ Some t → Takes (option_map (token_of macros) o) before after
    → token_of macros t ∷ after ≡ before
taken_is macros None t before after e h = let f : None ≡ Some t = e in absurd (cc)
taken_is macros (Some u) t before after e h =
    let f : Some u ≡ Some t = e in
    let g : u ≡ t = cc in
    ap (λ (v : Token'). token_of macros v ∷ after) (sym g) ∙ sym h

pub none_is : (macros : List ℕ → Macro) (o : Option Token') (before after : List Token)
    → o ≡ None → Takes (option_map (token_of macros) o) before after → before ≡ []
none_is macros (Some t) before after e h = let f : Some t ≡ None = e in absurd (cc)
none_is macros None before after e h = h.0
