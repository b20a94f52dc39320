-- The numbers of a place and a cause stand for no other ones.
use Rattle.std.proofs.Common.{◌≡◌, ℕ, eqb, cond, List, refl, sym, ◌∙◌, ap}
use Rattle.hv_base.specs.Why.{number_of}
use Rattle.hv_base.specs.declared.place.Place.{Place}
use Rattle.hv_base.specs.declared.why.Why.{Why}
use Rattle.hv_base.specs.declared.why.Why.TheVariants.{OpenComment, BadDirective, Unbalanced, BadCondition, ErrorDirective, NoFile, IncludeTooDeep, BadDefine, BadInvocation, DirectiveInArguments, BadPaste, EpisodeTooLong, BadConstant, LeftOut, Syntax, TooDeep, Undeclared, Redeclared, BadType, NotConstant, DuplicateCase, Reserved, NoMain, NotDefined}
use Rattle.hv_given.specs.working.Keys.{key_of}

-- the cause of a number
abbrev why_of : ℕ → Why
why_of n =
    cond (eqb n 1) OpenComment (cond (eqb n 2) BadDirective (cond (eqb n 3) Unbalanced
    (cond (eqb n 4) BadCondition (cond (eqb n 5) ErrorDirective (cond (eqb n 6) NoFile
    (cond (eqb n 7) IncludeTooDeep (cond (eqb n 8) BadDefine (cond (eqb n 9) BadInvocation
    (cond (eqb n 10) DirectiveInArguments (cond (eqb n 11) BadPaste
    (cond (eqb n 12) EpisodeTooLong (cond (eqb n 13) BadConstant (cond (eqb n 14) LeftOut
    (cond (eqb n 15) Syntax (cond (eqb n 16) TooDeep (cond (eqb n 17) Undeclared
    (cond (eqb n 18) Redeclared (cond (eqb n 19) BadType (cond (eqb n 20) NotConstant
    (cond (eqb n 21) DuplicateCase (cond (eqb n 22) Reserved (cond (eqb n 23) NoMain
    NotDefined))))))))))))))))))))))

why_back : (why : Why) → why_of (number_of why) ≡ why
why_back OpenComment = refl
why_back BadDirective = refl
why_back Unbalanced = refl
why_back BadCondition = refl
why_back ErrorDirective = refl
why_back NoFile = refl
why_back IncludeTooDeep = refl
why_back BadDefine = refl
why_back BadInvocation = refl
why_back DirectiveInArguments = refl
why_back BadPaste = refl
why_back EpisodeTooLong = refl
why_back BadConstant = refl
why_back LeftOut = refl
why_back Syntax = refl
why_back TooDeep = refl
why_back Undeclared = refl
why_back Redeclared = refl
why_back BadType = refl
why_back NotConstant = refl
why_back DuplicateCase = refl
why_back Reserved = refl
why_back NoMain = refl
why_back NotDefined = refl

-- causes of one number are one
number_once : (why other : Why) → number_of why ≡ number_of other → why ≡ other
number_once why other e = sym (why_back why) ∙ (ap why_of e ∙ why_back other)

-- and places and causes of the same numbers are one
pub key_cause : (place other : Place) (why cause : Why)
    → key_of place why ≡ key_of other cause → why ≡ cause
key_cause place other why cause e =
    let n : number_of why ≡ number_of cause = (cc) in number_once why cause n

pub key_place : (place other : Place) (why cause : Why)
    → key_of place why ≡ key_of other cause → place ≡ other
key_place place other why cause e =
    let file : place.file ≡ other.file = (cc) in
    let offset : place.offset ≡ other.offset = (cc) in
    let stack : place.stack ≡ other.stack = (cc) in
    same place other stack file offset
  where
    same : (a b : Place) → a.stack ≡ b.stack → a.file ≡ b.file → a.offset ≡ b.offset → a ≡ b
    same a b stack file offset =
        ap (λ (s : List ℕ).
        let p : Place = record { stack = s; file = a.file; offset = a.offset } in p) stack
        ∙ (ap (λ (f : ℕ).
        let p : Place = record { stack = b.stack; file = f; offset = a.offset } in p) file
        ∙ ap (λ (o : ℕ).
        let p : Place = record { stack = b.stack; file = b.file; offset = o } in p) offset)
