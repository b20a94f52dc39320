-- The machine reads what the grammar derives.
use Rattle.std.proofs.Common.{◌≡◌, ℕ, suc, ◌+◌, Bool, true, false, cond, List, [], ◌∷◌, ◌++◌, refl, sym, ap, ◌∙◌, append_assoc, add-one, Some}
use Rattle.std.proofs.lemmas.List.{append-nil}
use Rattle.hv_model.specs.Grammar.{Phrase, expr, or, and, not, Derives, expr_or, expr_implies, or_and, or_either, and_not, and_both, not_negate, not_parens, not_name, place_of}
use Rattle.hv_model.specs.working.Machine.{frame, want, have, start, negated_times, completed, run}
use Rattle.hv_model.specs.Name.{is_name}
use Rattle.hv_model.specs.Rule.{Rule, option, disjunction, implication}
use Rattle.hv_model.specs.working.Steps.{Item, value, premises, conjoined}
use Rattle.hv_model.specs.Token.{Token, implies, either, both, negate, open_, close, word, other}
use Rattle.hv_model.specs.declared.parser.Frame.{Frame}

-- what follows an operand of `||`
abbrev NotBoth : List Token → Type 0
NotBoth [] = Unit {0}
NotBoth (both ∷ _) = ⊥
NotBoth (_ ∷ _) = Unit {0}

-- what follows a whole rule
abbrev Ends : List Token → Type 0
Ends [] = Unit {0}
Ends (close ∷ _) = Unit {0}
Ends (_ ∷ _) = ⊥

Ends-NotBoth : (rest : List Token) → Ends rest → NotBoth rest
Ends-NotBoth [] h = tt
Ends-NotBoth (implies ∷ rest) h = absurd h
Ends-NotBoth (either ∷ rest) h = absurd h
Ends-NotBoth (both ∷ rest) h = absurd h
Ends-NotBoth (negate ∷ rest) h = absurd h
Ends-NotBoth (open_ ∷ rest) h = absurd h
Ends-NotBoth (close ∷ rest) h = tt
Ends-NotBoth (word w ∷ rest) h = absurd h
Ends-NotBoth (other ∷ rest) h = absurd h

-- a disjunction is made when its right side ends
either_settled : (names : List (List ℕ)) (p : Bool) (outer : List Frame) (items : List Item)
    (r s : Rule) (rest : List Token) → NotBoth rest
    → run names (have (frame 0 false true p) outer (value s ∷ value r ∷ items)) rest
    ≡ run names (have (frame 0 false false p) outer (value (disjunction r s) ∷ items)) rest
either_settled names p outer items r s [] h = refl
either_settled names p outer items r s (implies ∷ rest) h = refl
either_settled names p outer items r s (either ∷ rest) h = refl
either_settled names p outer items r s (both ∷ rest) h = absurd h
either_settled names p outer items r s (negate ∷ rest) h = refl
either_settled names p outer items r s (open_ ∷ rest) h = refl
either_settled names p outer items r s (close ∷ rest) h = refl
either_settled names p outer items r s (word w ∷ rest) h = refl
either_settled names p outer items r s (other ∷ rest) h = refl

-- an implication is made when its right side ends
implies_settled : (names : List (List ℕ)) (outer : List Frame) (items : List Item) (r s : Rule)
    (rest : List Token) → Ends rest
    → run names (have (frame 0 false false true) outer (value s ∷ premises r [] ∷ items)) rest
    ≡ run names (have (frame 0 false false false) outer (value (implication r s) ∷ items)) rest
implies_settled names outer items r s [] h = refl
implies_settled names outer items r s (implies ∷ rest) h = absurd h
implies_settled names outer items r s (either ∷ rest) h = absurd h
implies_settled names outer items r s (both ∷ rest) h = absurd h
implies_settled names outer items r s (negate ∷ rest) h = absurd h
implies_settled names outer items r s (open_ ∷ rest) h = absurd h
implies_settled names outer items r s (close ∷ rest) h = refl
implies_settled names outer items r s (word w ∷ rest) h = absurd h
implies_settled names outer items r s (other ∷ rest) h = absurd h

-- in a chain the last implication is made first
implies_chained : (names : List (List ℕ)) (outer : List Frame) (items : List Item) (q : Rule)
    (qs : List Rule) (r s : Rule) (rest : List Token) → Ends rest
    → run names (have (frame 0 false false true) outer (value s ∷ premises r (q ∷ qs) ∷ items)) rest
    ≡ run names (have (frame 0 false false true) outer
    (value (implication r s) ∷ premises q qs ∷ items)) rest
implies_chained names outer items q qs r s [] h = refl
implies_chained names outer items q qs r s (implies ∷ rest) h = absurd h
implies_chained names outer items q qs r s (either ∷ rest) h = absurd h
implies_chained names outer items q qs r s (both ∷ rest) h = absurd h
implies_chained names outer items q qs r s (negate ∷ rest) h = absurd h
implies_chained names outer items q qs r s (open_ ∷ rest) h = absurd h
implies_chained names outer items q qs r s (close ∷ rest) h = refl
implies_chained names outer items q qs r s (word w ∷ rest) h = absurd h
implies_chained names outer items q qs r s (other ∷ rest) h = absurd h

-- the machine goes over a phrase and puts its rule on the stack
abbrev Goes : List (List ℕ) → Phrase → List Token → Rule → Type 0
Goes names not ts r = (f : Frame) (outer : List Frame) (items : List Item) (rest : List Token)
    → run names (want f outer items) (ts ++ rest)
    ≡ run names (completed f outer (value r ∷ items)) rest
Goes names and ts r = (d p : Bool) (outer : List Frame) (items : List Item) (rest : List Token)
    → run names (want (frame 0 false d p) outer items) (ts ++ rest)
    ≡ run names (have (frame 0 false d p) outer (value r ∷ items)) rest
Goes names or ts r = (p : Bool) (outer : List Frame) (items : List Item) (rest : List Token)
    → NotBoth rest
    → run names (want (frame 0 false false p) outer items) (ts ++ rest)
    ≡ run names (have (frame 0 false false p) outer (value r ∷ items)) rest
Goes names expr ts r =
    ((outer : List Frame) (items : List Item) (rest : List Token) → Ends rest
    → run names (want (frame 0 false false false) outer items) (ts ++ rest)
    ≡ run names (have (frame 0 false false false) outer (value r ∷ items)) rest)
    × ((q : Rule) (qs : List Rule) (outer : List Frame) (items : List Item) (rest : List Token)
    → Ends rest
    → run names (want (frame 0 false false true) outer (premises q qs ∷ items)) (ts ++ rest)
    ≡ run names (have (frame 0 false false true) outer (value r ∷ premises q qs ∷ items)) rest)

pub negated_more : (n : ℕ) (items : List Item)
    → negated_times (n + 1) items ≡ negated_times (suc n) items
negated_more n items = ap (λ k. negated_times k items) (add-one n)

named : (names : List (List ℕ)) (name : List ℕ) → is_name name ≡ true
    → Goes names not (word name ∷ []) (option (place_of names name))
named names name h f outer items rest = rw h refl

goes : {names : List (List ℕ)} {phrase : Phrase} {ts : List Token} {r : Rule}
    → Derives names phrase ts r → Goes names phrase ts r
goes {names} (expr_or d) = (
  λ outer items rest h. goes d false outer items rest (Ends-NotBoth rest h),
  λ q qs outer items
      rest h. goes d true outer (premises q qs ∷ items) rest (Ends-NotBoth rest h),
)
goes {names} (expr_implies {ts} {us} {r} {s} d e) = (
  λ outer items rest h.
      ap (run names (want (frame 0 false false false) outer items))
      (append_assoc ts (implies ∷ us) rest)
      ∙ (goes d false outer items (implies ∷ us ++ rest) tt
      ∙ ((goes e).1 r [] outer items rest h
      ∙ implies_settled names outer items r s rest h)),
  λ q qs outer items rest h.
      ap (run names (want (frame 0 false false true) outer (premises q qs ∷ items)))
      (append_assoc ts (implies ∷ us) rest)
      ∙ (goes d true outer (premises q qs ∷ items) (implies ∷ us ++ rest) tt
      ∙ ((goes e).1 r (q ∷ qs) outer items rest h
      ∙ implies_chained names outer items q qs r s rest h)),
)
goes {names} (or_and d) = λ p outer items rest h. goes d false p outer items rest
goes {names} (or_either {ts} {us} {r} {s} d e) = λ p outer items rest h.
    ap (run names (want (frame 0 false false p) outer items)) (append_assoc ts (either ∷ us) rest)
    ∙ (goes d p outer items (either ∷ us ++ rest) tt
    ∙ (goes e true p outer (value r ∷ items) rest
    ∙ either_settled names p outer items r s rest h))
goes {names} (and_not d) = λ a p outer items rest. goes d (frame 0 false a p) outer items rest
goes {names} (and_both {ts} {us} {r} {s} d e) = λ a p outer items rest.
    ap (run names (want (frame 0 false a p) outer items)) (append_assoc ts (both ∷ us) rest)
    ∙ (goes d a p outer items (both ∷ us ++ rest)
    ∙ goes e (frame 0 true a p) outer (value r ∷ items) rest)
goes {names} (not_negate {ts} {r} d) = λ f outer items rest.
    goes d (frame (f.negations + 1) f.conjunct f.disjunct f.premise) outer items rest
    ∙ ap (λ stack. run names (have (frame 0 false f.disjunct f.premise) outer
    (cond f.conjunct (conjoined stack) stack)) rest) (negated_more f.negations (value r ∷ items))
goes {names} (not_parens {ts} {r} d) = λ f outer items rest.
    ap (run names (want (frame 0 false false false) (f ∷ outer) items))
    (append_assoc ts (close ∷ []) rest)
    ∙ (goes d).0 (f ∷ outer) items (close ∷ rest) tt
goes {names} (not_name name h) = named names name h

pub run_derived : (names : List (List ℕ)) (ts : List Token) (r : Rule) → Derives names expr ts r
    → run names start ts ≡ Some r
run_derived names ts r d = ap (run names start) (sym (append-nil ts)) ∙ (goes d).0 [] [] [] tt
