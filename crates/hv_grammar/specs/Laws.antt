-- What is proved of the grammar.
use Rattle.std.specs.Prelude.{◌≡◌, ℕ, Bool, false, List, [], map, Some}
use Rattle.hv_base.specs.declared.why.Why.{Why}
use Rattle.hv_ctree.specs.tree.Expressions.{Expr}
use Rattle.hv_ctree.specs.tree.Statements.{Skeleton}
use Rattle.hv_base.specs.declared.place.Place.{Place}
use Rattle.hv_grammar.specs.Symbols.{Token, token_at, marked, Marked}
use Rattle.hv_grammar.specs.Expressions.{Reads}
use Rattle.hv_grammar.specs.Elements.{Standing, ReadsElement}
use Rattle.hv_grammar.specs.Refusal.{Limits}
use Rattle.hv_grammar.specs.Grammar.{DerivesExpression, RefusesExpression, DerivesElement, RefusesElement}
use Rattle.hv_grammar.specs.Tokens.{tokens_of, own_tokens}
use Rattle.hv_grammar.specs.machine.Frames.{State}
use Rattle.hv_grammar.specs.machine.Steps.{want, step, finished, begin, finished_element}
use Rattle.hv_grammar.specs.machine.Control.{SameSymbol, SameState, SameStep, is_some, names_type}
use Rattle.hv_grammar.specs.machine.Moves.{Moves}
use Rattle.hv_grammar.specs.machine.Answers.{Answer, AnswerOf, Accepted, Refused, answer, element_answer}

-- the tokens that an expression was read from are those of its tree
abbrev pub ExpressionsKeepTokens : Type 0
ExpressionsKeepTokens = (d k : ℕ) (ts : List Marked) (a : Expr) → Reads d k ts [] a
    → map (λ t. t.token.symbol) ts ≡ tokens_of a

-- the tokens that an element was read from are its tree's own tokens
abbrev pub ElementsKeepTokens : Type 0
ElementsKeepTokens = (s : Standing) (ts : List Marked) (k : Skeleton) → ReadsElement s ts [] k
    → map (λ t. t.token.symbol) ts ≡ own_tokens k

-- tokens are one expression at most, whatever their marks: its grammar is unambiguous
abbrev pub ExpressionsHaveOneTree : Type 0
ExpressionsHaveOneTree = (ts us : List Marked) (a b : Expr)
    → map (λ t. t.token) ts ≡ map (λ t. t.token) us
    → Reads 0 0 ts [] a → Reads 0 0 us [] b → a ≡ b

-- an element's own tokens are one skeleton at most, whatever their marks
abbrev pub ElementsHaveOneTree : Type 0
ElementsHaveOneTree = (s : Standing) (ts us : List Marked) (j k : Skeleton)
    → map (λ t. t.token) ts ≡ map (λ t. t.token) us
    → ReadsElement s ts [] j → ReadsElement s us [] k → j ≡ k

-- where the machine may end, over tokens with these marks and before the others, the grammar
-- derives the tree of the tokens up to the others
abbrev pub MachineIsSound : Type 0
MachineIsSound = (ts us : List Marked) (n : State) (y : Bool) (a : Expr)
    → Moves (want []) false ts n y us → finished n ≡ Some a → Reads 0 0 ts us a

-- what the grammar derives, whatever stands after it, the machine reads over the same marks, and it
-- may end there with the same tree
abbrev pub MachineIsComplete : Type 0
MachineIsComplete = (ts us : List Marked) (a : Expr) → Reads 0 0 ts us a
    → (n : State) × (Moves (want []) false ts n false us) × (finished n ≡ Some a)

-- what an answer says of the tokens: the tree that they derive, or their first refusal
abbrev pub Says : Limits → List Token → Answer → Type 0
Says l ts (Accepted a) = DerivesExpression l ts a
Says l ts (Refused i why) = RefusesExpression l ts i why

-- what the machine answers to tokens is so, within any limits
abbrev pub AnswersAreRight : Type 0
AnswersAreRight = (l : Limits) (ts : List Token) → Says l ts (answer l (want []) 0 0 ts)

-- a tree that tokens derive is the machine's answer, so they derive no other and aren't refused
abbrev pub DerivedIsAnswered : Type 0
DerivedIsAnswered = (l : Limits) (ts : List Token) (a : Expr) → DerivesExpression l ts a
    → answer l (want []) 0 0 ts ≡ Accepted a

-- a first refusal of tokens is the machine's answer, so they have no other and derive no tree
abbrev pub RefusedIsAnswered : Type 0
RefusedIsAnswered = (l : Limits) (ts : List Token) (i : ℕ) (why : Why)
    → RefusesExpression l ts i why → answer l (want []) 0 0 ts ≡ Refused i why

-- where the machine may end in an element, the grammar derives its own tokens with the same marks
abbrev pub MachineIsSoundOnElements : Type 0
MachineIsSoundOnElements = (s : Standing) (ts us : List Marked) (n : State) (y : Bool)
    (k : Skeleton) → Moves (begin s) false ts n y us → finished_element n ≡ Some k
    → ReadsElement s ts us k

-- an element's own tokens that the grammar derives, the machine reads over the same marks, and it
-- may end there with the same skeleton
abbrev pub MachineIsCompleteOnElements : Type 0
MachineIsCompleteOnElements = (s : Standing) (ts us : List Marked) (k : Skeleton)
    → ReadsElement s ts us k
    → (n : State) × (Moves (begin s) false ts n false us) × (finished_element n ≡ Some k)

-- what an answer says of an element's own tokens: their skeleton, or their first refusal
abbrev pub SaysOfElement : Limits → Standing → List Token → AnswerOf Skeleton → Type 0
SaysOfElement l s ts (Accepted k) = DerivesElement l s ts k
SaysOfElement l s ts (Refused i why) = RefusesElement l s ts i why

-- what the machine answers to an element's own tokens is so, within any limits
abbrev pub ElementAnswersAreRight : Type 0
ElementAnswersAreRight = (l : Limits) (s : Standing) (ts : List Token)
    → SaysOfElement l s ts (element_answer l s ts)

-- a skeleton that an element's own tokens derive is the machine's answer, so they derive no other
-- and aren't refused
abbrev pub DerivedElementIsAnswered : Type 0
DerivedElementIsAnswered = (l : Limits) (s : Standing) (ts : List Token) (k : Skeleton)
    → DerivesElement l s ts k → element_answer l s ts ≡ Accepted k

-- a first refusal of an element's own tokens is the machine's answer, so they have no other and
-- derive no skeleton
abbrev pub RefusedElementIsAnswered : Type 0
RefusedElementIsAnswered = (l : Limits) (s : Standing) (ts : List Token) (i : ℕ) (why : Why)
    → RefusesElement l s ts i why → element_answer l s ts ≡ Refused i why

-- what a token does depends on the control, on what kind of token it is and on its typedef mark
-- alone: states that differ only in what was read take the same tokens, with the same marks, and
-- come to states that differ only in what was read
abbrev pub ControlDecides : Type 0
ControlDecides = (m n : State) (t u : Token) → SameState m n → SameSymbol t.symbol u.symbol
    → SameStep (step m t) (step n u)

-- and so they may end alike
abbrev pub ControlDecidesEnds : Type 0
ControlDecidesEnds = (m n : State) → SameState m n
    → (is_some (finished m) ≡ is_some (finished n))
    × (is_some (finished_element m) ≡ is_some (finished_element n))

-- a state differs from itself in nothing
abbrev pub ControlIsItself : Type 0
ControlIsItself = (m : State) → SameState m m

-- whether a typedef name would be a type depends on the control alone, and not on the name
abbrev pub ControlDecidesTypes : Type 0
ControlDecidesTypes = (m n : State) → SameState m n → (p : Place) (x : List ℕ)
    → is_some (step m (token_at p (marked x))) ≡ names_type n
