-- Tokens at other places, and what it means that a phrase is read from them again. The new places
-- are a function of a token's number, so that each token has one whatever was before it.
use Rattle.std.proofs.Common.{◌≡◌, ℕ, suc, List, [], ◌∷◌, ap, ◌∙◌}
use Rattle.hv_base.specs.declared.place.Place.{Place}
use Rattle.hv_grammar.specs.Symbols.{token_at, Marked, BeginsAt, at_first}

-- the places without the first
abbrev pub next : (ℕ → Place) → ℕ → Place
next f n = f (suc n)

-- a token at another place
abbrev pub moved : Place → Marked → Marked
moved p t = record {
  token = token_at p t.token.symbol;
  depth = t.depth;
  role = t.role;
  statements = t.statements;
}

-- tokens at other places, in order
abbrev pub placed : (ℕ → Place) → List Marked → List Marked
placed f [] = []
placed f (t ∷ ts) = moved (f 0) t ∷ placed (next f) ts

-- what was read from tokens as a tree is read from them at these places, as a tree that is the same
-- up to places; `rest` are the places of what stands after it
pub record At (A : Type 0) (R : List Marked → List Marked → A → Type 0) (bare : A
    → A) (f : ℕ → Place) (ts us : List Marked) (a : A) : Type 0 where
  pub rest : ℕ → Place
  pub tree : A
  pub reads : R (placed f ts) (placed rest us) tree
  pub same : bare tree ≡ bare a

-- what is read again: the places after it, its tree, how it is read, and that only places change
pub found : {A : Type 0} {R : List Marked → List Marked → A → Type 0} {bare : A → A} {f : ℕ → Place}
    {ts us : List Marked} {a : A} (rest : ℕ → Place) (tree : A)
    → R (placed f ts) (placed rest us) tree → bare tree ≡ bare a → At A R bare f ts us a
found rest tree reads same = record { rest = rest; tree = tree; reads = reads; same = same }

-- the place at which a phrase begins is that of its first token
pub begins : {p : Place} {ts : List Marked} (f : ℕ → Place) → BeginsAt p ts
    → BeginsAt (f 0) (placed f ts)
begins f (at_first t ts) = at_first (moved (f 0) t) (placed (next f) ts)

-- a function of two parts at equal parts
pub two : {A B C : Type 0} {a c : A} {b d : B} (h : A → B → C) → a ≡ c → b ≡ d → h a b ≡ h c d
two {c = c} {b = b} h e g = ap (λ x. h x b) e ∙ ap (h c) g

-- the same of three
pub three : {A B C D : Type 0} {a d : A} {b e : B} {c f : C} (h : A → B → C → D) → a ≡ d → b ≡ e
    → c ≡ f → h a b c ≡ h d e f
three {d = d} {e = e} {c = c} h p q r = two (λ x y. h x y c) p q ∙ ap (λ z. h d e z) r
