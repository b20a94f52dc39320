-- The languages that the machine reads, for one proof of what it answers: expressions, and elements
-- of each standing. `None` is the language of expressions.
use Rattle.std.proofs.Common.{◌≡◌, Bool, false, List, [], ◌∷◌, refl, sym, ◌∙◌, Option, Some, None, subst}
use Rattle.hv_ctree.specs.tree.Expressions.{Expr}
use Rattle.hv_ctree.specs.tree.Statements.{Skeleton, hollow_if}
use Rattle.hv_grammar.specs.Symbols.{Marked}
use Rattle.hv_grammar.specs.Expressions.{Reads}
use Rattle.hv_grammar.specs.Elements.{Standing, ReadsElement}
use Rattle.hv_grammar.specs.Grammar.{WholeExpression, WholeElement}
use Rattle.hv_grammar.specs.machine.Parts.{Await, MayElse}
use Rattle.hv_grammar.specs.machine.Frames.{Frame, At, Have, AtSpot, State}
use Rattle.hv_grammar.specs.machine.Steps.{Taken, want, reduce, begin, step, end_at, finished_at, finished, element_at, finished_element}
use Rattle.hv_grammar.specs.machine.Moves.{Takes, taken, taken_to_count, Moves, stays, takes}
use Rattle.hv_grammar.proofs.Reached.{ReadAt, no_terminal}
use Rattle.hv_grammar.proofs.ArrivingStatements.{read_element}
use Rattle.hv_grammar.proofs.Completion.{IsEnd, expression_end, element_end, ends}
use Rattle.hv_grammar.proofs.OneTree.{complete}
use Rattle.hv_grammar.proofs.Pending.{root_of, root_at, root, is_pending, Steady, Steadily, steady, reduced_root}
use Rattle.hv_grammar.proofs.Soundness.{sound, moves_read, start_read}

abbrev pub start_of : Option Standing → State
start_of None = want []
start_of (Some s) = begin s

abbrev pub Tree : Option Standing → Type 0
Tree None = Expr
Tree (Some s) = Skeleton

abbrev pub finish : (g : Option Standing) → State → Option (Tree g)
finish None m = finished m
finish (Some s) m = finished_element m

abbrev pub ReadsAs : (g : Option Standing) → List Marked → List Marked → Tree g → Type 0
ReadsAs None ts us a = Reads 0 0 ts us a
ReadsAs (Some s) ts us k = ReadsElement s ts us k

abbrev pub WholeOf : Option Standing → List Marked → Type 0
WholeOf None ts = WholeExpression ts
WholeOf (Some s) ts = WholeElement s ts

abbrev pub tree_of : (g : Option Standing) (ts : List Marked) → WholeOf g ts → Tree g
tree_of None ts w = w.tree
tree_of (Some s) ts w = w.tree

pub reads_of : (g : Option Standing) (ts : List Marked) (w : WholeOf g ts)
    → ReadsAs g ts [] (tree_of g ts w)
reads_of None ts w = w.reads
reads_of (Some s) ts w = w.reads

pub whole_by : (g : Option Standing) (ts : List Marked) (a : Tree g) → ReadsAs g ts [] a
    → WholeOf g ts
whole_by None ts a r = record { tree = a; reads = r }
whole_by (Some s) ts a r = record { tree = a; reads = r }

------ the machine stays in its element

pub not_pending : (g : Option Standing) → is_pending (start_of g) ≡ false
not_pending None = refl
not_pending (Some s) = refl

start_root : (g : Option Standing) → root (start_of g) ≡ g
start_root None = refl
start_root (Some s) = refl

step_root : (m : State) (t : Marked) {k : Taken} → step m t.token ≡ Some k
    → root k.state ≡ root m
step_root m t {k} e = go (subst (λ (o : Option Taken). Steadily (is_pending m) (root m) o) e
    (steady m.stack m.at t.token.place t.token.symbol)) where
      go : Steady (is_pending m) (root m) k → root k.state ≡ root m
      go h = h.rooted

takes_root : {m n : State} {x y : Bool} {t : Marked} → Takes m x t n y → root n ≡ root m
takes_root {m} {t = t} (taken b e f) = step_root m t f
takes_root {m} {t = t} (taken_to_count r e f) = step_root m t f

moves_root : {m n : State} {x y : Bool} {ts us : List Marked} → Moves m x ts n y us
    → root n ≡ root m
moves_root stays = refl
moves_root (takes e g) = moves_root g ∙ takes_root e

pub rooted : (g : Option Standing) {n : State} {x y : Bool} {ts us : List Marked}
    → Moves (start_of g) x ts n y us → root n ≡ g
rooted g h = moves_root h ∙ start_root g

------ sound

some_same : {A : Type 0} {a b : A} → Some a ≡ Some b → a ≡ b
some_same e = cc

element_read : (s : Standing) (stack : List Frame) (m : At) (x : Bool) {ws us : List Marked}
    {k : Skeleton} → ReadAt stack m x ws us → root_at stack m ≡ Some s → element_at m ≡ Some k
    → ReadsElement s ws us k
element_read s stack (AtSpot z (Await [] j)) x {ws} {us} {k} h e f =
    subst (λ (i : Skeleton). ReadsElement s ws us i) (some_same f)
    (subst (λ (i : Standing). ReadsElement i ws us j) (some_same e) (h us no_terminal))
element_read s stack (AtSpot z (MayElse p a)) x {ws} {us} {k} h e f =
    subst (λ (i : Skeleton). ReadsElement s ws us i) (some_same f)
    (subst (λ (i : Standing). ReadsElement i ws us (hollow_if p a 0)) (some_same e)
    (h.0 us no_terminal))
element_read s stack _ x h e f = cc

pub sound_element : (s : Standing) {ts us : List Marked} {n : State} {y : Bool} {k : Skeleton}
    → Moves (begin s) false ts n y us → finished_element n ≡ Some k → ReadsElement s ts us k
sound_element s {ts} {us} {n} {y} {k} h e =
    element_read s n.stack n.at y (moves_read ts refl h) (rooted (Some s) h) e

pub sound_of : (g : Option Standing) {ts us : List Marked} {n : State} {y : Bool} {a : Tree g}
    → Moves (start_of g) false ts n y us → finish g n ≡ Some a → ReadsAs g ts us a
sound_of None h e = sound h e
sound_of (Some s) h e = sound_element s h e

------ complete

pub record Finishes (g : Option Standing) (ts us : List Marked) (a : Tree g) : Type 0 where
  pub there : State
  pub moves : Moves (start_of g) false ts there false us
  pub ends : finish g there ≡ Some a

pub complete_of : (g : Option Standing) {ts us : List Marked} {a : Tree g} → ReadsAs g ts us a
    → Finishes g ts us a
complete_of None r = let h = complete r in
    record { there = h.there; moves = h.moves; ends = h.ends }
complete_of (Some s) r = let h = read_element r in
    record { there = h.there; moves = h.moves; ends = h.ends }

------ some tokens end it

pub record EndsIn (g : Option Standing) (m : State) : Type 0 where
  pub rest : List Marked
  pub end : State
  pub tree : Tree g
  pub moves : Moves m false rest end false []
  pub is : finish g end ≡ Some tree

record Ended (g : Option Standing) (m : State) : Type 0 where
  tree : Tree g
  is : finish g m ≡ Some tree

finished_root : (stack : List Frame) (m : At) (a : Expr) → finished_at stack m ≡ Some a
    → root_at stack m ≡ None
finished_root stack (Have k b) a e =
    sym (reduced_root 0 stack k b) ∙ none (reduce 0 stack k b).stack (reduce 0 stack k b).operand e
  where
    none : (stack : List Frame) (c : Expr) → end_at stack c ≡ Some a → root_of stack ≡ None
    none [] c e = refl
    none (f ∷ stack) c e = cc
finished_root stack _ a e = cc

element_root : (stack : List Frame) (m : At) (k : Skeleton) → element_at m ≡ Some k
    → root_at stack m ≡ None → ⊥
element_root stack (AtSpot s y) k e f = cc
element_root stack _ k e f = cc

ended_in : (g : Option Standing) (m : State) → IsEnd m → root m ≡ g → Ended g m
ended_in None m (expression_end e) r = record { tree = _; is = e }
ended_in None m (element_end {k = k} e) r = absurd (element_root m.stack m.at k e r)
ended_in (Some s) m (element_end e) r = record { tree = _; is = e }
ended_in (Some s) m (expression_end {a = a} e) r =
    let none : root m ≡ None = finished_root m.stack m.at a e in
    cc

state_read : (g : Option Standing) (ws : List Marked)
    → ReadAt (start_of g).stack (start_of g).at false ws ws
state_read None ws = start_read ws
state_read (Some s) ws = refl

pub ends_of : (g : Option Standing) {m : State} {done : List Marked}
    → Moves (start_of g) false done m false [] → EndsIn g m
ends_of g {m} {done} h =
    let e = ends m done [] (moves_read done (state_read g done) h) in
    let d = ended_in g e.end e.is (moves_root e.moves ∙ rooted g h) in
    record { rest = e.rest; end = e.end; tree = d.tree; moves = e.moves; is = d.is }
