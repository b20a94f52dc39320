-- What the machine makes of the tokens of initialisers.
use Rattle.std.proofs.Common.{◌≡◌, ℕ, suc, ◌≤◌, Bool, true, false, List, [], ◌∷◌, refl, ap, arith, subst}
use Rattle.hv_base.specs.declared.place.Place.{Place}
use Rattle.hv_base.specs.declared.punct.Punct.{Punct}
use Rattle.hv_base.specs.declared.punct.Punct.TheVariants as puncts
use Rattle.hv_ctree.specs.tree.Expressions.{Expr, Specifiers, Declarator, place_of}
use Rattle.hv_ctree.specs.tree.Statements.{Designation, no_designation, of_index, of_member, Initializer, value, braced as in_braces, Initializers, no_initializers, then_initializer, InitDeclarators}
use Rattle.hv_grammar.specs.Symbols.{Symbol, name, sign, outside, Marked, BeginsAt, at_first, left_bracket, right_bracket, left_brace, right_brace, comma_sign, equal_sign}
use Rattle.hv_grammar.specs.Expressions.{Reads, r_identifier, r_constant, r_string, r_parenthesized, r_subscript, r_call_none, r_call, r_member, r_postfix, r_prefix, r_unary, r_sizeof, r_sizeof_type, r_cast, r_binary, r_conditional, r_assign, r_comma, r_higher, ReadsLastComma, r_no_comma, r_last_comma}
use Rattle.hv_grammar.specs.Elements.{Standing, loose, ReadsDesignation, r_no_designation, r_index, r_designator, ReadsInitializer, r_value, r_braced, ReadsInitializers, r_initializer, r_initializers}
use Rattle.hv_grammar.specs.machine.Parts.{Setting}
use Rattle.hv_grammar.specs.machine.Frames.{Frame, Braces, Index, Designated, Declares, Declaring, Initialized, hole_of, depth, State, InitializerStart, BracesStart, AfterInitializer}
use Rattle.hv_grammar.specs.machine.Steps.{state, want, have, reduce, loosely, operand_at, initialized_at, item_place, comma_at, brace_at, semicolon_at, bracket_at, after, step_at, step_have}
use Rattle.hv_grammar.specs.machine.Moves.{Moves, stays, takes}
use Rattle.hv_grammar.proofs.Arriving.{joined, one, Entry, begins_operand}
use Rattle.hv_grammar.proofs.ArrivingTypes.{steps_as, same_begin}
use Rattle.hv_grammar.proofs.Completeness.{read_expression}

------ where an expression and an initialiser begin

pub expression_begins : {d k : ℕ} {ts us : List Marked} {a : Expr} → Reads d k ts us a
    → BeginsAt (place_of a) ts
expression_begins (r_identifier p n) = at_first _ _
expression_begins (r_constant p v) = at_first _ _
expression_begins (r_string p b) = at_first _ _
expression_begins (r_parenthesized p q r) = at_first _ _
expression_begins (r_subscript p q r s) = expression_begins r
expression_begins (r_call_none p q r) = expression_begins r
expression_begins (r_call p q r s) = expression_begins r
expression_begins (r_member p q n s r) = expression_begins r
expression_begins (r_postfix p s r) = expression_begins r
expression_begins (r_prefix p s r) = at_first _ _
expression_begins (r_unary p op r) = at_first _ _
expression_begins (r_sizeof p r) = at_first _ _
expression_begins (r_sizeof_type p q c r) = at_first _ _
expression_begins (r_cast p q r s) = at_first _ _
expression_begins (r_binary p op r s) = expression_begins r
expression_begins (r_conditional p q r s t) = expression_begins r
expression_begins (r_assign p op r s) = expression_begins r
expression_begins (r_comma p r s) = expression_begins r
expression_begins (r_higher r) = expression_begins r

pub item_begins : {d : ℕ} {ts us vs : List Marked} {g : Designation} {x : Initializer}
    → ReadsDesignation d ts us g → ReadsInitializer d us vs x → BeginsAt (item_place g x) ts
item_begins r_no_designation (r_value r) = expression_begins r
item_begins r_no_designation (r_braced p q h g) = at_first _ _
item_begins (r_index p q x r) h = at_first _ _
item_begins (r_designator p q x n) h = at_first _ _

------ what initialisers stand in

pub data TakesInitializer : List Frame → Type 0 where
  in_item : {g : Designation} {q : Place} {xs : Initializers} {st : List Frame}
      → TakesInitializer (Designated g ∷ Braces q xs ∷ st)
  in_declaration : {x : Declarator} {p : Place} {xs : Specifiers} {ds : InitDeclarators}
      {s : Standing} {c : Setting}
      → TakesInitializer (Initialized x ∷ Declaring p xs ds ∷ Declares s c ∷ [])

pub initializer_fits : {st : List Frame} → TakesInitializer st → hole_of st ≤ 1
initializer_fits in_item = omega arith
initializer_fits in_declaration = omega arith

-- a sign that stands after an initialiser
abbrev pub ends_initializer : Punct → Bool
ends_initializer puncts.Comma = true
ends_initializer puncts.RightBrace = true
ends_initializer puncts.Semicolon = true
ends_initializer _ = false

pub value_ends : {st : List Frame} → TakesInitializer st → (k : ℕ) (a : Expr) (s : Punct)
    → ends_initializer s ≡ true → (stack : List Frame) (real : ℕ) (last : Expr)
    → reduce 0 stack real last ≡ reduce 0 st k a
    → step_have stack real last (sign s) ≡ initialized_at st (value (place_of a) a) s
value_ends in_item k a puncts.Comma b stack real last e = ap comma_at e
value_ends in_item k a puncts.RightBrace b stack real last e = ap (after brace_at) e
value_ends in_item k a puncts.Semicolon b stack real last e = ap (after semicolon_at) e
value_ends in_declaration k a puncts.Comma b stack real last e = ap comma_at e
value_ends in_declaration k a puncts.RightBrace b stack real last e = ap (after brace_at) e
value_ends in_declaration k a puncts.Semicolon b stack real last e = ap (after semicolon_at) e
value_ends h k a _ b stack real last e = cc

------ before an initialiser, and after it

-- what begins an initialiser begins one upon these frames
pub record Initial (m : State) (st : List Frame) : Type 0 where
  pub entry : Entry m false st
  pub brace : (q : Place) → step_at m.stack m.at q left_brace
      ≡ loosely (state (Braces q no_initializers ∷ st) BracesStart) (suc (depth st))

pub initial_start : (st : List Frame) → Initial (state st InitializerStart) st
initial_start st = record { entry = record { enters = go }; brace = λ q. refl } where
  go : (q : Place) (s : Symbol) → begins_operand s ≡ true
      → step_at st InitializerStart q s ≡ operand_at st q s
  go q (sign puncts.LeftBrace) b = cc
  go q _ b = refl

initial_item : (q : Place) (xs : Initializers) (st : List Frame)
    → Initial (state (Braces q xs ∷ st) BracesStart) (Designated no_designation ∷ Braces q xs ∷ st)
initial_item q xs st = record { entry = record { enters = go }; brace = λ q. refl } where
  go : (p : Place) (s : Symbol) → begins_operand s ≡ true
      → step_at (Braces q xs ∷ st) BracesStart p s
      ≡ operand_at (Designated no_designation ∷ Braces q xs ∷ st) p s
  go p (sign puncts.LeftBrace) b = cc
  go p (sign puncts.LeftBracket) b = cc
  go p (sign puncts.Dot) b = cc
  go p (sign puncts.RightBrace) b = cc
  go p _ b = refl

-- the machine has read an initialiser: a sign that stands after it ends it with this tree
pub record InitializerAt (m : State) (ts us : List Marked) (x : Initializer) (st : List Frame)
    : Type 0 where
  pub there : State
  pub moves : Moves m false ts there false us
  pub ends : (q : Place) (s : Punct) → ends_initializer s ≡ true
      → step_at there.stack there.at q (sign s) ≡ initialized_at st x s

-- the machine has read a designation, or none
record Designating (m : State) (ts us : List Marked) (g : Designation) (q : Place)
    (xs : Initializers) (st : List Frame) : Type 0 where
  there : State
  moves : Moves m false ts there false us
  initial : Initial there (Designated g ∷ Braces q xs ∷ st)

want_index : (p : Place) (st : List Frame) → Entry (want (Index p ∷ st)) false (Index p ∷ st)
want_index p st = record { enters = λ q s b. refl }

designates : {d : ℕ} {ts us : List Marked} {g : Designation} → ReadsDesignation d ts us g
    → (q : Place) (xs : Initializers) (st : List Frame) → d ≡ suc (depth st)
    → Designating (state (Braces q xs ∷ st) BracesStart) ts us g q xs st
designates r_no_designation q xs st deep = record {
  there = state (Braces q xs ∷ st) BracesStart;
  moves = stays;
  initial = initial_item q xs st;
}
designates (r_index {a = a} p y x r) q xs st deep =
    let v =
    read_expression r (want (Index p ∷ Braces q xs ∷ st)) false (Index p ∷ Braces q xs ∷ st)
    (want_index p (Braces q xs ∷ st)) (omega arith) (ap suc deep) in
    record {
      there = state (Designated (of_index p a) ∷ Braces q xs ∷ st) InitializerStart;
      moves = takes (steps_as p left_bracket refl refl (ap suc deep))
          (joined v.moves
          (takes (steps_as y right_bracket
          (ap (after bracket_at) (v.ended 0 (omega arith) (omega arith))) refl (ap suc deep))
          (one (steps_as x equal_sign refl refl deep))));
      initial = initial_start (Designated (of_index p a) ∷ Braces q xs ∷ st);
    }
designates (r_designator p y x n) q xs st deep = record {
  there = state (Designated (of_member p n) ∷ Braces q xs ∷ st) InitializerStart;
  moves = takes (steps_as p (sign puncts.Dot) refl refl deep)
      (takes (steps_as y (name n) refl refl deep) (one (steps_as x equal_sign refl refl deep)));
  initial = initial_start (Designated (of_member p n) ∷ Braces q xs ∷ st);
}

-- the machine has read initialisers in braces
record BracesAt (m : State) (ts us : List Marked) (q : Place) (xs : Initializers)
    (st : List Frame) : Type 0 where
  there : State
  moves : Moves m false ts there false us
  next : (y : Place) → step_at there.stack there.at y comma_sign
      ≡ loosely (state (Braces q xs ∷ st) BracesStart) (suc (depth st))
  closed : (y : Place) → step_at there.stack there.at y right_brace
      ≡ loosely (state st (AfterInitializer (in_braces q xs false))) (suc (depth st))

-- an initialiser with its designation, which begins at the place
one_item : {d : ℕ} {ts us vs : List Marked} {g : Designation} {x : Initializer} {p : Place}
    (q : Place) (xs : Initializers) (st : List Frame) → BeginsAt p ts
    → ReadsDesignation d ts us g → ReadsInitializer d us vs x
    → (w : Designating (state (Braces q xs ∷ st) BracesStart) ts us g q xs st)
    → InitializerAt w.there us vs x (Designated g ∷ Braces q xs ∷ st)
    → BracesAt (state (Braces q xs ∷ st) BracesStart) ts vs q (then_initializer xs p g x) st
one_item {ts = ts} {vs = vs} {g = g} {x = x} {p = p} q xs st b h k w v =
    subst (λ (z : Place). BracesAt (state (Braces q xs ∷ st) BracesStart) ts vs q
    (then_initializer xs z g x) st) (same_begin b (item_begins h k)) (record {
      there = v.there;
      moves = joined w.moves v.moves;
      next = λ y. v.ends y puncts.Comma refl;
      closed = λ y. v.ends y puncts.RightBrace refl;
    })

braces_closed : {d : ℕ} {ts us : List Marked} {xs : Initializers} → ReadsInitializers d ts us xs
    → (y q : Place) (st : List Frame)
    → step_at (Braces q xs ∷ st) BracesStart y right_brace
    ≡ loosely (state st (AfterInitializer (in_braces q xs true))) (suc (depth st))
braces_closed (r_initializer b h k) y q st = refl
braces_closed (r_initializers p g b h k) y q st = refl

-- the `}`, with or without a comma before it
braces_end : {m : State} {d e : ℕ} {ts us vs : List Marked} {xs : Initializers} {b : Bool}
    (x : Place) → ReadsInitializers e ts us xs
    → ReadsLastComma outside d us (loose d x right_brace ∷ vs) b
    → (q : Place) (st : List Frame) → BracesAt m ts us q xs st → d ≡ suc (depth st)
    → Moves m false ts (state st (AfterInitializer (in_braces q xs b))) false vs
braces_end x g r_no_comma q st h deep =
    joined h.moves (one (steps_as x right_brace (h.closed x) refl deep))
braces_end x g (r_last_comma y) q st h deep =
    joined h.moves (takes (steps_as y comma_sign (h.next y) refl deep)
    (one (steps_as x right_brace (braces_closed g x q st) refl deep)))

mutual
  pub read_initializer : {d : ℕ} {ts us : List Marked} {x : Initializer}
      → ReadsInitializer d ts us x → (m : State) (st : List Frame) → Initial m st
      → TakesInitializer st → d ≡ depth st → InitializerAt m ts us x st
  read_initializer (r_value {a = a} r) m st i h deep =
      let v = read_expression r m false st i.entry (initializer_fits h) deep in
      record {
        there = have v.real v.stack v.last;
        moves = v.moves;
        ends = λ q s e. value_ends h v.final a s e v.stack v.real v.last
            (v.ended 0 (omega arith) (omega arith));
      }
  read_initializer (r_braced {xs = xs} {b = b} p q g l) m st i h deep = record {
    there = state st (AfterInitializer (in_braces p xs b));
    moves = takes (steps_as p left_brace (i.brace p) refl (ap suc deep))
        (braces_end q g l p st (read_initializers g p st (ap suc deep)) (ap suc deep));
    ends = λ y s e. refl;
  }

  read_initializers : {d : ℕ} {ts us : List Marked} {xs : Initializers}
      → ReadsInitializers d ts us xs → (q : Place) (st : List Frame) → d ≡ suc (depth st)
      → BracesAt (state (Braces q no_initializers ∷ st) BracesStart) ts us q xs st
  read_initializers (r_initializer {g = g} b h k) q st deep =
      let w = designates h q no_initializers st deep in
      one_item q no_initializers st b h k w
      (read_initializer k w.there (Designated g ∷ Braces q no_initializers ∷ st) w.initial in_item
      deep)
  read_initializers (r_initializers {xs = xs} {g = g} y l b h k) q st deep =
      let u = read_initializers l q st deep in
      let w = designates h q xs st deep in
      let v =
      one_item q xs st b h k w
      (read_initializer k w.there (Designated g ∷ Braces q xs ∷ st) w.initial in_item deep) in
      record {
        there = v.there;
        moves = joined u.moves (takes (steps_as y comma_sign (u.next y) refl deep) v.moves);
        next = v.next;
        closed = v.closed;
      }
