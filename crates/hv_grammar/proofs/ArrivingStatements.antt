-- What the machine makes of the tokens of declarations, statements and elements.
use Rattle.std.proofs.Common.{◌≡◌, ℕ, Bool, true, false, List, [], ◌∷◌, refl, ap, arith, Option, Some, None, subst}
use Rattle.hv_base.specs.declared.place.Place.{Place}
use Rattle.hv_base.specs.declared.keyword.Keyword.TheVariants as keywords
use Rattle.hv_base.specs.declared.punct.Punct.TheVariants as puncts
use Rattle.hv_ctree.specs.tree.Expressions.{Expr, Specifiers, no_specifiers, Declarator, some_declarator, declarator, Core, nothing, named, group, Suffixes, Pointers, no_pointers}
use Rattle.hv_ctree.specs.tree.Statements.{InitDeclarator, bare, initialized, InitDeclarators, no_init_declarators, then_init_declarator, Declaration, declaration, Skeleton}
use Rattle.hv_grammar.specs.Symbols.{Symbol, keyword, name, number, text, sign, hole, outside, Marked, BeginsAt, left_paren, left_brace, right_brace, comma_sign, colon, semicolon, equal_sign}
use Rattle.hv_grammar.specs.Expressions.{with_name, ReadsDeclarator, r_declarator, ReadsDirect, r_core, r_suffix, r_named, r_group, Reads}
use Rattle.hv_grammar.specs.Elements.{Standing, External, Item, Nested, loose, ReadsInitDeclarator, r_bare, r_initialized, ReadsInitDeclarators, r_init_declarator, r_init_declarators, ReadsDeclaration, r_plain_declaration, r_declaration, ReadsOption, r_none, r_some, ReadsStatement, r_case, r_default, r_block, r_expression, r_null, r_if, r_if_else, r_switch, r_while, r_do_while, r_for, r_for_declaration, r_continue, r_break, r_return, ReadsElement, r_lone, r_external, r_function_definition, r_item_declaration, r_item_statement, r_nested}
use Rattle.hv_grammar.specs.machine.Parts.{Setting, alone, in_for, by_expression, by_declaration, Optional, for_first, for_second, for_third, of_return, Part, of_case, of_expression, of_if, of_switch, of_while, of_do, optional, Fixed, the_hole, the_colon, the_semicolon, the_opening, the_closing, the_right_brace, the_while, the_else, Spot, Start, Await, MayElse, ForStart, Before, fixed_symbol, meets, wanted, optional_closer, closer, after_optional, after_part, after_declaration}
use Rattle.hv_grammar.specs.machine.Frames.{of_declaration, only_named, Frame, Declares, Declaring, Initialized, Statement, State, Pointing, InitializerStart, AtSpot}
use Rattle.hv_grammar.specs.machine.Steps.{state, want, reduce, loosely, operand_at, spot, declarator_place, close_at, colon_at, semicolon_at, after, optional_at, statement_at, step_at, step_have, begin, finished_element}
use Rattle.hv_grammar.specs.machine.Moves.{Moves, takes}
use Rattle.hv_grammar.proofs.Arriving.{joined, one, Entry, begins_operand}
use Rattle.hv_grammar.proofs.ArrivingTypes.{steps_as, same_begin, Spec, suits_declaration, Pointed, pointed_at, like_pointed}
use Rattle.hv_grammar.proofs.ArrivingDeclarators.{is_named}
use Rattle.hv_grammar.proofs.ArrivingInitializers.{in_declaration, initial_start, read_initializer}
use Rattle.hv_grammar.proofs.Completeness.{read_expression, read_specifiers, read_declarator}

------ declarations

pub declarator_begins : {d : ℕ} {ts us : List Marked} {x : Declarator}
    → ReadsDeclarator outside d with_name ts us x → BeginsAt (declarator_place x) ts
declarator_begins (r_declarator b h g i) = b

-- the machine has read the declarators of a declaration that stands there
record InitAt (m : State) (ts us : List Marked) (p : Place) (xs : Specifiers)
    (ds : InitDeclarators) (z : Standing) (c : Setting) : Type 0 where
  there : State
  moves : Moves m false ts there false us
  next : (q : Place) → step_at there.stack there.at q comma_sign
      ≡ loosely (state (Declaring p xs ds ∷ Declares z c ∷ []) (Pointing only_named p no_pointers)) 0
  closed : (q : Place) → step_at there.stack there.at q semicolon
      ≡ loosely (spot z (after_declaration c p xs ds)) 0

read_init_declarator : {ts us : List Marked} {y : InitDeclarator} → ReadsInitDeclarator ts us y
    → (m : State) (p : Place) (xs : Specifiers) (ds : InitDeclarators) (z : Standing) (c : Setting)
    → Pointed m only_named p no_pointers (Declaring p xs ds ∷ Declares z c ∷ [])
    → InitAt m ts us p xs (then_init_declarator ds y) z c
read_init_declarator {ts} {us} (r_bare {x = x} b h) m p xs ds z c f =
    let v = read_declarator h m only_named p (Declaring p xs ds ∷ Declares z c ∷ []) f refl refl refl
    in
    subst (λ (w : Place). InitAt m ts us p xs (then_init_declarator ds (bare w x)) z c)
    (same_begin b (declarator_begins h)) (record {
      there = v.there;
      moves = v.moves;
      next = λ q. v.ends q puncts.Comma refl;
      closed = λ q. v.ends q puncts.Semicolon refl;
    })
read_init_declarator {ts} {us} (r_initialized {us = ms} {x = x} {i = i} y b h k) m p xs ds z c f =
    let v = read_declarator h m only_named p (Declaring p xs ds ∷ Declares z c ∷ []) f refl refl refl
    in
    let w = read_initializer k
    (state (Initialized x ∷ Declaring p xs ds ∷ Declares z c ∷ []) InitializerStart)
    (Initialized x ∷ Declaring p xs ds ∷ Declares z c ∷ [])
    (initial_start (Initialized x ∷ Declaring p xs ds ∷ Declares z c ∷ [])) in_declaration refl in
    subst (λ (w : Place). InitAt m ts us p xs (then_init_declarator ds (initialized w x i)) z c)
    (same_begin b (declarator_begins h)) (record {
      there = w.there;
      moves = joined v.moves (takes (steps_as y equal_sign (v.ends y puncts.Equal refl) refl refl)
          w.moves);
      next = λ q. w.ends q puncts.Comma refl;
      closed = λ q. w.ends q puncts.Semicolon refl;
    })

read_init_declarators : {ts us : List Marked} {ds : InitDeclarators}
    → ReadsInitDeclarators ts us ds
    → (m : State) (p : Place) (xs : Specifiers) (z : Standing) (c : Setting)
    → Pointed m only_named p no_pointers (Declaring p xs no_init_declarators ∷ Declares z c ∷ [])
    → InitAt m ts us p xs ds z c
read_init_declarators (r_init_declarator h) m p xs z c f =
    read_init_declarator h m p xs no_init_declarators z c f
read_init_declarators (r_init_declarators {xs = ds} q h g) m p xs z c f =
    let w = read_init_declarators h m p xs z c f in
    let v =
    read_init_declarator g
    (state (Declaring p xs ds ∷ Declares z c ∷ []) (Pointing only_named p no_pointers)) p xs ds z c
    (pointed_at only_named p no_pointers (Declaring p xs ds ∷ Declares z c ∷ [])) in
    record {
      there = v.there;
      moves = joined w.moves (takes (steps_as q comma_sign (w.next q) refl refl) v.moves);
      next = v.next;
      closed = v.closed;
    }

-- where the machine is after a declaration
abbrev after_whole : Setting → Declaration → Spot
after_whole c (declaration p xs ds) = after_declaration c p xs ds

-- the machine may read the specifiers of a declaration that stands there
abbrev Declarational : State → Standing → Setting → Type 0
Declarational m z c = (q : Place) → Spec m of_declaration q no_specifiers (Declares z c ∷ []) q

read_declaration : {ts us : List Marked} {g : Declaration} → ReadsDeclaration ts us g
    → (m : State) (z : Standing) (c : Setting) → Declarational m z c
    → Moves m false ts (spot z (after_whole c g)) false us
read_declaration (r_plain_declaration {p = p} q b h) m z c f =
    let w =
    read_specifiers h m of_declaration p (Declares z c ∷ []) b (f p) suits_declaration refl refl in
    joined w.moves (one (steps_as q semicolon (w.like.reads q semicolon refl) refl refl))
read_declaration (r_declaration {xs = xs} {p = p} q b h g) m z c f =
    let w =
    read_specifiers h m of_declaration p (Declares z c ∷ []) b (f p) suits_declaration refl refl in
    let v = read_init_declarators g w.there p xs z c (like_pointed w.like p) in
    joined w.moves (joined v.moves (one (steps_as q semicolon (v.closed q) refl refl)))

------ expressions of statements

pub same_fixed : (e : Fixed) → meets e (fixed_symbol e) ≡ true
same_fixed the_hole = refl
same_fixed the_colon = refl
same_fixed the_semicolon = refl
same_fixed the_opening = refl
same_fixed the_closing = refl
same_fixed the_right_brace = refl
same_fixed the_while = refl
same_fixed the_else = refl

pub part_closes : (s : Standing) (c : Part) (k : ℕ) (a : Expr) (stack : List Frame) (real : ℕ)
    (last : Expr) → reduce 0 stack real last ≡ reduce 0 (Statement s c ∷ []) k a
    → step_have stack real last (fixed_symbol (closer c)) ≡ loosely (spot s (after_part c a)) 0
part_closes s (of_case p) k a stack real last e = ap (after colon_at) e
part_closes s of_expression k a stack real last e = ap (after semicolon_at) e
part_closes s (of_if p) k a stack real last e = ap (after close_at) e
part_closes s (of_switch p) k a stack real last e = ap (after close_at) e
part_closes s (of_while p) k a stack real last e = ap (after close_at) e
part_closes s (of_do p) k a stack real last e = ap (after close_at) e
part_closes s (optional (for_first p)) k a stack real last e = ap (after semicolon_at) e
part_closes s (optional (for_second p g)) k a stack real last e = ap (after semicolon_at) e
part_closes s (optional (for_third p g b)) k a stack real last e = ap (after close_at) e
part_closes s (optional (of_return p)) k a stack real last e = ap (after semicolon_at) e

read_part : {ts us : List Marked} {a : Expr} (s : Standing) (c : Part) (q : Place)
    → Reads 0 (wanted c) ts (loose 0 q (fixed_symbol (closer c)) ∷ us) a
    → (m : State) → Entry m false (Statement s c ∷ [])
    → Moves m false ts (spot s (after_part c a)) false us
read_part {a = a} s c q r m g =
    let v = read_expression r m false (Statement s c ∷ []) g (omega arith) refl in
    joined v.moves (one (steps_as q (fixed_symbol (closer c))
    (part_closes s c v.final a v.stack v.real v.last (v.ended 0 (omega arith) (omega arith))) refl
    refl))

want_part : (s : Standing) (c : Part)
    → Entry (want (Statement s c ∷ [])) false (Statement s c ∷ [])
want_part s c = record { enters = λ q t b. refl }

-- an expression that may be missing
record Optionally (m : State) (s : Standing) (c : Optional) : Type 0 where
  reads : (q : Place) (t : Symbol) → begins_operand t ≡ true
      → step_at m.stack m.at q t ≡ operand_at (Statement s (optional c) ∷ []) q t
  missing : (q : Place) → step_at m.stack m.at q (fixed_symbol (optional_closer c))
      ≡ loosely (spot s (after_optional c None)) 0

optional_operand : (s : Standing) (c : Optional) (q : Place) (t : Symbol)
    → begins_operand t ≡ true
    → optional_at s c q t ≡ operand_at (Statement s (optional c) ∷ []) q t
optional_operand s c q t b = rw (apart c t b) refl where
  apart : (c : Optional) (t : Symbol) → begins_operand t ≡ true
      → meets (optional_closer c) t ≡ false
  apart (for_first p) (sign puncts.Semicolon) b = cc
  apart (for_first p) t b = refl
  apart (for_second p g) (sign puncts.Semicolon) b = cc
  apart (for_second p g) t b = refl
  apart (for_third p g e) (sign puncts.RightParenthesis) b = cc
  apart (for_third p g e) t b = refl
  apart (of_return p) (sign puncts.Semicolon) b = cc
  apart (of_return p) t b = refl

pub optional_missing : (s : Standing) (c : Optional) (q : Place)
    → optional_at s c q (fixed_symbol (optional_closer c))
    ≡ loosely (spot s (after_optional c None)) 0
optional_missing s c q = rw (same_fixed (optional_closer c)) refl

optionally_before : (s : Standing) (c : Optional) → Optionally (spot s (Before c)) s c
optionally_before s c =
    record { reads = λ q t b. optional_operand s c q t b; missing = λ q. optional_missing s c q }

optionally_start : (s : Standing) (p : Place) → Optionally (spot s (ForStart p)) s (for_first p)
optionally_start s p = record { reads = go; missing = λ q. refl } where
  go : (q : Place) (t : Symbol) → begins_operand t ≡ true
      → step_at [] (AtSpot s (ForStart p)) q t
      ≡ operand_at (Statement s (optional (for_first p)) ∷ []) q t
  go q (name n) b = refl
  go q (number v) b = refl
  go q (text v) b = refl
  go q (keyword keywords.Sizeof) b = refl
  go q (sign t) b = optional_operand s (for_first p) q (sign t) b
  go q _ b = cc

read_optional : {ts us : List Marked} {a : Option Expr} (s : Standing) (c : Optional) (q : Place)
    → ReadsOption ts (loose 0 q (fixed_symbol (optional_closer c)) ∷ us) a
    → (m : State) → Optionally m s c → Moves m false ts (spot s (after_optional c a)) false us
read_optional s c q r_none m h =
    one (steps_as q (fixed_symbol (optional_closer c)) (h.missing q) refl refl)
read_optional s c q (r_some r) m h =
    read_part s (optional c) q (at_level c r) m (record { enters = λ y t b. h.reads y t b }) where
      at_level : (c : Optional) {ts us : List Marked} {a : Expr} → Reads 0 0 ts us a
          → Reads 0 (wanted (optional c)) ts us a
      at_level c r = r

------ statements

-- whether the terminal begins a statement
abbrev begins_statement : Symbol → Bool
begins_statement (name n) = true
begins_statement (number v) = true
begins_statement (text b) = true
begins_statement (sign t) = true
begins_statement (keyword keywords.Case) = true
begins_statement (keyword keywords.Default) = true
begins_statement (keyword keywords.If) = true
begins_statement (keyword keywords.Switch) = true
begins_statement (keyword keywords.While) = true
begins_statement (keyword keywords.Do) = true
begins_statement (keyword keywords.For) = true
begins_statement (keyword keywords.Continue) = true
begins_statement (keyword keywords.Break) = true
begins_statement (keyword keywords.Return) = true
begins_statement (keyword keywords.Sizeof) = true
begins_statement _ = false

-- where a statement may begin
record Stating (m : State) (s : Standing) : Type 0 where
  reads : (q : Place) (t : Symbol) → begins_statement t ≡ true
      → step_at m.stack m.at q t ≡ statement_at s q t

-- the machine has read an element whole
pub record Whole (m : State) (ts us : List Marked) (k : Skeleton) : Type 0 where
  pub there : State
  pub moves : Moves m false ts there false us
  pub ends : finished_element there ≡ Some k

whole_spot : {m : State} {ts us : List Marked} (s : Standing) (k : Skeleton)
    → Moves m false ts (spot s (Await [] k)) false us → Whole m ts us k
whole_spot s k g = record { there = spot s (Await [] k); moves = g; ends = refl }

stating_nested : Stating (begin Nested) Nested
stating_nested = record { reads = λ q t b. refl }

stating_item : Stating (begin Item) Item
stating_item = record { reads = go } where
  go : (q : Place) (t : Symbol) → begins_statement t ≡ true
      → step_at [] (AtSpot Item Start) q t ≡ statement_at Item q t
  go q (name n) b = refl
  go q (number v) b = refl
  go q (text v) b = refl
  go q (sign t) b = refl
  go q (keyword keywords.Case) b = refl
  go q (keyword keywords.Default) b = refl
  go q (keyword keywords.If) b = refl
  go q (keyword keywords.Switch) b = refl
  go q (keyword keywords.While) b = refl
  go q (keyword keywords.Do) b = refl
  go q (keyword keywords.For) b = refl
  go q (keyword keywords.Continue) b = refl
  go q (keyword keywords.Break) b = refl
  go q (keyword keywords.Return) b = refl
  go q (keyword keywords.Sizeof) b = refl
  go q _ b = cc

expression_entry : {m : State} {s : Standing} → Stating m s
    → Entry m false (Statement s of_expression ∷ [])
expression_entry {m} {s} h = record { enters = go } where
  go : (q : Place) (t : Symbol) → begins_operand t ≡ true
      → step_at m.stack m.at q t ≡ operand_at (Statement s of_expression ∷ []) q t
  go q (name n) b = h.reads q (name n) refl
  go q (number v) b = h.reads q (number v) refl
  go q (text v) b = h.reads q (text v) refl
  go q (keyword keywords.Sizeof) b = h.reads q (keyword keywords.Sizeof) refl
  go q (sign puncts.LeftParenthesis) b = h.reads q (sign puncts.LeftParenthesis) refl
  go q (sign puncts.PlusPlus) b = h.reads q (sign puncts.PlusPlus) refl
  go q (sign puncts.MinusMinus) b = h.reads q (sign puncts.MinusMinus) refl
  go q (sign puncts.And) b = h.reads q (sign puncts.And) refl
  go q (sign puncts.Star) b = h.reads q (sign puncts.Star) refl
  go q (sign puncts.Plus) b = h.reads q (sign puncts.Plus) refl
  go q (sign puncts.Minus) b = h.reads q (sign puncts.Minus) refl
  go q (sign puncts.Tilde) b = h.reads q (sign puncts.Tilde) refl
  go q (sign puncts.Not) b = h.reads q (sign puncts.Not) refl
  go q _ b = cc

whole_for : (p : Place) (g : Declaration)
    → after_whole (in_for p) g ≡ Before (for_second p (by_declaration g))
whole_for p (declaration q xs ds) = refl

declarational_for : (s : Standing) (p : Place)
    → Declarational (spot s (ForStart p)) s (in_for p)
declarational_for s p q =
    record { other = λ t. optional_at s (for_first p) q t; reads = λ t b. refl }

read_statement : {ts us : List Marked} {k : Skeleton} → ReadsStatement ts us k
    → (m : State) (s : Standing) → Stating m s → Whole m ts us k
read_statement (r_case {a = a} p q h r) m s b =
    whole_spot s _ (takes (steps_as p (keyword keywords.Case)
    (b.reads p (keyword keywords.Case) refl) refl refl)
    (joined (read_part s (of_case p) q r (want (Statement s (of_case p) ∷ []))
    (want_part s (of_case p)))
    (one (steps_as h hole refl refl refl))))
read_statement (r_default p q h) m s b =
    whole_spot s _ (takes (steps_as p (keyword keywords.Default)
    (b.reads p (keyword keywords.Default) refl) refl refl)
    (takes (steps_as q colon refl refl refl) (one (steps_as h hole refl refl refl))))
read_statement (r_block p h q) m s b =
    whole_spot s _ (takes (steps_as p left_brace (b.reads p left_brace refl) refl refl)
    (takes (steps_as h hole refl refl refl) (one (steps_as q right_brace refl refl refl))))
read_statement (r_expression q r) m s b =
    whole_spot s _ (read_part s of_expression q r m (expression_entry b))
read_statement (r_null p) m s b =
    whole_spot s _ (one (steps_as p semicolon (b.reads p semicolon refl) refl refl))
read_statement (r_if {a = a} p q x h r) m s b = record {
  there = spot s (MayElse p a);
  moves = takes (steps_as p (keyword keywords.If) (b.reads p (keyword keywords.If) refl) refl refl)
      (takes (steps_as q left_paren refl refl refl)
      (joined (read_part s (of_if p) x r (want (Statement s (of_if p) ∷ [])) (want_part s (of_if p)))
      (one (steps_as h hole refl refl refl))));
  ends = refl;
}
read_statement (r_if_else {a = a} p q x h e i r) m s b =
    whole_spot s _ (takes (steps_as p (keyword keywords.If)
    (b.reads p (keyword keywords.If) refl) refl refl)
    (takes (steps_as q left_paren refl refl refl)
    (joined (read_part s (of_if p) x r (want (Statement s (of_if p) ∷ [])) (want_part s (of_if p)))
    (takes (steps_as h hole refl refl refl)
    (takes (steps_as e (keyword keywords.Else) refl refl refl)
    (one (steps_as i hole refl refl refl)))))))
read_statement (r_switch p q x h r) m s b =
    whole_spot s _ (takes (steps_as p (keyword keywords.Switch)
    (b.reads p (keyword keywords.Switch) refl) refl refl)
    (takes (steps_as q left_paren refl refl refl)
    (joined (read_part s (of_switch p) x r (want (Statement s (of_switch p) ∷ []))
    (want_part s (of_switch p)))
    (one (steps_as h hole refl refl refl)))))
read_statement (r_while p q x h r) m s b =
    whole_spot s _ (takes (steps_as p (keyword keywords.While)
    (b.reads p (keyword keywords.While) refl) refl refl)
    (takes (steps_as q left_paren refl refl refl)
    (joined (read_part s (of_while p) x r (want (Statement s (of_while p) ∷ []))
    (want_part s (of_while p)))
    (one (steps_as h hole refl refl refl)))))
read_statement (r_do_while p h w q x z r) m s b =
    whole_spot s _ (takes (steps_as p (keyword keywords.Do)
    (b.reads p (keyword keywords.Do) refl) refl refl)
    (takes (steps_as h hole refl refl refl)
    (takes (steps_as w (keyword keywords.While) refl refl refl)
    (takes (steps_as q left_paren refl refl refl)
    (joined (read_part s (of_do p) x r (want (Statement s (of_do p) ∷ [])) (want_part s (of_do p)))
    (one (steps_as z semicolon refl refl refl)))))))
read_statement (r_for {a = a} {b = e} {c = c} p q x y z h r t u) m s b =
    whole_spot s _ (takes (steps_as p (keyword keywords.For)
    (b.reads p (keyword keywords.For) refl) refl refl)
    (takes (steps_as q left_paren refl refl refl)
    (joined (read_optional s (for_first p) x r (spot s (ForStart p)) (optionally_start s p))
    (joined (read_optional s (for_second p (by_expression a)) y t
    (spot s (Before (for_second p (by_expression a))))
    (optionally_before s (for_second p (by_expression a))))
    (joined (read_optional s (for_third p (by_expression a) e) z u
    (spot s (Before (for_third p (by_expression a) e)))
    (optionally_before s (for_third p (by_expression a) e)))
    (one (steps_as h hole refl refl refl)))))))
read_statement (r_for_declaration {ts = ts} {us = us} {g = g} {b = e} {c = c} p q y z h r t u) m s b =
    let d : Moves (spot s (ForStart p)) false ts
    (spot s (Before (for_second p (by_declaration g)))) false us =
    subst (λ (o : Spot). Moves (spot s (ForStart p)) false ts (spot s o) false us) (whole_for p g)
    (read_declaration r (spot s (ForStart p)) s (in_for p) (declarational_for s p)) in
    whole_spot s _ (takes (steps_as p (keyword keywords.For)
    (b.reads p (keyword keywords.For) refl) refl refl)
    (takes (steps_as q left_paren refl refl refl)
    (joined d
    (joined (read_optional s (for_second p (by_declaration g)) y t
    (spot s (Before (for_second p (by_declaration g))))
    (optionally_before s (for_second p (by_declaration g))))
    (joined (read_optional s (for_third p (by_declaration g) e) z u
    (spot s (Before (for_third p (by_declaration g) e)))
    (optionally_before s (for_third p (by_declaration g) e)))
    (one (steps_as h hole refl refl refl)))))))
read_statement (r_continue p q) m s b =
    whole_spot s _ (takes (steps_as p (keyword keywords.Continue)
    (b.reads p (keyword keywords.Continue) refl) refl refl)
    (one (steps_as q semicolon refl refl refl)))
read_statement (r_break p q) m s b =
    whole_spot s _ (takes (steps_as p (keyword keywords.Break)
    (b.reads p (keyword keywords.Break) refl) refl refl)
    (one (steps_as q semicolon refl refl refl)))
read_statement (r_return p q r) m s b =
    whole_spot s _ (takes (steps_as p (keyword keywords.Return)
    (b.reads p (keyword keywords.Return) refl) refl refl)
    (read_optional s (of_return p) q r (spot s (Before (of_return p)))
    (optionally_before s (of_return p))))

------ elements

declarational_external : Declarational (begin External) External alone
declarational_external q = record { other = _; reads = λ t b. refl }

declarational_item : Declarational (begin Item) Item alone
declarational_item q = record { other = λ t. statement_at Item q t; reads = λ t b. refl }

core_named : {d : ℕ} {ts us : List Marked} {c : Core} {ss : Suffixes}
    → ReadsDirect outside d with_name ts us c ss → (p : Place) (ps : Pointers)
    → is_named (some_declarator (declarator p ps c ss)) ≡ true
core_named (r_core (r_named q n)) p ps = refl
core_named (r_core (r_group q z h)) p ps = refl
core_named (r_suffix {c = c} {ss = ss} h g) p ps = with_suffix c ss _ (core_named h p ps) where
  with_suffix : (c : Core) (ss xs : Suffixes)
      → is_named (some_declarator (declarator p ps c ss)) ≡ true
      → is_named (some_declarator (declarator p ps c xs)) ≡ true
  with_suffix nothing ss xs e = cc
  with_suffix (named q n) ss xs e = refl
  with_suffix (group q x) ss xs e = refl

declarator_named : {d : ℕ} {ts us : List Marked} {x : Declarator}
    → ReadsDeclarator outside d with_name ts us x → is_named (some_declarator x) ≡ true
declarator_named (r_declarator {ps = ps} {p = p} b h g i) = core_named g p ps

-- what the grammar derives of an element, the machine reads
pub read_element : {s : Standing} {ts us : List Marked} {k : Skeleton} → ReadsElement s ts us k
    → Whole (begin s) ts us k
read_element (r_lone p) = whole_spot External _ (one (steps_as p semicolon refl refl refl))
read_element (r_external h) =
    whole_spot External _ (read_declaration h (begin External) External alone declarational_external)
read_element (r_function_definition {xs = xs} {x = x} {p = p} q h y b g k) =
    let w =
    read_specifiers g (begin External) of_declaration p (Declares External alone ∷ []) b
    (declarational_external p) suits_declaration refl refl in
    let v =
    read_declarator k w.there only_named p
    (Declaring p xs no_init_declarators ∷ Declares External alone ∷ []) (like_pointed w.like p) refl
    refl refl in
    whole_spot External _ (joined w.moves (joined v.moves
    (takes (steps_as q left_brace (v.body q (declarator_named k)) refl refl)
    (takes (steps_as h hole refl refl refl) (one (steps_as y right_brace refl refl refl))))))
read_element (r_item_declaration h) =
    whole_spot Item _ (read_declaration h (begin Item) Item alone declarational_item)
read_element (r_item_statement h) = read_statement h (begin Item) Item stating_item
read_element (r_nested h) = read_statement h (begin Nested) Nested stating_nested
