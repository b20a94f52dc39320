-- The same of what stands at the middle of declarators and after it.
use Rattle.std.proofs.Common.{◌≡◌, ℕ, suc, Bool, true, false, List, ◌∷◌, refl, ap, ◌∙◌, Option, None}
use Rattle.hv_base.specs.declared.place.Place.{Place}
use Rattle.hv_base.specs.declared.keyword.Keyword.TheVariants as keywords
use Rattle.hv_base.specs.declared.punct.Punct.{Punct}
use Rattle.hv_base.specs.declared.punct.Punct.TheVariants as puncts
use Rattle.hv_ctree.specs.declared.tree.words.TypeQualifier.{TypeQualifier}
use Rattle.hv_ctree.specs.declared.tree.words.TypeQualifier.TheVariants.{Const, Restrict}
use Rattle.hv_ctree.specs.tree.Expressions.{no_specifiers, declarator, MayDeclarator, no_declarator, some_declarator, Core, nothing, named, group, Suffixes, no_suffixes, then_suffix, unprototyped, no_parameters, Pointers, no_pointers, then_pointer, Qualifiers, no_qualifiers, then_qualifier}
use Rattle.hv_grammar.specs.Symbols.{Symbol, keyword, name, number, text, sign, Role, Marked, at, BeginsAt, at_first, left_paren, right_paren, left_bracket, left_brace, qualifier_word}
use Rattle.hv_grammar.specs.Expressions.{Naming, with_name, without_name, stars, has_part, ReadsQualifiers, r_no_qualifiers, r_qualifiers}
use Rattle.hv_grammar.specs.machine.Frames.{of_parameter, Mode, only_named, only_abstract, either, Frame, Group, Length, Parameters, depth, within, State, Pointing, Opened, Direct, Bracket, ParametersStart}
use Rattle.hv_grammar.specs.machine.Steps.{state, plainly, operand_at, step_pointing, ended, body_at, Taken, begins, may_name, may_lack_name, only_pointers, step_at}
use Rattle.hv_grammar.specs.machine.Moves.{Takes, Moves, stays}
use Rattle.hv_grammar.proofs.Arriving.{joined, one, Entry, begins_operand}
use Rattle.hv_grammar.proofs.ArrivingTypes.{steps_as, Spec, begins_declarator, ends_declarator, Pointed, Bare, has_pointer, pointed_at}

-- whether a declarator of the kind may stand there
abbrev pub fits_mode : Naming → Mode → Bool
fits_mode with_name md = may_name md
fits_mode without_name md = may_lack_name md

-- the machine is after the middle of a declarator and what follows it, perhaps after nothing at all; the
-- declarator begins at the place, and these tokens stand after it
pub data DirectLike : State → Mode → Place → Pointers → Core → Suffixes → List Frame → List Marked
    → Type 0 where
  is_bare : {n : State} {md : Mode} {p y : Place} {ps : Pointers} {st : List Frame}
      {us : List Marked} → Pointed n md y ps st → (has_pointer ps ≡ true → Bare n md y ps st)
      → may_lack_name md ≡ true → ((q : Place) → BeginsAt q us → begins y ps q ≡ p)
      → only_pointers y ps ≡ only_pointers p ps
      → DirectLike n md p ps nothing no_suffixes st us
  is_middle : {md : Mode} {p : Place} {ps : Pointers} {c : Core} {ss : Suffixes} {st : List Frame}
      {us : List Marked}
      → DirectLike (state st (Direct md p ps c ss)) md p ps c ss st us

-- after a `(` that begins what follows a declarator
pub record AfterOpen (n : State) (md : Mode) (p : Place) (ps : Pointers) (c : Core) (ss : Suffixes)
    (b : Place) (st : List Frame) : Type 0 where
  pub closes : (q : Place) → step_at n.stack n.at q right_paren
      ≡ plainly st (state st (Direct md p ps c (then_suffix ss (unprototyped b))))
      (suc (stars ps (depth st)))
  pub spec : (q : Place) → Spec n of_parameter q no_specifiers (Parameters md p ps c ss b q
      no_parameters ∷ st) q

after_open_direct : (md : Mode) (p : Place) (ps : Pointers) (c : Core) (ss : Suffixes) (b : Place)
    (st : List Frame) → AfterOpen (state st (ParametersStart md p ps c ss b)) md p ps c ss b st
after_open_direct md p ps c ss b st =
    record { closes = λ q. refl; spec = λ q. record { other = λ s. _; reads = λ s n. refl } }

after_open_bare : (md : Mode) (p : Place) (ps : Pointers) (b : Place) (st : List Frame)
    → AfterOpen (state st (Opened md p ps b)) md p ps nothing no_suffixes b st
after_open_bare md p ps b st =
    record { closes = λ q. refl; spec = λ q. record { other = λ s. _; reads = λ s n. refl } }

-- a `(` that begins what follows a declarator
pub record Opening (m : State) (r : Role) (d : ℕ) (b : Place) (md : Mode) (p : Place)
    (ps : Pointers) (c : Core) (ss : Suffixes) (st : List Frame) : Type 0 where
  pub there : State
  pub takes_it : Takes m false (at r d b left_paren) there false
  pub after_it : AfterOpen there md p ps c ss b st

opened_bare : (md : Mode) (p : Place) (ps : Pointers) (b : Place) (st : List Frame)
    → may_lack_name md ≡ true
    → step_pointing md p ps st b left_paren
    ≡ plainly st (state st (Opened md (begins p ps b) ps b)) (suc (stars ps (depth st)))
opened_bare only_named p ps b st l = cc
opened_bare only_abstract p ps b st l = refl
opened_bare either p ps b st l = refl

pub opening : {n : State} {md : Mode} {p : Place} {ps : Pointers} {c : Core} {ss : Suffixes}
    {st : List Frame} {r : Role} {d : ℕ} {b : Place} {us : List Marked}
    → DirectLike n md p ps c ss st (at r (suc d) b left_paren ∷ us) → r ≡ within st
    → d ≡ stars ps (depth st) → Opening n r (suc d) b md p ps c ss st
opening {md = md} {p = p} {ps = ps} {st = st} {b = b} (is_bare {y = y} h g l f a) same deep =
    record {
      there = state st (Opened md p ps b);
      takes_it = steps_as b left_paren (h.reads b left_paren refl ∙ (opened_bare md y ps b st l
          ∙ ap (λ z. plainly st (state st (Opened md z ps b)) (suc (stars ps (depth st))))
          (f b (at_first _ _)))) same (ap suc deep);
      after_it = after_open_bare md p ps b st;
    }
opening {md = md} {p = p} {ps = ps} {c = c} {ss = ss} {st = st} {b = b} is_middle same deep =
    record {
      there = state st (ParametersStart md p ps c ss b);
      takes_it = steps_as b left_paren refl same (ap suc deep);
      after_it = after_open_direct md p ps c ss b st;
    }

-- a `[` that begins what follows a declarator
bracket_bare : (md : Mode) (p : Place) (ps : Pointers) (b : Place) (st : List Frame)
    → may_lack_name md ≡ true
    → step_pointing md p ps st b left_bracket
    ≡ plainly st (state st (Bracket md (begins p ps b) ps nothing no_suffixes b no_qualifiers))
    (suc (stars ps (depth st)))
bracket_bare md p ps b st l = rw l refl

pub bracketed : {n : State} {md : Mode} {p : Place} {ps : Pointers} {c : Core} {ss : Suffixes}
    {st : List Frame} {r : Role} {d : ℕ} {b : Place} {us : List Marked}
    → DirectLike n md p ps c ss st (at r (suc d) b left_bracket ∷ us) → r ≡ within st
    → d ≡ stars ps (depth st)
    → Takes n false (at r (suc d) b left_bracket) (state st (Bracket md p ps c ss b no_qualifiers))
    false
bracketed {md = md} {p = p} {ps = ps} {st = st} {b = b} (is_bare {y = y} h g l f a) same deep =
    steps_as b left_bracket (h.reads b left_bracket refl ∙ (bracket_bare md y ps b st l
    ∙ ap (λ z. plainly st (state st (Bracket md z ps nothing no_suffixes b no_qualifiers))
    (suc (stars ps (depth st)))) (f b (at_first _ _)))) same (ap suc deep)
bracketed {b = b} is_middle same deep = steps_as b left_bracket refl same (ap suc deep)

-- qualifiers after a `[`
bracket_qualifier : (md : Mode) (p : Place) (ps : Pointers) (c : Core) (ss : Suffixes) (b : Place)
    (qs : Qualifiers) (st : List Frame) (y : Place) (k : TypeQualifier)
    → step_at st (Bracket md p ps c ss b qs) y (qualifier_word k)
    ≡ plainly st (state st (Bracket md p ps c ss b (then_qualifier qs k)))
    (suc (stars ps (depth st)))
bracket_qualifier md p ps c ss b qs st y Const = refl
bracket_qualifier md p ps c ss b qs st y Restrict = refl

pub arrives_bracket_qualifiers : {r : Role} {d : ℕ} {ts us : List Marked} {qs : Qualifiers}
    → ReadsQualifiers r d ts us qs
    → (md : Mode) (p : Place) (ps : Pointers) (c : Core) (ss : Suffixes) (b : Place)
    (st : List Frame) → r ≡ within st → d ≡ suc (stars ps (depth st))
    → Moves (state st (Bracket md p ps c ss b no_qualifiers)) false ts
    (state st (Bracket md p ps c ss b qs)) false us
arrives_bracket_qualifiers r_no_qualifiers md p ps c ss b st same deep = stays
arrives_bracket_qualifiers (r_qualifiers {qs = qs} y k h) md p ps c ss b st same deep =
    joined (arrives_bracket_qualifiers h md p ps c ss b st same deep)
    (one (steps_as y (qualifier_word k) (bracket_qualifier md p ps c ss b qs st y k) same deep))

-- a length after a `[`
pub want_length : (md : Mode) (p : Place) (ps : Pointers) (c : Core) (ss : Suffixes) (b : Place)
    (qs : Qualifiers) (st : List Frame)
    → Entry (state st (Bracket md p ps c ss b qs)) false (Length md p ps c ss b qs ∷ st)
want_length md p ps c ss b qs st = record { enters = go } where
  go : (q : Place) (s : Symbol) → begins_operand s ≡ true
      → step_at st (Bracket md p ps c ss b qs) q s ≡ operand_at (Length md p ps c ss b qs ∷ st) q s
  go q (name n) e = refl
  go q (number v) e = refl
  go q (text v) e = refl
  go q (keyword keywords.Sizeof) e = refl
  go q (sign puncts.LeftParenthesis) e = refl
  go q (sign puncts.PlusPlus) e = refl
  go q (sign puncts.MinusMinus) e = refl
  go q (sign puncts.And) e = refl
  go q (sign puncts.Star) e = refl
  go q (sign puncts.Plus) e = refl
  go q (sign puncts.Minus) e = refl
  go q (sign puncts.Tilde) e = refl
  go q (sign puncts.Not) e = refl
  go q _ e = cc

-- the machine has read the middle of a declarator and what follows it
pub record DirectAt (m : State) (ts us : List Marked) (md : Mode) (p : Place) (ps : Pointers)
    (c : Core) (ss : Suffixes) (st : List Frame) : Type 0 where
  pub there : State
  pub moves : Moves m false ts there false us
  pub like : DirectLike there md p ps c ss st us

pub arrives_middle : {m : State} {ts us : List Marked} (md : Mode) (p : Place) (ps : Pointers)
    (c : Core) (ss : Suffixes) (st : List Frame)
    → Moves m false ts (state st (Direct md p ps c ss)) false us → DirectAt m ts us md p ps c ss st
arrives_middle md p ps c ss st g =
    record { there = state st (Direct md p ps c ss); moves = g; like = is_middle }

named_bare : (md : Mode) (p : Place) (ps : Pointers) (q : Place) (n : List ℕ) (st : List Frame)
    → may_name md ≡ true
    → step_pointing md p ps st q (name n)
    ≡ plainly st (state st (Direct md (begins p ps q) ps (named q n) no_suffixes))
    (stars ps (depth st))
named_bare md p ps q n st l = rw l refl

pub arrives_named : {m : State} {md : Mode} {y p : Place} {ps : Pointers} {st : List Frame}
    (q : Place) (n : List ℕ) {r : Role} {d : ℕ} {us : List Marked}
    → Pointed m md y ps st → ((z : Place) → BeginsAt z (at r d q (name n) ∷ us) → begins y ps z ≡ p)
    → may_name md ≡ true → r ≡ within st → d ≡ stars ps (depth st)
    → DirectAt m (at r d q (name n) ∷ us) us md p ps (named q n) no_suffixes st
arrives_named {md = md} {y = y} {p = p} {ps = ps} {st = st} q n h f l same deep =
    arrives_middle md p ps (named q n) no_suffixes st
    (one (steps_as q (name n) (h.reads q (name n) refl ∙ (named_bare md y ps q n st l
    ∙ ap (λ z. plainly st (state st (Direct md z ps (named q n) no_suffixes)) (stars ps (depth st)))
    (f q (at_first _ _)))) same deep))

-- a `(` that begins a declarator within another
pub record Grouping (m : State) (r : Role) (d : ℕ) (q : Place) (md : Mode) (p : Place)
    (ps : Pointers) (st : List Frame) : Type 0 where
  pub there : State
  pub takes_it : Takes m false (at r d q left_paren) there false
  pub pointed : Pointed there md q no_pointers (Group md p ps q ∷ st)

opened_pointed : (md : Mode) (p : Place) (ps : Pointers) (b : Place) (st : List Frame)
    → Pointed (state st (Opened md p ps b)) md b no_pointers (Group md p ps b ∷ st)
opened_pointed md p ps b st = record { reads = go } where
  go : (q : Place) (s : Symbol) → begins_declarator s ≡ true
      → step_at st (Opened md p ps b) q s
      ≡ step_pointing md b no_pointers (Group md p ps b ∷ st) q s
  go q (name n) e = refl
  go q (sign puncts.Star) e = refl
  go q (sign puncts.LeftParenthesis) e = refl
  go q (sign puncts.LeftBracket) e = refl
  go q _ e = cc

pub grouping : {m : State} (md : Mode) {y p : Place} {ps : Pointers} {st : List Frame} (q : Place)
    {r : Role} {d : ℕ} {us : List Marked}
    → Pointed m md y ps st → ((z : Place) → BeginsAt z (at r (suc d) q left_paren ∷ us)
    → begins y ps z ≡ p) → r ≡ within st → d ≡ stars ps (depth st)
    → Grouping m r (suc d) q md p ps st
grouping only_named {y = y} {p = p} {ps = ps} {st = st} q h f same deep = record {
  there = state (Group only_named p ps q ∷ st) (Pointing only_named q no_pointers);
  takes_it = steps_as q left_paren (h.reads q left_paren refl
      ∙ ap (λ z. plainly st (state (Group only_named z ps q ∷ st)
      (Pointing only_named q no_pointers)) (suc (stars ps (depth st)))) (f q (at_first _ _))) same
      (ap suc deep);
  pointed = pointed_at only_named q no_pointers (Group only_named p ps q ∷ st);
}
grouping only_abstract {y = y} {p = p} {ps = ps} {st = st} q h f same deep = record {
  there = state st (Opened only_abstract p ps q);
  takes_it = steps_as q left_paren (h.reads q left_paren refl
      ∙ ap (λ z. plainly st (state st (Opened only_abstract z ps q)) (suc (stars ps (depth st))))
      (f q (at_first _ _))) same (ap suc deep);
  pointed = opened_pointed only_abstract p ps q st;
}
grouping either {y = y} {p = p} {ps = ps} {st = st} q h f same deep = record {
  there = state st (Opened either p ps q);
  takes_it = steps_as q left_paren (h.reads q left_paren refl
      ∙ ap (λ z. plainly st (state st (Opened either z ps q)) (suc (stars ps (depth st))))
      (f q (at_first _ _))) same (ap suc deep);
  pointed = opened_pointed either p ps q st;
}

-- whether a declarator has a name
abbrev pub is_named : MayDeclarator → Bool
is_named (some_declarator (declarator p ps (named q n) ss)) = true
is_named (some_declarator (declarator p ps (group q x) ss)) = true
is_named _ = false

-- what a `{` does after the declarator
abbrev pub brace_of : List Frame → MayDeclarator → Place → Option Taken
brace_of st no_declarator q = None
brace_of st (some_declarator x) q = body_at st x q

-- the machine has read a declarator, or nothing where none must be: a sign that ends it ends it with this tree
pub record Declared (m : State) (ts us : List Marked) (x : MayDeclarator) (st : List Frame) : Type 0
  where
    pub there : State
    pub moves : Moves m false ts there false us
    pub ends : (q : Place) (s : Punct) → ends_declarator s ≡ true
        → step_at there.stack there.at q (sign s) ≡ ended st x s
    pub body : (q : Place) → is_named x ≡ true
        → step_at there.stack there.at q left_brace ≡ brace_of st x q

direct_ends : (md : Mode) (p : Place) (ps : Pointers) (c : Core) (ss : Suffixes) (st : List Frame)
    (q : Place) (s : Punct) → ends_declarator s ≡ true
    → step_at st (Direct md p ps c ss) q (sign s)
    ≡ ended st (some_declarator (declarator p ps c ss)) s
direct_ends md p ps c ss st q puncts.RightParenthesis e = refl
direct_ends md p ps c ss st q puncts.Comma e = refl
direct_ends md p ps c ss st q puncts.Semicolon e = refl
direct_ends md p ps c ss st q puncts.Equal e = refl
direct_ends md p ps c ss st q _ e = cc

bare_ends : {n : State} {md : Mode} {y : Place} (p : Place) (ps : Pointers) {st : List Frame}
    → has_part ps nothing no_suffixes ≡ true → (has_pointer ps ≡ true → Bare n md y ps st)
    → may_lack_name md ≡ true → only_pointers y ps ≡ only_pointers p ps → (q : Place) (s : Punct)
    → ends_declarator s ≡ true
    → step_at n.stack n.at q (sign s)
    ≡ ended st (some_declarator (declarator p ps nothing no_suffixes)) s
bare_ends p no_pointers i g l a q s e = cc
bare_ends p (then_pointer ps r qs) {st} i g l a q s e = let b = g refl in b.reads q s e l
    ∙ ap (λ x. ended st x s) a

pub direct_declared : {m : State} {ts us : List Marked} {md : Mode} {p : Place} {ps : Pointers}
    {c : Core} {ss : Suffixes} {st : List Frame}
    → has_part ps c ss ≡ true → DirectAt m ts us md p ps c ss st
    → Declared m ts us (some_declarator (declarator p ps c ss)) st
direct_declared {us = us} {md = md} {p = p} {ps = ps} {c = c} {ss = ss} {st = st} i h =
    record {
      there = h.there;
      moves = h.moves;
      ends = ends_of i h.like;
      body = body_of h.like;
    } where
      body_of : {n : State} {c : Core} {ss : Suffixes} → DirectLike n md p ps c ss st us → (q : Place)
          → is_named (some_declarator (declarator p ps c ss)) ≡ true
          → step_at n.stack n.at q left_brace ≡ body_at st (declarator p ps c ss) q
      body_of (is_bare h g l f a) q e = cc
      body_of is_middle q e = refl

      ends_of : {n : State} {c : Core} {ss : Suffixes} → has_part ps c ss ≡ true
          → DirectLike n md p ps c ss st us → (q : Place) (s : Punct) → ends_declarator s ≡ true
          → step_at n.stack n.at q (sign s) ≡ ended st (some_declarator (declarator p ps c ss)) s
      ends_of i (is_bare h g l f a) = bare_ends p ps i g l a
      ends_of {c = c} {ss = ss} i is_middle = direct_ends md p ps c ss st
