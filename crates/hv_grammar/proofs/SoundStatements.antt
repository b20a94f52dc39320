-- What the machine makes of a token of an initialiser, of a declaration's specifiers and of an
-- element, the grammar derives.
use Rattle.std.proofs.Common.{◌≡◌, ℕ, suc, ◌≤◌, Bool, true, false, cond, List, [], ◌∷◌, sym, arith, Option, None, subst}
use Rattle.hv_base.specs.declared.place.Place.{Place}
use Rattle.hv_base.specs.declared.keyword.Keyword.TheVariants as keywords
use Rattle.hv_base.specs.declared.punct.Punct.TheVariants as puncts
use Rattle.hv_ctree.specs.tree.Expressions.{Specifiers, no_specifiers, no_pointers}
use Rattle.hv_ctree.specs.tree.Statements.{Designation, no_designation, Initializer, braced as in_braces, then_initializer, no_init_declarators, hollow_empty, hollow_default, hollow_compound, hollow_expression, hollow_if_else, hollow_continue, hollow_break, Skeleton}
use Rattle.hv_grammar.specs.Symbols.{Symbol, keyword, name, sign, Role, Marked, at, at_first, left_brace, right_brace, semicolon, equal_sign}
use Rattle.hv_grammar.specs.Expressions.{r_last_comma, r_no_pointers}
use Rattle.hv_grammar.specs.Elements.{Standing, External, Item, Nested, loose, ReadsDesignation, r_no_designation, r_index, r_designator, r_braced, r_plain_declaration, r_none, ReadsElement, r_lone, r_null, r_default, r_block, r_continue, r_break}
use Rattle.hv_grammar.specs.machine.Parts.{Setting, alone, in_for, Optional, for_first, of_return, Part, of_case, of_expression, of_if, of_switch, of_while, of_do, optional, Fixed, the_hole, the_colon, the_semicolon, the_opening, the_right_brace, the_while, the_else, Spot, Start, Await, Opening, AfterIf, MayElse, ForOpening, ForStart, Before, fixed_symbol, meets, wanted, closer, after_optional}
use Rattle.hv_grammar.specs.machine.Frames.{of_declaration, only_named, Frame, Braces, Index, Designated, Declares, Declaring, Statement, depth, State}
use Rattle.hv_grammar.specs.machine.Steps.{Taken, loosely, spot, want, operand_at, first_word, step_pointing, declaration_words, step_initializer, braces_ended, step_braces, step_dot, step_designator, step_initialized, initialized_at, optional_at, statement_at, lone_at, start_at, step_spot}
use Rattle.hv_grammar.proofs.Reached.{in_element, host_declaration, IsBraces, is_braces, is_bottom, no_initializer_yet, initializers_read, no_init_yet, StandsStatement, stands_item, stands_nested, stands_external, stands_in_block, as_element, OptionalFrom, from_for, from_return, PartFrom, from_case, from_nothing, from_if, from_switch, from_while, from_do, from_optional, from_start, from_for_start, b_braces, b_index, b_designated, b_declares, b_declaring, b_statement, Stacked, empty, more, Wants, w_plainly, WordsAt, Specs, none_yet, Terminals, no_terminal, a_terminal, Awaits, BeforePart, BeforeOptional, SpotRead, StandsDeclaration, DeclaresFrom, DesignatorFrom, index_read, member_read, InitialAt, ItemAt, DesignatorAt, InitializedAt, ReadState, Leads, once, leads_by, branches, fits_most}
use Rattle.hv_grammar.proofs.ArrivingInitializers.{in_item, initializer_fits}
use Rattle.hv_grammar.proofs.SoundInitializers.{before_optional, DeclaredAt, declared_read, Initializing, initialized_read, meets_symbol, optional_ends}
use Rattle.hv_grammar.proofs.SoundExpressions.{Wanting, pushed_read, operand_read}
use Rattle.hv_grammar.proofs.SoundSpecifiers.{specifier_read}
use Rattle.hv_grammar.proofs.SoundDeclarators.{Pointed, pointing_read}

------ initialisers

abbrev Starting : List Frame → Bool → List Marked → List Marked → Type 0
Starting stack x ws us = InitialAt stack ws us

initial_wants : {stack : List Frame} {ws us : List Marked} → InitialAt stack ws us
    → Wants stack ws us
initial_wants h =
    record { fits = let f = initializer_fits h.host in omega arith; stacked = h.stacked }

initial_operand : (stack : List Frame) (q : Place) (s : Symbol)
    → Leads (Starting stack) q s (operand_at stack q s)
initial_operand stack q s =
    leads_by (Starting stack) (Wanting stack) q s (operand_at stack q s)
    (λ x r d ws us h. initial_wants h) (operand_read stack q s)

pub initializer_read : (stack : List Frame) (q : Place) (s : Symbol)
    → Leads (Starting stack) q s (step_initializer stack q s)
initializer_read stack q (sign puncts.LeftBrace) = once (λ ws us h. record {
  braces = is_braces;
  stacked = more h.stacked (fits_most stack) h.host (b_braces no_initializer_yet);
})
initializer_read stack q s = initial_operand stack q s

abbrev Itemising : List Frame → Bool → List Marked → List Marked → Type 0
Itemising stack x ws us = ItemAt stack ws us

braces_ended_read : (stack : List Frame) (q : Place)
    → Leads (Itemising stack) q right_brace (braces_ended stack)
braces_ended_read (Braces p (then_initializer xs y g x) ∷ stack) q =
    once (λ ws us h. go h.stacked) where
      go : {ws us : List Marked} → Stacked (Braces p (then_initializer xs y g x) ∷ stack) ws
          (loose (suc (depth stack)) q right_brace ∷ us)
          → InitializedAt (in_braces p (then_initializer xs y g x) true) stack ws us
      go (more s f i (b_braces (initializers_read z h))) =
          record { from = _; host = i; stacked = s; reads = r_braced p q h (r_last_comma z) }
braces_ended_read _ q = tt

item_initial : {stack : List Frame} {ws us : List Marked} → IsBraces stack → Stacked stack ws us
    → InitialAt (Designated no_designation ∷ stack) ws us
item_initial is_braces s =
    record { host = in_item; stacked = more s (omega arith) is_braces (b_designated r_no_designation) }

item_initializer : (stack : List Frame) (q : Place) (s : Symbol)
    → Leads (Itemising stack) q s (step_initializer (Designated no_designation ∷ stack) q s)
item_initializer stack q s =
    leads_by (Itemising stack) (Starting (Designated no_designation ∷ stack)) q s
    (step_initializer (Designated no_designation ∷ stack) q s)
    (λ x r d ws us h. item_initial h.braces h.stacked)
    (initializer_read (Designated no_designation ∷ stack) q s)

pub braces_read : (stack : List Frame) (q : Place) (s : Symbol)
    → Leads (Itemising stack) q s (step_braces stack q s)
braces_read stack q (sign puncts.LeftBracket) =
    once (λ ws us h. w_plainly (pushed_read (Index q) stack (omega arith) (fits_most stack) h.braces
    h.stacked (b_index q)))
braces_read stack q (sign puncts.Dot) = once (λ ws us h. h)
braces_read stack q (sign puncts.RightBrace) = braces_ended_read stack q
braces_read stack q s = item_initializer stack q s

pub dot_read : (p : Place) (stack : List Frame) (q : Place) (s : Symbol)
    → Leads (λ x ws us. ItemAt stack ws (loose (depth stack) p (sign puncts.Dot) ∷ us)) q s
    (step_dot p stack s)
dot_read p stack q (name n) = once (λ ws us h. record {
  from = _;
  braces = h.braces;
  stacked = h.stacked;
  reads = member_read p q n;
})
dot_read p stack q _ = tt

designated : {g : Designation} {d : ℕ} {ts us : List Marked} (x : Place)
    → DesignatorFrom g d ts (loose d x equal_sign ∷ us)
    → ReadsDesignation d ts us g
designated x (index_read p q r) = r_index p q x r
designated x (member_read p q n) = r_designator p q x n

designator_initial : {g : Designation} {stack : List Frame} {ws from us : List Marked} (x : Place)
    → IsBraces stack → Stacked stack ws from
    → DesignatorFrom g (depth stack) from (loose (depth stack) x equal_sign ∷ us)
    → InitialAt (Designated g ∷ stack) ws us
designator_initial x is_braces s r =
    record { host = in_item; stacked = more s (omega arith) is_braces (b_designated (designated x r)) }

pub designator_read : (g : Designation) (stack : List Frame) (q : Place) (s : Symbol)
    → Leads (λ x ws us. DesignatorAt g stack ws us) q s (step_designator g stack s)
designator_read g stack q (sign puncts.Equal) =
    once (λ ws us h. designator_initial q h.braces h.stacked h.reads)
designator_read g stack q _ = tt

pub after_initializer_read : (stack : List Frame) (x : Initializer) (q : Place) (s : Symbol)
    → Leads (λ y ws us. InitializedAt x stack ws us) q s (step_initialized stack x s)
after_initializer_read stack x q (sign s) =
    leads_by (λ y ws us. InitializedAt x stack ws us) (Initializing x stack) q (sign s)
    (initialized_at stack x s)
    (λ y r d ws us h. record { from = h.from; stacked = h.stacked; reads = h.reads })
    (initialized_read stack x q s)
after_initializer_read stack x q _ = tt

------ after the specifiers of a declaration

plain_whole : {p : Place} {xs : Specifiers} {stack : List Frame} {ws us : List Marked} (q : Place)
    → WordsAt of_declaration p xs stack ws (loose 0 q semicolon ∷ us)
    → DeclaredAt stack p xs no_init_declarators ws us
plain_whole {p} {xs} {stack} {ws} {us} q h = go stack h where
  go : (stack : List Frame) → WordsAt of_declaration p xs stack ws (loose 0 q semicolon ∷ us)
      → DeclaredAt stack p xs no_init_declarators ws us
  go [] h = elim h.site [ ]
  go (Declares s c ∷ []) h =
      record { from = h.from; stacked = h.stacked; reads = r_plain_declaration q h.begins h.reads }
  go _ h = elim h.site [ ]

declaration_pointing : (p : Place) (xs : Specifiers) (stack : List Frame) (q : Place) (s : Symbol)
    → Leads (λ x ws us. WordsAt of_declaration p xs stack ws us) q s
    (step_pointing only_named q no_pointers (Declaring p xs no_init_declarators ∷ stack) q s)
declaration_pointing p xs stack q s =
    leads_by (λ x ws us. WordsAt of_declaration p xs stack ws us)
    (Pointed only_named q no_pointers (Declaring p xs no_init_declarators ∷ stack)) q s
    (step_pointing only_named q no_pointers (Declaring p xs no_init_declarators ∷ stack) q s)
    (λ x r d ws us h. record {
      from = _;
      host = host_declaration;
      stacked =
          more h.stacked (fits_most stack) h.site (b_declaring h.begins h.reads no_init_yet);
      pointers = r_no_pointers;
      first = λ z b. b;
    })
    (pointing_read only_named q no_pointers (Declaring p xs no_init_declarators ∷ stack) q s)

pub declaration_words_read : (p : Place) (xs : Specifiers) (stack : List Frame) (q : Place)
    (s : Symbol)
    → Leads (λ x ws us. WordsAt of_declaration p xs stack ws us) q s
    (declaration_words s p xs stack q)
declaration_words_read p xs stack q (sign puncts.Semicolon) =
    declared_read (λ x ws us. WordsAt of_declaration p xs stack ws us) stack p xs
    no_init_declarators q (λ ws us h. plain_whole q h)
declaration_words_read p xs stack q s = declaration_pointing p xs stack q s

------ elements

abbrev AtPlace : Standing → Spot → Bool → List Marked → List Marked → Type 0
AtPlace s y x ws us = SpotRead s y ws us

-- a terminal that the element fixes
fixed_read : (B : Bool → List Marked → List Marked → Type 0) (e : Fixed) (m : State) (q : Place)
    (t : Symbol)
    → ((ws us : List Marked) → B false ws (loose 0 q (fixed_symbol e) ∷ us) → ReadState m false ws us)
    → Leads B q t (cond (meets e t) (loosely m 0) None)
fixed_read B e m q t f =
    branches B q t (meets e t) (loosely m 0) None
    (λ h. once (λ ws us b. f ws us (subst (λ (y : Symbol). B false ws (loose 0 q y ∷ us))
    (meets_symbol e t h) b))) (λ h. tt)

statement_stacked : {s : Standing} {c : Part} {ws us : List Marked} → StandsStatement s
    → PartFrom c ws us → Stacked (Statement s c ∷ []) ws us
statement_stacked k h = more empty (omega arith) is_bottom (b_statement k h)

statement_wants : {s : Standing} (c : Part) {ws us : List Marked} → StandsStatement s
    → PartFrom c ws us → Wants (Statement s c ∷ []) ws us
statement_wants c k h = record { fits = few c; stacked = statement_stacked k h } where
  few : (c : Part) → wanted c ≤ 14
  few (of_case p) = omega arith
  few _ = omega arith

none_ends : {s : Standing} (c : Optional) (q : Place) (t : Symbol) {ws us : List Marked}
    → StandsStatement s → t ≡ fixed_symbol (closer (optional c))
    → OptionalFrom c ws (loose 0 q t ∷ us) → SpotRead s (after_optional c None) ws us
none_ends c q t {ws} {us} k e g =
    optional_ends c q k (subst (λ (y : Symbol). OptionalFrom c ws (loose 0 q y ∷ us)) e g) r_none

abbrev Missing : Standing → Optional → Bool → List Marked → List Marked → Type 0
Missing s c x ws us = BeforeOptional s [] c ws us

optional_read : (s : Standing) (c : Optional) (q : Place) (t : Symbol)
    → Leads (Missing s c) q t (optional_at s c q t)
optional_read s c q t =
    branches (Missing s c) q t (meets (closer (optional c)) t)
    (loosely (spot s (after_optional c None)) 0) (operand_at (Statement s (optional c) ∷ []) q t)
    (λ e. once (λ ws us h. none_ends c q t h.stands (meets_symbol (closer (optional c)) t e)
    (h.part _ no_terminal)))
    (λ e. leads_by (Missing s c) (Wanting (Statement s (optional c) ∷ []))
    q t (operand_at (Statement s (optional c) ∷ []) q t)
    (λ x r d ws us h. statement_wants (optional c) h.stands (from_optional (h.part _ no_terminal)))
    (operand_read (Statement s (optional c) ∷ []) q t))

-- the first token of a statement
abbrev Nothing : Bool → List Marked → List Marked → Type 0
Nothing x ws us = ws ≡ us

from_here : (P : List Marked → Type 0) {ws us : List Marked} → ws ≡ us → P us → P ws
from_here P e h = subst P (sym e) h

part_here : (s : Standing) (c : Part) {ws us ts : List Marked} → StandsStatement s → ws ≡ ts
    → PartFrom c ts us → Wants (Statement s c ∷ []) ws us
part_here s c {us = us} k e h =
    statement_wants c k (from_here (λ (z : List Marked). PartFrom c z us) e h)

awaits_here : {s : Standing} {es : List Fixed} {k : Skeleton} {ws us ts : List Marked} → ws ≡ ts
    → Awaits s es k ts us → Awaits s es k ws us
awaits_here {s} {k = k} e f = λ vs t. from_here (λ (z : List Marked). ReadsElement s z vs k) e (f vs t)

opening_here : {s : Standing} {es : List Fixed} {c : Part} {ws us ts : List Marked}
    → StandsStatement s → ws ≡ ts → ((vs : List Marked) → Terminals es us vs → PartFrom c ts vs)
    → BeforePart s es c ws us
opening_here {c = c} k e f = record {
  stands = k;
  part = λ vs t. from_here (λ (z : List Marked). PartFrom c z vs) e (f vs t);
}

optional_here : {s : Standing} {es : List Fixed} {c : Optional} {ws us ts : List Marked}
    → StandsStatement s → ws ≡ ts → ((vs : List Marked) → Terminals es us vs → OptionalFrom c ts vs)
    → BeforeOptional s es c ws us
optional_here {c = c} k e f = record {
  stands = k;
  part = λ vs t. from_here (λ (z : List Marked). OptionalFrom c z vs) e (f vs t);
}

default_awaits : {s : Standing} {us : List Marked} → StandsStatement s → (q : Place)
    → Awaits s (the_colon ∷ the_hole ∷ []) (hollow_default q 0)
    (loose 0 q (keyword keywords.Default) ∷ us) us
default_awaits {s} k q vs t = go t where
  go : {us : List Marked} → Terminals (the_colon ∷ the_hole ∷ []) us vs
      → ReadsElement s (loose 0 q (keyword keywords.Default) ∷ us) vs (hollow_default q 0)
  go (a_terminal c (a_terminal h no_terminal)) = as_element k (r_default q c h)

block_awaits : {s : Standing} {us : List Marked} → StandsStatement s → (q : Place)
    → Awaits s (the_hole ∷ the_right_brace ∷ []) (hollow_compound q 0) (loose 0 q left_brace ∷ us) us
block_awaits {s} k q vs t = go t where
  go : {us : List Marked} → Terminals (the_hole ∷ the_right_brace ∷ []) us vs
      → ReadsElement s (loose 0 q left_brace ∷ us) vs (hollow_compound q 0)
  go (a_terminal h (a_terminal x no_terminal)) = as_element k (r_block q h x)

null_awaits : {s : Standing} {us : List Marked} → StandsStatement s → (q : Place)
    → Awaits s [] (hollow_expression q None) (loose 0 q semicolon ∷ us) us
null_awaits {s} k q vs t = go t where
  go : {us : List Marked} → Terminals [] us vs
      → ReadsElement s (loose 0 q semicolon ∷ us) vs (hollow_expression q None)
  go no_terminal = as_element k (r_null q)

continue_awaits : {s : Standing} {us : List Marked} → StandsStatement s → (q : Place)
    → Awaits s (the_semicolon ∷ []) (hollow_continue q) (loose 0 q (keyword keywords.Continue) ∷ us) us
continue_awaits {s} k q vs t = go t where
  go : {us : List Marked} → Terminals (the_semicolon ∷ []) us vs
      → ReadsElement s (loose 0 q (keyword keywords.Continue) ∷ us) vs (hollow_continue q)
  go (a_terminal x no_terminal) = as_element k (r_continue q x)

break_awaits : {s : Standing} {us : List Marked} → StandsStatement s → (q : Place)
    → Awaits s (the_semicolon ∷ []) (hollow_break q) (loose 0 q (keyword keywords.Break) ∷ us) us
break_awaits {s} k q vs t = go t where
  go : {us : List Marked} → Terminals (the_semicolon ∷ []) us vs
      → ReadsElement s (loose 0 q (keyword keywords.Break) ∷ us) vs (hollow_break q)
  go (a_terminal x no_terminal) = as_element k (r_break q x)

if_opens : {us : List Marked} (q : Place) (vs : List Marked) → Terminals (the_opening ∷ []) us vs
    → PartFrom (of_if q) (loose 0 q (keyword keywords.If) ∷ us) vs
if_opens q _ (a_terminal x no_terminal) = from_if q x

switch_opens : {us : List Marked} (q : Place) (vs : List Marked)
    → Terminals (the_opening ∷ []) us vs
    → PartFrom (of_switch q) (loose 0 q (keyword keywords.Switch) ∷ us) vs
switch_opens q _ (a_terminal x no_terminal) = from_switch q x

while_opens : {us : List Marked} (q : Place) (vs : List Marked)
    → Terminals (the_opening ∷ []) us vs
    → PartFrom (of_while q) (loose 0 q (keyword keywords.While) ∷ us) vs
while_opens q _ (a_terminal x no_terminal) = from_while q x

do_opens : {us : List Marked} (q : Place) (vs : List Marked)
    → Terminals (the_hole ∷ the_while ∷ the_opening ∷ []) us vs
    → PartFrom (of_do q) (loose 0 q (keyword keywords.Do) ∷ us) vs
do_opens q _ (a_terminal h (a_terminal w (a_terminal x no_terminal))) = from_do q h w x

for_opens : {us : List Marked} (q : Place) (vs : List Marked) → Terminals (the_opening ∷ []) us vs
    → OptionalFrom (for_first q) (loose 0 q (keyword keywords.For) ∷ us) vs
for_opens q _ (a_terminal x no_terminal) = from_for q x

statement_read : (s : Standing) → StandsStatement s → (q : Place) (t : Symbol)
    → Leads Nothing q t (statement_at s q t)
statement_read s k q (keyword keywords.Case) =
    once (λ ws us e. w_plainly (part_here s (of_case q) k e (from_case q)))
statement_read s k q (keyword keywords.Default) =
    once (λ ws us e. awaits_here e (default_awaits k q))
statement_read s k q (keyword keywords.If) = once (λ ws us e. opening_here k e (if_opens q))
statement_read s k q (keyword keywords.Switch) = once (λ ws us e. opening_here k e (switch_opens q))
statement_read s k q (keyword keywords.While) = once (λ ws us e. opening_here k e (while_opens q))
statement_read s k q (keyword keywords.Do) = once (λ ws us e. opening_here k e (do_opens q))
statement_read s k q (keyword keywords.For) = once (λ ws us e. optional_here k e (for_opens q))
statement_read s k q (keyword keywords.Continue) =
    once (λ ws us e. awaits_here e (continue_awaits k q))
statement_read s k q (keyword keywords.Break) = once (λ ws us e. awaits_here e (break_awaits k q))
statement_read s k q (keyword keywords.Return) =
    once (λ ws us e. before_optional k
    (from_here (λ (z : List Marked). OptionalFrom (of_return q) z us) e (from_return q)))
statement_read s k q (sign puncts.LeftBrace) = once (λ ws us e. awaits_here e (block_awaits k q))
statement_read s k q (sign puncts.Semicolon) = once (λ ws us e. awaits_here e (null_awaits k q))
statement_read s k q t =
    leads_by Nothing (Wanting (Statement s of_expression ∷ [])) q t
    (operand_at (Statement s of_expression ∷ []) q t)
    (λ x r d ws us e. part_here s of_expression k e from_nothing)
    (operand_read (Statement s of_expression ∷ []) q t)

lone_awaits : {us : List Marked} (q : Place)
    → Awaits External [] (hollow_empty q) (loose 0 q semicolon ∷ us) us
lone_awaits q vs t = go t where
  go : {us : List Marked} → Terminals [] us vs
      → ReadsElement External (loose 0 q semicolon ∷ us) vs (hollow_empty q)
  go no_terminal = r_lone q

lone_read : (q : Place) (t : Symbol) → Leads Nothing q t (lone_at q t)
lone_read q (sign puncts.Semicolon) = once (λ ws us e. awaits_here e (lone_awaits q))
lone_read q _ = tt

-- the first specifier of a declaration
declares_specs : {s : Standing} {c : Setting} {q : Place} {t : Symbol} {r : Role} {d : ℕ}
    {ws us : List Marked} → DeclaresFrom s c ws (at r d q t ∷ us)
    → Specs of_declaration q no_specifiers (Declares s c ∷ []) ws (at r d q t ∷ us)
declares_specs h = record {
  from = _;
  site = in_element;
  stacked = more empty (omega arith) is_bottom (b_declares h);
  specifiers = none_yet (at_first _ _);
}

first_read : (s : Standing) → StandsDeclaration s → (q : Place) (t : Symbol) (o : Option Taken)
    → Leads Nothing q t o
    → Leads Nothing q t (first_word of_declaration (Declares s alone ∷ []) q t o)
first_read s k q t o g =
    specifier_read Nothing of_declaration q no_specifiers (Declares s alone ∷ []) q t o
    (λ r d ws us e. declares_specs
    (from_here (λ (z : List Marked). DeclaresFrom s alone z (at r d q t ∷ us)) e (from_start k))) g

start_spot_read : (s : Standing) (q : Place) (t : Symbol) → Leads Nothing q t (start_at s q t)
start_spot_read External q t =
    first_read External stands_external q t (lone_at q t) (lone_read q t)
start_spot_read Item q t =
    first_read Item stands_in_block q t (statement_at Item q t)
    (statement_read Item stands_item q t)
start_spot_read Nested q t = statement_read Nested stands_nested q t

pub spot_read : (s : Standing) (y : Spot) (q : Place) (t : Symbol)
    → Leads (AtPlace s y) q t (step_spot s y q t)
spot_read s Start q t = start_spot_read s q t
spot_read s (Await [] k) q t = tt
spot_read s (Await (e ∷ es) k) q t =
    fixed_read (AtPlace s (Await (e ∷ es) k)) e (spot s (Await es k)) q t
    (λ ws us h vs f. h vs (a_terminal q f))
spot_read s (Opening [] c) q t = tt
spot_read s (Opening (e ∷ []) c) q t =
    fixed_read (AtPlace s (Opening (e ∷ []) c)) e (want (Statement s c ∷ [])) q t
    (λ ws us h. w_plainly (statement_wants c h.stands (h.part _ (a_terminal q no_terminal))))
spot_read s (Opening (e ∷ f ∷ es) c) q t =
    fixed_read (AtPlace s (Opening (e ∷ f ∷ es) c)) e (spot s (Opening (f ∷ es) c)) q t
    (λ ws us h. record { stands = h.stands; part = λ vs g. h.part vs (a_terminal q g) })
spot_read s (AfterIf p a) q t =
    fixed_read (AtPlace s (AfterIf p a)) the_hole (spot s (MayElse p a)) q t
    (λ ws us h. (λ vs g. h.0 vs (a_terminal q g), λ vs g. h.1 vs (a_terminal q g)))
spot_read s (MayElse p a) q t =
    fixed_read (AtPlace s (MayElse p a)) the_else
    (spot s (Await (the_hole ∷ []) (hollow_if_else p a 0 1))) q t
    (λ ws us h vs g. h.1 vs (a_terminal q g))
spot_read s (ForOpening p) q t =
    fixed_read (AtPlace s (ForOpening p)) the_opening (spot s (ForStart p)) q t
    (λ ws us h. record { stands = h.stands; part = λ vs g. h.part vs (a_terminal q g) })
spot_read s (ForStart p) q t =
    specifier_read (Missing s (for_first p)) of_declaration q no_specifiers
    (Declares s (in_for p) ∷ []) q t (optional_at s (for_first p) q t)
    (λ r d ws us h. declares_specs (from_for_start h.stands (h.part _ no_terminal)))
    (optional_read s (for_first p) q t)
spot_read s (Before c) q t = optional_read s c q t
