-- What the machine makes of a token after an initialiser, a declarator of a declaration or an
-- expression of a statement, the grammar derives.
use Rattle.std.proofs.Common.{◌≡◌, ℕ, suc, ◌≤◌, Bool, true, false, List, [], ◌∷◌, refl, Option, Some, None, subst}
use Rattle.hv_base.specs.declared.place.Place.{Place}
use Rattle.hv_base.specs.declared.keyword.Keyword.TheVariants as keywords
use Rattle.hv_base.specs.declared.punct.Punct.{Punct}
use Rattle.hv_base.specs.declared.punct.Punct.TheVariants as puncts
use Rattle.hv_ctree.specs.tree.Expressions.{Expr, Specifiers, Declarator, no_pointers, place_of}
use Rattle.hv_ctree.specs.tree.Statements.{Designation, Initializer, braced as in_braces, Initializers, then_initializer, InitDeclarator, initialized, InitDeclarators, then_init_declarator, declaration, hollow_declaration, hollow_case, hollow_expression, hollow_if, hollow_if_else, hollow_switch, hollow_while, hollow_do_while, hollow_return}
use Rattle.hv_grammar.specs.Symbols.{Symbol, keyword, sign, hole, Marked, right_brace, comma_sign, semicolon}
use Rattle.hv_grammar.specs.Expressions.{Reads, r_no_comma, r_no_pointers}
use Rattle.hv_grammar.specs.Elements.{Standing, External, Item, loose, ReadsDesignation, ReadsInitializer, r_braced, ReadsInitializers, r_initializer, r_initializers, ReadsInitDeclarator, r_initialized, ReadsInitDeclarators, r_init_declarator, r_init_declarators, ReadsDeclaration, r_declaration, r_some, r_case, r_expression, r_if, r_if_else, r_switch, r_while, r_do_while, r_for, r_for_declaration, r_return, ReadsOption, ReadsElement, r_external, r_item_declaration}
use Rattle.hv_grammar.specs.machine.Parts.{Setting, FirstClause, Part, of_case, of_expression, of_if, of_switch, of_while, of_do, Optional, for_first, for_second, for_third, of_return, optional, for_skeleton, Fixed, the_hole, the_colon, the_semicolon, the_opening, the_closing, the_right_brace, the_while, the_else, fixed_symbol, meets, wanted, optional_closer, closer, after_optional, after_part, after_declaration}
use Rattle.hv_grammar.specs.machine.Frames.{only_named, Frame, Braces, Designated, Declares, Declaring, Initialized, Statement, depth}
use Rattle.hv_grammar.specs.machine.Steps.{loosely, spot, declared, declarator_place, initialized_at, item_place, part_at}
use Rattle.hv_grammar.proofs.Reached.{in_element, host_declaration, is_braces, InitializersFrom, no_initializer_yet, initializers_read, InitDeclaratorsFrom, no_init_yet, inits_read, StandsStatement, stands_external, stands_in_block, as_element, FirstFrom, expression_first, declaration_first, OptionalFrom, from_for, from_first, from_second, from_return, PartFrom, from_case, from_nothing, from_if, from_switch, from_while, from_do, from_optional, DeclaresFrom, from_start, from_for_start, b_braces, b_designated, b_declares, b_declaring, b_initialized, b_statement, Stacked, empty, more, Holds, PointingAt, Terminals, no_terminal, a_terminal, BeforeOptional, SpotRead, ItemAt, InitializedAt, Leads, once, branches, lowered}
use Rattle.hv_grammar.proofs.ArrivingInitializers.{item_begins}
use Rattle.hv_grammar.proofs.ArrivingStatements.{declarator_begins}

------ after a declaration

pub before_optional : {s : Standing} {c : Optional} {ws us : List Marked} → StandsStatement s
    → OptionalFrom c ws us → BeforeOptional s [] c ws us
before_optional k h = record { stands = k; part = λ vs t. go h vs t } where
  go : {c : Optional} {ws us : List Marked} → OptionalFrom c ws us → (vs : List Marked)
      → Terminals [] us vs → OptionalFrom c ws vs
  go h _ no_terminal = h

declaration_ends : {s : Standing} {c : Setting} {p : Place} {xs : Specifiers}
    {ds : InitDeclarators} {ts us vs : List Marked} → DeclaresFrom s c ts us
    → ReadsDeclaration us vs (declaration p xs ds)
    → SpotRead s (after_declaration c p xs ds) ts vs
declaration_ends (from_start stands_external) r = λ ws t. go r ws t where
  go : {p : Place} {xs : Specifiers} {ds : InitDeclarators} {us vs : List Marked}
      → ReadsDeclaration us vs (declaration p xs ds) → (ws : List Marked) → Terminals [] vs ws
      → ReadsElement External us ws (hollow_declaration p (declaration p xs ds))
  go r _ no_terminal = r_external r
declaration_ends (from_start stands_in_block) r = λ ws t. go r ws t where
  go : {p : Place} {xs : Specifiers} {ds : InitDeclarators} {us vs : List Marked}
      → ReadsDeclaration us vs (declaration p xs ds) → (ws : List Marked) → Terminals [] vs ws
      → ReadsElement Item us ws (hollow_declaration p (declaration p xs ds))
  go r _ no_terminal = r_item_declaration r
declaration_ends (from_for_start k (from_for p q)) r =
    before_optional k (from_first q (declaration_first r))

-- specifiers and declarators, whole
pub record DeclaredAt (stack : List Frame) (p : Place) (xs : Specifiers) (ds : InitDeclarators)
    (ws us : List Marked) : Type 0 where
  pub from : List Marked
  pub stacked : Stacked stack ws from
  pub reads : ReadsDeclaration from us (declaration p xs ds)

pub declared_read : (B : Bool → List Marked → List Marked → Type 0) (stack : List Frame)
    (p : Place) (xs : Specifiers) (ds : InitDeclarators) (q : Place)
    → ((ws us : List Marked) → B false ws (loose 0 q semicolon ∷ us)
    → DeclaredAt stack p xs ds ws us) → Leads B q semicolon (declared stack p xs ds)
declared_read B (Declares s c ∷ []) p xs ds q f =
    once (λ ws us h. let t = f ws us h in go t.stacked t.reads) where
      go : {ws from us : List Marked} → Stacked (Declares s c ∷ []) ws from
          → ReadsDeclaration from us (declaration p xs ds)
          → SpotRead s (after_declaration c p xs ds) ws us
      go (more empty _ _ (b_declares g)) r = declaration_ends g r
declared_read B _ p xs ds q f = tt

pub inits_with : {ds : InitDeclarators} {x : InitDeclarator} {ts us vs : List Marked}
    → InitDeclaratorsFrom ds ts us → ReadsInitDeclarator us vs x
    → ReadsInitDeclarators ts vs (then_init_declarator ds x)
inits_with no_init_yet r = r_init_declarator r
inits_with (inits_read q h) r = r_init_declarators q h r

------ after an initialiser

items_with : {d : ℕ} {xs : Initializers} {g : Designation} {x : Initializer}
    {ts us vs ws : List Marked} → InitializersFrom xs d ts us → ReadsDesignation d us vs g
    → ReadsInitializer d vs ws x
    → ReadsInitializers d ts ws (then_initializer xs (item_place g x) g x)
items_with no_initializer_yet k r = r_initializer (item_begins k r) k r
items_with (initializers_read q h) k r = r_initializers q h (item_begins k r) k r

-- an initialiser, whole
pub record InitializerRead (x : Initializer) (stack : List Frame) (ws us : List Marked) : Type 0
  where
    pub from : List Marked
    pub stacked : Stacked stack ws from
    pub reads : ReadsInitializer (depth stack) from us x

abbrev pub Initializing : Initializer → List Frame → Bool → List Marked → List Marked → Type 0
Initializing x stack y ws us = InitializerRead x stack ws us

item_comma : {g : Designation} {q : Place} {xs : Initializers} {x : Initializer}
    {st : List Frame} {ws from us : List Marked} (p : Place)
    → Stacked (Designated g ∷ Braces q xs ∷ st) ws from
    → ReadsInitializer (suc (depth st)) from (loose (suc (depth st)) p comma_sign ∷ us) x
    → ItemAt (Braces q (then_initializer xs (item_place g x) g x) ∷ st) ws us
item_comma p (more (more s f i (b_braces h)) _ _ (b_designated k)) r =
    record {
      braces = is_braces;
      stacked = more s f i (b_braces (initializers_read p (items_with h k r)));
    }

item_brace : {g : Designation} {q : Place} {xs : Initializers} {x : Initializer}
    {st : List Frame} {ws from us : List Marked} (p : Place)
    → Stacked (Designated g ∷ Braces q xs ∷ st) ws from
    → ReadsInitializer (suc (depth st)) from (loose (suc (depth st)) p right_brace ∷ us) x
    → InitializedAt (in_braces q (then_initializer xs (item_place g x) g x) false) st ws us
item_brace {q = q} p (more (more s f i (b_braces h)) _ _ (b_designated k)) r =
    record {
      from = _;
      host = i;
      stacked = s;
      reads = r_braced q p (items_with h k r) r_no_comma;
    }

init_comma : {y : Declarator} {p : Place} {xs : Specifiers} {ds : InitDeclarators}
    {x : Initializer} {st : List Frame} {ws from us : List Marked} (q : Place)
    → Stacked (Initialized y ∷ Declaring p xs ds ∷ st) ws from
    → ReadsInitializer (depth st) from (loose (depth st) q comma_sign ∷ us) x
    → PointingAt only_named p no_pointers
    (Declaring p xs (then_init_declarator ds (initialized (declarator_place y) y x)) ∷ st) ws us
init_comma q (more (more s f in_element (b_declaring k l g)) _ _ (b_initialized z d)) r = record {
  from = _;
  host = host_declaration;
  stacked =
      more s f in_element (b_declaring k l
      (inits_read q (inits_with g (r_initialized z (declarator_begins d) d r))));
  pointers = r_no_pointers;
  first = λ z b. b;
}

init_semicolon : {y : Declarator} {p : Place} {xs : Specifiers} {ds : InitDeclarators}
    {x : Initializer} {st : List Frame} {ws from us : List Marked} (q : Place)
    → Stacked (Initialized y ∷ Declaring p xs ds ∷ st) ws from
    → ReadsInitializer (depth st) from (loose 0 q semicolon ∷ us) x
    → DeclaredAt st p xs (then_init_declarator ds (initialized (declarator_place y) y x)) ws us
init_semicolon q (more (more s f in_element (b_declaring k l g)) _ _ (b_initialized z d)) r =
    record {
      from = _;
      stacked = s;
      reads = r_declaration q k l (inits_with g (r_initialized z (declarator_begins d) d r));
    }

pub initialized_read : (stack : List Frame) (x : Initializer) (p : Place) (s : Punct)
    → Leads (Initializing x stack) p (sign s) (initialized_at stack x s)
initialized_read (Designated g ∷ Braces q xs ∷ st) x p puncts.Comma =
    once (λ ws us h. item_comma p h.stacked h.reads)
initialized_read (Designated g ∷ Braces q xs ∷ st) x p puncts.RightBrace =
    once (λ ws us h. item_brace p h.stacked h.reads)
initialized_read (Initialized y ∷ Declaring q xs ds ∷ st) x p puncts.Comma =
    once (λ ws us h. init_comma p h.stacked h.reads)
initialized_read (Initialized y ∷ Declaring q xs ds ∷ st) x p puncts.Semicolon =
    declared_read (Initializing x (Initialized y ∷ Declaring q xs ds ∷ st)) st q xs
    (then_init_declarator ds (initialized (declarator_place y) y x)) p
    (λ ws us h. init_semicolon p h.stacked h.reads)
initialized_read _ x p s = tt

------ after an expression of a statement

pub meets_symbol : (e : Fixed) (t : Symbol) → meets e t ≡ true → t ≡ fixed_symbol e
meets_symbol the_hole hole h = refl
meets_symbol the_colon (sign puncts.Colon) h = refl
meets_symbol the_semicolon (sign puncts.Semicolon) h = refl
meets_symbol the_opening (sign puncts.LeftParenthesis) h = refl
meets_symbol the_closing (sign puncts.RightParenthesis) h = refl
meets_symbol the_right_brace (sign puncts.RightBrace) h = refl
meets_symbol the_while (keyword keywords.While) h = refl
meets_symbol the_else (keyword keywords.Else) h = refl
meets_symbol _ _ h = cc

for_ends : {s : Standing} {f : FirstClause} {b c : Option Expr} {ts us vs ws : List Marked}
    → StandsStatement s → (p q y z : Place) → FirstFrom f ts us
    → ReadsOption us (loose 0 y semicolon ∷ vs) b
    → ReadsOption vs (loose 0 z (sign puncts.RightParenthesis) ∷ ws) c
    → (os : List Marked) → Terminals (the_hole ∷ []) ws os
    → ReadsElement s (loose 0 p (keyword keywords.For) ∷ loose 0 q (sign puncts.LeftParenthesis)
    ∷ ts) os (for_skeleton p f b c)
for_ends k p q y z (expression_first x a) b c _ (a_terminal h no_terminal) =
    as_element k (r_for p q x y z h a b c)
for_ends k p q y z (declaration_first g) b c _ (a_terminal h no_terminal) =
    as_element k (r_for_declaration p q y z h g b c)

return_ends : {s : Standing} {a : Option Expr} {ts us : List Marked} → StandsStatement s
    → (p q : Place) → ReadsOption ts (loose 0 q semicolon ∷ us) a → (vs : List Marked)
    → Terminals [] us vs
    → ReadsElement s (loose 0 p (keyword keywords.Return) ∷ ts) vs (hollow_return p a)
return_ends k p q r _ no_terminal = as_element k (r_return p q r)

-- an expression that may be missing, and what stands after it
pub optional_ends : {s : Standing} (c : Optional) {a : Option Expr} {ts us vs : List Marked}
    (q : Place) → StandsStatement s → OptionalFrom c ts us
    → ReadsOption us (loose 0 q (fixed_symbol (optional_closer c)) ∷ vs) a
    → SpotRead s (after_optional c a) ts vs
optional_ends (for_first p) q k (from_for _ x) r =
    before_optional k (from_first x (expression_first q r))
optional_ends (for_second p f) q k (from_first x g) r = before_optional k (from_second x q g r)
optional_ends (for_third p f b) q k (from_second x y g h) r = λ vs t. for_ends k p x y q g h r vs t
optional_ends (of_return p) q k (from_return _) r = λ vs t. return_ends k p q r vs t

case_ends : {s : Standing} {a : Expr} {ts us : List Marked} → StandsStatement s → (p q : Place)
    → Reads 0 2 ts (loose 0 q (sign puncts.Colon) ∷ us) a → (vs : List Marked)
    → Terminals (the_hole ∷ []) us vs
    → ReadsElement s (loose 0 p (keyword keywords.Case) ∷ ts) vs (hollow_case p a 0)
case_ends k p q r _ (a_terminal h no_terminal) = as_element k (r_case p q h r)

expression_ends : {s : Standing} {a : Expr} {ts us : List Marked} → StandsStatement s
    → (q : Place) → Reads 0 0 ts (loose 0 q semicolon ∷ us) a → (vs : List Marked)
    → Terminals [] us vs → ReadsElement s ts vs (hollow_expression (place_of a) (Some a))
expression_ends k q r _ no_terminal = as_element k (r_expression q r)

if_ends : {s : Standing} {a : Expr} {ts us : List Marked} → StandsStatement s → (p q x : Place)
    → Reads 0 0 ts (loose 0 x (sign puncts.RightParenthesis) ∷ us) a → (vs : List Marked)
    → Terminals (the_hole ∷ []) us vs
    → ReadsElement s (loose 0 p (keyword keywords.If) ∷ loose 0 q (sign puncts.LeftParenthesis)
    ∷ ts) vs (hollow_if p a 0)
if_ends k p q x r _ (a_terminal h no_terminal) = as_element k (r_if p q x h r)

if_else_ends : {s : Standing} {a : Expr} {ts us : List Marked} → StandsStatement s
    → (p q x : Place) → Reads 0 0 ts (loose 0 x (sign puncts.RightParenthesis) ∷ us) a
    → (vs : List Marked) → Terminals (the_hole ∷ the_else ∷ the_hole ∷ []) us vs
    → ReadsElement s (loose 0 p (keyword keywords.If) ∷ loose 0 q (sign puncts.LeftParenthesis)
    ∷ ts) vs (hollow_if_else p a 0 1)
if_else_ends k p q x r _ (a_terminal h (a_terminal e (a_terminal i no_terminal))) =
    as_element k (r_if_else p q x h e i r)

switch_ends : {s : Standing} {a : Expr} {ts us : List Marked} → StandsStatement s
    → (p q x : Place) → Reads 0 0 ts (loose 0 x (sign puncts.RightParenthesis) ∷ us) a
    → (vs : List Marked) → Terminals (the_hole ∷ []) us vs
    → ReadsElement s (loose 0 p (keyword keywords.Switch)
    ∷ loose 0 q (sign puncts.LeftParenthesis) ∷ ts) vs (hollow_switch p a 0)
switch_ends k p q x r _ (a_terminal h no_terminal) = as_element k (r_switch p q x h r)

while_ends : {s : Standing} {a : Expr} {ts us : List Marked} → StandsStatement s
    → (p q x : Place) → Reads 0 0 ts (loose 0 x (sign puncts.RightParenthesis) ∷ us) a
    → (vs : List Marked) → Terminals (the_hole ∷ []) us vs
    → ReadsElement s (loose 0 p (keyword keywords.While)
    ∷ loose 0 q (sign puncts.LeftParenthesis) ∷ ts) vs (hollow_while p a 0)
while_ends k p q x r _ (a_terminal h no_terminal) = as_element k (r_while p q x h r)

do_ends : {s : Standing} {a : Expr} {ts us : List Marked} → StandsStatement s
    → (p h w q x : Place) → Reads 0 0 ts (loose 0 x (sign puncts.RightParenthesis) ∷ us) a
    → (vs : List Marked) → Terminals (the_semicolon ∷ []) us vs
    → ReadsElement s (loose 0 p (keyword keywords.Do) ∷ loose 0 h hole
    ∷ loose 0 w (keyword keywords.While) ∷ loose 0 q (sign puncts.LeftParenthesis) ∷ ts) vs
    (hollow_do_while p 0 a)
do_ends k p h w q x r _ (a_terminal z no_terminal) = as_element k (r_do_while p h w q x z r)

-- the expression, and what stands after it
part_ends : {s : Standing} (c : Part) {a : Expr} {ts us vs : List Marked} (q : Place)
    → StandsStatement s → PartFrom c ts us
    → Reads 0 (wanted c) us (loose 0 q (fixed_symbol (closer c)) ∷ vs) a
    → SpotRead s (after_part c a) ts vs
part_ends (of_case p) q k (from_case _) r = λ vs t. case_ends k p q r vs t
part_ends of_expression q k from_nothing r = λ vs t. expression_ends k q r vs t
part_ends (of_if p) q k (from_if _ x) r =
    (λ vs t. if_ends k p x q r vs t, λ vs t. if_else_ends k p x q r vs t)
part_ends (of_switch p) q k (from_switch _ x) r = λ vs t. switch_ends k p x q r vs t
part_ends (of_while p) q k (from_while _ x) r = λ vs t. while_ends k p x q r vs t
part_ends (of_do p) q k (from_do _ h w x) r = λ vs t. do_ends k p h w x q r vs t
part_ends (optional c) q k (from_optional g) r = optional_ends c q k g (r_some r)

pub part_read : (s : Standing) (c : Part) (l : ℕ) (b : Expr) (p : Place) (t : Symbol)
    → Leads (λ x ws us. Holds l (Statement s c ∷ []) b ws us) p t (part_at s c b t)
part_read s c l b p t =
    branches (λ x ws us. Holds l (Statement s c ∷ []) b ws us) p t (meets (closer c) t)
    (loosely (spot s (after_part c b)) 0) None
    (λ e. once (λ ws us h. go (meets_symbol (closer c) t e) h.fits h.stacked h.reads)) (λ e. tt)
  where
    go : {ws from us : List Marked} → t ≡ fixed_symbol (closer c) → wanted c ≤ l
        → Stacked (Statement s c ∷ []) ws from → Reads 0 l from (loose 0 p t ∷ us) b
        → SpotRead s (after_part c b) ws us
    go {from = from} {us = us} e le (more empty _ _ (b_statement k g)) r =
        part_ends c p k g (lowered (wanted c) l le
        (subst (λ (y : Symbol). Reads 0 l from (loose 0 p y ∷ us) b) e r))
