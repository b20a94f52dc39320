-- Declarations, and signs after initialisers: a step of the pure machine is seen in the control as
-- its step.
use Rattle.std.proofs.Common.{◌≡◌, List, [], ◌∷◌, refl}
use Rattle.hv_base.specs.declared.place.Place.{Place}
use Rattle.hv_base.specs.declared.punct.Punct.{Punct}
use Rattle.hv_base.specs.declared.punct.Punct.TheVariants as puncts
use Rattle.hv_ctree.specs.tree.Expressions.{Specifiers, Declarator}
use Rattle.hv_ctree.specs.tree.Statements.{Designation, Initializer, bare, initialized, InitDeclarators, no_init_declarators, then_init_declarator}
use Rattle.hv_grammar.specs.Elements as elements
use Rattle.hv_grammar.specs.machine.Parts as plain_parts
use Rattle.hv_grammar.specs.machine.Frames as plain
use Rattle.hv_grammar.specs.machine.Steps as plain_steps
use Rattle.hv_cparse.specs.Control.{setting_of, frames_of, has_declarators}
use Rattle.hv_cparse.specs.working.Steps as steps
use Rattle.hv_cparse.specs.working.Seen.{seen}
use Rattle.hv_cparse.proofs.Shadows.{depth_seen}

after_declaration_seen : (s : elements.Standing) (c : plain_parts.Setting) (p : Place)
    (xs : Specifiers) (ds : InitDeclarators)
    → seen (plain_steps.loosely (plain_steps.spot s (plain_parts.after_declaration c p xs ds)) 0)
    ≡ steps.after_declaration (setting_of s c) []
after_declaration_seen elements.External plain_parts.alone p xs ds = refl
after_declaration_seen elements.Item plain_parts.alone p xs ds = refl
after_declaration_seen elements.Nested plain_parts.alone p xs ds = refl
after_declaration_seen elements.External (plain_parts.in_for f) p xs ds = refl
after_declaration_seen elements.Item (plain_parts.in_for f) p xs ds = refl
after_declaration_seen elements.Nested (plain_parts.in_for f) p xs ds = refl

pub declared_seen : (stack : List plain.Frame) (p : Place) (xs : Specifiers) (ds : InitDeclarators)
    → seen (plain_steps.declared stack p xs ds) ≡ steps.declared (frames_of stack)
declared_seen (plain.Declares s c ∷ []) p xs ds = after_declaration_seen s c p xs ds
declared_seen _ p xs ds = refl

pub item_seen : (g : Designation) (stack : List plain.Frame) (x : Initializer) (s : Punct)
    → seen (plain_steps.initialized_at (plain.Designated g ∷ stack) x s)
    ≡ steps.after_item (frames_of stack) s
item_seen g (plain.Braces q xs ∷ stack) x puncts.Comma = rw (depth_seen stack) refl
item_seen g (plain.Braces q xs ∷ stack) x puncts.RightBrace = rw (depth_seen stack) refl
item_seen g _ x s = refl

pub value_seen : (y : Declarator) (stack : List plain.Frame) (x : Initializer) (s : Punct)
    → seen (plain_steps.initialized_at (plain.Initialized y ∷ stack) x s)
    ≡ steps.after_value (frames_of stack) s
value_seen y (plain.Declaring p xs ds ∷ stack) x puncts.Comma = rw (depth_seen stack) refl
value_seen y (plain.Declaring p xs ds ∷ stack) x puncts.Semicolon =
    declared_seen stack p xs
    (then_init_declarator ds (initialized (plain_steps.declarator_place y) y x))
value_seen y _ x s = refl

pub init_seen : (p : Place) (xs : Specifiers) (ds : InitDeclarators) (stack : List plain.Frame)
    (x : Declarator) (s : Punct)
    → seen (plain_steps.after_init (plain.Declaring p xs ds ∷ stack) x s)
    ≡ steps.after_init (has_declarators ds) (frames_of stack) s
init_seen p xs ds stack x puncts.Comma = rw (depth_seen stack) refl
init_seen p xs ds stack x puncts.Equal = rw (depth_seen stack) refl
init_seen p xs ds stack x puncts.Semicolon =
    declared_seen stack p xs (then_init_declarator ds (bare (plain_steps.declarator_place x) x))
init_seen p xs ds stack x _ = refl

-- only a file's declaration, with no declarator before, may be a function's
body_elsewhere : (s : elements.Standing) (c : plain_parts.Setting)
    (stack : List plain.Frame) (p : Place) (xs : Specifiers) (x : Declarator) (q : Place)
    → seen (plain_steps.body_at (plain.Declaring p xs no_init_declarators ∷ plain.Declares s c
    ∷ stack) x q) ≡ steps.body_at (frames_of (plain.Declaring p xs no_init_declarators
    ∷ plain.Declares s c ∷ stack))
body_elsewhere elements.External plain_parts.alone [] p xs x q = refl
body_elsewhere elements.External plain_parts.alone (f ∷ stack) p xs x q = refl
body_elsewhere elements.External (plain_parts.in_for r) stack p xs x q = refl
body_elsewhere elements.Item plain_parts.alone stack p xs x q = refl
body_elsewhere elements.Item (plain_parts.in_for r) stack p xs x q = refl
body_elsewhere elements.Nested plain_parts.alone stack p xs x q = refl
body_elsewhere elements.Nested (plain_parts.in_for r) stack p xs x q = refl

pub body_seen : (stack : List plain.Frame) (x : Declarator) (q : Place)
    → seen (plain_steps.body_at stack x q) ≡ steps.body_at (frames_of stack)
body_seen (plain.Declaring p xs no_init_declarators ∷ plain.Declares s c ∷ stack) x q =
    body_elsewhere s c stack p xs x q
body_seen _ x q = refl
