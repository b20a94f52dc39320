-- Initialisers: a step of the pure machine is seen in the control as its step.
use Rattle.std.proofs.Common.{◌≡◌, List, ◌∷◌, refl}
use Rattle.hv_base.specs.declared.place.Place.{Place}
use Rattle.hv_base.specs.declared.punct.Punct.{Punct}
use Rattle.hv_base.specs.declared.punct.Punct.TheVariants as puncts
use Rattle.hv_ctree.specs.tree.Statements.{Designation, no_designation, Initializer, then_initializer}
use Rattle.hv_grammar.specs.Symbols.{Symbol, name, sign}
use Rattle.hv_grammar.specs.machine.Frames as plain
use Rattle.hv_grammar.specs.machine.Steps as plain_steps
use Rattle.hv_cparse.specs.Control.{frames_of, class_of}
use Rattle.hv_cparse.specs.working.Steps as steps
use Rattle.hv_cparse.specs.working.Seen.{seen}
use Rattle.hv_cparse.proofs.Shadows.{depth_seen}
use Rattle.hv_cparse.proofs.SpecifiersSeen.{operand_seen}
use Rattle.hv_cparse.proofs.DeclarationsSeen.{item_seen, value_seen}

pub initializer_seen : (stack : List plain.Frame) (q : Place) (s : Symbol)
    → seen (plain_steps.step_initializer stack q s)
    ≡ steps.step_initializer (frames_of stack) (class_of s)
initializer_seen stack q (sign puncts.LeftBrace) = rw (depth_seen stack) refl
initializer_seen stack q s = operand_seen stack q s

braces_ended_seen : (stack : List plain.Frame)
    → seen (plain_steps.braces_ended stack) ≡ steps.braces_ended (frames_of stack)
braces_ended_seen (plain.Braces q (then_initializer xs p g x) ∷ stack) = rw (depth_seen stack) refl
braces_ended_seen _ = refl

pub braces_seen : (stack : List plain.Frame) (q : Place) (s : Symbol)
    → seen (plain_steps.step_braces stack q s) ≡ steps.step_braces (frames_of stack) (class_of s)
braces_seen stack q (sign puncts.LeftBracket) = rw (depth_seen stack) refl
braces_seen stack q (sign puncts.Dot) = rw (depth_seen stack) refl
braces_seen stack q (sign puncts.RightBrace) = braces_ended_seen stack
braces_seen stack q s = initializer_seen (plain.Designated no_designation ∷ stack) q s

pub dot_seen : (p : Place) (stack : List plain.Frame) (s : Symbol)
    → seen (plain_steps.step_dot p stack s) ≡ steps.step_dot (frames_of stack) (class_of s)
dot_seen p stack (name n) = rw (depth_seen stack) refl
dot_seen p stack _ = refl

pub designator_seen : (g : Designation) (stack : List plain.Frame) (s : Symbol)
    → seen (plain_steps.step_designator g stack s)
    ≡ steps.step_designator (frames_of stack) (class_of s)
designator_seen g stack (sign puncts.Equal) = rw (depth_seen stack) refl
designator_seen g stack _ = refl

initialized_sign_seen : (stack : List plain.Frame) (x : Initializer) (s : Punct)
    → seen (plain_steps.initialized_at stack x s) ≡ steps.initialized_at (frames_of stack) s
initialized_sign_seen (plain.Designated g ∷ stack) x s = item_seen g stack x s
initialized_sign_seen (plain.Initialized y ∷ stack) x s = value_seen y stack x s
initialized_sign_seen _ x s = refl

pub initialized_seen : (stack : List plain.Frame) (x : Initializer) (s : Symbol)
    → seen (plain_steps.step_initialized stack x s)
    ≡ steps.step_initialized (frames_of stack) (class_of s)
initialized_seen stack x (sign s) = initialized_sign_seen stack x s
initialized_seen stack x _ = refl
