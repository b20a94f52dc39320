-- Tokens after an operand: a step of the pure machine is seen in the control as its step.
use Rattle.std.specs.Prelude.{nat_le}
use Rattle.std.proofs.Common.{◌≡◌, ℕ, Bool, false, List, [], ◌∷◌, Option, Some, None, refl, ap, ◌∙◌}
use Rattle.hv_base.specs.declared.place.Place.{Place}
use Rattle.hv_base.specs.declared.punct.Punct.{Punct}
use Rattle.hv_base.specs.declared.punct.Punct.TheVariants as puncts
use Rattle.hv_ctree.specs.declared.tree.words.Selector.{Selector}
use Rattle.hv_ctree.specs.tree.Expressions.{Expr, TypeSpecifier, MayTag, Enumerators, of_type, enumeration, listed, then_enumerator, valued, place_of}
use Rattle.hv_ctree.specs.tree.Statements.{value}
use Rattle.hv_grammar.specs.Symbols.{Symbol, name, sign, right_paren, colon, semicolon}
use Rattle.hv_grammar.specs.Expressions.{braced}
use Rattle.hv_grammar.specs.machine.Frames as plain
use Rattle.hv_grammar.specs.machine.Steps as plain_steps
use Rattle.hv_grammar.specs.machine.Steps.{Taken}
use Rattle.hv_cparse.specs.declared.frame.Frame.TheVariants.{Listing}
use Rattle.hv_cparse.specs.Control.{frames_of, frames_at, at_of, class_of, has_enumerators}
use Rattle.hv_cparse.specs.working.Tables.{Reduced, hole_of, depth, reduce}
use Rattle.hv_cparse.specs.working.Steps as steps
use Rattle.hv_cparse.specs.working.Steps.{Moved}
use Rattle.hv_cparse.specs.working.Seen.{seen, reduced_in, infix_in, infix_within}
use Rattle.hv_cparse.proofs.Shadows.{both, depth_seen, within_seen, stars_seen, hole_of_seen, reduce_seen}
use Rattle.hv_cparse.proofs.SpecifiersSeen.{leaf_seen}
use Rattle.hv_cparse.proofs.DeclarationsSeen.{item_seen, value_seen}
use Rattle.hv_cparse.proofs.PartsSeen.{part_seen}

left_seen : (i : plain.Infix) → plain.left i ≡ steps.left (infix_in i)
left_seen plain.by_question = refl
left_seen _ = refl

reach_seen : (i : plain.Infix) → plain.reach i ≡ steps.reach (infix_in i)
reach_seen plain.by_question = refl
reach_seen _ = refl

makes_seen : (i : plain.Infix) → plain.makes i ≡ steps.makes (infix_in i)
makes_seen plain.by_question = refl
makes_seen _ = refl

begun_seen : (i : plain.Infix) (stack : List plain.Frame) (a : Expr)
    → seen (plain_steps.loud (plain_steps.want (plain.begun i a ∷ stack))
    (plain.weigh_at i (plain.depth stack)))
    ≡ steps.infix_begun (infix_in i) (frames_of stack)
begun_seen plain.by_question stack a = rw (depth_seen stack) refl
begun_seen _ stack a = rw (depth_seen stack) refl

infix_seen : (i : plain.Infix) (r : plain_steps.Reduced) (other : Option Taken)
    (next : Option Moved) → seen other ≡ next
    → seen (plain_steps.infix_at i r other) ≡ steps.infix_at (infix_in i) (frames_of r.stack) next
infix_seen i r other next h =
    both seen (nat_le (plain.hole_of r.stack) (plain.makes i))
    (nat_le (hole_of (frames_of r.stack)) (steps.makes (infix_in i))) _ _ _ _
    (ap (λ (n : ℕ). nat_le n (plain.makes i)) (hole_of_seen r.stack)
    ∙ ap (nat_le (hole_of (frames_of r.stack))) (makes_seen i))
    (begun_seen i r.stack r.operand) h

level_seen : (i : plain.Infix) (r : plain_steps.Reduced)
    → seen (plain_steps.infix_of_level i r) ≡ steps.infix_of_level (infix_in i) (reduced_in r)
level_seen i r =
    both seen (nat_le (plain.left i) r.level) (nat_le (steps.left (infix_in i)) r.level) _ _ _ _
    (ap (λ (n : ℕ). nat_le n r.level) (left_seen i)) (infix_seen i r None None refl) refl

goes_on_seen : (i : plain.Infix) (k : ℕ) (stack : List plain.Frame) (a : Expr)
    → seen (plain_steps.goes_on i k stack a) ≡ steps.goes_on (infix_in i) k (frames_of stack)
goes_on_seen i k stack a =
    level_seen i (plain_steps.reduce (plain.reach i) stack k a)
    ∙ ap (steps.infix_of_level (infix_in i)) (reduce_seen (plain.reach i) stack k a
    ∙ ap (λ (n : ℕ). reduce n (frames_of stack) k) (reach_seen i))

goes_by_seen : (o : Option plain.Infix) (k : ℕ) (stack : List plain.Frame) (a : Expr)
    → seen (plain_steps.goes_by o k stack a) ≡ steps.goes_by (infix_within o) k (frames_of stack)
goes_by_seen None k stack a = refl
goes_by_seen (Some i) k stack a = goes_on_seen i k stack a

pub specified_seen : (stack : List plain.Frame) (q p : Place) (d e : ℕ) (t : TypeSpecifier) → d ≡ e
    → seen (plain_steps.specified stack q d (of_type p t)) ≡ steps.specified (frames_of stack) e
specified_seen (plain.Specified o r xs ∷ stack) q p d e t h = rw (within_seen stack, h) refl
specified_seen _ q p d e t h = refl

pub listed_seen : (stack : List plain.Frame) (q : Place) (t : MayTag) (es : Enumerators) (b c : Bool)
    → seen (plain_steps.listed_at stack q t es c)
    ≡ steps.end_listing (Listing b ∷ frames_of stack)
listed_seen stack q t es b c =
    specified_seen stack q q (braced (plain.depth stack)) (braced (depth (frames_of stack)))
    (enumeration q (listed q t es c)) (ap braced (depth_seen stack))

argument_seen : (stack : List plain.Frame) (b : Expr)
    → seen (plain_steps.argument_at stack b) ≡ steps.argument_at (frames_of stack)
argument_seen (plain.Callee a ∷ stack) b = rw (depth_seen stack) refl
argument_seen (plain.Calling a xs ∷ stack) b = rw (depth_seen stack) refl
argument_seen (plain.Valued p n ∷ plain.Listing q t es ∷ stack) b =
    rw (depth_seen stack, within_seen stack) refl
argument_seen (plain.Designated g ∷ stack) b =
    item_seen g stack (value (place_of b) b) puncts.Comma
argument_seen (plain.Initialized x ∷ stack) b =
    value_seen x stack (value (place_of b) b) puncts.Comma
argument_seen _ b = refl

comma_seen : (r : plain_steps.Reduced)
    → seen (plain_steps.comma_at r) ≡ steps.comma_at (frames_of r.stack)
comma_seen r = infix_seen plain.by_comma r _ _ (argument_seen r.stack r.operand)

close_seen : (stack : List plain.Frame) (b : Expr)
    → seen (plain_steps.close_at stack b) ≡ steps.close_at (frames_of stack)
close_seen (plain.Parenthesis p ∷ stack) b = rw (depth_seen stack) refl
close_seen (plain.Callee a ∷ stack) b = rw (depth_seen stack) refl
close_seen (plain.Calling a xs ∷ stack) b = rw (depth_seen stack) refl
close_seen (plain.Statement s c ∷ []) b = part_seen s c b right_paren
close_seen _ b = refl

bracket_seen : (stack : List plain.Frame) (b : Expr)
    → seen (plain_steps.bracket_at stack b) ≡ steps.bracket_at (frames_of stack)
bracket_seen (plain.Subscript a ∷ stack) b = rw (depth_seen stack) refl
bracket_seen (plain.Length m p ps c ss q qs ∷ stack) b =
    rw (depth_seen stack, stars_seen ps (depth (frames_of stack)), within_seen stack) refl
bracket_seen (plain.Index p ∷ stack) b = rw (depth_seen stack) refl
bracket_seen _ b = refl

brace_seen : (stack : List plain.Frame) (b : Expr)
    → seen (plain_steps.brace_at stack b) ≡ steps.brace_at (frames_of stack)
brace_seen (plain.Valued p n ∷ plain.Listing q t es ∷ stack) b =
    listed_seen stack q t (then_enumerator es (valued p n b)) (has_enumerators es) false
brace_seen (plain.Designated g ∷ stack) b =
    item_seen g stack (value (place_of b) b) puncts.RightBrace
brace_seen _ b = refl

colon_seen : (stack : List plain.Frame) (b : Expr)
    → seen (plain_steps.colon_at stack b) ≡ steps.colon_at (frames_of stack)
colon_seen (plain.Then a ∷ stack) b = rw (depth_seen stack) refl
colon_seen (plain.Statement s c ∷ []) b = part_seen s c b colon
colon_seen _ b = refl

semicolon_seen : (stack : List plain.Frame) (b : Expr)
    → seen (plain_steps.semicolon_at stack b) ≡ steps.semicolon_at (frames_of stack)
semicolon_seen (plain.Initialized x ∷ stack) b =
    value_seen x stack (value (place_of b) b) puncts.Semicolon
semicolon_seen (plain.Statement s c ∷ []) b = part_seen s c b semicolon
semicolon_seen _ b = refl

postfix_seen : (k : ℕ) (stack : List plain.Frame) (a : plain.At)
    → frames_at a stack ≡ frames_of stack → seen (plain_steps.after_postfix k
    (plain_steps.loud (plain_steps.state stack a) (plain.depth stack)))
    ≡ steps.after_postfix k (frames_of stack) (at_of a)
postfix_seen k stack a h =
    both seen (nat_le 15 k) (nat_le 15 k) _ _ _ _ refl (rw (h, depth_seen stack) refl) refl

have_sign_seen : (stack : List plain.Frame) (k : ℕ) (a : Expr) (s : Punct)
    → seen (plain_steps.have_sign stack k a s) ≡ steps.have_sign (frames_of stack) k s
have_sign_seen stack k a puncts.Comma =
    comma_seen (plain_steps.reduce 0 stack k a)
    ∙ ap (λ (r : Reduced). steps.comma_at r.stack) (reduce_seen 0 stack k a)
have_sign_seen stack k a puncts.RightParenthesis =
    close_seen (plain_steps.reduce 0 stack k a).stack (plain_steps.reduce 0 stack k a).operand
    ∙ ap (λ (r : Reduced). steps.close_at r.stack) (reduce_seen 0 stack k a)
have_sign_seen stack k a puncts.RightBracket =
    bracket_seen (plain_steps.reduce 0 stack k a).stack (plain_steps.reduce 0 stack k a).operand
    ∙ ap (λ (r : Reduced). steps.bracket_at r.stack) (reduce_seen 0 stack k a)
have_sign_seen stack k a puncts.RightBrace =
    brace_seen (plain_steps.reduce 0 stack k a).stack (plain_steps.reduce 0 stack k a).operand
    ∙ ap (λ (r : Reduced). steps.brace_at r.stack) (reduce_seen 0 stack k a)
have_sign_seen stack k a puncts.Colon =
    colon_seen (plain_steps.reduce 0 stack k a).stack (plain_steps.reduce 0 stack k a).operand
    ∙ ap (λ (r : Reduced). steps.colon_at r.stack) (reduce_seen 0 stack k a)
have_sign_seen stack k a puncts.Semicolon =
    semicolon_seen (plain_steps.reduce 0 stack k a).stack (plain_steps.reduce 0 stack k a).operand
    ∙ ap (λ (r : Reduced). steps.semicolon_at r.stack) (reduce_seen 0 stack k a)
have_sign_seen stack k a puncts.Dot = postfix_seen k stack _ refl
have_sign_seen stack k a puncts.Arrow = postfix_seen k stack _ refl
have_sign_seen stack k a puncts.PlusPlus = postfix_seen k stack _ refl
have_sign_seen stack k a puncts.MinusMinus = postfix_seen k stack _ refl
have_sign_seen stack k a s = goes_by_seen (plain_steps.infix_of s) k stack a

pub have_seen : (stack : List plain.Frame) (k : ℕ) (a : Expr) (s : Symbol)
    → seen (plain_steps.step_have stack k a s) ≡ steps.step_have (frames_of stack) k (class_of s)
have_seen stack k a (sign s) = have_sign_seen stack k a s
have_seen stack k a _ = refl

pub selecting_seen : (stack : List plain.Frame) (x : Selector) (a : Expr) (s : Symbol)
    → seen (plain_steps.step_selecting stack x a s)
    ≡ steps.step_selecting (frames_of stack) (class_of s)
selecting_seen stack x a (name n) = leaf_seen stack a
selecting_seen stack x a _ = refl
