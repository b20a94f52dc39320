-- Specifiers, and tokens where an operand is wanted: a step of the pure machine is seen in the
-- control as its step.
use Rattle.std.specs.Prelude.{nat_le}
use Rattle.std.proofs.Common.{◌≡◌, ℕ, Bool, true, false, cond, List, ◌∷◌, Option, Some, None, refl, ap, ◌∙◌}
use Rattle.hv_base.specs.declared.place.Place.{Place}
use Rattle.hv_base.specs.declared.keyword.Keyword.{Keyword}
use Rattle.hv_base.specs.declared.keyword.Keyword.TheVariants as keywords
use Rattle.hv_base.specs.declared.punct.Punct.{Punct}
use Rattle.hv_base.specs.declared.punct.Punct.TheVariants as puncts
use Rattle.hv_ctree.specs.declared.tree.words.StorageClass.{StorageClass}
use Rattle.hv_ctree.specs.declared.tree.words.TypeQualifier.{TypeQualifier}
use Rattle.hv_ctree.specs.declared.tree.words.Step.TheVariants.{Increment, Decrement}
use Rattle.hv_ctree.specs.declared.tree.words.UnaryOperator.TheVariants.{Address, Indirection, Plus, Minus, Complement, Not}
use Rattle.hv_ctree.specs.tree.Expressions.{Expr, identifier, constant, string, no_specifiers, Specifiers, TypeSpecifier, storage, of_type, qualifier, inline, then_specifier, typedef_name}
use Rattle.hv_grammar.specs.Symbols.{Symbol, keyword, name, marked, number, text, sign}
use Rattle.hv_grammar.specs.Expressions.{has_type}
use Rattle.hv_grammar.specs.machine.Frames as plain
use Rattle.hv_grammar.specs.machine.Steps as plain_steps
use Rattle.hv_grammar.specs.machine.Steps.{Taken}
use Rattle.hv_cparse.specs.Control.{owner_of, frame_of, frames_of, class_of}
use Rattle.hv_cparse.specs.declared.class.Specifier.TheVariants.{Word}
use Rattle.hv_cparse.specs.declared.frame.At.TheVariants.{Want}
use Rattle.hv_cparse.specs.working.Tables.{hole_of}
use Rattle.hv_cparse.specs.working.Steps as steps
use Rattle.hv_cparse.specs.working.Steps.{Moved}
use Rattle.hv_cparse.specs.working.Seen.{seen}
use Rattle.hv_cparse.proofs.Shadows.{both, depth_seen, within_seen, hole_of_seen}

storage_seen : (o : plain.Owner) (p : Place) (xs : Specifiers) (stack : List plain.Frame)
    (q : Place) (c : StorageClass) (other : Option Taken)
    → seen (plain_steps.worded o p xs stack (Some (storage q c)) other)
    ≡ steps.begin (steps.parameter_word (owner_of o) (has_type xs)) (owner_of o) (frames_of stack)
    (seen other)
storage_seen plain.of_parameter p xs stack q c other =
    rw (depth_seen stack, within_seen stack) refl
storage_seen plain.of_declaration p xs stack q c other =
    rw (depth_seen stack, within_seen stack) refl
storage_seen plain.of_type_name p xs stack q c other = refl
storage_seen plain.of_member p xs stack q c other = refl

inline_seen : (o : plain.Owner) (p : Place) (xs : Specifiers) (stack : List plain.Frame)
    (q : Place) (other : Option Taken)
    → seen (plain_steps.worded o p xs stack (Some (inline q)) other)
    ≡ steps.begin (steps.parameter_word (owner_of o) (has_type xs)) (owner_of o) (frames_of stack)
    (seen other)
inline_seen plain.of_parameter p xs stack q other = rw (depth_seen stack, within_seen stack) refl
inline_seen plain.of_declaration p xs stack q other =
    rw (depth_seen stack, within_seen stack) refl
inline_seen plain.of_type_name p xs stack q other = refl
inline_seen plain.of_member p xs stack q other = refl

qualifier_seen : (o : plain.Owner) (p : Place) (xs : Specifiers) (stack : List plain.Frame)
    (q : Place) (c : TypeQualifier) (other : Option Taken)
    → seen (plain_steps.worded o p xs stack (Some (qualifier q c)) other)
    ≡ steps.begun_by (Word (has_type xs)) (owner_of o) (frames_of stack)
qualifier_seen plain.of_parameter p xs stack q c other =
    rw (depth_seen stack, within_seen stack) refl
qualifier_seen plain.of_type_name p xs stack q c other =
    rw (depth_seen stack, within_seen stack) refl
qualifier_seen plain.of_member p xs stack q c other =
    rw (depth_seen stack, within_seen stack) refl
qualifier_seen plain.of_declaration p xs stack q c other =
    rw (depth_seen stack, within_seen stack) refl

type_seen : (o : plain.Owner) (p : Place) (xs : Specifiers) (stack : List plain.Frame) (q : Place)
    (t : TypeSpecifier) (other : Option Taken)
    → seen (plain_steps.worded o p xs stack (Some (of_type q t)) other)
    ≡ steps.begun_by (Word true) (owner_of o) (frames_of stack)
type_seen plain.of_parameter p xs stack q t other = rw (depth_seen stack, within_seen stack) refl
type_seen plain.of_type_name p xs stack q t other = rw (depth_seen stack, within_seen stack) refl
type_seen plain.of_member p xs stack q t other = rw (depth_seen stack, within_seen stack) refl
type_seen plain.of_declaration p xs stack q t other =
    rw (depth_seen stack, within_seen stack) refl

keyword_seen : (o : plain.Owner) (p : Place) (xs : Specifiers) (stack : List plain.Frame)
    (q : Place) (k : Keyword) (other : Option Taken)
    → seen (plain_steps.keyword_word o p xs stack q k other)
    ≡ steps.begin (steps.keyword_specifier (owner_of o) (has_type xs) k) (owner_of o)
    (frames_of stack) (seen other)
keyword_seen o p xs stack q keywords.Struct other = rw (depth_seen stack, within_seen stack) refl
keyword_seen o p xs stack q keywords.Union other = rw (depth_seen stack, within_seen stack) refl
keyword_seen o p xs stack q keywords.Enum other = rw (depth_seen stack, within_seen stack) refl
keyword_seen o p xs stack q keywords.Typedef other = storage_seen o p xs stack q _ other
keyword_seen o p xs stack q keywords.Extern other = storage_seen o p xs stack q _ other
keyword_seen o p xs stack q keywords.Static other = storage_seen o p xs stack q _ other
keyword_seen o p xs stack q keywords.Auto other = storage_seen o p xs stack q _ other
keyword_seen o p xs stack q keywords.Register other = storage_seen o p xs stack q _ other
keyword_seen o p xs stack q keywords.Inline other = inline_seen o p xs stack q other
keyword_seen o p xs stack q keywords.Const other = qualifier_seen o p xs stack q _ other
keyword_seen o p xs stack q keywords.Restrict other = qualifier_seen o p xs stack q _ other
keyword_seen o p xs stack q keywords.Void other = type_seen o p xs stack q _ other
keyword_seen o p xs stack q keywords.Char other = type_seen o p xs stack q _ other
keyword_seen o p xs stack q keywords.Short other = type_seen o p xs stack q _ other
keyword_seen o p xs stack q keywords.Int other = type_seen o p xs stack q _ other
keyword_seen o p xs stack q keywords.Long other = type_seen o p xs stack q _ other
keyword_seen o p xs stack q keywords.Signed other = type_seen o p xs stack q _ other
keyword_seen o p xs stack q keywords.Unsigned other = type_seen o p xs stack q _ other
keyword_seen o p xs stack q keywords.Bool other = type_seen o p xs stack q _ other
keyword_seen o p xs stack q _ other = refl

typedef_seen : (b : Bool) (o : plain.Owner) (p : Place) (xs : Specifiers)
    (stack : List plain.Frame) (q : Place) (n : List ℕ) (other : Option Taken)
    → seen (cond b other (plain_steps.plainly stack (plain_steps.state stack
    (plain.Words o p (then_specifier xs (of_type q (typedef_name q n))))) (plain.depth stack)))
    ≡ steps.begin (steps.marked_word b) (owner_of o) (frames_of stack) (seen other)
typedef_seen true o p xs stack q n other = refl
typedef_seen false o p xs stack q n other = rw (depth_seen stack, within_seen stack) refl

pub specifier_seen : (o : plain.Owner) (p : Place) (xs : Specifiers) (stack : List plain.Frame)
    (q : Place) (s : Symbol) (other : Option Taken)
    → seen (plain_steps.specifier_at o p xs stack q s other)
    ≡ steps.begin (steps.specifier_of (owner_of o) (has_type xs) (class_of s)) (owner_of o)
    (frames_of stack) (seen other)
specifier_seen o p xs stack q (keyword k) other = keyword_seen o p xs stack q k other
specifier_seen o p xs stack q (marked n) other = typedef_seen (has_type xs) o p xs stack q n other
specifier_seen o p xs stack q _ other = refl

pub first_seen : (o : plain.Owner) (stack : List plain.Frame) (q : Place) (s : Symbol)
    (other : Option Taken) (next : Option Moved) → seen other ≡ next
    → seen (plain_steps.first_word o stack q s other)
    ≡ steps.first_word (owner_of o) (frames_of stack) (class_of s) next
first_seen o stack q s other next h =
    specifier_seen o q no_specifiers stack q s other
    ∙ ap (steps.begin (steps.specifier_of (owner_of o) false (class_of s)) (owner_of o)
    (frames_of stack)) h

pub leaf_seen : (stack : List plain.Frame) (a : Expr)
    → seen (plain_steps.leaf stack a) ≡ steps.leaf (frames_of stack)
leaf_seen stack a = rw (depth_seen stack) refl

pushed_seen : (stack : List plain.Frame) (f : plain.Frame)
    → seen (plain_steps.pushed stack f) ≡ steps.pushed (frames_of stack) (frame_of f)
pushed_seen stack f =
    ap (λ (d : ℕ). steps.loud (frame_of f ∷ frames_of stack) Want d) (depth_seen (f ∷ stack))

parenthesis_seen : (stack : List plain.Frame) (q : Place)
    → seen (plain_steps.paren_at stack q) ≡ steps.paren_at (frames_of stack)
parenthesis_seen (plain.Sizeof p ∷ stack) q = rw (depth_seen stack) refl
parenthesis_seen stack q = pushed_seen stack (plain.Parenthesis q)

close_call_seen : (stack : List plain.Frame)
    → seen (plain_steps.close_call stack) ≡ steps.close_call (frames_of stack)
close_call_seen (plain.Callee a ∷ stack) = rw (depth_seen stack) refl
close_call_seen _ = refl

want_sign_seen : (stack : List plain.Frame) (p : Place) (s : Punct)
    → seen (plain_steps.want_sign stack p s) ≡ steps.want_sign (frames_of stack) s
want_sign_seen stack p puncts.LeftParenthesis = parenthesis_seen stack p
want_sign_seen stack p puncts.RightParenthesis = close_call_seen stack
want_sign_seen stack p puncts.PlusPlus = pushed_seen stack (plain.Prefix p Increment)
want_sign_seen stack p puncts.MinusMinus = pushed_seen stack (plain.Prefix p Decrement)
want_sign_seen stack p puncts.And = pushed_seen stack (plain.Unary p Address)
want_sign_seen stack p puncts.Star = pushed_seen stack (plain.Unary p Indirection)
want_sign_seen stack p puncts.Plus = pushed_seen stack (plain.Unary p Plus)
want_sign_seen stack p puncts.Minus = pushed_seen stack (plain.Unary p Minus)
want_sign_seen stack p puncts.Tilde = pushed_seen stack (plain.Unary p Complement)
want_sign_seen stack p puncts.Not = pushed_seen stack (plain.Unary p Not)
want_sign_seen stack p _ = refl

want_keyword_seen : (stack : List plain.Frame) (p : Place) (k : Keyword)
    → seen (plain_steps.want_keyword stack p k)
    ≡ steps.operand_at (frames_of stack) (class_of (keyword k))
want_keyword_seen stack p keywords.Sizeof = pushed_seen stack (plain.Sizeof p)
want_keyword_seen stack p _ = refl

pub operand_seen : (stack : List plain.Frame) (p : Place) (s : Symbol)
    → seen (plain_steps.operand_at stack p s) ≡ steps.operand_at (frames_of stack) (class_of s)
operand_seen stack p (name n) = leaf_seen stack (identifier p n)
operand_seen stack p (number v) = leaf_seen stack (constant p v)
operand_seen stack p (text b) = leaf_seen stack (string p b)
operand_seen stack p (keyword k) = want_keyword_seen stack p k
operand_seen stack p (sign s) = want_sign_seen stack p s
operand_seen stack p _ = refl

lately_seen : (o : Option Taken) → seen (plain_steps.lately o) ≡ steps.lately (seen o)
lately_seen None = refl
lately_seen (Some k) = refl

pub want_seen : (stack : List plain.Frame) (p : Place) (s : Symbol)
    → seen (plain_steps.step_want stack p s) ≡ steps.step_want (frames_of stack) (class_of s)
want_seen (plain.Parenthesis q ∷ stack) p s =
    both seen (nat_le (plain.hole_of stack) 13) (nat_le (hole_of (frames_of stack)) 13) _ _ _ _
    (ap (λ (n : ℕ). nat_le n 13) (hole_of_seen stack))
    (first_seen plain.of_type_name (plain.CastType q ∷ stack) p s _ _
    (operand_seen (plain.Parenthesis q ∷ stack) p s))
    (operand_seen (plain.Parenthesis q ∷ stack) p s)
want_seen (plain.AfterSizeof q ∷ plain.Sizeof r ∷ stack) p s =
    first_seen plain.of_type_name (plain.SizeofType r ∷ stack) p s _ _
    (lately_seen (plain_steps.operand_at (plain.Parenthesis q ∷ plain.Sizeof r ∷ stack) p s)
    ∙ ap steps.lately (operand_seen (plain.Parenthesis q ∷ plain.Sizeof r ∷ stack) p s))
want_seen stack p s = operand_seen stack p s
