-- The terminals and expressions of an element's own production are seen in the control.
use Rattle.std.proofs.Common.{◌≡◌, [], Option, Some, refl, ap, ◌∙◌}
use Rattle.hv_base.specs.declared.keyword.Keyword.{Keyword}
use Rattle.hv_base.specs.declared.keyword.Keyword.TheVariants as keywords
use Rattle.hv_base.specs.declared.punct.Punct.{Punct}
use Rattle.hv_base.specs.declared.punct.Punct.TheVariants as puncts
use Rattle.hv_ctree.specs.tree.Expressions.{Expr}
use Rattle.hv_grammar.specs.Symbols.{Symbol, keyword, sign, hole}
use Rattle.hv_grammar.specs.Elements as elements
use Rattle.hv_grammar.specs.machine.Parts as plain_parts
use Rattle.hv_grammar.specs.machine.Steps as plain_steps
use Rattle.hv_cparse.specs.declared.part.Fixed.{Fixed}
use Rattle.hv_cparse.specs.Control.{clause_of, part_of, fixed_of, class_of}
use Rattle.hv_cparse.specs.working.Parts as parts
use Rattle.hv_cparse.specs.working.Steps as steps
use Rattle.hv_cparse.specs.working.Seen.{seen}
use Rattle.hv_cparse.proofs.Shadows.{both}

colon_meets : (s : Punct) → plain_parts.meets plain_parts.the_colon (sign s)
    ≡ parts.meets (fixed_of plain_parts.the_colon) (class_of (sign s))
colon_meets puncts.Colon = refl
colon_meets _ = refl

semicolon_meets : (s : Punct) → plain_parts.meets plain_parts.the_semicolon (sign s)
    ≡ parts.meets (fixed_of plain_parts.the_semicolon) (class_of (sign s))
semicolon_meets puncts.Semicolon = refl
semicolon_meets _ = refl

opening_meets : (s : Punct) → plain_parts.meets plain_parts.the_opening (sign s)
    ≡ parts.meets (fixed_of plain_parts.the_opening) (class_of (sign s))
opening_meets puncts.LeftParenthesis = refl
opening_meets _ = refl

closing_meets : (s : Punct) → plain_parts.meets plain_parts.the_closing (sign s)
    ≡ parts.meets (fixed_of plain_parts.the_closing) (class_of (sign s))
closing_meets puncts.RightParenthesis = refl
closing_meets _ = refl

brace_meets : (s : Punct) → plain_parts.meets plain_parts.the_right_brace (sign s)
    ≡ parts.meets (fixed_of plain_parts.the_right_brace) (class_of (sign s))
brace_meets puncts.RightBrace = refl
brace_meets _ = refl

while_meets : (k : Keyword) → plain_parts.meets plain_parts.the_while (keyword k)
    ≡ parts.meets (fixed_of plain_parts.the_while) (class_of (keyword k))
while_meets keywords.While = refl
while_meets _ = refl

else_meets : (k : Keyword) → plain_parts.meets plain_parts.the_else (keyword k)
    ≡ parts.meets (fixed_of plain_parts.the_else) (class_of (keyword k))
else_meets keywords.Else = refl
else_meets _ = refl

pub meets_seen : (e : plain_parts.Fixed) (t : Symbol)
    → plain_parts.meets e t ≡ parts.meets (fixed_of e) (class_of t)
meets_seen plain_parts.the_colon (sign s) = colon_meets s
meets_seen plain_parts.the_semicolon (sign s) = semicolon_meets s
meets_seen plain_parts.the_opening (sign s) = opening_meets s
meets_seen plain_parts.the_closing (sign s) = closing_meets s
meets_seen plain_parts.the_right_brace (sign s) = brace_meets s
meets_seen plain_parts.the_while (keyword k) = while_meets k
meets_seen plain_parts.the_else (keyword k) = else_meets k
meets_seen plain_parts.the_hole hole = refl
meets_seen plain_parts.the_hole _ = refl
meets_seen plain_parts.the_colon _ = refl
meets_seen plain_parts.the_semicolon _ = refl
meets_seen plain_parts.the_opening _ = refl
meets_seen plain_parts.the_closing _ = refl
meets_seen plain_parts.the_right_brace _ = refl
meets_seen plain_parts.the_while _ = refl
meets_seen plain_parts.the_else _ = refl

pub clause_closer_seen : (c : plain_parts.Optional)
    → fixed_of (plain_parts.optional_closer c) ≡ parts.clause_closer (clause_of c)
clause_closer_seen (plain_parts.for_first p) = refl
clause_closer_seen (plain_parts.for_second p g) = refl
clause_closer_seen (plain_parts.for_third p g a) = refl
clause_closer_seen (plain_parts.of_return p) = refl

closer_seen : (c : plain_parts.Part)
    → fixed_of (plain_parts.closer c) ≡ parts.closer (part_of c)
closer_seen (plain_parts.of_case p) = refl
closer_seen plain_parts.of_expression = refl
closer_seen (plain_parts.of_if p) = refl
closer_seen (plain_parts.of_switch p) = refl
closer_seen (plain_parts.of_while p) = refl
closer_seen (plain_parts.of_do p) = refl
closer_seen (plain_parts.optional c) = clause_closer_seen c

pub after_clause_seen : (s : elements.Standing) (c : plain_parts.Optional) (b : Option Expr)
    → seen (plain_steps.loosely (plain_steps.spot s (plain_parts.after_optional c b)) 0)
    ≡ steps.after_clause (clause_of c) []
after_clause_seen s (plain_parts.for_first p) b = refl
after_clause_seen s (plain_parts.for_second p g) b = refl
after_clause_seen s (plain_parts.for_third p g a) b = refl
after_clause_seen s (plain_parts.of_return p) b = refl

after_part_seen : (s : elements.Standing) (c : plain_parts.Part) (b : Expr)
    → seen (plain_steps.loosely (plain_steps.spot s (plain_parts.after_part c b)) 0)
    ≡ steps.after_part (part_of c) []
after_part_seen s (plain_parts.of_case p) b = refl
after_part_seen s plain_parts.of_expression b = refl
after_part_seen s (plain_parts.of_if p) b = refl
after_part_seen s (plain_parts.of_switch p) b = refl
after_part_seen s (plain_parts.of_while p) b = refl
after_part_seen s (plain_parts.of_do p) b = refl
after_part_seen s (plain_parts.optional c) b = after_clause_seen s c (Some b)

pub part_seen : (s : elements.Standing) (c : plain_parts.Part) (b : Expr) (t : Symbol)
    → seen (plain_steps.part_at s c b t) ≡ steps.part_at (part_of c) [] (class_of t)
part_seen s c b t =
    both seen (plain_parts.meets (plain_parts.closer c) t)
    (parts.meets (parts.closer (part_of c)) (class_of t)) _ _ _ _
    (meets_seen (plain_parts.closer c) t
    ∙ ap (λ (e : Fixed). parts.meets e (class_of t)) (closer_seen c))
    (after_part_seen s c b) refl
