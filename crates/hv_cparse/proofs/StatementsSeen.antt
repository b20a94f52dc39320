-- An element's own production: a step of the pure machine is seen in the control as its step.
use Rattle.std.proofs.Common.{◌≡◌, List, [], ◌∷◌, None, refl, ap, ◌∙◌}
use Rattle.hv_base.specs.declared.keyword.Keyword.{Keyword}
use Rattle.hv_base.specs.declared.keyword.Keyword.TheVariants as keywords
use Rattle.hv_base.specs.declared.place.Place.{Place}
use Rattle.hv_base.specs.declared.punct.Punct.TheVariants as puncts
use Rattle.hv_ctree.specs.tree.Statements.{hollow_if_else}
use Rattle.hv_grammar.specs.Symbols.{Symbol, keyword, sign}
use Rattle.hv_grammar.specs.Elements as elements
use Rattle.hv_grammar.specs.machine.Parts as plain_parts
use Rattle.hv_grammar.specs.machine.Frames as plain
use Rattle.hv_grammar.specs.machine.Steps as plain_steps
use Rattle.hv_cparse.specs.declared.part.Fixed.{Fixed}
use Rattle.hv_cparse.specs.Control.{clause_of, part_of, fixed_of, spot_frames, spot_of, terminals, class_of}
use Rattle.hv_cparse.specs.working.Parts as parts
use Rattle.hv_cparse.specs.working.Steps as steps
use Rattle.hv_cparse.specs.working.Seen.{seen}
use Rattle.hv_cparse.proofs.Shadows.{both}
use Rattle.hv_cparse.proofs.SpecifiersSeen.{first_seen, operand_seen}
use Rattle.hv_cparse.proofs.PartsSeen.{meets_seen, clause_closer_seen, after_clause_seen}

fixed_seen : (e : plain_parts.Fixed) (s : elements.Standing) (x : plain_parts.Spot) (t : Symbol)
    → seen (plain_steps.fixed_at e s x t)
    ≡ steps.fixed_at (fixed_of e) (spot_frames x) (spot_of s x) (class_of t)
fixed_seen e s x t =
    both seen (plain_parts.meets e t) (parts.meets (fixed_of e) (class_of t)) _ _ _ _
    (meets_seen e t) refl refl

optional_seen : (s : elements.Standing) (c : plain_parts.Optional) (q : Place) (t : Symbol)
    → seen (plain_steps.optional_at s c q t) ≡ steps.step_before (clause_of c) [] (class_of t)
optional_seen s c q t =
    both seen (plain_parts.meets (plain_parts.optional_closer c) t)
    (parts.meets (parts.clause_closer (clause_of c)) (class_of t)) _ _ _ _
    (meets_seen (plain_parts.optional_closer c) t
    ∙ ap (λ (e : Fixed). parts.meets e (class_of t)) (clause_closer_seen c))
    (after_clause_seen s c None)
    (operand_seen (plain.Statement s (plain_parts.optional c) ∷ []) q t)

opened_seen : (s : elements.Standing) (es : List plain_parts.Fixed) (c : plain_parts.Part)
    → seen (plain_steps.loosely (plain_steps.opened s es c) 0)
    ≡ steps.opened (part_of c) (terminals es)
opened_seen s [] c = refl
opened_seen s (e ∷ es) c = refl

keyword_seen : (s : elements.Standing) (q : Place) (k : Keyword)
    → seen (plain_steps.statement_at s q (keyword k)) ≡ steps.statement_word [] k
keyword_seen s q keywords.Case = refl
keyword_seen s q keywords.Default = refl
keyword_seen s q keywords.If = refl
keyword_seen s q keywords.Switch = refl
keyword_seen s q keywords.While = refl
keyword_seen s q keywords.Do = refl
keyword_seen s q keywords.For = refl
keyword_seen s q keywords.Continue = refl
keyword_seen s q keywords.Break = refl
keyword_seen s q keywords.Return = refl
keyword_seen s q k =
    operand_seen (plain.Statement s plain_parts.of_expression ∷ []) q (keyword k)

statement_seen : (s : elements.Standing) (q : Place) (t : Symbol)
    → seen (plain_steps.statement_at s q t) ≡ steps.statement_at [] (class_of t)
statement_seen s q (keyword k) = keyword_seen s q k
statement_seen s q (sign puncts.LeftBrace) = refl
statement_seen s q (sign puncts.Semicolon) = refl
statement_seen s q t = operand_seen (plain.Statement s plain_parts.of_expression ∷ []) q t

lone_seen : (q : Place) (t : Symbol)
    → seen (plain_steps.lone_at q t) ≡ steps.lone_at [] (class_of t)
lone_seen q (sign puncts.Semicolon) = refl
lone_seen q _ = refl

start_seen : (s : elements.Standing) (q : Place) (t : Symbol)
    → seen (plain_steps.start_at s q t)
    ≡ steps.step (spot_frames plain_parts.Start) (spot_of s plain_parts.Start) (class_of t)
start_seen elements.External q t =
    first_seen plain.of_declaration (plain.Declares elements.External plain_parts.alone ∷ []) q t
    _ _ (lone_seen q t)
start_seen elements.Item q t =
    first_seen plain.of_declaration (plain.Declares elements.Item plain_parts.alone ∷ []) q t _ _
    (statement_seen elements.Item q t)
start_seen elements.Nested q t = statement_seen elements.Nested q t

for_seen : (s : elements.Standing) (p q : Place) (t : Symbol)
    → seen (plain_steps.step_spot s (plain_parts.ForStart p) q t) ≡ steps.step_for [] (class_of t)
for_seen elements.External p q t =
    first_seen plain.of_declaration (plain.Declares elements.External (plain_parts.in_for p) ∷ [])
    q t _ _ (optional_seen elements.External (plain_parts.for_first p) q t)
for_seen elements.Item p q t =
    first_seen plain.of_declaration (plain.Declares elements.Item (plain_parts.in_for p) ∷ [])
    q t _ _ (optional_seen elements.Item (plain_parts.for_first p) q t)
for_seen elements.Nested p q t =
    first_seen plain.of_declaration (plain.Declares elements.Nested (plain_parts.in_for p) ∷ [])
    q t _ _ (optional_seen elements.Nested (plain_parts.for_first p) q t)

pub spot_seen : (s : elements.Standing) (x : plain_parts.Spot) (q : Place) (t : Symbol)
    → seen (plain_steps.step_spot s x q t)
    ≡ steps.step (spot_frames x) (spot_of s x) (class_of t)
spot_seen s plain_parts.Start q t = start_seen s q t
spot_seen s (plain_parts.Await [] k) q t = refl
spot_seen s (plain_parts.Await (e ∷ es) k) q t = fixed_seen e s (plain_parts.Await es k) t
spot_seen s (plain_parts.Opening [] c) q t = refl
spot_seen s (plain_parts.Opening (e ∷ es) c) q t =
    both seen (plain_parts.meets e t) (parts.meets (fixed_of e) (class_of t)) _ _ _ _
    (meets_seen e t) (opened_seen s es c) refl
spot_seen s (plain_parts.AfterIf p a) q t =
    fixed_seen plain_parts.the_hole s (plain_parts.MayElse p a) t
spot_seen s (plain_parts.MayElse p a) q t =
    fixed_seen plain_parts.the_else s
    (plain_parts.Await (plain_parts.the_hole ∷ []) (hollow_if_else p a 0 1)) t
spot_seen s (plain_parts.ForOpening p) q t =
    fixed_seen plain_parts.the_opening s (plain_parts.ForStart p) t
spot_seen s (plain_parts.ForStart p) q t = for_seen s p q t
spot_seen s (plain_parts.Before c) q t = optional_seen s c q t
