-- What the machine reads is derived by the grammar.
use Rattle.std.proofs.Common.{◌≡◌, ℕ, suc, ◌+◌, Bool, true, false, cond, List, [], ◌∷◌, ◌++◌, refl, sym, ap, ◌∙◌, subst, append_assoc, Option, Some, None}
use Rattle.std.proofs.lemmas.List.{append-nil}
use Rattle.std.specs.Prelude.{option_and_then}
use Rattle.hv_model.specs.Grammar.{Phrase, expr, or, and, not, Derives, expr_or, expr_implies, or_and, or_either, and_not, and_both, not_negate, not_parens, not_name, place_of}
use Rattle.hv_model.specs.working.Machine.{Machine, frame, want, have, start, negated_times, completed, run, after_close, finished_at}
use Rattle.hv_model.specs.Name.{is_name}
use Rattle.hv_model.specs.Rule.{Rule, option, conjunction, disjunction, implication}
use Rattle.hv_model.specs.working.Steps.{Item, value, premises, conjoined, closed, concluded, supposed, supposed_too}
use Rattle.hv_model.specs.Token.{Token, implies, either, both, negate, open_, close, word, other}
use Rattle.hv_model.specs.declared.parser.Frame.{Frame}
use Rattle.hv_model.proofs.Completeness.{negated_more}

-- what stands around a phrase on its left
data Around (names : List (List ℕ)) : Phrase → Type 0 where
  outermost : Around names expr
  in_parens : Around names not → Around names expr
  behind_implies : {ts : List Token} {r : Rule} → Around names expr → Derives names or ts r
      → Around names expr
  first_and : Around names expr → Around names and
  behind_either : {ts : List Token} {r : Rule} → Around names expr → Derives names or ts r
      → Around names and
  first_not : Around names and → Around names not
  behind_both : {ts : List Token} {r : Rule} → Around names and → Derives names and ts r
      → Around names not
  behind_negate : Around names not → Around names not

abbrev is_some_rule : List Rule → Bool
is_some_rule [] = false
is_some_rule (_ ∷ _) = true

abbrev stacked : List Rule → List Item → List Item
stacked [] items = items
stacked (q ∷ qs) items = premises q qs ∷ items

abbrev premises_of : {names : List (List ℕ)} {phrase : Phrase} → Around names phrase → List Rule
premises_of outermost = []
premises_of (in_parens c) = []
premises_of (behind_implies {ts} {r} c d) = r ∷ premises_of c
premises_of (first_and c) = premises_of c
premises_of (behind_either c d) = premises_of c
premises_of (first_not c) = premises_of c
premises_of (behind_both c d) = premises_of c
premises_of (behind_negate c) = premises_of c

abbrev disjunct_of : {names : List (List ℕ)} {phrase : Phrase} → Around names phrase → Bool
disjunct_of outermost = false
disjunct_of (in_parens c) = false
disjunct_of (behind_implies c d) = false
disjunct_of (first_and c) = false
disjunct_of (behind_either c d) = true
disjunct_of (first_not c) = disjunct_of c
disjunct_of (behind_both c d) = disjunct_of c
disjunct_of (behind_negate c) = disjunct_of c

abbrev conjunct_of : {names : List (List ℕ)} {phrase : Phrase} → Around names phrase → Bool
conjunct_of outermost = false
conjunct_of (in_parens c) = false
conjunct_of (behind_implies c d) = false
conjunct_of (first_and c) = false
conjunct_of (behind_either c d) = false
conjunct_of (first_not c) = false
conjunct_of (behind_both c d) = true
conjunct_of (behind_negate c) = conjunct_of c

abbrev negations_of : {names : List (List ℕ)} {phrase : Phrase} → Around names phrase → ℕ
negations_of outermost = 0
negations_of (in_parens c) = 0
negations_of (behind_implies c d) = 0
negations_of (first_and c) = 0
negations_of (behind_either c d) = 0
negations_of (first_not c) = 0
negations_of (behind_both c d) = 0
negations_of (behind_negate c) = negations_of c + 1

abbrev frame_of : {names : List (List ℕ)} {phrase : Phrase} → Around names phrase → Frame
frame_of c = frame (negations_of c) (conjunct_of c) (disjunct_of c) (is_some_rule (premises_of c))

abbrev outer_of : {names : List (List ℕ)} {phrase : Phrase} → Around names phrase → List Frame
outer_of outermost = []
outer_of (in_parens c) = frame_of c ∷ outer_of c
outer_of (behind_implies c d) = outer_of c
outer_of (first_and c) = outer_of c
outer_of (behind_either c d) = outer_of c
outer_of (first_not c) = outer_of c
outer_of (behind_both c d) = outer_of c
outer_of (behind_negate c) = outer_of c

-- the stack below the premises of the innermost parentheses, where these are all that stands there; else the whole stack
abbrev below : {names : List (List ℕ)} {phrase : Phrase} → Around names phrase → List Item
below outermost = []
below (in_parens c) = below c
below (behind_implies c d) = below c
below (first_and c) = stacked (premises_of c) (below c)
below (behind_either {ts} {r} c d) = value r ∷ stacked (premises_of c) (below c)
below (first_not c) = below c
below (behind_both {ts} {r} c d) = value r ∷ below c
below (behind_negate c) = below c

-- the tokens that stand there
abbrev spelled : {names : List (List ℕ)} {phrase : Phrase} → Around names phrase → List Token
spelled outermost = []
spelled (in_parens c) = spelled c ++ open_ ∷ []
spelled (behind_implies {ts} {r} c d) = spelled c ++ (ts ++ implies ∷ [])
spelled (first_and c) = spelled c
spelled (behind_either {ts} {r} c d) = spelled c ++ (ts ++ either ∷ [])
spelled (first_not c) = spelled c
spelled (behind_both {ts} {r} c d) = spelled c ++ (ts ++ both ∷ [])
spelled (behind_negate c) = spelled c ++ negate ∷ []

-- the machine where an operand comes next, and where one is complete
abbrev wants_at : {names : List (List ℕ)} → Around names not → Machine
wants_at c = want (frame_of c) (outer_of c) (below c)

abbrev has_at : {names : List (List ℕ)} → Around names and → Rule → Machine
has_at c s =
    have (frame 0 false (disjunct_of c) (is_some_rule (premises_of c))) (outer_of c)
    (value s ∷ below c)

-- an operand, with what stands before it, ends a conjunction
record Filled (names : List (List ℕ)) (before us : List Token) (m : Machine) : Type 0 where
  around : Around names and
  tokens : List Token
  rule : Rule
  derived : Derives names and tokens rule
  spell : before ++ us ≡ spelled around ++ tokens
  machine : m ≡ has_at around rule

spell_one : (before us : List Token) (t : Token) → (before ++ t ∷ []) ++ us ≡ before ++ t ∷ us
spell_one before us t = append_assoc before (t ∷ []) us

spell_more : (before ts us : List Token) (t : Token)
    → (before ++ (ts ++ t ∷ [])) ++ us ≡ before ++ (ts ++ t ∷ us)
spell_more before ts us t = append_assoc before (ts ++ t ∷ []) us
    ∙ ap (λ x. before ++ x) (append_assoc ts (t ∷ []) us)

filled : {names : List (List ℕ)} (c : Around names not) {us : List Token} {s : Rule}
    → Derives names not us s → Filled names (spelled c) us (completed (frame_of c) (outer_of c)
    (value s ∷ below c))
filled (first_not c) {us} {s} d =
    record { around = c; tokens = us; rule = s; derived = and_not d; spell = refl; machine = refl }
filled (behind_both {ts} {r} c e) {us} {s} d =
    record {
      around = c;
      tokens = ts ++ both ∷ us;
      rule = conjunction r s;
      derived = and_both e d;
      spell = spell_more (spelled c) ts us both;
      machine = refl;
    }
filled (behind_negate c) {us} {s} d =
    let f = filled c (not_negate d) in
    let n : negated_times (negations_of c + 1) (value s ∷ below c)
    ≡ negated_times (suc (negations_of c)) (value s ∷ below c) =
    negated_more (negations_of c) (value s ∷ below c) in
    record {
      around = f.around;
      tokens = f.tokens;
      rule = f.rule;
      derived = f.derived;
      spell = spell_one (spelled c) us negate ∙ f.spell;
      machine =
          ap (λ stack. have (frame 0 false (disjunct_of c) (is_some_rule (premises_of c)))
          (outer_of c) (cond (conjunct_of c) (conjoined stack) stack)) n ∙ f.machine;
    }

abbrev concluded_all : List Rule → Rule → Rule
concluded_all [] s = s
concluded_all (q ∷ qs) s = concluded q qs s

concluded_more : (r : Rule) (qs : List Rule) (s : Rule)
    → concluded_all (r ∷ qs) s ≡ concluded_all qs (implication r s)
concluded_more r [] s = refl
concluded_more r (q ∷ qs) s = refl

supposed_stacked : (qs : List Rule) (r : Rule) (items : List Item)
    → cond (is_some_rule qs) (supposed_too (value r ∷ stacked qs items))
    (supposed (value r ∷ stacked qs items)) ≡ premises r qs ∷ items
supposed_stacked [] r items = refl
supposed_stacked (q ∷ qs) r items = refl

closed_stacked : (qs : List Rule) (s : Rule) (items : List Item)
    → cond (is_some_rule qs) (closed (value s ∷ stacked qs items)) (value s ∷ stacked qs items)
    ≡ value (concluded_all qs s) ∷ items
closed_stacked [] s items = refl
closed_stacked (q ∷ qs) s items = refl

some-some : {A : Type 0} {x y : A} → Some x ≡ Some y → x ≡ y
some-some e = cc

-- at the end of the tokens
ends_at : {names : List (List ℕ)} (c : Around names expr) {us : List Token} {s : Rule} (r : Rule)
    → Derives names expr us s
    → finished_at (outer_of c) (value (concluded_all (premises_of c) s) ∷ below c) ≡ Some r
    → Derives names expr (spelled c ++ us) r
ends_at {names} outermost {us} {s} r d h = subst (λ x. Derives names expr us x) (some-some h) d
ends_at (in_parens c) r d h = cc
ends_at {names} (behind_implies {ts} {r = q} c e) {us} {s} r d h =
    subst (λ (x : List Token). Derives names expr x r) (sym (spell_more (spelled c) ts us implies))
    (ends_at c r (expr_implies e d)
    (ap (λ x. finished_at (outer_of c) (value x ∷ below c))
    (sym (concluded_more q (premises_of c) s)) ∙ h))

-- at a parenthesis that closes
closes_at : {names : List (List ℕ)} (c : Around names expr) {us : List Token} {s : Rule}
    (m : Machine) → Derives names expr us s
    → after_close (outer_of c) (value (concluded_all (premises_of c) s) ∷ below c) ≡ Some m
    → Filled names (spelled c) (us ++ close ∷ []) m
closes_at outermost m d h = cc
closes_at {names} (in_parens c) {us} {s} m d h =
    let f = filled c (not_parens d) in
    record {
      around = f.around;
      tokens = f.tokens;
      rule = f.rule;
      derived = f.derived;
      spell = spell_one (spelled c) (us ++ close ∷ []) open_ ∙ f.spell;
      machine = sym (some-some h) ∙ f.machine;
    }
closes_at {names} (behind_implies {ts} {r = q} c e) {us} {s} m d h =
    let f =
    closes_at c m (expr_implies e d)
    (ap (λ x. after_close (outer_of c) (value x ∷ below c))
    (sym (concluded_more q (premises_of c) s)) ∙ h) in
    record {
      around = f.around;
      tokens = f.tokens;
      rule = f.rule;
      derived = f.derived;
      spell = spell_more (spelled c) ts (us ++ close ∷ []) implies
          ∙ (ap (λ x. spelled c ++ x) (sym (append_assoc ts (implies ∷ us) (close ∷ [])))
          ∙ f.spell);
      machine = f.machine;
    }

then_some : {A B : Type 0} (k : A → Option B) (o : Option A) (y : B) → option_and_then k o ≡ Some y
    → (x : A) × (o ≡ Some x) × (k x ≡ Some y)
then_some k None y h = cc
then_some k (Some x) y h = (x, refl, h)

none_some : {A B : Type 0} {y : A} → None ≡ Some y → B
none_some h = cc

respelled : (names : List (List ℕ)) (r : Rule) {xs ys : List Token} → xs ≡ ys
    → Derives names expr xs r → Derives names expr ys r
respelled names r e d = subst (λ x. Derives names expr x r) e d

-- the right side of an operator, told apart from what stands before
regroup : (before vs us ts : List Token) (t : Token)
    → before ++ ((vs ++ t ∷ us) ++ ts) ≡ (before ++ (vs ++ t ∷ [])) ++ (us ++ ts)
regroup before vs us ts t = ap (λ x. before ++ x) (append_assoc vs (t ∷ us) ts)
    ∙ sym (spell_more before vs (us ++ ts) t)

-- after a parenthesis that closes
record Next (names : List (List ℕ)) (before : List Token) (ts : List Token) (r : Rule) : Type 0
  where
    around : Around names and
    tokens : List Token
    rule : Rule
    derived : Derives names and tokens rule
    spell : spelled around ++ (tokens ++ ts) ≡ before
    runs : run names (has_at around rule) ts ≡ Some r

closing : {names : List (List ℕ)} (ts : List Token) (c : Around names expr) {us : List Token}
    {s : Rule} → Derives names expr us s → (r : Rule)
    → option_and_then (λ next. run names next ts)
    (after_close (outer_of c) (value (concluded_all (premises_of c) s) ∷ below c)) ≡ Some r
    → Next names (spelled c ++ (us ++ close ∷ ts)) ts r
closing {names} ts c {us} {s} d r h =
    let next =
    then_some (λ next. run names next ts)
    (after_close (outer_of c) (value (concluded_all (premises_of c) s) ∷ below c)) r h in
    let f = closes_at c next.0 d next.1 in
    record {
      around = f.around;
      tokens = f.tokens;
      rule = f.rule;
      derived = f.derived;
      spell = sym (append_assoc (spelled f.around) f.tokens ts)
          ∙ (ap (λ x. x ++ ts) (sym f.spell)
          ∙ (append_assoc (spelled c) (us ++ close ∷ []) ts
          ∙ ap (λ x. spelled c ++ x) (append_assoc us (close ∷ []) ts)));
      runs = ap (λ m. run names m ts) (sym f.machine) ∙ next.2;
    }

mutual
  wanting : {names : List (List ℕ)} (ts : List Token) (c : Around names not) (r : Rule)
      → run names (wants_at c) ts ≡ Some r → Derives names expr (spelled c ++ ts) r
  wanting [] c r h = none_some h
  wanting {names} (negate ∷ ts) c r h =
      respelled names r (spell_one (spelled c) ts negate) (wanting ts (behind_negate c) r h)
  wanting {names} (open_ ∷ ts) c r h =
      respelled names r (spell_one (spelled c) ts open_)
      (wanting ts (first_not (first_and (in_parens c))) r h)
  wanting {names} (word name ∷ ts) c r h =
      elim (is_name name) as (λ b. is_name name ≡ b
      → option_and_then (λ next. run names next ts)
      (cond b (Some
      (completed (frame_of c) (outer_of c) (value (option (place_of names name)) ∷ below c))) None)
      ≡ Some r → Derives names expr (spelled c ++ word name ∷ ts) r) [
        | true ↦ λ e g.
            let named : Derives names not (word name ∷ []) (option (place_of names name)) =
            not_name name e in
            let f = filled c named in
            let next : run names (has_at f.around f.rule) ts ≡ Some r =
            ap (λ m. run names m ts) (sym f.machine) ∙ g in
            respelled names r (sym (append_assoc (spelled f.around) f.tokens ts)
            ∙ (ap (λ x. x ++ ts) (sym f.spell) ∙ append_assoc (spelled c) (word name ∷ []) ts))
            (having ts f.around f.derived r next)
        | false ↦ λ e g. none_some g
      ] refl h
  wanting (implies ∷ ts) c r h = none_some h
  wanting (either ∷ ts) c r h = none_some h
  wanting (both ∷ ts) c r h = none_some h
  wanting (close ∷ ts) c r h = none_some h
  wanting (other ∷ ts) c r h = none_some h

  having : {names : List (List ℕ)} (ts : List Token) (c : Around names and) {us : List Token}
      {s : Rule} → Derives names and us s → (r : Rule) → run names (has_at c s) ts ≡ Some r
      → Derives names expr (spelled c ++ (us ++ ts)) r
  having {names} (both ∷ ts) c {us} {s} d r h =
      respelled names r (spell_more (spelled c) us ts both) (wanting ts (behind_both c d) r h)
  having {names} (either ∷ ts) (first_and c) {us} {s} d r h =
      respelled names r (spell_more (spelled c) us ts either)
      (wanting ts (first_not (behind_either c (or_and d))) r h)
  having {names} (either ∷ ts) (behind_either {ts = vs} {r = q} c e) {us} {s} d r h =
      respelled names r (spell_more (spelled c) (vs ++ either ∷ us) ts either
      ∙ regroup (spelled c) vs us (either ∷ ts) either)
      (wanting ts (first_not (behind_either c (or_either e d))) r h)
  having {names} (implies ∷ ts) (first_and c) {us} {s} d r h =
      respelled names r (spell_more (spelled c) us ts implies)
      (wanting ts (first_not (first_and (behind_implies c (or_and d)))) r
      (ap (λ items. run names (want (frame 0 false false true) (outer_of c) items) ts)
      (sym (supposed_stacked (premises_of c) s (below c))) ∙ h))
  having {names} (implies ∷ ts) (behind_either {ts = vs} {r = q} c e) {us} {s} d r h =
      respelled names r (spell_more (spelled c) (vs ++ either ∷ us) ts implies
      ∙ regroup (spelled c) vs us (implies ∷ ts) either)
      (wanting ts (first_not (first_and (behind_implies c (or_either e d)))) r
      (ap (λ items. run names (want (frame 0 false false true) (outer_of c) items) ts)
      (sym (supposed_stacked (premises_of c) (disjunction q s) (below c))) ∙ h))
  having {names} (close ∷ ts) (first_and c) {us} {s} d r h =
      let n =
      closing ts c (expr_or (or_and d)) r
      (ap (λ items. option_and_then (λ next. run names next ts)
      (after_close (outer_of c) items)) (sym (closed_stacked (premises_of c) s (below c))) ∙ h)
      in
      respelled names r n.spell (having ts n.around n.derived r n.runs)
  having {names} (close ∷ ts) (behind_either {ts = vs} {r = q} c e) {us} {s} d r h =
      let n =
      closing ts c (expr_or (or_either e d)) r
      (ap (λ items. option_and_then (λ next. run names next ts)
      (after_close (outer_of c) items))
      (sym (closed_stacked (premises_of c) (disjunction q s) (below c))) ∙ h) in
      respelled names r (n.spell ∙ regroup (spelled c) vs us (close ∷ ts) either)
      (having ts n.around n.derived r n.runs)
  having {names} [] (first_and c) {us} {s} d r h =
      respelled names r (ap (λ x. spelled c ++ x) (sym (append-nil us)))
      (ends_at c r (expr_or (or_and d))
      (ap (finished_at (outer_of c)) (sym (closed_stacked (premises_of c) s (below c))) ∙ h))
  having {names} [] (behind_either {ts = vs} {r = q} c e) {us} {s} d r h =
      respelled names r (ap (λ x. spelled c ++ x) (sym (append-nil (vs ++ either ∷ us)))
      ∙ regroup (spelled c) vs us [] either)
      (ends_at c r (expr_or (or_either e d))
      (ap (finished_at (outer_of c))
      (sym (closed_stacked (premises_of c) (disjunction q s) (below c))) ∙ h))
  having (negate ∷ ts) c d r h = none_some h
  having (open_ ∷ ts) c d r h = none_some h
  having (word name ∷ ts) c d r h = none_some h
  having (other ∷ ts) c d r h = none_some h

pub derived_run : (names : List (List ℕ)) (ts : List Token) (r : Rule) → run names start ts ≡ Some r
    → Derives names expr ts r
derived_run names ts r h = wanting {names = names} ts (first_not (first_and outermost)) r h
