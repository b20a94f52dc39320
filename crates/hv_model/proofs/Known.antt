-- Whether the names of a rule are options.
use Rattle.std.proofs.Common.{◌≡◌, ℕ, zero, suc, ◌+◌, Bool, true, false, ◌&&◌, List, [], ◌∷◌, cond, refl, sym, ◌∙◌, ap, fold, Option as Maybe, Some, None}
use Rattle.std.specs.Prelude.{nat_lt}
use Rattle.std.specs.List.{list_all}
use Rattle.std.proofs.lemmas.List.Folds.{list_all-append}
use Rattle.hv_base.proofs.Booleans.{and_true}
use Rattle.hv_model.specs.Grammar.{Phrase, Derives, expr_or, expr_implies, or_and, or_either, and_not, and_both, not_negate, not_parens, not_name, place_of}
use Rattle.hv_model.specs.working.Known.{is_known}
use Rattle.hv_model.specs.working.Machine.{Machine, frame, want, negated_times, completed, step, or_done, expr_done, limited_step, is_allowed}
use Rattle.hv_model.specs.Name.{is_name}
use Rattle.hv_model.specs.Rule.{Rule, option, implication, is_about}
use Rattle.hv_model.specs.working.Steps.{Item, value, premises, all_of, rule_in, concluded, conjoined, disjoined, negated, supposed, supposed_too, closed, after, items_of, fits}
use Rattle.hv_model.specs.Token.{Token, implies, either, both, negate, open_, close, word, other}
use Rattle.hv_model.specs.declared.code.Step.{Step}
use Rattle.hv_model.specs.declared.code.Step.TheVariants.{Option, Not, And, Or, Suppose, SupposeToo, Conclude}
use Rattle.hv_model.specs.declared.parser.Frame.{Frame}

-- a rule speaks of the options that its tokens name
about-append : (a b c : Bool) → (a && (b && c)) ≡ ((a && b) && c)
about-append true b c = refl
about-append false b c = refl

pub is_about-derived : (n : ℕ) {names : List (List ℕ)} {phrase : Phrase} {ts : List Token}
    {r : Rule} → Derives names phrase ts r → is_about n r ≡ list_all (is_known n names) ts
is_about-derived n (expr_or d) = is_about-derived n d
is_about-derived n {names} (expr_implies {ts} {us} {r} {s} d e) =
    ap (λ b. b && is_about n s) (is_about-derived n d)
    ∙ (ap (λ b. list_all (is_known n names) ts && b) (is_about-derived n e)
    ∙ sym (list_all-append (is_known n names) ts (implies ∷ us)))
is_about-derived n (or_and d) = is_about-derived n d
is_about-derived n {names} (or_either {ts} {us} {r} {s} d e) =
    ap (λ b. b && is_about n s) (is_about-derived n d)
    ∙ (ap (λ b. list_all (is_known n names) ts && b) (is_about-derived n e)
    ∙ sym (list_all-append (is_known n names) ts (either ∷ us)))
is_about-derived n (and_not d) = is_about-derived n d
is_about-derived n {names} (and_both {ts} {us} {r} {s} d e) =
    ap (λ b. b && is_about n s) (is_about-derived n d)
    ∙ (ap (λ b. list_all (is_known n names) ts && b) (is_about-derived n e)
    ∙ sym (list_all-append (is_known n names) ts (both ∷ us)))
is_about-derived n (not_negate d) = is_about-derived n d
is_about-derived n {names} (not_parens {ts} {r} d) =
    is_about-derived n d ∙ (sym (and_true (list_all (is_known n names) ts))
    ∙ sym (list_all-append (is_known n names) ts (close ∷ [])))
is_about-derived n {names} (not_name name h) = sym (and_true (nat_lt (place_of names name) n))

-- whether all rules on a stack are about the options
abbrev pub about : ℕ → List Item → Bool
about n items = list_all (λ item. is_about n (rule_in item)) items

swap : (a b c : Bool) → ((a && b) && c) ≡ (b && (a && c))
swap true true c = refl
swap true false c = refl
swap false true c = refl
swap false false c = refl

about-concluded : (n : ℕ) (last : Rule) (earlier : List Rule) (s : Rule)
    → is_about n (concluded last earlier s) ≡ (is_about n (all_of last earlier) && is_about n s)
about-concluded n last [] s = refl
about-concluded n last (before ∷ earlier) s =
    about-concluded n before earlier (implication last s)
    ∙ about-append (is_about n (all_of before earlier)) (is_about n last) (is_about n s)

about-conjoined : (n : ℕ) (items : List Item) → about n (conjoined items) ≡ about n items
about-conjoined n [] = refl
about-conjoined n (s ∷ []) = refl
about-conjoined n (s ∷ r ∷ items) =
    swap (is_about n (rule_in r)) (is_about n (rule_in s)) (about n items)

about-disjoined : (n : ℕ) (items : List Item) → about n (disjoined items) ≡ about n items
about-disjoined n [] = refl
about-disjoined n (s ∷ []) = refl
about-disjoined n (s ∷ r ∷ items) =
    swap (is_about n (rule_in r)) (is_about n (rule_in s)) (about n items)

about-negated : (n : ℕ) (items : List Item) → about n (negated items) ≡ about n items
about-negated n [] = refl
about-negated n (r ∷ items) = refl

about-supposed : (n : ℕ) (items : List Item) → about n (supposed items) ≡ about n items
about-supposed n [] = refl
about-supposed n (r ∷ items) = refl

about-supposed_too : (n : ℕ) (items : List Item) → about n (supposed_too items) ≡ about n items
about-supposed_too n [] = refl
about-supposed_too n (s ∷ []) = refl
about-supposed_too n (s ∷ value r ∷ items) =
    swap (is_about n r) (is_about n (rule_in s)) (about n items)
about-supposed_too n (s ∷ premises last earlier ∷ items) =
    swap (is_about n (all_of last earlier)) (is_about n (rule_in s)) (about n items)

about-closed : (n : ℕ) (items : List Item) → about n (closed items) ≡ about n items
about-closed n [] = refl
about-closed n (s ∷ []) = refl
about-closed n (s ∷ value r ∷ items) = swap (is_about n r) (is_about n (rule_in s)) (about n items)
about-closed n (s ∷ premises last earlier ∷ items) =
    ap (λ b. b && about n items) (about-concluded n last earlier (rule_in s))
    ∙ swap (is_about n (all_of last earlier)) (is_about n (rule_in s)) (about n items)

about-after : (n : ℕ) (items : List Item) (step : Step)
    → about n (after items step) ≡ (fits n step && about n items)
about-after n items (Option i) = refl
about-after n items Not = about-negated n items
about-after n items And = about-conjoined n items
about-after n items Or = about-disjoined n items
about-after n items Suppose = about-supposed n items
about-after n items SupposeToo = about-supposed_too n items
about-after n items Conclude = about-closed n items

about-fold : (n : ℕ) (items : List Item) (steps : List Step)
    → about n (fold after items steps) ≡ (list_all (fits n) steps && about n items)
about-fold n items [] = refl
about-fold n items (step ∷ steps) =
    about-fold n (after items step) steps
    ∙ (ap (λ b. list_all (fits n) steps && b) (about-after n items step)
    ∙ sym (swap (fits n step) (list_all (fits n) steps) (about n items)))

pub about-items_of : (n : ℕ) (steps : List Step)
    → about n (items_of steps) ≡ list_all (fits n) steps
about-items_of n steps = about-fold n [] steps ∙ and_true (list_all (fits n) steps)

about-cond : (n : ℕ) (b : Bool) (xs ys : List Item) → about n xs ≡ about n ys
    → about n (cond b xs ys) ≡ about n ys
about-cond n true xs ys e = e
about-cond n false xs ys e = refl

about-negated_times : (n k : ℕ) (items : List Item)
    → about n (negated_times k items) ≡ about n items
about-negated_times n zero items = refl
about-negated_times n (suc k) items = about-negated_times n k (negated items)
    ∙ about-negated n items

about-completed : (n : ℕ) (f : Frame) (outer : List Frame) (items : List Item)
    → about n (completed f outer items).items ≡ about n items
about-completed n f outer items =
    about-cond n f.conjunct (conjoined (negated_times f.negations items))
    (negated_times f.negations items) (about-conjoined n (negated_times f.negations items))
    ∙ about-negated_times n f.negations items

about-or : (n : ℕ) (f : Frame) (items : List Item) → about n (or_done f items) ≡ about n items
about-or n f items = about-cond n f.disjunct (disjoined items) items (about-disjoined n items)

pub about-expr : (n : ℕ) (f : Frame) (items : List Item)
    → about n (expr_done f items) ≡ about n items
about-expr n f items =
    about-cond n f.premise (closed (or_done f items)) (or_done f items)
    (about-closed n (or_done f items)) ∙ about-or n f items

taken : {A : Type 0} (b : Bool) (o : Maybe A) (x : A) → cond b o None ≡ Some x → (b ≡ true)
    × (o ≡ Some x)
taken true o x e = (refl, e)
taken false o x e = cc

same : (n : ℕ) (b : Bool) (m k : Machine) → Some m ≡ Some k → about n m.items ≡ b
    → about n k.items ≡ b
same n b m k e h = let p : m ≡ k = cc in sym (ap (λ x. about n x.items) p) ∙ h

about_step : (n : ℕ) (names : List (List ℕ)) (wants : Bool) (f : Frame) (outer : List Frame)
    (items : List Item) (t : Token) (m : Machine)
    → step names (record { wants = wants; top = f; outer = outer; items = items }) t ≡ Some m
    → about n m.items ≡ (is_known n names t && about n items)
about_step n names true f outer items (word name) m e =
    same n _ (completed f outer (value (option (place_of names name)) ∷ items)) m
    (taken (is_name name) (Some (completed f outer (value (option (place_of names name)) ∷ items)))
    m e).1
    (about-completed n f outer (value (option (place_of names name)) ∷ items))
about_step n names true f outer items negate m e =
    same n _ (want (frame (f.negations + 1) f.conjunct f.disjunct f.premise) outer items) m e refl
about_step n names true f outer items open_ m e =
    same n _ (want (frame 0 false false false) (f ∷ outer) items) m e refl
about_step n names true f outer items implies m e = cc
about_step n names true f outer items either m e = cc
about_step n names true f outer items both m e = cc
about_step n names true f outer items close m e = cc
about_step n names true f outer items other m e = cc
about_step n names false f outer items both m e =
    same n _ (want (frame 0 true f.disjunct f.premise) outer items) m e refl
about_step n names false f outer items either m e =
    same n _ (want (frame 0 false true f.premise) outer (or_done f items)) m e (about-or n f items)
about_step n names false f outer items implies m e =
    same n _ (want (frame 0 false false true) outer
    (cond f.premise (supposed_too (or_done f items)) (supposed (or_done f items)))) m e
    (about-cond n f.premise (supposed_too (or_done f items)) (supposed (or_done f items))
    (about-supposed_too n (or_done f items) ∙ sym (about-supposed n (or_done f items)))
    ∙ (about-supposed n (or_done f items) ∙ about-or n f items))
about_step n names false f [] items close m e = cc
about_step n names false f (g ∷ outer) items close m e =
    same n _ (completed g outer (expr_done f items)) m e
    (about-completed n g outer (expr_done f items) ∙ about-expr n f items)
about_step n names false f outer items open_ m e = cc
about_step n names false f outer items negate m e = cc
about_step n names false f outer items (word name) m e = cc
about_step n names false f outer items other m e = cc

-- what is known of the rule so far and of the tokens that are left stays the same
pub about-limited_step : (n : ℕ) (names : List (List ℕ)) (wants : Bool) (f : Frame)
    (outer : List Frame) (items : List Item) (t : Token) (ts : List Token) (m : Machine)
    → limited_step names (record { wants = wants; top = f; outer = outer; items = items }) t
    ≡ Some m
    → (about n m.items && list_all (is_known n names) ts)
    ≡ (about n items && list_all (is_known n names) (t ∷ ts))
about-limited_step n names wants f outer items t ts m e =
    let s =
    about_step n names wants f outer items t m
    (taken (is_allowed (record { wants = wants; top = f; outer = outer; items = items }) t)
    (step names (record { wants = wants; top = f; outer = outer; items = items }) t) m e).1 in
    ap (λ b. b && list_all (is_known n names) ts) s
    ∙ swap (is_known n names t) (about n items) (list_all (is_known n names) ts)
