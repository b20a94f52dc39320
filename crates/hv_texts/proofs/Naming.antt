-- One more alternative of a name, and all of them.
use Rattle.std.proofs.Common.{◌≡◌, ◌+◌, ◌<◌, ◌≤◌, ◌||◌, ℕ, Bool, true, false, not, cond, List, [], ◌∷◌, ◌++◌, length, take, get_or, refl, sym, ◌∙◌, ap, subst, arith}
use Rattle.std.specs.List.{list_any}
use Rattle.std.proofs.lemmas.List.{take_all, take_more}
use Rattle.hv_cond.specs.Diagram.{AllNodes, Diagram, IsNode, Keeps, holds}
use Rattle.hv_cond.specs.Laws.{Keeps-refl, Keeps-trans}
use Rattle.hv_cond.specs.declared.conditions.Cond.{Cond}
use Rattle.hv_macros.specs.Alternatives.{conditions, meanings}
use Rattle.hv_macros.specs.Laws.{meanings-append, node_at}
use Rattle.hv_macros.specs.declared.alternatives.Alternative.{Alternative}
use Rattle.hv_base.specs.declared.place.Place.{Place}
use Rattle.hv_base.specs.declared.why.Why.TheVariants.{BadDirective}
use Rattle.hv_plain.specs.episode.Tokens.{is_identifier}
use Rattle.hv_plainpp.specs.Groups.{is_defined, name_truth}
use Rattle.hv_plainpp.specs.Reading.{Reading, reading, refusal}
use Rattle.hv_texts.proofs.Counting.{count_cons}
use Rattle.hv_texts.specs.Readings.{AreWithin, Ends, HasTruth}
use Rattle.hv_toks.specs.declared.token.PpTok.{PpTok}
use Rattle.hv_texts.specs.declared.came.Truths.{Truths}
use Rattle.hv_texts.specs.working.Names.{AreTruthsOf, IsOneMore, joined_if, some_macro, some_none}
use Rattle.hv_toks.specs.Macro.{Macro, macro_of}

-- the alternatives up to this one are told
pub record IsTelling (old new : Diagram) (parts : List Alternative) (i : ℕ) (truths : Truths)
    : Type 0 where
  pub keeps : Keeps old new
  pub told : AreTruthsOf new truths (λ values. meanings old values (take i parts))

pub telling_start : (d : Diagram) (parts : List Alternative) (truths : Truths)
    → IsNode d truths.holds → IsNode d truths.fails
    → ((values : List Bool) → holds d truths.holds values ≡ false)
    → ((values : List Bool) → holds d truths.fails values ≡ false)
    → IsTelling d d parts 0 truths
telling_start d parts truths node other holds_no fails_no =
    record {
      keeps = Keeps-refl d;
      told = record {
        holds_node = node;
        fails_node = other;
        holds_so = holds_no;
        fails_so = fails_no;
      };
    }

any_append : (f : Macro → Bool) (xs ys : List Macro)
    → list_any f (xs ++ ys) ≡ (list_any f xs || list_any f ys)
any_append f [] ys = refl
any_append f (x ∷ xs) ys = step (f x) (any_append f xs ys)
  where
    step : (b : Bool) → list_any f (xs ++ ys) ≡ (list_any f xs || list_any f ys)
        → (b || list_any f (xs ++ ys)) ≡ ((b || list_any f xs) || list_any f ys)
    step true e = refl
    step false e = e

or_none : (b : Bool) → (b || false) ≡ b
or_none true = refl
or_none false = refl

-- what one more meaning, where a condition holds, makes of whether some meaning passes a test
any_more : (f : Macro → Bool) (xs : List Macro) (b : Bool) (m : Macro)
    → list_any f (xs ++ cond b (m ∷ []) []) ≡ joined_if (f m) (list_any f xs) b
any_more f xs b m = any_append f xs (cond b (m ∷ []) []) ∙ step b (f m) refl
  where
    step : (b t : Bool) → f m ≡ t
        → (list_any f xs || list_any f (cond b (m ∷ []) [])) ≡ joined_if t (list_any f xs) b
    step true true e = ap (λ (x : Bool). list_any f xs || (x || false)) e
    step true false e =
        ap (λ (x : Bool). list_any f xs || (x || false)) e ∙ or_none (list_any f xs)
    step false true e = refl
    step false false e = or_none (list_any f xs)

append_nil : (ms : List Macro) → ms ++ [] ≡ ms
append_nil [] = refl
append_nil (m ∷ ms) = ap (λ (xs : List Macro). m ∷ xs) (append_nil ms)

-- the meanings up to the next alternative
meanings_more : (d : Diagram) (values : List Bool) (parts : List Alternative) (i : ℕ)
    (part : Alternative) → i < length parts → part ≡ get_or parts i part
    → meanings d values (take (i + 1) parts)
    ≡ meanings d values (take i parts)
    ++ cond (holds d part.cond values) (macro_of part.meaning ∷ []) []
meanings_more d values parts i part l is =
    ap (meanings d values) (take_more parts i part l)
    ∙ (ap (λ (p : Alternative). meanings d values (take i parts ++ p ∷ [])) (sym is)
    ∙ (meanings-append d values (take i parts) (part ∷ [])
    ∙ ap (λ (ms : List Macro). meanings d values (take i parts) ++ ms)
    (append_nil (cond (holds d part.cond values) (macro_of part.meaning ∷ []) []))))

pub part_node : (d : Diagram) (parts : List Alternative) (i : ℕ) (part : Alternative)
    → AllNodes d (conditions parts) → i < length parts → part ≡ get_or parts i part
    → IsNode d part.cond
part_node d parts i part nodes l is =
    subst (λ (p : Alternative). IsNode d p.cond) (sym is) (node_at d parts i part nodes l)

pub telling_more : (old mid new : Diagram) (parts : List Alternative) (i : ℕ)
    (part : Alternative) (before after : Truths)
    → IsTelling old mid parts i before → AllNodes old (conditions parts)
    → i < length parts → part ≡ get_or parts i part
    → Keeps mid new → IsOneMore mid new before after part.cond (macro_of part.meaning)
    → IsTelling old new parts (i + 1) after
telling_more old mid new parts i part before after t nodes l is keeps more =
    record {
      keeps = Keeps-trans t.keeps keeps;
      told = record {
        holds_node = more.holds_node;
        fails_node = more.fails_node;
        holds_so = λ values. more.holds_so values
            ∙ (ap (λ (b : Bool). joined_if (is_defined (macro_of part.meaning)) b
            (holds mid part.cond values)) (t.told.holds_so values)
            ∙ (ap (λ (b : Bool). joined_if (is_defined (macro_of part.meaning))
            (some_macro (meanings old values (take i parts))) b) (same values)
            ∙ (sym (any_more is_defined (meanings old values (take i parts))
            (holds old part.cond values) (macro_of part.meaning))
            ∙ ap some_macro (sym (meanings_more old values parts i part l is)))));
        fails_so = λ values. more.fails_so values
            ∙ (ap (λ (b : Bool). joined_if (not (is_defined (macro_of part.meaning))) b
            (holds mid part.cond values)) (t.told.fails_so values)
            ∙ (ap (λ (b : Bool). joined_if (not (is_defined (macro_of part.meaning)))
            (some_none (meanings old values (take i parts))) b) (same values)
            ∙ (sym (any_more (λ (m : Macro). not (is_defined m))
            (meanings old values (take i parts))
            (holds old part.cond values) (macro_of part.meaning))
            ∙ ap some_none (sym (meanings_more old values parts i part l is)))));
      };
    }
  where
    same : (values : List Bool) → holds mid part.cond values ≡ holds old part.cond values
    same values = t.keeps.meaning part.cond (part_node old parts i part nodes l is) values

pub telling_all : (old new : Diagram) (parts : List Alternative) (i : ℕ) (truths : Truths)
    → IsTelling old new parts i truths → length parts ≤ i
    → AreTruthsOf new truths (λ values. meanings old values parts)
telling_all old new parts i truths t l =
    subst (λ (ps : List Alternative). AreTruthsOf new truths (λ values. meanings old values ps))
    (take_all i parts l) t.told

------ the line

-- what is told of a name that means this where a condition holds
told_of : (b : Bool) (m : Macro) → some_macro (cond b (m ∷ []) []) ≡ cond b (is_defined m) false
told_of true m = or_none (is_defined m)
told_of false m = refl

told_none : (b : Bool) (m : Macro)
    → some_none (cond b (m ∷ []) []) ≡ cond b (not (is_defined m)) false
told_none true m = or_none (not (is_defined m))
told_none false m = refl

module _ (old mid new : Diagram) (first : Keeps old mid) (second : Keeps mid new)
    (parts : List Alternative) (truths : Truths) (c : Cond) (node : IsNode old c)
    (macros : List Bool → Macro)
    (told : AreTruthsOf new truths (λ values. meanings mid values parts))
    (means : (values : List Bool)
    → meanings mid values parts ≡ cond (holds old c values) (macros values ∷ []) []) where
  same : (values : List Bool) → holds new c values ≡ holds old c values
  same values = second.meaning c (first.stays c node) values ∙ first.meaning c node values

  holds_told : (values : List Bool) → holds new truths.holds values
      ≡ cond (holds new c values) (is_defined (macros values)) false
  holds_told values = told.holds_so values ∙ (ap some_macro (means values)
      ∙ (told_of (holds old c values) (macros values)
      ∙ ap (λ (b : Bool). cond b (is_defined (macros values)) false) (sym (same values))))

  fails_told : (values : List Bool) → holds new truths.fails values
      ≡ cond (holds new c values) (not (is_defined (macros values))) false
  fails_told values = told.fails_so values ∙ (ap some_none (means values)
      ∙ (told_none (holds old c values) (macros values)
      ∙ ap (λ (b : Bool). cond b (not (is_defined (macros values))) false) (sym (same values))))

  pub name_within : AreWithin new c truths
  name_within = record {
    holds_node = told.holds_node;
    fails_node = told.fails_node;
    outside = λ values h. (
      holds_told values ∙ ap (λ (b : Bool). cond b (is_defined (macros values)) false) h,
      fails_told values ∙ ap (λ (b : Bool). cond b (not (is_defined (macros values))) false) h,
    );
  }

  pub name_ends : (read : List Bool → Reading Bool)
      → ((values : List Bool) → read values ≡ reading (is_defined (macros values)))
      → Ends new c c [] (HasTruth new truths) read
  name_ends read reads = record {
    divides = record {
      nodes = (second.stays c (first.stays c node), tt);
      none_false = tt;
      one = λ values. let all = count_cons new c [] values in omega arith;
      distinct = tt;
    };
    right = λ values h. (
      is_defined (macros values),
      ap (λ (r : Reading Bool). r.ending) (reads values),
      (
        holds_told values ∙ ap (λ (b : Bool). cond b (is_defined (macros values)) false) h,
        fails_told values ∙ ap (λ (b : Bool). cond b (not (is_defined (macros values))) false) h,
      ),
    );
    refused_there = λ k x l. absurd (omega arith);
  }

-- the line by its first token
pub name_read : (macros : List ℕ → Macro) (hash : Place) (tokens : List PpTok) (t : PpTok)
    → 0 < length tokens → t ≡ get_or tokens 0 t → is_identifier t.kind ≡ true
    → name_truth macros hash tokens ≡ reading (is_defined (macros t.text))
name_read macros hash [] t l is name = absurd (omega arith)
name_read macros hash (u ∷ tokens) t l is name =
    ap (λ (b : Bool). elim b [
      | true ↦ reading (is_defined (macros u.text))
      | false ↦ refusal BadDirective hash
    ]) (ap (λ (x : PpTok). is_identifier x.kind) (sym is) ∙ name)
    ∙ ap (λ (x : PpTok). reading (is_defined (macros x.text))) (sym is)

pub no_name_read : (macros : List ℕ → Macro) (hash : Place) (tokens : List PpTok) (t : PpTok)
    → 0 < length tokens → t ≡ get_or tokens 0 t → is_identifier t.kind ≡ false
    → name_truth macros hash tokens ≡ refusal BadDirective hash
no_name_read macros hash [] t l is name = absurd (omega arith)
no_name_read macros hash (u ∷ tokens) t l is name =
    ap (λ (b : Bool). elim b [
      | true ↦ reading (is_defined (macros u.text))
      | false ↦ refusal BadDirective hash
    ]) (ap (λ (x : PpTok). is_identifier x.kind) (sym is) ∙ name)

pub none_read : (macros : List ℕ → Macro) (hash : Place) (tokens : List PpTok)
    → length tokens ≡ 0 → name_truth macros hash tokens ≡ refusal BadDirective hash
none_read macros hash [] e = refl
none_read macros hash (u ∷ tokens) e = absurd (omega arith)
