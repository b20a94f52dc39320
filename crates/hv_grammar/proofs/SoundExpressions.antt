-- What the machine makes of a token of an expression, the grammar derives.
use Rattle.std.proofs.Common.{◌≡◌, ℕ, suc, ◌≤◌, Bool, true, false, cond, List, [], ◌∷◌, refl, arith, Option, Some, None, subst}
use Rattle.std.proofs.lemmas.Bool.Decides.{nat_tests}
use Rattle.std.specs.Prelude.{nat_le}
use Rattle.hv_base.specs.declared.place.Place.{Place}
use Rattle.hv_base.specs.declared.keyword.Keyword.{Keyword}
use Rattle.hv_base.specs.declared.keyword.Keyword.TheVariants as keywords
use Rattle.hv_base.specs.declared.punct.Punct.{Punct}
use Rattle.hv_base.specs.declared.punct.Punct.TheVariants as puncts
use Rattle.hv_ctree.specs.declared.tree.words.AssignmentOperator.TheVariants as assignments
use Rattle.hv_base.specs.declared.operator.BinaryOperator.TheVariants as binaries
use Rattle.hv_ctree.specs.declared.tree.words.Selector.{Selector}
use Rattle.hv_ctree.specs.declared.tree.words.Selector.TheVariants.{Dot, Arrow}
use Rattle.hv_ctree.specs.declared.tree.words.Step.{Step as StepSign}
use Rattle.hv_ctree.specs.declared.tree.words.Step.TheVariants.{Increment, Decrement}
use Rattle.hv_ctree.specs.declared.tree.words.UnaryOperator.{UnaryOperator}
use Rattle.hv_ctree.specs.declared.tree.words.UnaryOperator.TheVariants.{Address, Indirection, Plus, Minus, Complement, Not}
use Rattle.hv_ctree.specs.tree.Expressions.{Expr, parenthesized, subscript, call, postfix, no_arguments, then_argument, then_specifier, MayTag, Enumerators, then_enumerator, Enumerator, valued, Specifier, of_type, enumeration, listed, then_suffix, sized, place_of}
use Rattle.hv_ctree.specs.tree.Statements.{of_index, value}
use Rattle.hv_grammar.specs.Elements.{loose, r_value}
use Rattle.hv_grammar.specs.Symbols.{Symbol, keyword, name, number, text, sign, Role, Marked, at, quiet, counted, left_paren, right_paren, left_bracket, right_bracket, right_brace, comma_sign, colon, semicolon, binary_sign, unary_sign, assignment_sign, selector_sign, step_sign}
use Rattle.hv_grammar.specs.Expressions.{braced, stars, has_type, ReadsSpecifier, Reads, r_identifier, r_constant, r_string, r_parenthesized, r_subscript, r_call_none, r_call, r_member, r_postfix, r_prefix, r_unary, r_sizeof, r_cast, r_binary, r_conditional, r_assign, r_comma, r_argument, r_arguments, r_type, r_enumeration, r_listed, ReadsEnumerators, r_enumerator, r_enumerators, ReadsEnumerator, r_valued, r_no_comma, r_suffix, r_sized}
use Rattle.hv_grammar.specs.machine.Frames.{Frame, Parenthesis, Subscript, Callee, Calling, Prefix, Unary, Sizeof, Cast, Binary, Then, Else, Assign, Comma, Specified, Listing, Valued, Length, Index, Designated, Initialized, Statement, hole, hole_of, made, weigh, depth, within, completes, plug, At, Have, Selecting, Infix, by_operator, by_assignment, by_question, by_comma, by_bracket, by_parenthesis, left, reach, makes, begun, weigh_at}
use Rattle.hv_grammar.specs.machine.Steps.{state, want, have, Taken, loud, Reduced, reduced, reduce, operand_at, want_sign, want_keyword, paren_at, pushed, close_call, infix_at, infix_of_level, goes_on, argument_at, comma_at, close_at, bracket_at, brace_at, colon_at, semicolon_at, value_at, after, after_postfix, have_sign, step_have, step_selecting, specified, end_at, finished_at}
use Rattle.hv_grammar.proofs.Arriving.{level-most}
use Rattle.hv_grammar.proofs.SoundInitializers.{Initializing, initialized_read, part_read}
use Rattle.hv_grammar.proofs.Reached.{Inside, EnumeratorsFrom, no_enumerator_yet, enumerators_read, Began, b_parenthesis, b_subscript, b_callee, b_calling, b_prefix, b_unary, b_sizeof, b_cast, b_binary, b_then, b_else, b_assign, b_comma, b_specified, b_listing, b_valued, b_length, b_index, DesignatorAt, index_read, Stacked, empty, more, Holds, Wants, w_plainly, w_counts, w_quietly, Selects, WholeAt, EnumeratorAt, is_listing, WordsAt, words_of, ReadAt, Leads, once, leads_by, branches, lowered, one_more, TypeAt, part_suffix}

abbrev pub Wanting : List Frame → Bool → List Marked → List Marked → Type 0
Wanting stack x ws us = Wants stack ws us

abbrev pub Having : ℕ → List Frame → Expr → Bool → List Marked → List Marked → Type 0
Having k stack a x ws us = Holds k stack a ws us

------ ending frames

made_most : (f : Frame) → completes f ≡ true → made f ≤ 15
made_most (Prefix p s) e = omega arith
made_most (Unary p op) e = omega arith
made_most (Sizeof p) e = omega arith
made_most (Cast p t) e = omega arith
made_most (Binary op a) e = let h = level-most op in omega arith
made_most (Else a b) e = omega arith
made_most (Assign op a) e = omega arith
made_most (Comma a) e = omega arith
made_most _ e = cc

-- an operand of the wanted level completes the frame
completed : (f : Frame) {r : Role} {d : ℕ} {ts us vs : List Marked} {b : Expr} → completes f ≡ true
    → Began f r d ts us → Reads (weigh f d) (hole f) us vs b
    → Reads d (made f) ts vs (plug f b)
completed (Prefix p s) e (b_prefix _ _) r = r_prefix p s r
completed (Unary p op) e (b_unary _ _) r = r_unary p op r
completed (Sizeof p) e (b_sizeof _) r = r_sizeof p r
completed (Cast p t) e (b_cast _ q n) r = r_cast p q n r
completed (Binary op a) e (b_binary p _ h) r = r_binary p op h r
completed (Else a b) e (b_else p q h i) r = r_conditional p q h i r
completed (Assign op a) e (b_assign p _ h) r = r_assign p op h r
completed (Comma a) e (b_comma p h) r = r_comma p h r
completed _ e b r = cc

plugged : (f : Frame) (stack : List Frame) (k : ℕ) (a : Expr) {ws us : List Marked}
    → completes f ≡ true → Holds k (f ∷ stack) a ws us
    → Holds (made f) stack (plug f a) ws us
plugged f stack k a c h = go f stack k a c h.stacked h.fits h.reads where
  go : (f : Frame) (stack : List Frame) (k : ℕ) (a : Expr) {ws us from : List Marked}
      → completes f ≡ true → Stacked (f ∷ stack) ws from
      → hole f ≤ k → Reads (weigh f (depth stack)) k from us a
      → Holds (made f) stack (plug f a) ws us
  go f stack k a c (more s fit _ b) fits r = record {
    from = _;
    most = made_most f c;
    fits = fit;
    stacked = s;
    reads = completed f c b (lowered (hole f) k fits r);
  }

abbrev HoldsReduced : Reduced → List Marked → List Marked → Type 0
HoldsReduced r ws us = Holds r.level r.stack r.operand ws us

-- what ends before a token is read whole
pub reduce_holds : (stack : List Frame) (j k : ℕ) (a : Expr) {ws us : List Marked}
    → Holds k stack a ws us → HoldsReduced (reduce j stack k a) ws us
reduce_holds [] j k a h = h
reduce_holds (f ∷ stack) j k a {ws} {us} h =
    elim (completes f) as (λ b. completes f ≡ b
    → HoldsReduced (cond (cond b (nat_le j (made f)) false) (reduce j stack (made f) (plug f a))
    (reduced (f ∷ stack) k a)) ws us) [
      | true ↦ λ c. elim (nat_le j (made f)) as (λ b. HoldsReduced
          (cond b (reduce j stack (made f) (plug f a)) (reduced (f ∷ stack) k a)) ws us) [
            | true ↦ reduce_holds stack j (made f) (plug f a) (plugged f stack k a c h)
            | false ↦ h
          ]
      | false ↦ λ c. h
    ] refl

------ before an operand

pub have_read : {stack : List Frame} {a : Expr} {ws from us : List Marked} → hole_of stack ≤ 15
    → Stacked stack ws from → Reads (depth stack) 15 from us a
    → Holds 15 stack a ws us
have_read fits s r = record { from = _; most = omega arith; fits = fits; stacked = s; reads = r }

pub pushed_read : (f : Frame) (stack : List Frame) {ws from us : List Marked} → hole f ≤ 14
    → hole_of stack ≤ made f → Inside f stack → Stacked stack ws from
    → Began f (within stack) (depth stack) from us → Wants (f ∷ stack) ws us
pushed_read f stack h le i s b = record { fits = h; stacked = more s le i b }

leaf_fits : {stack : List Frame} {ws us : List Marked} → Wants stack ws us → hole_of stack ≤ 15
leaf_fits h = let le = h.fits in omega arith

parenthesis_read : (stack : List Frame) (q : Place)
    → Leads (Wanting stack) q left_paren (pushed stack (Parenthesis q))
parenthesis_read stack q =
    once (λ ws us h. w_plainly (pushed_read (Parenthesis q) stack (omega arith) (leaf_fits h) tt
    h.stacked (b_parenthesis q)))

paren_read : (stack : List Frame) (q : Place)
    → Leads (Wanting stack) q left_paren (paren_at stack q)
paren_read (Sizeof p ∷ stack) q =
    record { plainly = λ ws us h. w_quietly h.stacked; counting = λ e ws us h. w_counts h.stacked }
paren_read stack q = parenthesis_read stack q

close_call_read : (stack : List Frame) (p : Place)
    → Leads (Wanting stack) p right_paren (close_call stack)
close_call_read (Callee a ∷ stack) p = once (λ ws us h. called h.stacked) where
  called : {ws us : List Marked}
      → Stacked (Callee a ∷ stack) ws (quiet (suc (depth stack)) p right_paren ∷ us)
      → Holds 15 stack (call (place_of a) a no_arguments) ws us
  called (more s fit _ (b_callee q r)) = have_read fit s (r_call_none q p r)
close_call_read _ p = tt

unary_read : (stack : List Frame) (p : Place) (op : UnaryOperator)
    → Leads (Wanting stack) p (unary_sign op) (pushed stack (Unary p op))
unary_read stack p op =
    once (λ ws us h. w_plainly (pushed_read (Unary p op) stack (omega arith) h.fits tt h.stacked
    (b_unary p op)))

prefix_read : (stack : List Frame) (p : Place) (s : StepSign)
    → Leads (Wanting stack) p (step_sign s) (pushed stack (Prefix p s))
prefix_read stack p s =
    once (λ ws us h. w_plainly (pushed_read (Prefix p s) stack (omega arith) h.fits tt h.stacked
    (b_prefix p s)))

want_sign_read : (stack : List Frame) (p : Place) (s : Punct)
    → Leads (Wanting stack) p (sign s) (want_sign stack p s)
want_sign_read stack p puncts.LeftParenthesis = paren_read stack p
want_sign_read stack p puncts.RightParenthesis = close_call_read stack p
want_sign_read stack p puncts.PlusPlus = prefix_read stack p Increment
want_sign_read stack p puncts.MinusMinus = prefix_read stack p Decrement
want_sign_read stack p puncts.And = unary_read stack p Address
want_sign_read stack p puncts.Star = unary_read stack p Indirection
want_sign_read stack p puncts.Plus = unary_read stack p Plus
want_sign_read stack p puncts.Minus = unary_read stack p Minus
want_sign_read stack p puncts.Tilde = unary_read stack p Complement
want_sign_read stack p puncts.Not = unary_read stack p Not
want_sign_read stack p _ = tt

want_keyword_read : (stack : List Frame) (p : Place) (k : Keyword)
    → Leads (Wanting stack) p (keyword k) (want_keyword stack p k)
want_keyword_read stack p keywords.Sizeof =
    once (λ ws us h. w_plainly (pushed_read (Sizeof p) stack (omega arith) h.fits tt h.stacked
    (b_sizeof p)))
want_keyword_read stack p _ = tt

pub operand_read : (stack : List Frame) (p : Place) (s : Symbol)
    → Leads (Wanting stack) p s (operand_at stack p s)
operand_read stack p (name n) =
    once (λ ws us h. have_read (leaf_fits h) h.stacked (r_identifier p n))
operand_read stack p (number v) =
    once (λ ws us h. have_read (leaf_fits h) h.stacked (r_constant p v))
operand_read stack p (text b) = once (λ ws us h. have_read (leaf_fits h) h.stacked (r_string p b))
operand_read stack p (keyword k) = want_keyword_read stack p k
operand_read stack p (sign s) = want_sign_read stack p s
operand_read stack p _ = tt

------ after an operand

reducing : (o : Option Taken) (stack : List Frame) (j k : ℕ) (a : Expr) (p : Place) (s : Symbol)
    → Leads (Having (reduce j stack k a).level (reduce j stack k a).stack
    (reduce j stack k a).operand) p s o → Leads (Having k stack a) p s o
reducing o stack j k a p s g =
    leads_by (Having k stack a) (Having (reduce j stack k a).level (reduce j stack k a).stack
    (reduce j stack k a).operand) p s o
    (λ x r d ws us h. reduce_holds stack j k a h) g

abbrev symbol_by : Infix → Symbol
symbol_by (by_operator op) = binary_sign op
symbol_by (by_assignment op) = assignment_sign op
symbol_by by_question = sign puncts.Question
symbol_by by_comma = comma_sign
symbol_by by_bracket = left_bracket
symbol_by by_parenthesis = left_paren

began_by : (i : Infix) (p : Place) {r : Role} {d : ℕ} {ts us : List Marked} {a : Expr}
    → Reads d (left i) ts (counted (weigh_at i d) p (symbol_by i) ∷ us) a
    → Began (begun i a) r d ts us
began_by (by_operator op) p r = b_binary p op r
began_by (by_assignment op) p r = b_assign p op r
began_by by_question p r = b_then p r
began_by by_comma p r = b_comma p r
began_by by_bracket p r = b_subscript p r
began_by by_parenthesis p r = b_callee p r

made_by : (i : Infix) (a : Expr) → makes i ≤ made (begun i a)
made_by (by_operator op) a = omega arith
made_by (by_assignment op) a = omega arith
made_by by_question a = omega arith
made_by by_comma a = omega arith
made_by by_bracket a = omega arith
made_by by_parenthesis a = omega arith

hole_by : (i : Infix) (a : Expr) → hole (begun i a) ≤ 14
hole_by (by_operator op) a = let h = level-most op in omega arith
hole_by (by_assignment op) a = omega arith
hole_by by_question a = omega arith
hole_by by_comma a = omega arith
hole_by by_bracket a = omega arith
hole_by by_parenthesis a = omega arith

inside_by : (i : Infix) (a : Expr) (stack : List Frame) → Inside (begun i a) stack
inside_by (by_operator op) a stack = tt
inside_by (by_assignment op) a stack = tt
inside_by by_question a stack = tt
inside_by by_comma a stack = tt
inside_by by_bracket a stack = tt
inside_by by_parenthesis a stack = tt

begun_read : (i : Infix) (stack : List Frame) (l : ℕ) (a : Expr) (p : Place) {ws us : List Marked}
    → hole_of stack ≤ makes i → left i ≤ l
    → Holds l stack a ws (counted (weigh_at i (depth stack)) p (symbol_by i) ∷ us)
    → Wants (begun i a ∷ stack) ws us
begun_read i stack l a p le least h = let e = made_by i a in
    pushed_read (begun i a) stack (hole_by i a) (omega arith) (inside_by i a stack) h.stacked
    (began_by i p (lowered (left i) l least h.reads))

infix_read : (i : Infix) (stack : List Frame) (l : ℕ) (a : Expr) (p : Place) (other : Option Taken)
    → left i ≤ l → Leads (Having l stack a) p (symbol_by i) other
    → Leads (Having l stack a) p (symbol_by i) (infix_at i (reduced stack l a) other)
infix_read i stack l a p other least f =
    branches (Having l stack a) p (symbol_by i) (nat_le (hole_of stack) (makes i))
    (loud (want (begun i a ∷ stack)) (weigh_at i (depth stack))) other
    (λ e. let le : hole_of stack ≤ makes i = grind (arith, nat_tests) in
    once (λ ws us h. w_plainly (begun_read i stack l a p le least h)))
    (λ e. f)

infix_level_read : (i : Infix) (stack : List Frame) (l : ℕ) (a : Expr) (p : Place)
    → Leads (Having l stack a) p (symbol_by i) (infix_of_level i (reduced stack l a))
infix_level_read i stack l a p =
    branches (Having l stack a) p (symbol_by i) (nat_le (left i) l)
    (infix_at i (reduced stack l a) None) None
    (λ e. let le : left i ≤ l = grind (arith, nat_tests) in infix_read i stack l a p None le tt)
    (λ e. tt)

goes_on_read : (i : Infix) (k : ℕ) (stack : List Frame) (a : Expr) (p : Place)
    → Leads (Having k stack a) p (symbol_by i) (goes_on i k stack a)
goes_on_read i k stack a p =
    reducing (goes_on i k stack a) stack (reach i) k a p (symbol_by i)
    (infix_level_read i (reduce (reach i) stack k a).stack (reduce (reach i) stack k a).level
    (reduce (reach i) stack k a).operand p)

pub enumerated : {r : Role} {d : ℕ} {ts us vs : List Marked} {es : Enumerators} {e : Enumerator}
    → EnumeratorsFrom es r d ts us → ReadsEnumerator r d us vs e
    → ReadsEnumerators r d ts vs (then_enumerator es e)
enumerated no_enumerator_yet h = r_enumerator h
enumerated (enumerators_read q g) h = r_enumerators q g h

-- an expression that is an initialiser
value_read : (stack : List Frame) (l : ℕ) (b : Expr) (p : Place) (s : Punct)
    → 1 ≤ hole_of stack → Leads (Having l stack b) p (sign s) (value_at stack b s)
value_read stack l b p s le =
    leads_by (Having l stack b) (Initializing (value (place_of b) b) stack) p (sign s)
    (value_at stack b s)
    (λ x r d ws us h. record {
      from = h.from;
      stacked = h.stacked;
      reads = r_value (lowered 1 l (let f = h.fits in omega arith) h.reads);
    }) (initialized_read stack (value (place_of b) b) p s)

argument_read : (stack : List Frame) (l : ℕ) (b : Expr) (p : Place)
    → Leads (Having l stack b) p comma_sign (argument_at stack b)
argument_read (Callee a ∷ stack) l b p =
    once (λ ws us h. w_plainly (first h.fits h.stacked h.reads)) where
      first : {ws from us : List Marked} → 1 ≤ l → Stacked (Callee a ∷ stack) ws from
          → Reads (suc (depth stack)) l from (quiet (suc (depth stack)) p comma_sign ∷ us) b
          → Wants (Calling a (then_argument no_arguments b) ∷ stack) ws us
      first le (more s fit _ (b_callee q r)) n =
          pushed_read (Calling a (then_argument no_arguments b)) stack (omega arith) fit tt s
          (b_calling q p r (r_argument (lowered 1 l le n)))
argument_read (Calling a xs ∷ stack) l b p =
    once (λ ws us h. w_plainly (further h.fits h.stacked h.reads)) where
      further : {ws from us : List Marked} → 1 ≤ l → Stacked (Calling a xs ∷ stack) ws from
          → Reads (suc (depth stack)) l from (quiet (suc (depth stack)) p comma_sign ∷ us) b
          → Wants (Calling a (then_argument xs b) ∷ stack) ws us
      further le (more s fit _ (b_calling q c r rs)) n =
          pushed_read (Calling a (then_argument xs b)) stack (omega arith) fit tt s
          (b_calling q p r (r_arguments c rs (lowered 1 l le n)))
argument_read (Valued q n ∷ Listing y t es ∷ stack) l b p =
    once (λ ws us h. further h.fits h.stacked h.reads) where
      further : {ws from us : List Marked} → 2 ≤ l
          → Stacked (Valued q n ∷ Listing y t es ∷ stack) ws from
          → Reads (braced (depth stack)) l from
          (at (within stack) (braced (depth stack)) p comma_sign ∷ us) b
          → EnumeratorAt (Listing y t (then_enumerator es (valued q n b)) ∷ stack) ws us
      further le (more (more s f i (b_listing z tag es)) _ _ (b_valued w)) m =
          record {
            listing = is_listing;
            stacked =
                more s f i (b_listing z tag
                (enumerators_read p (enumerated es (r_valued q w n (lowered 2 l le m)))));
          }
argument_read (Designated g ∷ stack) l b p =
    value_read (Designated g ∷ stack) l b p puncts.Comma (omega arith)
argument_read (Initialized x ∷ stack) l b p =
    value_read (Initialized x ∷ stack) l b p puncts.Comma (omega arith)
argument_read _ l b p = tt

close_read : (stack : List Frame) (l : ℕ) (b : Expr) (p : Place)
    → Leads (Having l stack b) p right_paren (close_at stack b)
close_read (Parenthesis q ∷ stack) l b p = once (λ ws us h. inner h.fits h.stacked h.reads) where
  inner : {ws from us : List Marked} → 0 ≤ l → Stacked (Parenthesis q ∷ stack) ws from
      → Reads (suc (depth stack)) l from (quiet (suc (depth stack)) p right_paren ∷ us) b
      → Holds 15 stack (parenthesized q b) ws us
  inner le (more s fit _ (b_parenthesis _)) n =
      have_read fit s (r_parenthesized q p (lowered 0 l le n))
close_read (Callee a ∷ stack) l b p = once (λ ws us h. only h.fits h.stacked h.reads) where
  only : {ws from us : List Marked} → 1 ≤ l → Stacked (Callee a ∷ stack) ws from
      → Reads (suc (depth stack)) l from (quiet (suc (depth stack)) p right_paren ∷ us) b
      → Holds 15 stack (call (place_of a) a (then_argument no_arguments b)) ws us
  only le (more s fit _ (b_callee q r)) n =
      have_read fit s (r_call q p r (r_argument (lowered 1 l le n)))
close_read (Calling a xs ∷ stack) l b p = once (λ ws us h. last h.fits h.stacked h.reads) where
  last : {ws from us : List Marked} → 1 ≤ l → Stacked (Calling a xs ∷ stack) ws from
      → Reads (suc (depth stack)) l from (quiet (suc (depth stack)) p right_paren ∷ us) b
      → Holds 15 stack (call (place_of a) a (then_argument xs b)) ws us
  last le (more s fit _ (b_calling q c r rs)) n =
      have_read fit s (r_call q p r (r_arguments c rs (lowered 1 l le n)))
close_read (Statement s c ∷ []) l b p = part_read s c l b p right_paren
close_read _ l b p = tt

bracket_read : (stack : List Frame) (l : ℕ) (b : Expr) (p : Place)
    → Leads (Having l stack b) p right_bracket (bracket_at stack b)
bracket_read (Subscript a ∷ stack) l b p = once (λ ws us h. inner h.fits h.stacked h.reads) where
  inner : {ws from us : List Marked} → 0 ≤ l → Stacked (Subscript a ∷ stack) ws from
      → Reads (suc (depth stack)) l from (quiet (suc (depth stack)) p right_bracket ∷ us) b
      → Holds 15 stack (subscript (place_of a) a b) ws us
  inner le (more s fit _ (b_subscript q r)) n =
      have_read fit s (r_subscript q p r (lowered 0 l le n))
bracket_read (Length m w ps c ss q qs ∷ stack) l b p =
    once (λ ws us h. length h.fits h.stacked h.reads) where
      length : {ws from us : List Marked} → 1 ≤ l → Stacked (Length m w ps c ss q qs ∷ stack) ws from
          → Reads (suc (stars ps (depth stack))) l from
          (at (within stack) (suc (stars ps (depth stack))) p right_bracket ∷ us) b
          → WholeAt m w ps c (then_suffix ss (sized q qs b)) stack ws us
      length le (more s _ i (b_length h g)) n = record {
        part = part_suffix ps c ss (sized q qs b);
        middle = record {
          from = _;
          host = i;
          stacked = s;
          direct = record {
            naming = h.naming;
            suits = h.suits;
            begins = h.begins;
            middle = h.middle;
            pointers = h.pointers;
            direct = r_suffix h.direct (r_sized q p g (lowered 1 l le n));
          };
        };
      }
bracket_read (Index q ∷ stack) l b p = once (λ ws us h. inner h.fits h.stacked h.reads) where
  inner : {ws from us : List Marked} → 2 ≤ l → Stacked (Index q ∷ stack) ws from
      → Reads (suc (depth stack)) l from (loose (suc (depth stack)) p right_bracket ∷ us) b
      → DesignatorAt (of_index q b) stack ws us
  inner le (more s _ i (b_index _)) n =
      record { from = _; braces = i; stacked = s; reads = index_read q p (lowered 2 l le n) }
bracket_read _ l b p = tt

------ after type specifiers with braces

-- such a specifier ends in others
pub specified_read : (B : Bool → List Marked → List Marked → Type 0) (stack : List Frame)
    (q : Place) (d : ℕ) (x : Specifier) (s : Symbol)
    → ((ws us : List Marked) → B false ws (at (within stack) d q s ∷ us) → TypeAt x stack ws us)
    → (y : Place) → Leads B q s (specified stack y d x)
specified_read B (Specified o p xs ∷ stack) q d x s f y = once (λ ws us h. go (f ws us h)) where
  go : {ws us : List Marked} → TypeAt x (Specified o p xs ∷ stack) ws us
      → WordsAt o p (then_specifier xs x) stack ws us
  go h = whole h.stacked (h.reads (words_of o) (has_type xs)) where
    whole : {ws from us : List Marked} → Stacked (Specified o p xs ∷ stack) ws from
        → ReadsSpecifier (within stack) (depth stack) (words_of o) (has_type xs) from us x
        → WordsAt o p (then_specifier xs x) stack ws us
    whole (more st _ i (b_specified g)) r = one_more i st g r
specified_read B _ q d x s f y = tt

-- a `}` after enumerators
pub listed_whole : {stack : List Frame} {t : MayTag} {es : Enumerators} {ws from us : List Marked}
    (p : Place) (e : Enumerator) (x : Place)
    → Stacked (Listing p t es ∷ stack) ws from
    → ReadsEnumerator (within stack) (braced (depth stack)) from
    (at (within stack) (braced (depth stack)) x right_brace ∷ us) e
    → TypeAt (of_type p (enumeration p (listed p t (then_enumerator es e) false))) stack ws us
listed_whole p e x (more s _ _ (b_listing z tag es)) r = record {
  from = _;
  stacked = s;
  reads = λ w b. r_type (r_enumeration (r_listed p z x tag (enumerated es r) r_no_comma));
}

brace_read : (stack : List Frame) (l : ℕ) (b : Expr) (p : Place)
    → Leads (Having l stack b) p right_brace (brace_at stack b)
brace_read (Valued q n ∷ Listing y t es ∷ stack) l b p =
    specified_read (Having l (Valued q n ∷ Listing y t es ∷ stack) b) stack p (braced (depth stack))
    (of_type y (enumeration y (listed y t (then_enumerator es (valued q n b)) false)))
    right_brace (λ ws us h. go h.fits h.stacked h.reads) y where
      go : {ws from us : List Marked} → 2 ≤ l
          → Stacked (Valued q n ∷ Listing y t es ∷ stack) ws from
          → Reads (braced (depth stack)) l from
          (at (within stack) (braced (depth stack)) p right_brace ∷ us) b
          → TypeAt (of_type y
          (enumeration y (listed y t (then_enumerator es (valued q n b)) false))) stack ws us
      go le (more s _ _ (b_valued w)) m =
          listed_whole y (valued q n b) p s (r_valued q w n (lowered 2 l le m))
brace_read (Designated g ∷ stack) l b p =
    value_read (Designated g ∷ stack) l b p puncts.RightBrace (omega arith)
brace_read _ l b p = tt

------ the signs after an operand

colon_read : (stack : List Frame) (l : ℕ) (b : Expr) (p : Place)
    → Leads (Having l stack b) p colon (colon_at stack b)
colon_read (Then a ∷ stack) l b p =
    once (λ ws us h. w_plainly (inner h.fits h.stacked h.reads)) where
      inner : {ws from us : List Marked} → 0 ≤ l → Stacked (Then a ∷ stack) ws from
          → Reads (suc (depth stack)) l from (quiet (suc (depth stack)) p colon ∷ us) b
          → Wants (Else a b ∷ stack) ws us
      inner le (more s fit _ (b_then q r)) n =
          pushed_read (Else a b) stack (omega arith) fit tt s (b_else q p r (lowered 0 l le n))
colon_read (Statement s c ∷ []) l b p = part_read s c l b p colon
colon_read _ l b p = tt

semicolon_read : (stack : List Frame) (l : ℕ) (b : Expr) (p : Place)
    → Leads (Having l stack b) p semicolon (semicolon_at stack b)
semicolon_read (Initialized x ∷ stack) l b p =
    value_read (Initialized x ∷ stack) l b p puncts.Semicolon (omega arith)
semicolon_read (Statement s c ∷ []) l b p = part_read s c l b p semicolon
semicolon_read _ l b p = tt

postfix_read : (k : ℕ) (stack : List Frame) (a : Expr) (p : Place) (s : Symbol) (o : Option Taken)
    → (15 ≤ k → Leads (Having k stack a) p s o)
    → Leads (Having k stack a) p s (after_postfix k o)
postfix_read k stack a p s o f =
    branches (Having k stack a) p s (nat_le 15 k) o None
    (λ e. let le : 15 ≤ k = grind (arith, nat_tests) in f le) (λ e. tt)

selects_read : (k : ℕ) (stack : List Frame) (a : Expr) (p : Place) (s : Selector)
    → Leads (Having k stack a) p (selector_sign s)
    (after_postfix k (loud (state stack (Selecting s a)) (depth stack)))
selects_read k stack a p s =
    postfix_read k stack a p (selector_sign s) (loud (state stack (Selecting s a)) (depth stack))
    (λ le. once (λ ws us h. go le h)) where
      go : {ws us : List Marked} → 15 ≤ k
          → Holds k stack a ws (counted (depth stack) p (selector_sign s) ∷ us)
          → Selects stack s a ws us
      go le h = let most = h.most in let fits = h.fits in
          record {
            from = h.from;
            fits = omega arith;
            place = p;
            stacked = h.stacked;
            reads =
                lowered 15 k le h.reads;
          }

steps_read : (k : ℕ) (stack : List Frame) (a : Expr) (p : Place) (s : StepSign)
    → Leads (Having k stack a) p (step_sign s)
    (after_postfix k (loud (have 15 stack (postfix (place_of a) s a)) (depth stack)))
steps_read k stack a p s =
    postfix_read k stack a p (step_sign s)
    (loud (have 15 stack (postfix (place_of a) s a)) (depth stack))
    (λ le. once (λ ws us h. go le h)) where
      go : {ws us : List Marked} → 15 ≤ k
          → Holds k stack a ws (counted (depth stack) p (step_sign s) ∷ us)
          → Holds 15 stack (postfix (place_of a) s a) ws us
      go le h = let most = h.most in let fits = h.fits in
          have_read (omega arith) h.stacked (r_postfix p s (lowered 15 k le h.reads))

pub have_sign_read : (stack : List Frame) (k : ℕ) (a : Expr) (p : Place) (s : Punct)
    → Leads (Having k stack a) p (sign s) (have_sign stack k a s)
have_sign_read stack k a p puncts.Comma =
    reducing (comma_at (reduce 0 stack k a)) stack 0 k a p comma_sign
    (infix_read by_comma (reduce 0 stack k a).stack (reduce 0 stack k a).level
    (reduce 0 stack k a).operand p
    (argument_at (reduce 0 stack k a).stack (reduce 0 stack k a).operand) (omega arith)
    (argument_read (reduce 0 stack k a).stack (reduce 0 stack k a).level
    (reduce 0 stack k a).operand p))
have_sign_read stack k a p puncts.RightParenthesis =
    reducing (after close_at (reduce 0 stack k a)) stack 0 k a p right_paren
    (close_read (reduce 0 stack k a).stack (reduce 0 stack k a).level (reduce 0 stack k a).operand
    p)
have_sign_read stack k a p puncts.RightBracket =
    reducing (after bracket_at (reduce 0 stack k a)) stack 0 k a p right_bracket
    (bracket_read (reduce 0 stack k a).stack (reduce 0 stack k a).level (reduce 0 stack k a).operand
    p)
have_sign_read stack k a p puncts.RightBrace =
    reducing (after brace_at (reduce 0 stack k a)) stack 0 k a p right_brace
    (brace_read (reduce 0 stack k a).stack (reduce 0 stack k a).level (reduce 0 stack k a).operand
    p)
have_sign_read stack k a p puncts.Colon =
    reducing (after colon_at (reduce 0 stack k a)) stack 0 k a p colon
    (colon_read (reduce 0 stack k a).stack (reduce 0 stack k a).level (reduce 0 stack k a).operand
    p)
have_sign_read stack k a p puncts.Semicolon =
    reducing (after semicolon_at (reduce 0 stack k a)) stack 0 k a p semicolon
    (semicolon_read (reduce 0 stack k a).stack (reduce 0 stack k a).level
    (reduce 0 stack k a).operand p)
have_sign_read stack k a p puncts.Dot = selects_read k stack a p Dot
have_sign_read stack k a p puncts.Arrow = selects_read k stack a p Arrow
have_sign_read stack k a p puncts.PlusPlus = steps_read k stack a p Increment
have_sign_read stack k a p puncts.MinusMinus = steps_read k stack a p Decrement
have_sign_read stack k a p puncts.Star = goes_on_read (by_operator binaries.Multiply) k stack a p
have_sign_read stack k a p puncts.Slash = goes_on_read (by_operator binaries.Divide) k stack a p
have_sign_read stack k a p puncts.Percent =
    goes_on_read (by_operator binaries.Remainder) k stack a p
have_sign_read stack k a p puncts.Plus = goes_on_read (by_operator binaries.Add) k stack a p
have_sign_read stack k a p puncts.Minus = goes_on_read (by_operator binaries.Subtract) k stack a p
have_sign_read stack k a p puncts.LeftShift =
    goes_on_read (by_operator binaries.ShiftLeft) k stack a p
have_sign_read stack k a p puncts.RightShift =
    goes_on_read (by_operator binaries.ShiftRight) k stack a p
have_sign_read stack k a p puncts.Less = goes_on_read (by_operator binaries.Less) k stack a p
have_sign_read stack k a p puncts.Greater = goes_on_read (by_operator binaries.Greater) k stack a p
have_sign_read stack k a p puncts.LessEqual =
    goes_on_read (by_operator binaries.LessEqual) k stack a p
have_sign_read stack k a p puncts.GreaterEqual =
    goes_on_read (by_operator binaries.GreaterEqual) k stack a p
have_sign_read stack k a p puncts.EqualEqual = goes_on_read (by_operator binaries.Equal) k stack a p
have_sign_read stack k a p puncts.NotEqual =
    goes_on_read (by_operator binaries.NotEqual) k stack a p
have_sign_read stack k a p puncts.And = goes_on_read (by_operator binaries.And) k stack a p
have_sign_read stack k a p puncts.Caret =
    goes_on_read (by_operator binaries.ExclusiveOr) k stack a p
have_sign_read stack k a p puncts.Or = goes_on_read (by_operator binaries.Or) k stack a p
have_sign_read stack k a p puncts.AndAnd =
    goes_on_read (by_operator binaries.LogicalAnd) k stack a p
have_sign_read stack k a p puncts.OrOr = goes_on_read (by_operator binaries.LogicalOr) k stack a p
have_sign_read stack k a p puncts.Equal = goes_on_read (by_assignment assignments.Plain) k stack a p
have_sign_read stack k a p puncts.StarEqual =
    goes_on_read (by_assignment assignments.Multiply) k stack a p
have_sign_read stack k a p puncts.SlashEqual =
    goes_on_read (by_assignment assignments.Divide) k stack a p
have_sign_read stack k a p puncts.PercentEqual =
    goes_on_read (by_assignment assignments.Remainder) k stack a p
have_sign_read stack k a p puncts.PlusEqual =
    goes_on_read (by_assignment assignments.Add) k stack a p
have_sign_read stack k a p puncts.MinusEqual =
    goes_on_read (by_assignment assignments.Subtract) k stack a p
have_sign_read stack k a p puncts.LeftShiftEqual =
    goes_on_read (by_assignment assignments.ShiftLeft) k stack a p
have_sign_read stack k a p puncts.RightShiftEqual =
    goes_on_read (by_assignment assignments.ShiftRight) k stack a p
have_sign_read stack k a p puncts.AndEqual =
    goes_on_read (by_assignment assignments.And) k stack a p
have_sign_read stack k a p puncts.CaretEqual =
    goes_on_read (by_assignment assignments.ExclusiveOr) k stack a p
have_sign_read stack k a p puncts.OrEqual = goes_on_read (by_assignment assignments.Or) k stack a p
have_sign_read stack k a p puncts.Question = goes_on_read by_question k stack a p
have_sign_read stack k a p puncts.LeftBracket = goes_on_read by_bracket k stack a p
have_sign_read stack k a p puncts.LeftParenthesis = goes_on_read by_parenthesis k stack a p
have_sign_read stack k a p _ = tt

pub having_read : (stack : List Frame) (k : ℕ) (a : Expr) (p : Place) (s : Symbol)
    → Leads (Having k stack a) p s (step_have stack k a s)
having_read stack k a p (sign s) = have_sign_read stack k a p s
having_read stack k a p _ = tt

pub selecting_read : (stack : List Frame) (s : Selector) (a : Expr) (p : Place) (t : Symbol)
    → Leads (λ x ws us. Selects stack s a ws us) p t (step_selecting stack s a t)
selecting_read stack s a p (name n) =
    once (λ ws us h. have_read h.fits h.stacked (r_member h.place p n s h.reads))
selecting_read stack s a p _ = tt

------ the end

pub finished_read : (stack : List Frame) (m : At) (t : Expr) (x : Bool) {ws us : List Marked}
    → ReadAt stack m x ws us → finished_at stack m ≡ Some t → Reads 0 0 ws us t
finished_read stack (Have k a) t x r e =
    ended (reduce 0 stack k a).stack (reduce 0 stack k a).level (reduce 0 stack k a).operand
    (reduce_holds stack 0 k a r) e where
      all_read : (l : ℕ) (b : Expr) {ws from us : List Marked} → Stacked [] ws from → Reads 0 l from us b
          → Reads 0 0 ws us b
      all_read l b empty r = lowered 0 l (omega arith) r

      ended : (stack : List Frame) (l : ℕ) (b : Expr) {ws us : List Marked} → Holds l stack b ws us
          → end_at stack b ≡ Some t → Reads 0 0 ws us t
      ended [] l b {ws} {us} h e = let same : b ≡ t = cc in
          subst (λ (x : Expr). Reads 0 0 ws us x) same (all_read l b h.stacked h.reads)
      ended (f ∷ stack) l b h e = cc
finished_read stack _ t x r e = cc
