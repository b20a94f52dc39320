use Rattle.std.proofs.Common.{◌≡◌, ◌||◌, Bool, true, false, List, map, sym, ap, ◌∙◌, arith}
use Rattle.hv_plain.specs.episode.Bodies.{Part}
use Rattle.hv_plain.specs.episode.Substitution.{argument, fill, space_of, stands_for, whole}
use Rattle.hv_plain.specs.episode.Tokens.{Token, still_owed}
use Rattle.hv_rescan.proofs.Fillings.{expanded_none, expanded_some, first_joined, first_single, owed_never, owed_where_empty, owes_not, owes_or, placed_is, steps_joined, steps_single, tokens-append}
use Rattle.hv_rescan.specs.Values.{arguments_of, frame_of, operand_of, part_of, tokens_of}
use Rattle.hv_rescan.specs.declared.part.Operand.{Operand as Operand'}
use Rattle.hv_rescan.specs.declared.part.Part.{Part as Part'}
use Rattle.hv_rescan.specs.declared.part.Part.TheVariants as part'
use Rattle.hv_rescan.specs.declared.token.Token.{Token as Token'}
use Rattle.hv_rescan.specs.working.Steps.{joined_of, placed}
use Rattle.hv_rescan.proofs.substitution.fill.Goals.{in-Single, in-Joined, then-own, else-own, then-space_of, else-space_of, then-owes, else-owes}
use Rattle.hv_rescan.proofs.substitution.fill.Goals as goal

abbrev Which : Type 0
Which = Operand' × Bool

is_joined : (p : Part') (x : Which) (o : Operand') → x ≡ (o, true) → p ≡ part'.Joined o
    → p ≡ part'.Joined x.0
is_joined p x o e h = h ∙ ap (λ (y : Which). part'.Joined y.0) (sym e)

is_single : (p : Part') (x : Which) (o : Operand') → x ≡ (o, false) → p ≡ part'.Single o
    → p ≡ part'.Single x.0
is_single p x o e h = h ∙ ap (λ (y : Which). part'.Single y.0) (sym e)

not_both : (x : Which) (o : Operand') (a b : Bool) → x ≡ (o, a) → x.1 ≡ b → a ≡ b
not_both x o a b e h = ap (λ (y : Which). y.1) (sym e) ∙ h

pub loop-part-preserved-then-joins : goal.loop-part-preserved-then-joins
loop-part-preserved-then-joins c macros run =
    let f = frame_of macros run c.args.frame in
    let x : Which = c.match-part.operand in
    let part : c.in-Some.part ≡ part'.Joined x.0 = elim c.match-part.branch [
      | in-Single w ↦
          let e : false ≡ true = not_both x _ false true w.operand-is c.if-joins.true in cc
      | in-Joined w ↦ is_joined _ x _ w.operand-is w.in-Joined.is
    ] in
    let owes : c.if-space_of.owes ≡ (space_of (operand_of x.0) || c.loop-part.owed) =
    elim c.if-space_of.branch [
      | then-space_of w ↦ owes_or _ _ _ (sym c.space_of.ensures ∙ w.if-space_of.true)
          (w.owes-is ∙ w.if-space_of.true)
      | else-space_of w ↦ owes_not _ _ _ (sym c.space_of.ensures ∙ w.if-space_of.false) w.owes-is
    ] in
    let still : c.if-owes.owed
    ≡ still_owed c.if-space_of.owes (tokens_of macros c.in_ok-tokens.tokens.items) =
    elim c.if-owes.branch [
      | then-owes v ↦ owed_where_empty macros _ _ _ _ _ v.if-owes.true v.owed-is
          v.is_empty-owed.ensures (omega (arith, c.in_ok-tokens.tokens.ok))
      | else-owes v ↦ owed_never _ _ _ v.if-owes.false v.owed-is
    ] in
    let tokens : tokens_of macros c.in_ok-tokens.tokens.items
    ≡ stands_for f.arguments c.if-space_of.owes (operand_of x.0) =
    c.in_ok-tokens.ensures macros
    ∙ ap (λ (vs : List (List Token')).
    stands_for (arguments_of macros vs) c.if-space_of.owes (operand_of x.0))
    c.deref-in-Some.ensures.value in
    steps_joined f (operand_of x.0) (map part_of c.pop.new.self) c.loop-part.owed
    c.if-space_of.owes c.if-owes.owed (tokens_of macros c.loop-part.built.items)
    (tokens_of macros c.loop-part.last.items) (tokens_of macros c.in_ok-tokens.tokens.items)
    (tokens_of macros c.in-Some-2.both.items) owes still tokens
    (ap (joined_of macros) (sym c.in-Some-2.is) ∙ c.in_ok-both.ensures macros)
    ∙ ap (λ (ps : List Part). fill f ps c.loop-part.owed
    (tokens_of macros c.loop-part.built.items) (tokens_of macros c.loop-part.last.items))
    (sym (first_joined c.loop-part.rest c.pop.new.self c.in-Some.part x.0
    c.in-Some.ensures.some part))
    ∙ c.loop-part.invariant macros run

pub loop-part-preserved : goal.loop-part-preserved
loop-part-preserved c macros run =
    let f = frame_of macros run c.args.frame in
    let x : Which = c.match-part.operand in
    let part : c.in-Some.part ≡ part'.Single x.0 = elim c.match-part.branch [
      | in-Single w ↦ is_single _ x _ w.operand-is w.in-Single.is
      | in-Joined w ↦
          let e : true ≡ false = not_both x _ true false w.operand-is c.if-joins.false in cc
    ] in
    let owes : c.if-space_of.owes ≡ (space_of (operand_of x.0) || c.loop-part.owed) =
    elim c.if-space_of.branch [
      | then-space_of w ↦ owes_or _ _ _ (sym c.space_of.ensures ∙ w.if-space_of.true)
          (w.owes-is ∙ w.if-space_of.true)
      | else-space_of w ↦ owes_not _ _ _ (sym c.space_of.ensures ∙ w.if-space_of.false) w.owes-is
    ] in
    let still : c.if-owes.owed
    ≡ still_owed c.if-space_of.owes (tokens_of macros c.in_ok-tokens.tokens.items) =
    elim c.if-owes.branch [
      | then-owes v ↦ owed_where_empty macros _ _ _ _ _ v.if-owes.true v.owed-is
          v.is_empty-owed.ensures (omega (arith, c.in_ok-tokens.tokens.ok))
      | else-owes v ↦ owed_never _ _ _ v.if-owes.false v.owed-is
    ] in
    let tokens : tokens_of macros c.in_ok-tokens.tokens.items
    ≡ stands_for f.arguments c.if-space_of.owes (operand_of x.0) =
    c.in_ok-tokens.ensures macros
    ∙ ap (λ (vs : List (List Token')).
    stands_for (arguments_of macros vs) c.if-space_of.owes (operand_of x.0))
    c.deref-in-Some.ensures.value in
    steps_single f (operand_of x.0) (map part_of c.pop.new.self) c.loop-part.owed
    c.if-space_of.owes c.if-owes.owed (tokens_of macros c.loop-part.built.items)
    (tokens_of macros c.loop-part.last.items) (tokens_of macros c.in_ok-tokens.tokens.items)
    (tokens_of macros c.append-else-joins.new.self.items) owes still tokens
    (tokens-append macros _ _ _ c.in_ok-append.ensures.items)
    ∙ ap (λ (ps : List Part). fill f ps c.loop-part.owed
    (tokens_of macros c.loop-part.built.items) (tokens_of macros c.loop-part.last.items))
    (sym (first_single c.loop-part.rest c.pop.new.self c.in-Some.part x.0
    c.in-Some.ensures.some part))
    ∙ c.loop-part.invariant macros run

pub returns : goal.returns
returns c macros run =
    let f = frame_of macros run c.args.frame in
    ap whole (c.in_ok-substituted.ensures macros run
    ∙ ap (λ (ts : List Token). placed f.around ts f.hides f.space)
    (tokens-append macros _ _ _ c.in_ok-append-2.ensures.items)
    ∙ placed_is f _)
    ∙ ap (λ (ps : List Part'). fill f (map part_of ps) c.loop-part.owed
    (tokens_of macros c.loop-part.built.items) (tokens_of macros c.loop-part.last.items))
    (sym c.in_default.ensures.none.0)
    ∙ c.loop-part.invariant macros run

pub loop-part-preserved-in-Expanded : goal.loop-part-preserved-in-Expanded
loop-part-preserved-in-Expanded c macros run =
    let owes : c.if-own.owed ≡ (c.in-Expanded.own || c.loop-part.owed) =
    elim c.if-own.branch [
      | then-own w ↦ owes_or _ _ _ w.if-own.true (w.owed-is ∙ w.if-own.true)
      | else-own w ↦ owes_not _ _ _ w.if-own.false w.owed-is
    ] in
    expanded_none macros (frame_of macros run c.args.frame) c.loop-part.rest c.pop.new.self
    c.in-Some.part c.in-Expanded.index c.in-Expanded.own c.loop-part.owed c.if-own.owed
    (tokens_of macros c.loop-part.built.items) (tokens_of macros c.append.new.self.items)
    (tokens_of macros c.loop-part.last.items) (tokens_of macros c.append.new.other.items)
    c.in_ok-next-in-Expanded.next (tokens_of macros c.in_ok-more-in-Expanded.more)
    (tokens_of macros c.pop-in-Expanded.new.self)
    c.in-Some.ensures.some c.in-Expanded.is owes
    (c.in_ok-more-in-Expanded.ensures macros
    ∙ ap (λ (vs : List (List Token')). argument (arguments_of macros vs) c.in-Expanded.index)
    c.deref.ensures.value)
    c.in_default-next.is (c.in_ok-next-in-Expanded.ensures macros)
    (tokens-append macros _ _ _ c.in_ok-append-in-Expanded.ensures.items)
    (ap (tokens_of macros) c.in_ok-append-in-Expanded.ensures.other_items)
    ∙ c.loop-part.invariant macros run

pub returns-in-Some-next : goal.returns-in-Some-next
returns-in-Some-next c macros run =
    let owes : c.if-own.owed ≡ (c.in-Expanded.own || c.loop-part.owed) =
    elim c.if-own.branch [
      | then-own w ↦ owes_or _ _ _ w.if-own.true (w.owed-is ∙ w.if-own.true)
      | else-own w ↦ owes_not _ _ _ w.if-own.false w.owed-is
    ] in
    expanded_some macros (frame_of macros run c.args.frame) c.loop-part.rest c.pop.new.self
    c.in-Some.part c.in-Expanded.index c.in-Expanded.own c.loop-part.owed c.if-own.owed
    (tokens_of macros c.loop-part.built.items) (tokens_of macros c.append.new.self.items)
    (tokens_of macros c.loop-part.last.items)
    c.in_ok-next-in-Expanded.next c.in-Some-next.first
    (tokens_of macros c.in_ok-more-in-Expanded.more) (tokens_of macros c.pop-in-Expanded.new.self)
    c.in-Some.ensures.some c.in-Expanded.is owes
    (c.in_ok-more-in-Expanded.ensures macros
    ∙ ap (λ (vs : List (List Token')). argument (arguments_of macros vs) c.in-Expanded.index)
    c.deref.ensures.value)
    c.in-Some-next.is (c.in_ok-next-in-Expanded.ensures macros)
    (tokens-append macros _ _ _ c.in_ok-append-in-Expanded.ensures.items)
    ∙ c.loop-part.invariant macros run
