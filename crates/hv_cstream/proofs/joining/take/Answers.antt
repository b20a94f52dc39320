use Rattle.std.proofs.Common.{refl, sym, ◌∙◌, ap}
use Rattle.hv_base.specs.declared.token.CTok.TheVariants.{Str}
use Rattle.hv_cond.specs.Laws.{holds-falsity}
use Rattle.hv_cstream.proofs.Joinings.{if_ok_both, if_ok_four, is_other, joining_other, joining_skipped, joining_string}
use Rattle.hv_cstream.proofs.joining.take.Goals as goal

pub returns-then-is_false-clause-joined : goal.returns-then-is_false-clause-joined
returns-then-is_false-clause-joined c = λ tokens i.
    joining_skipped _ c.args.good c.args.token.cond tokens c.args.out.now c.args.literals i
    c.args.token.tok c.args.token.start _ c.and.ensures.keeps c.in_ok-cond.cond
    c.in_ok-cond.ensures.meaning (holds-falsity _ _ (c.if-is_false.ensures.falsity.0 refl))

pub returns-in-Str-clause-joined : goal.returns-in-Str-clause-joined
returns-in-Str-clause-joined c =
    if_ok_both c.take_string.result _ _ _
    (λ after nodes taken tokens i. joining_string c.args.store.now c.args.good c.args.token.cond
    tokens c.args.out.now c.args.literals i c.args.token.tok c.args.token.start c.and.new.self
    c.take_string.new.store c.and.ensures.keeps
    c.take_string.ensures.keeps c.in_ok-cond.cond c.in_ok-cond.ensures.meaning after nodes
    _ (c.in-Str.is ∙ ap Str (sym c.in-Str.bytes-is)) taken)
    c.take_string.ensures.nodes c.take_string.ensures.taken

pub returns-in_default-clause-joined : goal.returns-in_default-clause-joined
returns-in_default-clause-joined c =
    if_ok_four c.take_other.result _ _ _ _ _
    (λ after nodes out_nodes ended written tokens i. joining_other c.args.store.now c.args.good
    c.args.token.cond tokens c.args.out.now c.args.literals i c.args.token.tok c.args.token.start
    c.and.new.self c.take_other.new.store c.and.ensures.keeps c.take_other.ensures.keeps
    c.in_ok-cond.cond c.in_ok-cond.ensures.meaning after nodes c.take_other.new.out
    (is_other c.args.token.tok c.in_default.not-Str) out_nodes ended written)
    c.take_other.ensures.nodes c.take_other.ensures.out_nodes c.take_other.ensures.ended
    c.take_other.ensures.written
