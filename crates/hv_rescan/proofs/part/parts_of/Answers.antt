use Rattle.std.proofs.Common.{◌-◌, ◌∙◌, ◌++◌, List, sym, refl, ap, length, map, take, drop, true, false, Some, None, arith}
use Rattle.hv_base.proofs.Lists.{take-rest}
use Rattle.hv_plain.specs.episode.Bodies.{a_part, nothing, part, parts_after, string, token_part}
use Rattle.hv_rescan.specs.Values.{part_of}
use Rattle.hv_rescan.specs.working.Steps.{before_of, parameters_of, quoted_after}
use Rattle.hv_toks.specs.declared.token.PpTok.{PpTok}
use Rattle.hv_rescan.proofs.Parts.{cut_step, part_pushed}
use Rattle.hv_rescan.proofs.Questions.{first_and_rest}
use Rattle.hv_rescan.proofs.part.parts_of.Goals as goal

pub loop-rest-preserved-then-pastes : goal.loop-rest-preserved-then-pastes
loop-rest-preserved-then-pastes c =
    let ps = parameters_of c.args.parameters in
    let rest = c.loop-rest.rest.now in
    let after = take (length rest - 1) (drop 1 rest) in
    let t = c.token-item.result in
    cut_step ps (before_of c.loop-rest.before) t after rest (map part_of c.loop-rest.parts.items)
    (parts_after ps nothing c.args.tokens.now) true (quoted_after ps t after)
    (first_and_rest rest t (omega arith) c.token-item.is)
    (sym c.if-pastes.true ∙ c.pastes.ensures) refl c.loop-rest.invariant

pub loop-rest-preserved-in_ok-push : goal.loop-rest-preserved-in_ok-push
loop-rest-preserved-in_ok-push c =
    let ps = parameters_of c.args.parameters in
    let rest = c.loop-rest.rest.now in
    let after = take (length rest - 1) (drop 1 rest) in
    let t = c.token-item.result in
    let all = parts_after ps nothing c.args.tokens.now in
    ap (λ (l : List PpTok). map part_of c.push.new.self.items ++ parts_after ps a_part l)
    (take-rest 1 after)
    ∙ part_pushed c.loop-rest.parts.items c.push.new.self.items c.operand_part.result
    (part (before_of c.loop-rest.before) (string c.in-Some.index t.space))
    (parts_after ps a_part (drop 1 after)) all c.in_ok-push.ensures.items c.operand_part.ensures
    (cut_step ps (before_of c.loop-rest.before) t after rest
    (map part_of c.loop-rest.parts.items) all false (Some c.in-Some.index)
    (first_and_rest rest t (omega arith) c.token-item.is)
    (sym c.if-pastes.false ∙ c.pastes.ensures) (sym c.in-Some.is ∙ c.quoted_after.ensures.value)
    c.loop-rest.invariant)

pub loop-rest-preserved : goal.loop-rest-preserved
loop-rest-preserved c =
    let ps = parameters_of c.args.parameters in
    let rest = c.loop-rest.rest.now in
    let after = take (length rest - 1) (drop 1 rest) in
    let t = c.token-item.result in
    let all = parts_after ps nothing c.args.tokens.now in
    part_pushed c.loop-rest.parts.items c.push-in_default-quoted_after.new.self.items
    c.in_ok-token_part.field-0 (token_part ps (before_of c.loop-rest.before) t after)
    (parts_after ps a_part after) all c.in_ok-push-2.ensures.items c.in_ok-token_part.ensures
    (cut_step ps (before_of c.loop-rest.before) t after rest
    (map part_of c.loop-rest.parts.items) all false None
    (first_and_rest rest t (omega arith) c.token-item.is)
    (sym c.if-pastes.false ∙ c.pastes.ensures)
    (sym c.in_default-quoted_after.is ∙ c.quoted_after.ensures.value)
    c.loop-rest.invariant)
