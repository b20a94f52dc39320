use Rattle.std.proofs.Common.{◌++◌, ◌∷◌, [], ◌<◌, sym, ap, ◌∙◌, append_assoc, arith, length, List, ℕ}
use Rattle.hv_rescan.proofs.Texts.{digits_next}
use Rattle.hv_rescan.specs.working.Drafts.{nothing}
use Rattle.hv_rescan.proofs.draft.Draft.bytes.Goals as goal

pub loop-digit-preserved : goal.loop-digit-preserved
loop-digit-preserved c =
    let h : c.loop-digit.digit-index < length c.as_slice-digit-items.result.now = omega arith in
    let text : List ℕ = c.loop-digit.text in
    let before : List ℕ = c.digit-item.result.before in
    c.in_ok-add.ensures.ok
    ∙ ap (λ (x : List ℕ). x ++ 48 ∷ [])
    (c.in_ok-extend_from_slice.ensures.ok ∙ ap (λ (y : List ℕ). text ++ y) c.as_slice.ensures)
    ∙ append_assoc text before (48 ∷ [])
    ∙ ap (λ (x : List ℕ). x ++ (before ++ 48 ∷ [])) c.loop-digit.invariant
    ∙ sym (digits_next nothing c.as_slice-digit-items.result.now c.loop-digit.digit-index
    c.digit-item.result h c.digit-item.is)
