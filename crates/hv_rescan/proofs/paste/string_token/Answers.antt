use Rattle.std.proofs.Common.{◌++◌, ◌∷◌, ◌<◌, sym, ap, ◌∙◌, refl, arith, length, List, ℕ}
use Rattle.hv_base.specs.Ascii as ascii
use Rattle.hv_rescan.proofs.Tokens.{quoted_token}
use Rattle.hv_rescan.specs.Values.{token_of}
use Rattle.hv_rescan.specs.working.Steps.{spelled_at}
use Rattle.hv_rescan.proofs.paste.string_token.Goals as goal

pub loop-token-preserved : goal.loop-token-preserved
loop-token-preserved c =
    let h : c.loop-token.token-index < length c.args.tokens.now = omega arith in
    record {
      text = λ macros. c.in_ok-add_token.ensures macros
          ∙ ap (λ (x : List ℕ). x ++ spelled_at c.loop-token.is_first (token_of macros c.token-item.result))
          (c.loop-token.invariant.text macros)
          ∙ ap (λ (x : List ℕ). ascii.quote ∷ x)
          (sym (quoted_token macros c.args.tokens.now c.loop-token.token-index c.token-item.result
          c.loop-token.is_first h c.token-item.is c.loop-token.invariant.first c.loop-token.invariant.later));
      first = λ z. absurd (omega arith);
      later = λ z. refl;
    }
