use Rattle.std.proofs.Common.{◌≡◌, ◌<◌, ◌∷◌, ℕ, List, true, false, take}
use Rattle.hv_toks.specs.Macro.{Macro}
use Rattle.hv_base.specs.Ascii as ascii
use Rattle.hv_plain.specs.episode.Substitution.{argument_quoted}
use Rattle.hv_rescan.specs.Values.{tokens_of}
use Rattle.hv_rescan.specs.working.Drafts.{draft_of}
use Rattle.hv_rescan.proofs.paste.string_token.Given as goal

abbrev pub invariant-loop-token : goal.invariant-loop-token
invariant-loop-token l = record {
  text : (macros : List ℕ → Macro) → draft_of macros l.draft
      ≡ ascii.quote ∷ argument_quoted (tokens_of macros (take l.token-index l.tokens));
  first : l.token-index ≡ 0 → l.is_first ≡ true;
  later : 0 < l.token-index → l.is_first ≡ false;
}
