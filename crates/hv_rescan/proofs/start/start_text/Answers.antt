use Rattle.std.proofs.Common.{◌+◌, ◌++◌, ◌∙◌, [], List, ap, length, map, drop, false}
use Rattle.hv_plain.specs.episode.Expansion.{at}
use Rattle.hv_plain.specs.episode.Tokens.{Token, owing, source_token}
use Rattle.hv_rescan.specs.Values.{frames_of, givens_of, token_of, tokens_of}
use Rattle.hv_rescan.specs.declared.scan.Frame.{Frame as Frame'}
use Rattle.hv_rescan.specs.declared.token.Given.{Given}
use Rattle.hv_rescan.specs.declared.token.Token.{Token as Token'}
use Rattle.hv_rescan.proofs.Runs.{run_starts}
use Rattle.hv_rescan.proofs.Scans.{scanned}
use Rattle.hv_rescan.proofs.start.start_text.Goals as goal

pub returns : goal.returns
returns c macros =
    let run = c.args.run.now in
    let rest : List Token = owing false (map source_token (drop (c.args.at + 1) run)) in
    let t : Token = token_of macros c.in_ok-source_token.field-0 in
    ap (λ (front : List Token'). at t (scanned (tokens_of macros front ++ rest) (length rest)
    (givens_of c.new-2.result)) (frames_of macros run c.new-3.result)) (c.of_own.ensures ∙ c.new.ensures)
    ∙ ap (λ (given : List Given). at t (scanned rest (length rest) (givens_of given))
    (frames_of macros run c.new-3.result)) c.new-2.ensures
    ∙ ap (λ (frames : List Frame'). at t (scanned rest (length rest) [])
    (frames_of macros run frames)) c.new-3.ensures
    ∙ ap (λ (u : Token). at u (scanned rest (length rest) []) [])
    (c.in_ok-source_token.ensures macros)
    ∙ run_starts run c.args.at c.index-run-at.result c.requires c.index-run-at.is
