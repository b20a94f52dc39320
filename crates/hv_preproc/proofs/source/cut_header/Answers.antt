use Rattle.std.proofs.Common.{◌+◌, ℕ, List, subst}
use Rattle.std.proofs.lemmas.Result.{IfOk-weaker}
use Rattle.hv_base.specs.declared.limits.TheConstants.{FIRST_HEADER_FILE}
use Rattle.hv_preproc.proofs.SourceLemmas.{header_at_row}
use Rattle.hv_preproc.specs.working.Sources.{IsSourceOf}
use Rattle.hv_preproc.proofs.source.cut_header.Goals as goal

pub returns : goal.returns
returns c = IfOk-weaker c.cut_source.result _ _
    (λ source r. header_at_row c.args.row c.args.name.now source c.requires
    (subst (λ (bytes : List ℕ). IsSourceOf source (record {
      number = FIRST_HEADER_FILE + c.args.row;
      name = c.args.name.now;
      bytes = bytes;
    })) c.header_bytes.ensures r))
    c.cut_source.ensures
