use Rattle.hv_toks.proofs.ReadsBack.{reads_back}
use Rattle.hv_toks.proofs.constants.read_int_constant.Goals as goal

pub returns-in_err-integer-clause-reads_back : goal.returns-in_err-integer-clause-reads_back
returns-in_err-integer-clause-reads_back c = reads_back

pub returns-in_err-type_of-clause-reads_back : goal.returns-in_err-type_of-clause-reads_back
returns-in_err-type_of-clause-reads_back c = reads_back

pub returns-clause-reads_back : goal.returns-clause-reads_back
returns-clause-reads_back c = reads_back
