use Rattle.apdu_c.proofs.FlatReadsBack.{flat_reads_back}
use Rattle.apdu_c.proofs.apdu_read.Goals as goal

pub returns-in-Ok-clause-back : goal.returns-in-Ok-clause-back
returns-in-Ok-clause-back c = flat_reads_back

pub returns-in-Err-clause-back : goal.returns-in-Err-clause-back
returns-in-Err-clause-back c = flat_reads_back
