use Rattle.records.proofs.TapeLemmas.{tape_writes_back}
use Rattle.records.proofs.tape.TapeRecord.read.Goals as goal

pub returns-clause-writes_back : goal.returns-clause-writes_back
returns-clause-writes_back c = tape_writes_back
