use Rattle.records.proofs.SheetLemmas.{sheet_writes_back}
use Rattle.records.proofs.sheet.SheetRecord.read.Goals as goal

pub returns-clause-writes_back : goal.returns-clause-writes_back
returns-clause-writes_back c = sheet_writes_back
