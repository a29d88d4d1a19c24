use Rattle.std.proofs.Common.{refl}
use Rattle.records.proofs.WriteLemmas.{began}
use Rattle.records.proofs.tape.write_visitor_start.Goals as goal

pub returns-clause-wrote : goal.returns-clause-wrote
returns-clause-wrote c = began _ _ c.args.reading c.args.digits.now refl c.begin.ensures.wrote c.bytes.ensures.wrote
