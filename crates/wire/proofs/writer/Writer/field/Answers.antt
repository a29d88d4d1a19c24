use Rattle.wire.proofs.Writes.{wrote_then}
use Rattle.wire.proofs.writer.Writer.field.Goals as goal

pub returns-clause-wrote : goal.returns-clause-wrote
returns-clause-wrote c = wrote_then c.head.ensures.wrote c.bytes.ensures.wrote
