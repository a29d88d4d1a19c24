use Rattle.std.proofs.Common.{length-append}
use Rattle.wire.proofs.Writes.{wrote_then}
use Rattle.wire.proofs.writer.Writer.pair.Goals as goal

pub returns-clause-wrote : goal.returns-clause-wrote
returns-clause-wrote c = rw (length-append c.args.first.now c.args.second.now) (wrote_then c.head.ensures.wrote (wrote_then c.bytes.ensures.wrote c.bytes-2.ensures.wrote))
