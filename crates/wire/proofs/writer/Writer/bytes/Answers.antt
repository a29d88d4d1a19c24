use Rattle.std.proofs.Common.{refl}
use Rattle.wire.proofs.Writes.{wrote_part}
use Rattle.wire.proofs.writer.Writer.bytes.Goals as goal

pub returns-clause-wrote : goal.returns-clause-wrote
returns-clause-wrote c = wrote_part c.args.bytes.now _ c.copy_from_slice.ensures.after refl c.requires refl
