use Rattle.std.proofs.Common.{rules}
use Rattle.wire.proofs.Writes.{wrote_front}
use Rattle.apdu.proofs.encode.encode.Goals as goal

pub returns-clause-front : goal.returns-clause-front
returns-clause-front c = search (rules, wrote_front c.new-writer.ensures.front c.write.ensures.wrote)
