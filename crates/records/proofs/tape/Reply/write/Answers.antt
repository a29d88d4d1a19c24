use Rattle.std.proofs.Common.{◌++◌, arith, length-append}
use Rattle.wire.specs.Fields.{two}
use Rattle.wire.proofs.Writes.{wrote_then}
use Rattle.records.proofs.WriteLemmas.{wrote_as, began}
use Rattle.records.proofs.tape.Reply.write.Goals as goal

pub returns-clause-wrote : goal.returns-clause-wrote
returns-clause-wrote c =
    let reply = c.args.self.now in
    began _ 6 reply.reading (two reply.name.0 ++ reply.response) (omega (arith, length-append (two reply.name.0) reply.response)) c.begin.ensures.wrote (wrote_then (wrote_as c.in_two.ensures c.bytes.ensures.wrote) c.bytes-2.ensures.wrote)
