use Rattle.std.proofs.Common.{◌∷◌, arith}
use Rattle.wire.proofs.Writes.{wrote_then}
use Rattle.records.proofs.WriteLemmas.{began}
use Rattle.records.proofs.tape.write_initiation.Goals as goal

pub returns-clause-wrote : goal.returns-clause-wrote
returns-clause-wrote c =
    let initiation = c.args.initiation.now in
    began _ _ initiation.reading (initiation.peer ∷ initiation.digits.now) (omega arith) c.begin.ensures.wrote (wrote_then c.bytes.ensures.wrote c.bytes-2.ensures.wrote)
