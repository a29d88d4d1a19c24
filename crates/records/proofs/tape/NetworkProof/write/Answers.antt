use Rattle.std.proofs.Common.{◌++◌, length, ap, arith, length-append}
use Rattle.wire.proofs.Writes.{wrote_then}
use Rattle.records.proofs.WriteLemmas.{began, wrote_as}
use Rattle.records.proofs.tape.NetworkProof.write.Goals as goal

pub returns-clause-wrote : goal.returns-clause-wrote
returns-clause-wrote c =
    let proof = c.args.self.now in
    let challenge = c.bytes-challenge.ensures in
    began _ _ proof.reading (proof.challenge ++ proof.digits.now) (omega (arith, length-append proof.challenge proof.digits.now, ap length challenge.value)) c.begin.ensures.wrote
    (wrote_then (wrote_as challenge.value c.bytes.ensures.wrote) c.bytes-2.ensures.wrote)
