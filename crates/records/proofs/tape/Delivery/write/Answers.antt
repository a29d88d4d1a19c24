use Rattle.std.proofs.Common.{◌∷◌, ◌++◌, arith, length-append}
use Rattle.wire.proofs.Writes.{wrote_then}
use Rattle.records.proofs.WriteLemmas.{began}
use Rattle.records.proofs.tape.Delivery.write.Goals as goal

pub returns-clause-wrote : goal.returns-clause-wrote
returns-clause-wrote c =
    let delivery = c.args.self.now in
    began _ _ delivery.reading (delivery.draw ++ (delivery.peer ∷ delivery.bytes.now)) (omega (arith, length-append delivery.draw (delivery.peer ∷ delivery.bytes.now))) c.begin.ensures.wrote (wrote_then c.bytes.ensures.wrote (wrote_then c.bytes-2.ensures.wrote c.bytes-3.ensures.wrote))
