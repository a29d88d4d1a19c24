use Rattle.std.proofs.Common.{ℕ, ◌∷◌, ◌++◌, subst, arith, length-append}
use Rattle.wire.specs.Fields.{field}
use Rattle.wire.specs.Fronts.{Wrote}
use Rattle.wire.proofs.Writes.{wrote_then, wrote_value}
use Rattle.records.proofs.tape.write_subscriber.Goals as goal

pub returns-clause-wrote : goal.returns-clause-wrote
returns-clause-wrote c =
    let key = c.args.key.now in
    let digits = c.args.digits.now in
    let value = c.args.place ∷ (key ++ digits) in
    subst (λ (t : ℕ). Wrote c.args.writer.now (field t value) c.bytes-3.new.self) c.into.ensures
    (wrote_value _ _ value (omega (arith, c.fits-key, length-append key digits)) c.head.ensures.wrote (wrote_then c.bytes.ensures.wrote (wrote_then c.bytes-2.ensures.wrote c.bytes-3.ensures.wrote)))
