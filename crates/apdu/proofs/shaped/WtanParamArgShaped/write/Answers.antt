use Rattle.wire.proofs.Writes.{wrote_then}
use Rattle.apdu.proofs.shaped.WtanParamArgShaped.write.Goals as goal

pub returns-clause-wrote : goal.returns-clause-wrote
returns-clause-wrote c = wrote_then c.flag.ensures.wrote (rw (← c.bytes.ensures.value) (wrote_then c.field.ensures.wrote c.byte.ensures.wrote))
