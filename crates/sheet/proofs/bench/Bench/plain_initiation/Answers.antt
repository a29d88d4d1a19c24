use Rattle.std.proofs.Common.{rules}
use Rattle.algorithm.specs.Xtea.{xtea_meaning}
use Rattle.sheet.proofs.bench.Bench.plain_initiation.Goals as goal

-- a call that asks no algorithm means the same by every meaning
pub returns : goal.returns
returns c = let value = c.plain_initiation.ensures.value xtea_meaning in search rules
