use Rattle.algorithm.proofs.Computed.{published_stand}
use Rattle.algorithm.proofs.xtea.encipher.Goals as goal

pub returns-clause-published : goal.returns-clause-published
returns-clause-published c = published_stand
