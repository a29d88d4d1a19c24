use Rattle.std.proofs.Common.{rules}
use Rattle.algorithm.specs.Xtea.{xtea_meaning}
use Rattle.sheet.proofs.bench.Bench.take.Goals as goal

-- neither of them takes the buffer
pub returns-in-Link : goal.returns-in-Link
returns-in-Link c = let value = c.link.ensures c.args.out.now in search rules

pub returns-in-Subscriber : goal.returns-in-Subscriber
returns-in-Subscriber c = let value = c.subscriber.ensures c.args.out.now in search rules

-- a call that asks no algorithm means the same by every meaning
pub returns-in-VisitorStart : goal.returns-in-VisitorStart
returns-in-VisitorStart c = let value = c.visitor_start.ensures.value xtea_meaning in search rules
