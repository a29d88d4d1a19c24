use Rattle.std.proofs.Common.{rules}
use Rattle.records.specs.Numbers.{in_bytes}
use Rattle.records.proofs.numbers.in_eight.Goals as goal

pub returns : goal.returns
unfolding in_bytes
returns c = search rules
