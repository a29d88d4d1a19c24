use Rattle.std.proofs.Common.{length}
use Rattle.wire.specs.Fields.{unread}
use Rattle.explain.proofs.explain.Given as goal

abbrev pub decreases-loop-outcome : goal.decreases-loop-outcome
decreases-loop-outcome l = length (unread l.outcomes)
